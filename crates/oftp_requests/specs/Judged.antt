-- What a request asks of the schedule, how a session ended, what becomes of an error, and what comes of accepting a connection.
use Rattle.std.specs.Prelude.{Option, None, Some, Result, Ok, Err, Bool, true, false}
use Rattle.oftp_channel.specs.declared.asking.Haste.{Haste}
use Rattle.oftp_channel.specs.declared.asking.Haste.TheVariants as haste
use Rattle.oftp_channel.specs.declared.asking.Request.{Request}
use Rattle.oftp_channel.specs.declared.asking.Request.TheVariants as request
use Rattle.oftp_channel.specs.declared.ending.Ending.{Ending}
use Rattle.oftp_channel.specs.declared.ending.Ending.TheVariants as answered
use Rattle.oftp_engine.specs.Runs.{ended_as}
use Rattle.oftp_engine.specs.declared.serving.End.{End}
use Rattle.oftp_engine.specs.declared.serving.End.TheVariants as end
use Rattle.oftp_engine.specs.declared.serving.RunFault.{RunFault}
use Rattle.oftp_engine.specs.declared.serving.RunFault.TheVariants as run
use Rattle.oftp_life.specs.declared.stage.Stage.{Stage}
use Rattle.oftp_life.specs.declared.stage.Stage.TheVariants as stage
use Rattle.oftp_listing.specs.declared.state.OfficeState.{OfficeState}
use Rattle.oftp_listing.specs.declared.state.OfficeState.TheVariants as state
use Rattle.oftp_outcomes.specs.Printed.{fault_in_memory}
use Rattle.oftp_outcomes.specs.declared.outcome.Fault.{Fault}
use Rattle.oftp_outcomes.specs.declared.outcome.Fault.TheVariants as fault
use Rattle.oftp_outcomes.specs.declared.service.Trouble.{Trouble}
use Rattle.oftp_outcomes.specs.declared.service.Trouble.TheVariants.{OfJob, OfService}
use Rattle.oftp_requests.specs.declared.judging.Asking.{Asking}
use Rattle.oftp_requests.specs.declared.judging.Asking.TheVariants as asking
use Rattle.oftp_requests.specs.declared.judging.Closing.{Closing}
use Rattle.oftp_requests.specs.declared.judging.Closing.TheVariants as closing
use Rattle.oftp_schedule.specs.declared.connection.End.{End as Farewell}
use Rattle.oftp_schedule.specs.declared.connection.End.TheVariants as farewell
use Rattle.oftp_schedule.specs.declared.connection.Partner.{Partner}
use Rattle.oftp_schedule.specs.declared.connection.Reason.{Reason}
use Rattle.oftp_schedule.specs.declared.connection.Reason.TheVariants as reason
use Rattle.oftp_schedule.specs.declared.connection.Request.TheVariants as wanted
use Rattle.oftp_schedule.specs.declared.connection.Signal.{Signal}
use Rattle.oftp_schedule.specs.declared.connection.Signal.TheVariants as signal
use Rattle.oftp_schedule.specs.declared.connection.Status.{Status}
use Rattle.oftp_schedule.specs.declared.connection.Status.TheVariants as status
use Rattle.oftp_session.specs.declared.session.Ending.TheVariants as ending
use Rattle.oftp_outcomes.specs.declared.service.Term.{Term}
use Rattle.oftp_outcomes.specs.declared.service.Term.TheVariants as term

-- what a request asks of the schedule: an operator's call is a change, and each other one that calls nobody a look-up or a copy
abbrev pub asking_of : Request → Asking
asking_of (request.Operate book call) = asking.For wanted.Update
asking_of (request.Call partner patience longest tracing) = asking.Call
asking_of (request.Report kind) = asking.For wanted.Query
asking_of request.Unanswered = asking.For wanted.Query
asking_of (request.Outgoing to) = asking.For wanted.Query
asking_of (request.Fetch n) = asking.For wanted.Query
asking_of (request.Holds n content) = asking.For wanted.Query
asking_of (request.Backup to) = asking.For wanted.Backup
asking_of request.Init = asking.For wanted.Query
asking_of (request.Stop haste.InTurn) = asking.For wanted.Update
asking_of (request.Stop haste.AtOnce) = asking.For wanted.Query
asking_of request.Reload = asking.For wanted.Update
asking_of (request.Resend book n date time) = asking.For wanted.Update
asking_of (request.Status form) = asking.For wanted.Query
asking_of (request.Health warn critical) = asking.For wanted.Query
asking_of request.Settled = asking.For wanted.Query

-- a request for a change of the register, of which the station tells whose it is
abbrev pub changes_register : Request → Bool
changes_register (request.Operate book call) = true
changes_register (request.Resend book n date time) = true
changes_register asked = false

-- What the schedule is told of a request that asks for this, and whose call would be one of this partner. A call that can't be made is a look-up.
abbrev pub signal_of : Asking → Option Partner → Signal
signal_of (asking.For kind) partner = signal.Asked kind
signal_of asking.Call (Some partner) = signal.Wants partner
signal_of asking.Call None = signal.Asked wanted.Query

-- the error of a request that isn't done for this reason
abbrev pub declined : Reason → Fault
declined reason.TimedOut = fault.File
declined _ = fault.Socket

-- an error of a session: reading and writing fail that session alone
abbrev pub trouble_of : RunFault → Trouble
trouble_of run.Read = OfJob (fault.Run run.Read)
trouble_of run.Write = OfJob (fault.Run run.Write)
trouble_of run.Office = OfService (fault.Run run.Office)
trouble_of run.Memory = OfService (fault.Run run.Memory)

-- an error within a session, whose own octets are kept in memory: a failed write there is out of memory
abbrev pub trouble_within : RunFault → Trouble
trouble_within run.Write = trouble_of run.Memory
trouble_within run.Read = trouble_of run.Read
trouble_within run.Office = trouble_of run.Office
trouble_within run.Memory = trouble_of run.Memory

-- a session goes on that stands like this
abbrev pub goes_on : Option Stage → Bool
goes_on None = false
goes_on (Some stage.Waits) = true
goes_on (Some stage.Sends) = true
goes_on (Some (stage.Ended it)) = false
goes_on (Some (stage.Failed it)) = false
goes_on (Some stage.Lost) = false

-- how a session ended that stands like this, or was cut off while it waited
abbrev pub result_of : Option Stage → Result End Trouble
result_of None = Err (trouble_of run.Write)
result_of (Some stage.Waits) = Err (trouble_of run.Write)
result_of (Some stage.Sends) = Err (trouble_of run.Write)
result_of (Some (stage.Ended it)) = Ok (ended_as it)
result_of (Some (stage.Failed it)) = Err (trouble_within it)
result_of (Some stage.Lost) = Err (trouble_of run.Office)

-- the station's own ESID is to go out: it ended the session, or its office failed
abbrev pub farewell_of : Option Stage → Farewell
farewell_of (Some (stage.Ended (ending.Own it))) = farewell.Own
farewell_of (Some (stage.Failed run.Office)) = farewell.Own
farewell_of (Some stage.Lost) = farewell.Own
farewell_of _ = farewell.Other

-- how a session ended that was cut off for this reason, or was never begun
abbrev pub ended_for : Reason → Result End Trouble
ended_for reason.Quit = Ok end.Input
ended_for reason.Finished = Ok end.Input
ended_for reason.Stalled = Err (trouble_of run.Write)
ended_for reason.Unreached = Err (OfJob fault.Socket)
ended_for reason.Orphaned = Err (OfJob fault.Socket)
ended_for reason.Stopping = Err (trouble_of run.Office)
ended_for reason.Evicted = Err (trouble_of run.Read)
ended_for reason.Invalid = Err (trouble_of run.Read)
ended_for reason.TimedOut = Err (trouble_of run.Read)
ended_for reason.Vanished = Err (trouble_of run.Read)

-- If the station was told to end, a session that is cut off for this isn't over for a failing office. Nothing more is heard of its partner.
abbrev pub told_reason : Option Haste → Reason → Reason
told_reason (Some haste.AtOnce) reason.Stopping = reason.Vanished
told_reason stop it = it

-- how the schedule is told that the station ends: a session goes on to its end, or is cut off as for a failing office
abbrev pub told_status : Haste → Status
told_status haste.InTurn = status.Stopped
told_status haste.AtOnce = status.OfficeFailed

-- how a station ended that was told to end so
abbrev pub last_status : Option Haste → Status → Status
last_status (Some haste.AtOnce) status.OfficeFailed = status.Stopped
last_status stop it = it

-- What becomes of the error of a request that has no answer for it. That of a life for one job ends the service only if it is the service's.
abbrev pub closing_of : Option Trouble → Term → Closing
closing_of None term = closing.Nothing
closing_of (Some (OfJob it)) term = closing.Tell it
closing_of (Some (OfService it)) term.OfJob = closing.Fail it
closing_of (Some (OfService it)) term.OfService = closing.Nothing

-- how a request ended that had this end, or this error; what it says is kept in memory
abbrev pub ending_with : Result Ending Fault → Ending
ending_with (Ok it) = it
ending_with (Err it) = answered.Failed (fault_in_memory it)

-- whether the office failed under a request that ended like this
abbrev pub office_after : Ending → OfficeState
office_after (answered.Failed (fault.Run run.Office)) = state.Failed
office_after it = state.Working

-- and whether that of the service did: the office of a life for one job is no other's
abbrev pub office_within : Term → OfficeState → OfficeState
office_within term.OfService it = it
office_within term.OfJob it = state.Working

-- the result of a service that ended like this, unless an error ended it
abbrev pub result_at : Option Fault → Status → Option Fault
result_at (Some it) status = Some it
result_at None status.Stopped = None
result_at None status.DoorFailed = Some fault.Socket
result_at None status.OfficeFailed = Some (fault.Run run.Office)
