-- What becomes of a session, or of a caller, by what was said, read and heard.
use Rattle.std.specs.Prelude.{ℕ, zero, suc, Option, None, Some, Result, Ok, Err, Bool, true, false}
use Rattle.oftp_engine.specs.Runs.{ended_as}
use Rattle.oftp_engine.specs.declared.serving.Admission.{Admission}
use Rattle.oftp_engine.specs.declared.serving.Admission.TheVariants as admission
use Rattle.oftp_engine.specs.declared.serving.End.{End}
use Rattle.oftp_engine.specs.declared.serving.End.TheVariants as end
use Rattle.oftp_engine.specs.declared.serving.RunFault.{RunFault}
use Rattle.oftp_engine.specs.declared.serving.RunFault.TheVariants as run
use Rattle.oftp_life.specs.Lives.{is_over_at}
use Rattle.oftp_life.specs.declared.stage.Stage.{Stage}
use Rattle.oftp_life.specs.declared.stage.Stage.TheVariants as stage
use Rattle.oftp_listing.specs.declared.state.OfficeState.{OfficeState}
use Rattle.oftp_listing.specs.declared.state.OfficeState.TheVariants as state
use Rattle.oftp_outcomes.specs.Service.{trouble_fault}
use Rattle.oftp_outcomes.specs.declared.outcome.Fault.{Fault}
use Rattle.oftp_outcomes.specs.declared.outcome.Fault.TheVariants as fault
use Rattle.oftp_outcomes.specs.declared.service.Trouble.{Trouble}
use Rattle.oftp_requests.specs.Judged.{farewell_of, result_of, trouble_of, trouble_within}
use Rattle.oftp_requests.specs.declared.talking.Sequel.{Sequel}
use Rattle.oftp_requests.specs.declared.talking.Sequel.TheVariants as sequel
use Rattle.oftp_requests.specs.declared.talking.Came.{Came}
use Rattle.oftp_requests.specs.declared.talking.Came.TheVariants as came
use Rattle.oftp_requests.specs.declared.talking.Need.{Need}
use Rattle.oftp_requests.specs.declared.talking.Need.TheVariants as need
use Rattle.oftp_requests.specs.declared.talking.Saying.{Saying}
use Rattle.oftp_requests.specs.declared.talking.Saying.TheVariants as saying
use Rattle.oftp_requests.specs.declared.talking.Welcome.{Welcome}
use Rattle.oftp_requests.specs.declared.talking.Welcome.TheVariants as welcome
use Rattle.oftp_session.specs.declared.session.Ending.{Ending}

abbrev pub office_in : Bool → OfficeState
office_in true = state.Failed
office_in false = state.Working

-- how the office of a session is that stands like this: it failed exactly if the life is over
abbrev pub office_behind : Stage → OfficeState
office_behind it = office_in (is_over_at it)

-- how the office of a session is that ended like this
abbrev pub office_under : Result End Fault → OfficeState
office_under (Err (fault.Run run.Office)) = state.Failed
office_under it = state.Working

-- How a session ended, if it did, that stands like this after what it said went out or not. What cut it short comes before an error of the writer,
-- and that before its end.
abbrev pub end_after : Stage → Saying → Result (Option End) Fault
end_after (stage.Failed it) _ = Err (trouble_fault (trouble_within it))
end_after stage.Lost _ = Err (fault.Run run.Office)
end_after it saying.Unsent = Err (fault.Run run.Write)
end_after (stage.Ended it) saying.Sent = Ok (Some (ended_as it))
end_after it saying.Sent = Ok None

-- the office of a session that stands like this; one that isn't there hasn't failed
abbrev pub office_of : Option Stage → OfficeState
office_of None = state.Working
office_of (Some it) = office_behind it

-- What follows a step after which a session stands like this, if this end of it is noted already. An office that failed comes before what was noted,
-- since it is the end of the station too. What was noted comes before how the session stands else.
abbrev pub sequel_by : OfficeState → Option Stage → Option (Result End Trouble) → Sequel
sequel_by state.Failed it _ = sequel.Ends (result_of it) (farewell_of it)
sequel_by state.Working it (Some ended) = sequel.Ends ended (farewell_of it)
sequel_by state.Working (Some stage.Waits) None = sequel.GoesOn
sequel_by state.Working (Some stage.Sends) None = sequel.GoesOn
sequel_by state.Working it None = sequel.Ends (result_of it) (farewell_of it)

abbrev pub sequel_of : Option Stage → Option (Result End Trouble) → Sequel
sequel_of it noted = sequel_by (office_of it) it noted

-- what a session hears next that stands like this: one that sends a file goes on without octets
abbrev pub need_of : Option Stage → Need
need_of (Some stage.Sends) = need.Nothing
need_of it = need.Octets

-- what came of reading that gave so many octets, or an error: no octets are the end
abbrev pub came_of : Option ℕ → Came
came_of None = came.Lost
came_of (Some zero) = came.End
came_of (Some (suc n)) = came.Octets (suc n)

-- how many octets came
abbrev pub came_count : Came → ℕ
came_count (came.Octets n) = n
came_count it = 0

-- how a session ends of whose partner this came, if it does
abbrev pub end_of_input : Came → Option (Result End Trouble)
end_of_input (came.Octets n) = None
end_of_input came.Nothing = None
end_of_input came.End = Some (Ok end.Input)
end_of_input came.Lost = Some (Err (trouble_of run.Read))

-- A session that heard octets with an error and still goes on had no room for them. Another one is told by how it stands.
abbrev pub trouble_hearing : Result (Option Ending) RunFault → Stage → Option Trouble
trouble_hearing (Err it) stage.Waits = Some (trouble_of it)
trouble_hearing (Err it) stage.Sends = Some (trouble_of it)
trouble_hearing heard it = None

-- the same of a caller, who is told by what its octets amount to if there was room for them
abbrev pub trouble_greeting : Result Admission RunFault → Option Trouble
trouble_greeting (Err run.Memory) = Some (trouble_of run.Memory)
trouble_greeting heard = None

-- what comes of a caller whose octets amount to this; what is said to it is kept in memory
abbrev pub welcome_of : Result Admission RunFault → Welcome
welcome_of (Ok admission.Undecided) = welcome.Undecided
welcome_of (Ok admission.LetIn) = welcome.LetIn
welcome_of (Ok (admission.SentAway it)) = welcome.SentAway (ended_as it)
welcome_of (Err it) = welcome.Failed (trouble_within it)

-- The same after what was said to it went out or not. An error of the writer is no matter of one that was let in, and comes behind one of its own.
abbrev pub welcome_after : Result Admission RunFault → Saying → Welcome
welcome_after (Ok admission.Undecided) saying.Unsent = welcome.Failed (trouble_of run.Write)
welcome_after (Ok (admission.SentAway it)) saying.Unsent = welcome.Failed (trouble_of run.Write)
welcome_after it _ = welcome_of it
