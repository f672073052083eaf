-- Inside: how far the engine is in a run, for the functions of src/serving.rt.
use Rattle.std.specs.Prelude.{◌≡◌, ◌≢◌, ℕ, ◌<◌, ◌⊎◌, IfErr, OnOk, Bool, ◌&&◌, false, true, nat_le, List, [], ◌++◌, length, take, Option, None, Some, Result, Ok, Err}
use Rattle.oftp_codec.specs.Stream.{Stream, front, Waits}
use Rattle.oftp_wire.specs.declared.command.Command.{Command}
use Rattle.oftp_wire.specs.declared.fault.WireFault.{WireFault}
use Rattle.oftp_register.specs.Offices.{View, Only, WithOrWithout, next_count}
use Rattle.oftp_session.specs.Phases.{is_over, ending_of, Step, framed}
use Rattle.oftp_session.specs.Steps.{has_turn, turned}
use Rattle.oftp_session.specs.Calls.{Proceeds, Seen}
use Rattle.oftp_session.specs.Standings.{Broken, Standing, is_sending}
use Rattle.oftp_session.specs.declared.session.Ending.{Ending}
use Rattle.oftp_session.specs.declared.session.SessionFault.{SessionFault}
use Rattle.oftp_session.specs.declared.session.SessionFault.TheVariants as session
use Rattle.oftp_codec.specs.declared.limits.TheConstants.{LONGEST_FRAME}
use Rattle.oftp_engine.specs.Conversation.{Dialogue, IsOwn}
use Rattle.oftp_engine.specs.Runs.{Course, run, is_stopped, advance, octets_of, step_on}
use Rattle.oftp_io.specs.declared.port.Port.{Port}
use Rattle.oftp_io.specs.Ports.{Puts, Sent}
use Rattle.oftp_engine.specs.declared.serving.Going.{Going}
use Rattle.oftp_engine.specs.declared.serving.Going.TheVariants as going
use Rattle.oftp_engine.specs.declared.serving.Pace.{Pace}
use Rattle.oftp_engine.specs.declared.serving.Pace.TheVariants as pace
use Rattle.oftp_engine.specs.declared.serving.Turns.{Turns}
use Rattle.oftp_engine.specs.declared.serving.Turns.TheVariants as turns
use Rattle.oftp_engine.specs.declared.limits.TheConstants.{MOST_TURNS}
use Rattle.oftp_engine.specs.declared.serving.RunFault.{RunFault}
use Rattle.oftp_engine.specs.declared.serving.RunFault.TheVariants as fault
use Rattle.oftp_engine.specs.Served.{WriterTold}
use Rattle.oftp_engine.specs.Serving.{FailsOnlyBy, OnCleanStore, Scene, Took, WasClean, IsSaid, MayRunOut, last_frame}
use Rattle.oftp_engine.specs.Progress.{Comes, Grows, IsAt, Leads, Went}

-- the run from c over the octets s reaches d, and goes on from e
pub record Reaches (c : Course) (s : List ℕ) (d e : Course) : Type 0 where
  pub grows : Grows c d
  pub same : (more : List ℕ) (limit : Option ℕ) → is_stopped limit d ≡ false → (u : List ℕ) × (run limit (s ++ more) c ≡ run limit u e)

-- the writer returned an error within the output of a step
pub record BreaksOff (c : Course) (s : List ℕ) (old new : Scene) : Type 0 where
  pub at : Course
  pub step : Step
  pub count : ℕ
  pub reaches : Reaches c s at (advance at step)
  pub short : count < length (framed step.output)
  pub between : List ℕ
  pub outputs : octets_of at.outputs ≡ octets_of c.outputs ++ between
  pub took : Took old new (between ++ take count (framed step.output))
  pub register : new.office.register ≡ (advance at step).register
  pub stands : old.office.stands → new.office.stands
  pub faults : new.office.told ≡ old.office.told
  pub told : new.told ≡ next_count old.told

-- The office returned an error within a step. Either the register is the one before it, and a crash may leave the one before or the one
-- after. Or the register is the one after it, and a crash leaves nothing else.
pub record StaysBefore (at : Course) (step : Step) (now : View) : Type 0 where
  pub same : now.is_open → now.register ≡ at.register
  pub left : WithOrWithout step.change at.register now

pub record StaysAfter (at : Course) (step : Step) (now : View) : Type 0 where
  pub same : now.is_open → now.register ≡ (advance at step).register
  pub left : Only (advance at step).register now

-- the office returned an error within a step
pub record OfficeFails (c : Course) (s : List ℕ) (old new : Scene) : Type 0 where
  pub at : Course
  pub step : Step
  pub count : ℕ
  pub reaches : Reaches c s at (advance at step)
  pub between : List ℕ
  pub outputs : octets_of at.outputs ≡ octets_of c.outputs ++ between
  pub took : Took old new (between ++ take count last_frame)
  pub said : IsSaid old new count
  pub proceeds : Proceeds at.register step
  pub cases : StaysBefore at step new.office ⊎ StaysAfter at step new.office
  pub faults : new.office.told ≡ next_count old.office.told

-- out of memory at the point that the run had reached, between two of its steps
pub record IsShort (c : Course) (s : List ℕ) (old new : Scene) : Type 0 where
  pub at : Course
  pub rest : List ℕ
  pub leads : Leads c s at rest
  pub cause : MayRunOut at.phase rest
  pub between : List ℕ
  pub outputs : octets_of at.outputs ≡ octets_of c.outputs ++ between
  pub took : Took old new between
  pub register : new.office.register ≡ at.register
  pub stands : old.office.stands → new.office.stands
  pub faults : new.office.told ≡ old.office.told
  pub told : new.told ≡ old.told

-- what an error leaves; a function that doesn't read returns none of the reader
abbrev pub Fails : Course → List ℕ → Scene → Scene → RunFault → Type 0
Fails c s old new fault.Read = ⊥
Fails c s old new fault.Write = BreaksOff c s old new
Fails c s old new fault.Office = OfficeFails c s old new
Fails c s old new fault.Memory = IsShort c s old new

-- one step at a course: it is made and its output is out
pub record Made (c : Course) (step : Step) (seen : Seen) (old new : Scene) : Type 0 where
  pub now : IsAt (advance c step) seen new
  pub took : Took old new (framed step.output)
  pub stands : old.office.stands → new.office.stands
  pub faults : new.office.told ≡ old.office.told
  pub told : new.told ≡ old.told

-- one step at a course: it is made, and the writer returned an error within its output
pub record MadePart (c : Course) (step : Step) (old new : Scene) : Type 0 where
  pub count : ℕ
  pub short : count < length (framed step.output)
  pub took : Took old new (take count (framed step.output))
  pub register : new.office.register ≡ (advance c step).register
  pub stands : old.office.stands → new.office.stands
  pub faults : new.office.told ≡ old.office.told
  pub told : new.told ≡ next_count old.told

-- one step at a course: the office returned an error
pub record NotMade (c : Course) (step : Step) (old new : Scene) : Type 0 where
  pub count : ℕ
  pub took : Took old new (take count last_frame)
  pub said : IsSaid old new count
  pub cases : StaysBefore c step new.office ⊎ StaysAfter c step new.office
  pub faults : new.office.told ≡ next_count old.office.told

-- one step at a course: out of memory, and nothing is changed
pub record NoMemory (c : Course) (old new : Scene) : Type 0 where
  pub took : Took old new []
  pub register : new.office.register ≡ c.register
  pub stands : old.office.stands → new.office.stands
  pub faults : new.office.told ≡ old.office.told
  pub told : new.told ≡ old.told

abbrev pub StepFails : Course → Step → Scene → Scene → RunFault → Type 0
StepFails c step old new fault.Read = ⊥
StepFails c step old new fault.Write = MadePart c step old new
StepFails c step old new fault.Office = NotMade c step old new
StepFails c step old new fault.Memory = NoMemory c old new

abbrev pub Stepped : {T : Type 0} → Course → Step → Seen → Scene → Scene → Result T RunFault → Type 0
Stepped c step seen old new (Ok x) = Made c step seen old new
Stepped c step seen old new (Err fault) = StepFails c step old new fault

-- the turn at a course, and the step on a command that arrived there or on octets that aren't one
abbrev pub turn_at : Course → Step
turn_at c = turned c.setting c.phase c.register

abbrev pub step_at : Result Command WireFault → Course → Step
step_at arrived c = step_on c.setting c.phase c.register arrived

-- where a turn is due, and where the session isn't over
abbrev pub HasTurn : Course → Type 0
HasTurn c = has_turn c.phase ≡ true

abbrev pub NotOver : Course → Type 0
NotOver c = is_over c.phase ≡ false

-- on a clean store, wherever the session is in its run, a call makes this step if it may be made there
abbrev pub MakesStep : {T : Type 0} → (Course → Step) → (Course → Type 0) → Seen → Scene → Seen → Scene → Result T RunFault → Type 0
MakesStep step may before old after new result =
    OnCleanStore old.office new.office ((c : Course) → may c → IsAt c before old → Stepped c (step c) after old new result)

-- what a call does that only writes: it returns an error exactly where the writer's port counts one
pub record OnlyWrites {T W : Type 0} (contents : W → Option (List ℕ)) (before after : Port W) (result : Result T RunFault) : Type 0 where
  pub err : FailsOnlyBy fault.Write result
  pub out : Puts contents before after
  pub told : WriterTold before after result

-- What a call on a session does whatever the store reads. A store that is clean after it was clean before. It returns no error of a reader,
-- and leaves the session unbroken if it returns no error. Of the writer it only writes, and returns the errors.
pub record Behaves {T W : Type 0} (contents : W → Option (List ℕ)) (old new : View) (before after : Port W) (seen : Seen) (result : Result T RunFault) : Type 0 where
  pub clean : WasClean old new
  pub own : IfErr result IsOwn
  pub unbroken : OnOk result (seen.standing ≢ Broken)
  pub out : Puts contents before after
  pub told : WriterTold before after result

-- the last frame is out, or the writer returned an error within it
abbrev pub LastWords : {W : Type 0} → (W → Option (List ℕ)) → Port W → Port W → Type 0
LastWords contents old new = (all : Bool) × Sent contents old new last_frame all

-- every turn that is due was made
pub record Settles (c : Course) (seen : Seen) (old new : Scene) : Type 0 where
  pub at : Course
  pub went : Went c [] at [] old new
  pub now : IsAt at seen new
  pub done : has_turn at.phase ≡ false

-- some of the turns were made, and exchange buffers of a file are left to send
pub record LeavesTurns (c : Course) (seen : Seen) (old new : Scene) : Type 0 where
  pub come : Comes c [] [] seen old new
  pub sends : is_sending seen.standing ≡ true

abbrev pub TurnsTaken : Course → Seen → Scene → Scene → Result Turns RunFault → Type 0
TurnsTaken c seen old new (Ok (turns.Made count)) = Settles c seen old new
TurnsTaken c seen old new (Ok turns.Left) = LeavesTurns c seen old new
TurnsTaken c seen old new (Err fault) = Fails c [] old new fault

-- on a clean store, wherever the session is in its run, a call makes the turns that are due
abbrev pub MakesTurns : Seen → Scene → Seen → Scene → Result Turns RunFault → Type 0
MakesTurns before old after new result = OnCleanStore old.office new.office ((c : Course) → IsAt c before old → TurnsTaken c after old new result)

-- whether a session that has made so many turns leaves the others for later
abbrev pub pauses : Pace → ℕ → Standing → Bool
pauses pace.Whole made standing = false
pauses pace.Parts made standing = nat_le MOST_TURNS made && is_sending standing

-- the session is over, and has ended like this
pub record IsOver (c : Course) (s t : List ℕ) (seen : Seen) (old new : Scene) (end : Ending) : Type 0 where
  pub come : Comes c s t seen old new
  pub ends : Some end ≡ ending_of come.at.phase

-- no turn is due, and the octets have no whole frame
pub record IsWaiting (c : Course) (s : List ℕ) (stream : Stream) (seen : Seen) (old new : Scene) : Type 0 where
  pub come : Comes c s stream.rest seen old new
  pub turn : has_turn come.at.phase ≡ false
  pub over : is_over come.at.phase ≡ false
  pub waits : front LONGEST_FRAME stream.rest ≡ Waits
  pub limit : stream.limit ≡ LONGEST_FRAME
  pub told : stream.told ≡ None

-- how a session ended that went so far, if it did
abbrev pub ending_in : Going → Option Ending
ending_in going.Waits = None
ending_in going.Sends = None
ending_in (going.Ended end) = Some end

-- exchange buffers of a file are due
pub record IsPausing (c : Course) (s : List ℕ) (stream : Stream) (seen : Seen) (old new : Scene) : Type 0 where
  pub come : Comes c s stream.rest seen old new
  pub sends : is_sending seen.standing ≡ true
  pub limit : stream.limit ≡ LONGEST_FRAME
  pub told : stream.told ≡ None

abbrev pub Driven : Course → List ℕ → Stream → Seen → Scene → Scene → Result Going RunFault → Type 0
Driven c s stream seen old new (Ok (going.Ended end)) = IsOver c s stream.rest seen old new end
Driven c s stream seen old new (Ok going.Waits) = IsWaiting c s stream seen old new
Driven c s stream seen old new (Ok going.Sends) = IsPausing c s stream seen old new
Driven c s stream seen old new (Err fault) = Fails c s old new fault

-- A call on a clean store goes on as far as the octets of its stream reach, wherever the session is in its run. That holds if the stream
-- had returned no error.
abbrev pub Drives : Dialogue → Scene → Dialogue → Scene → Result Going RunFault → Type 0
Drives before old after new result = OnCleanStore old.office new.office ((c : Course) → before.stream.limit ≡ LONGEST_FRAME → before.stream.told ≡ None
    → IsAt c before.seen old → Driven c before.stream.rest after.stream after.seen old new result)

-- the error of a session as its caller gets it; `Ended` never occurs, since a session that is closed isn't called
abbrev pub run_fault : SessionFault → RunFault
run_fault session.Ended = fault.Memory
run_fault session.Office = fault.Office
run_fault session.Memory = fault.Memory

-- after a session's error the last frame is out if the office returned the error, and otherwise nothing
abbrev pub BrokeOff : {W : Type 0} → (W → Option (List ℕ)) → Port W → Port W → SessionFault → Type 0
BrokeOff contents old new session.Ended = new ≡ old
BrokeOff contents old new session.Office = LastWords contents old new
BrokeOff contents old new session.Memory = new ≡ old
