-- No run sends ESID 08.
use Rattle.std.proofs.Common.{◌≢◌, ℕ, List, Option, None, Some}
use Rattle.std.proofs.lemmas.List.Elements.{All-nil, All-push}
use Rattle.std.specs.List.{All}
use Rattle.oftp_wire.specs.declared.command.Command.{Command}
use Rattle.oftp_register.specs.declared.change.Change.{Change}
use Rattle.oftp_session.specs.Phases.{Step, frame_of}
use Rattle.oftp_session.proofs.Outputs.{MayBeSaid, MaySay}
use Rattle.oftp_session.proofs.Resources.{said_framed, taken_no_want}
use Rattle.oftp_engine.specs.Resources.{PayloadsNeverLackMemory, RunsNeverLackResources}
use Rattle.oftp_engine.specs.Runs.{Course, Output, advance, started, with_output}
use Rattle.oftp_engine.specs.Serving.{last_frame}
use Rattle.oftp_engine.proofs.EachStep.{run_says}

-- a course without ESID 08

abbrev IsOtherFrame : Output → Type 0
IsOtherFrame o = o.octets ≢ last_frame

abbrev AreOther : Course → Type 0
AreOther c = All IsOtherFrame c.outputs

output_other : (outputs : List Output) (o : Option Command) (change : Option Change) (n : ℕ) → MayBeSaid o change → All IsOtherFrame outputs → All IsOtherFrame (with_output outputs o n)
output_other outputs None change n may all = all
output_other outputs (Some command) change n may all = All-push IsOtherFrame outputs (record { octets = frame_of command; after = n }) all (said_framed (Some command) change may)

step_other : (c : Course) (s : Step) → MaySay s → AreOther c → AreOther (advance c s)
unfolding advance
step_other c s may all = output_other c.outputs s.output s.change _ may all

pub runs_never_lack_resources : RunsNeverLackResources
runs_never_lack_resources limit setting given r = run_says AreOther step_other limit given (started setting r) (All-nil IsOtherFrame)

pub payloads_never_lack_memory : PayloadsNeverLackMemory
payloads_never_lack_memory = taken_no_want
