-- The same session as a fold over the commands of the stream.
use Rattle.std.specs.Prelude.{ℕ, ◌||◌, if◌then◌else◌, List, [], ◌∷◌, Option, None, Some}
use Rattle.oftp_codec.specs.declared.frame_fault.FrameFault.{FrameFault}
use Rattle.oftp_wire.specs.declared.reason.SessionReason.TheVariants.{ProtocolViolation}
use Rattle.oftp_session.specs.Phases.{is_over, fails}
use Rattle.oftp_engine.specs.Runs.{Course, advance, came_in, is_stopped, settled}

-- after the last command an error of the stream ends the session
abbrev pub with_fault : Course → Option FrameFault → Course
with_fault c None = c
with_fault c (Some fault) = advance c (fails ProtocolViolation)

-- the turns that are due, then the next command, and so on
abbrev pub over_commands : Option ℕ → List (List ℕ) → Option FrameFault → Course → Course
over_commands limit [] fault c = let d = settled limit c in if is_over d.phase || is_stopped limit d then d else with_fault d fault
over_commands limit (m ∷ ms) fault c = let d = settled limit c in if is_over d.phase || is_stopped limit d then d else over_commands limit ms fault (came_in d m)
