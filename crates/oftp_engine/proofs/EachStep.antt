-- What each step of a run preserves, the run preserves.
use Rattle.std.proofs.Common.{ℕ, zero, suc, Bool, true, false, cond, not, ◌&&◌, ◌||◌, List, drop, length, Option, Result, Ok, Err}
use Rattle.oftp_codec.specs.Kinds.{command_of}
use Rattle.oftp_wire.specs.Reasons.{reason_of}
use Rattle.oftp_codec.specs.Stream.{Head, Whole, Waits, Bad, front, command_in}
use Rattle.oftp_wire.specs.declared.command.Command.{Command}
use Rattle.oftp_wire.specs.declared.fault.WireFault.{WireFault}
use Rattle.oftp_wire.specs.declared.fault.WireFault.TheVariants.{UnknownCommand, WrongLength, BadField, BadText, NoRoom}
use Rattle.oftp_wire.specs.declared.reason.SessionReason.TheVariants.{BufferSizeError, CommandNotRecognised, InvalidData, ProtocolViolation}
use Rattle.oftp_register.specs.Register.{Register}
use Rattle.oftp_session.specs.Phases.{Phase, Step, fails, is_over}
use Rattle.oftp_session.specs.Settings.{Setting}
use Rattle.oftp_session.specs.Steps.{has_turn, turns_due}
use Rattle.oftp_session.proofs.Outputs.{MaySay, came_may, fails_may, turned_may}
use Rattle.oftp_codec.specs.declared.limits.TheConstants.{LONGEST_FRAME}
use Rattle.oftp_engine.specs.Runs.{Course, advance, came_in, is_stopped, next_in, on_front, refusal, run, run_by, settled, step_on, turned_in, turns}

-- P holds after each turn, each command that arrives, and an end because of a bad header
module _ (P : Course → Type 0) (turn : (c : Course) → P c → P (turned_in c)) (come : (c : Course) (octets : List ℕ) → P c → P (came_in c octets))
    (fail : (c : Course) → P c → P (advance c (fails ProtocolViolation))) where
  either : (b : Bool) (c d : Course) → P c → P d → P (cond b c d)
  either true c d h k = h
  either false c d h k = k

  turns_keep : (n : ℕ) (limit : Option ℕ) (c : Course) → P c → P (turns n limit c)
  unfolding turns
  turns_keep zero limit c h = h
  turns_keep (suc n) limit c h = either (has_turn c.phase && not (is_stopped limit c)) (turns n limit (turned_in c)) c (turns_keep n limit (turned_in c) (turn c h)) h

  settled_keeps : (limit : Option ℕ) (c : Course) → P c → P (settled limit c)
  unfolding settled
  settled_keeps limit c h = turns_keep (turns_due c.phase) limit c h

  front_keeps : (go_on : List ℕ → Course → Course) (s : List ℕ) (d : Course) (f : Head) → ((t : List ℕ) (e : Course) → P e → P (go_on t e)) → P d → P (on_front go_on s d f)
  unfolding on_front
  front_keeps go_on s d (Whole n) more h = more (drop n s) (came_in d (command_in n s)) (come d (command_in n s) h)
  front_keeps go_on s d Waits more h = h
  front_keeps go_on s d (Bad fault) more h = fail d h

  run_by_keeps : (n : ℕ) (limit : Option ℕ) (s : List ℕ) (c : Course) → P c → P (run_by n limit s c)
  unfolding run_by next_in
  run_by_keeps zero limit s c h = h
  run_by_keeps (suc n) limit s c h =
      let d = settled limit c in
      let at = settled_keeps limit c h in
      either (is_over d.phase || is_stopped limit d) d (on_front (run_by n limit) s d (front LONGEST_FRAME s)) at (front_keeps (run_by n limit) s d (front LONGEST_FRAME s) (run_by_keeps n limit) at)

  pub run_keeps : (limit : Option ℕ) (s : List ℕ) (c : Course) → P c → P (run limit s c)
  unfolding run
  run_keeps limit s c h = run_by_keeps (suc (length s)) limit s c h

-- what a step may send

refusal_may : (fault : WireFault) → MaySay (refusal (reason_of fault))
refusal_may UnknownCommand = fails_may CommandNotRecognised (λ e. cc)
refusal_may WrongLength = fails_may BufferSizeError (λ e. cc)
refusal_may (BadField at) = fails_may InvalidData (λ e. cc)
refusal_may BadText = fails_may InvalidData (λ e. cc)
refusal_may NoRoom = fails_may CommandNotRecognised (λ e. cc)

step_may : (setting : Setting) (p : Phase) (r : Register) (read : Result Command WireFault) → MaySay (step_on setting p r read)
step_may setting p r (Ok c) = came_may setting r c p
step_may setting p r (Err fault) = refusal_may fault

-- if each step preserves a fact and sends only what it may, so does the run
pub run_says : (P : Course → Type 0) → ((c : Course) (s : Step) → MaySay s → P c → P (advance c s)) → (limit : Option ℕ) (s : List ℕ) (c : Course) → P c → P (run limit s c)
run_says P keeps limit s c h =
    run_keeps P (λ d it. keeps d _ (turned_may d.setting d.register d.phase) it)
    (λ d octets it. keeps d _ (step_may d.setting d.phase d.register (command_of octets)) it)
    (λ d it. keeps d _ (fails_may ProtocolViolation (λ e. cc)) it) limit s c h
