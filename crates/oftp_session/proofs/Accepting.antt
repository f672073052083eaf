-- Single steps that can be made: without a change, and with one that the register accepts.
use Rattle.std.proofs.Common.{◌≡◌, true, Option, None, Some, Result, Ok, Err, refl, is_ok}
use Rattle.std.proofs.lemmas.Bool.{false≢true}
use Rattle.std.specs.Result.{result_unwrap_or}
use Rattle.oftp_wire.specs.declared.command.Command.{Command}
use Rattle.oftp_wire.specs.declared.command.Command.TheVariants as command
use Rattle.oftp_register.specs.declared.change.Cause.{Cause}
use Rattle.oftp_register.specs.declared.change.Change.{Change}
use Rattle.oftp_register.specs.Register.{Register}
use Rattle.oftp_register.specs.Changes.{apply}
use Rattle.oftp_register.specs.Soundness.{IsFit, IsSound}
use Rattle.oftp_register.proofs.KeepLemmas.{apply_keeps}
use Rattle.oftp_session.specs.Phases.{Phase, register_after, unexpected}
use Rattle.oftp_session.specs.Steps.{Holds}
use Rattle.oftp_session.specs.Calls.{Proceeds}
use Rattle.oftp_session.specs.Inside.{IsAccepted}

-- a step without a change goes on to a phase whose facts hold
pub same_proceeds : (r : Register) (phase : Phase) (output : Option Command) → IsSound r → Holds phase r → Proceeds r (record { phase = phase; change = None; output = output })
same_proceeds r phase output sound holds = record { allowed = refl; suits = record { sound = sound; holds = holds } }

is_made : (result : Result Register Cause) (r : Register) → is_ok result ≡ true → result ≡ Ok (result_unwrap_or result r)
is_made (Ok after) r h = refl
is_made (Err cause) r h = absurd (false≢true h)

pub unexpected_proceeds : (r : Register) (c : Command) → IsSound r → Proceeds r (unexpected c)
unfolding unexpected
unexpected_proceeds r (command.Esid esid) sound = same_proceeds r _ _ sound tt
unexpected_proceeds r _ sound = same_proceeds r _ _ sound tt

-- a change that is accepted
pub accepted_proceeds : (r : Register) (phase : Phase) (change : Change) (output : Option Command) → IsSound r → IsFit r change → IsAccepted r change
    → Holds phase (register_after r (Some change)) → Proceeds r (record { phase = phase; change = Some change; output = output })
accepted_proceeds r phase change output sound fit accepted holds =
    let made = is_made (apply r change) r accepted in
    record { allowed = made; suits = record { sound = apply_keeps r change _ sound fit made; holds = holds } }

-- a change, if it is due, that the register accepts
pub changes_proceeds : (r : Register) (phase : Phase) (change : Option Change) (output : Option Command) → IsSound r
    → ((k : Change) → change ≡ Some k → IsFit r k × IsAccepted r k) → Holds phase (register_after r change) → Proceeds r (record { phase = phase; change = change; output = output })
changes_proceeds r phase None output sound goes holds = same_proceeds r phase output sound holds
changes_proceeds r phase (Some k) output sound goes holds = let g = goes k refl in accepted_proceeds r phase k output sound g.0 g.1 holds
