-- What a call leaves of a session, once the borrow of its frame ends.
use Rattle.std.specs.Prelude.{◌≡◌, ◌≢◌, ◌<◌, [], true, false, Result, OnErr, OnOk}
use Rattle.std.specs.Borrow.{Fml, MutBor}
use Rattle.std.specs.Io.BufRead.{Rests}
use mir.Syntax.{named}
use Rattle.oftp_wire.specs.declared.reason.SessionReason.{SessionReason}
use Rattle.oftp_register.specs.Register.{Register}
use Rattle.oftp_register.specs.Offices.{View}
use Rattle.oftp_session.specs.declared.session.Out.{Out}
use Rattle.oftp_session.specs.declared.session.SessionFault.{SessionFault}
use Rattle.oftp_session.specs.contracts.session.Session.{the_row}
use Rattle.oftp_session.specs.Phases.{EndedHere, Phase, Step, is_over}
use Rattle.oftp_session.specs.Steps.{Holds}
use Rattle.oftp_session.specs.Standings.{Broken, is_closed, is_due, turns_left}
use Rattle.oftp_session.specs.Calls.{Seen, Stands}
use Rattle.oftp_session.specs.Recalling.{Recalls}

-- this holds of the session, once the borrow of the frame that the call returned ends
abbrev pub After : MutBor Seen → (Seen → Type 0) → Fml
After session holds = Rests (the_row (record { mir = named 1; lft = [] })) session holds

-- If the disk is clean after the call, this holds of the session's phase, which isn't over, and of the office's register. The register
-- suits the phase, and what the session remembers of it is true.
abbrev pub InPhase : View → View → Seen → (Phase → Register → Type 0) → Type 0
InPhase before after session holds = after.clean → before.stands
    → (p : Phase) → Holds p before.register → is_over p ≡ false → Stands p session → Recalls session before.register → holds p before.register

-- What a call leaves that makes this step from a phase and a register. The session is in the step's phase, or it is broken after an error.
-- A session that was closed is unchanged.
pub record AfterCall (step : Phase → Register → Step) (before after : View) (result : Result Out SessionFault) (old new : Seen) : Type 0 where
  pub setting : new.setting ≡ old.setting
  pub phase : InPhase before after old (λ p r. OnOk result (Stands (step p r).phase new))
  pub broken : is_closed old.standing ≡ false → OnErr result (new.standing ≡ Broken)
  pub closed : is_closed old.standing ≡ true → new ≡ old
  pub whole : OnOk result (new.standing ≢ Broken)

-- the same for a command; what the session remembers is true of the register that it leaves
pub record AfterStep (step : Phase → Register → Step) (before after : View) (result : Result Out SessionFault) (old new : Seen) : Type 0 where
  pub made : AfterCall step before after result old new
  pub recalls : InPhase before after old (λ p r. OnOk result (Recalls new after.register))

-- The same for a turn. One that was due leaves fewer turns. If none was due, nothing is sent and the session is unchanged.
pub record AfterTurn (step : Phase → Register → Step) (before after : View) (result : Result Out SessionFault) (old new : Seen) : Type 0 where
  pub made : AfterCall step before after result old new
  pub recalls : InPhase before after old (λ p r. OnOk result (Recalls new after.register))
  pub fewer : is_due old.standing ≡ true → OnOk result (turns_left new.standing < turns_left old.standing)
  pub idle : is_due old.standing ≡ false → is_closed old.standing ≡ false → new ≡ record old { frame = [] }

-- what an end by this reason leaves: the session is over, or unchanged if it was over before
pub record AfterEnd (reason : SessionReason) (result : Result Out SessionFault) (old new : Seen) : Type 0 where
  pub setting : new.setting ≡ old.setting
  pub ended : OnOk result (Stands (EndedHere reason) new)
  pub kept : OnErr result (new ≡ old)
