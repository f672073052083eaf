-- What a run needs of the session's steps. It is that the register accepts each change, how a session that is over has ended, and which
-- session is open.
use Rattle.std.proofs.Common.{◌≡◌, ◌≢◌, true, false, Option, None, Some, Result, Ok, Err, refl, sym, ap, ◌∙◌, is_some}
use Rattle.std.proofs.lemmas.Bool.{false≢true}
use Rattle.oftp_wire.specs.declared.command.Command.{Command}
use Rattle.oftp_wire.specs.declared.fault.WireFault.{WireFault}
use Rattle.oftp_wire.specs.declared.reason.SessionReason.{SessionReason}
use Rattle.oftp_wire.specs.declared.reason.SessionReason.TheVariants.{CommandNotRecognised}
use Rattle.oftp_wire.specs.Reasons.{reason_of}
use Rattle.oftp_register.specs.Register.{Register}
use Rattle.oftp_session.specs.Settings.{Setting}
use Rattle.oftp_session.specs.Phases.{is_over, ending_of, Phase, fails}
use Rattle.oftp_session.specs.Steps.{Suits}
use Rattle.oftp_session.specs.Calls.{Proceeds}
use Rattle.oftp_session.specs.declared.session.Ending.{Ending}
use Rattle.oftp_session.specs.Standings.{At, Awaits, Broken, Offers, Receives, Sends, Standing, ended_as as ended_in, is_closed, is_due}
use Rattle.oftp_session.proofs.Phases.{turn_live}
use Rattle.oftp_session.proofs.Proceeding.{came_proceeds}
use Rattle.oftp_engine.specs.declared.serving.End.TheVariants.{Input}
use Rattle.oftp_engine.specs.Runs.{step_on, refusal, ended_as, end_of, ending}

-- each register suits the end of a session as it suited the phase before
pub fails_proceed : (p : Phase) (r : Register) (reason : SessionReason) → Suits p r → Proceeds r (fails reason)
fails_proceed p r reason suits = record { allowed = refl; suits = record { sound = suits.sound; holds = tt } }

refusal_proceeds : (p : Phase) (r : Register) (reason : Option SessionReason) → Suits p r → Proceeds r (refusal reason)
refusal_proceeds p r (Some reason) suits = fails_proceed p r reason suits
refusal_proceeds p r None suits = fails_proceed p r CommandNotRecognised suits

pub step_proceeds : (setting : Setting) (p : Phase) (r : Register) (c : Result Command WireFault) → Suits p r → Proceeds r (step_on setting p r c)
step_proceeds setting p r (Ok c) suits = came_proceeds setting p r c suits
step_proceeds setting p r (Err fault) suits = refusal_proceeds p r (reason_of fault) suits

pub over_from : (p : Phase) (e : Ending) → Some e ≡ ending_of p → is_over p ≡ true
over_from p e h = ap is_some (sym h)

pub live_from : (p : Phase) (e : Option Ending) → e ≡ ending_of p → e ≡ None → is_over p ≡ false
live_from p e h none = ap is_some (sym h ∙ none)

-- if octets are missing, the end of the input is how the session ends
pub input_ending : (p : Phase) → is_over p ≡ false → Input ≡ ending p
input_ending p h = at (ending_of p) h
  where
    at : (e : Option Ending) → is_some e ≡ false → Input ≡ end_of e
    at None live = refl
    at (Some e) live = absurd (false≢true (sym live))

-- how a session that is over has ended
pub ending_from : (p : Phase) (e : Ending) → Some e ≡ ending_of p → ended_as e ≡ ending p
ending_from p e h = ap end_of h

-- a session that is open hasn't ended
pub open_goes_on : (s : Standing) → is_closed s ≡ false → ended_in s ≡ None
open_goes_on (At p) h = at (ending_of p) h
  where
    at : (e : Option Ending) → is_some e ≡ false → e ≡ None
    at None live = refl
    at (Some e) live = absurd (false≢true (sym live))
open_goes_on (Receives contact reception) h = refl
open_goes_on (Offers contact offering) h = refl
open_goes_on (Sends contact shipment) h = refl
open_goes_on (Awaits contact number) h = refl
open_goes_on Broken h = absurd (false≢true (sym h))

-- one that hasn't ended and isn't broken is open
pub open_unbroken : (s : Standing) → ended_in s ≡ None → s ≢ Broken → is_closed s ≡ false
open_unbroken (At p) h unbroken = ap is_some h
open_unbroken (Receives contact reception) h unbroken = refl
open_unbroken (Offers contact offering) h unbroken = refl
open_unbroken (Sends contact shipment) h unbroken = refl
open_unbroken (Awaits contact number) h unbroken = refl
open_unbroken Broken h unbroken = absurd (unbroken refl)

-- a session with a due turn is open
pub open_due : (s : Standing) → is_due s ≡ true → is_closed s ≡ false
open_due (At p) h = turn_live p h
open_due (Receives contact reception) h = refl
open_due (Offers contact offering) h = refl
open_due (Sends contact shipment) h = refl
open_due (Awaits contact number) h = refl
open_due Broken h = absurd (false≢true h)

-- a session in a phase isn't broken
pub at_unbroken : (p : Phase) (s : Standing) → s ≡ At p → s ≢ Broken
at_unbroken p s h broken = let no : ⊥ = cc in no
