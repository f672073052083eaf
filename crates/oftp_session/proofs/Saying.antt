-- What is sent after a change, or without one.
use Rattle.std.proofs.Common.{◌≡◌, ℕ, Option, None, Some, Result, Ok, Err, List, [], refl, sym, subst}
use Rattle.std.specs.Result.{IsErrAnd}
use Rattle.oftp_wire.specs.declared.command.Command.{Command}
use Rattle.oftp_register.specs.declared.change.Change.{Change}
use Rattle.oftp_register.specs.Offices.{View}
use Rattle.oftp_session.specs.declared.session.SessionFault.{SessionFault}
use Rattle.oftp_session.specs.declared.state.State.{State}
use Rattle.oftp_session.specs.Phases.{Step, frame_of}
use Rattle.oftp_session.specs.Calls.{DoesNot, IsMade}
use Rattle.oftp_session.specs.Inside.{Goes, MakesChange, Takes}

-- a change that was made is answered
pub answered : (change : Option Change) (said : Command) (old new : View) (frame : List ℕ) → frame ≡ frame_of said → IsMade change None old new [] → IsMade change (Some said) old new frame
answered change said old new frame is m = record { said = is; register = m.register; stands = m.stands; faults = m.faults }

-- a step without a change
pub same_takes : (step : Step) (now : View) (to : State) (frame : List ℕ) → now.stands → Goes step to frame → Takes step now now frame (Ok to)
same_takes step now to frame stands goes =
    let made : IsMade None step.output now now frame = record { said = goes.said; register = refl; stands = stands; faults = refl } in
    (subst (λ (x : Option Change). IsMade x step.output now now frame) (sym goes.unchanged) made, goes.stands)

pub step_same : (whole step : Step) (now : View) (to : State) (frame : List ℕ) → now.stands → whole ≡ step → Goes step to frame → Takes whole now now frame (Ok to)
step_same whole step now to frame stands is goes = subst (λ (x : Step). Takes x now now frame (Ok to)) (sym is) (same_takes step now to frame stands goes)

-- an error that `?` passes on is that of the step
pub passed_on : (step : Step) (old new : View) (frame : List ℕ) (told : SessionFault) (result : Result State SessionFault) → IsErrAnd result (λ (x : SessionFault). x ≡ told)
    → DoesNot step.change old new told → Takes step old new frame result
passed_on step old new frame told (Ok state) is fails = absurd is
passed_on step old new frame told (Err x) is fails = subst (DoesNot step.change old new) (sym is) fails

-- and that of a change
pub passed_file : {T : Type 0} (change : Option Change) (old new : View) (told : SessionFault) (result : Result T SessionFault) → IsErrAnd result (λ (x : SessionFault). x ≡ told)
    → DoesNot change old new told → MakesChange change old new result
passed_file change old new told (Ok x) is fails = absurd is
passed_file change old new told (Err x) is fails = subst (DoesNot change old new) (sym is) fails
