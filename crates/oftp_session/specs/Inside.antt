-- The contracts of private functions. No contract of a public call needs them.
use Rattle.std.specs.Prelude.{◌≡◌, ℕ, Bool, true, List, [], Option, None, Some, Result, Ok, Err, is_ok}
use Rattle.oftp_register.specs.declared.change.Change.{Change}
use Rattle.oftp_register.specs.Register.{Register}
use Rattle.oftp_register.specs.Changes.{apply}
use Rattle.oftp_register.specs.Soundness.{IsFit}
use Rattle.oftp_register.specs.Offices.{View}
use Rattle.oftp_session.specs.declared.session.SessionFault.{SessionFault}
use Rattle.oftp_session.specs.declared.state.Contact.{Contact}
use Rattle.oftp_session.specs.declared.state.State.{State}
use Rattle.oftp_session.specs.Phases.{Phase, Step, framed}
use Rattle.oftp_session.specs.Recalling.{RecallsAt, RecallsOf}
use Rattle.oftp_session.specs.Standings.{Standing, StandsIn, standing_of}
use Rattle.oftp_session.specs.Steps.{Holds}
use Rattle.oftp_session.specs.Calls.{DoesNot, IsMade}

-- a change that isn't refused
abbrev pub IsAccepted : Register → Change → Type 0
IsAccepted r change = is_ok (apply r change) ≡ true

-- a function that makes a change, if one is due, and has no frame
abbrev pub MakesChange : {T : Type 0} → Option Change → View → View → Result T SessionFault → Type 0
MakesChange change old new (Ok x) = IsMade change None old new []
MakesChange change old new (Err fault) = DoesNot change old new fault

-- A function that makes this change, if the disk is clean after it, the office was valid before it, and its register accepts the change.
abbrev pub MakesFit : {T : Type 0} → Change → View → View → Result T SessionFault → Type 0
MakesFit change old new result = new.clean → old.stands → IsFit old.register change → IsAccepted old.register change → MakesChange (Some change) old new result

-- a function that makes the change that is due in a register, if one is
abbrev pub MakesDue : {T : Type 0} → (Register → Option Change) → View → View → Result T SessionFault → Type 0
MakesDue change old new result = new.clean → old.stands → MakesChange (change old.register) old new result

-- the same for each phase that suits the register and the state of the code
abbrev pub MakesFrom : {P T : Type 0} → (Register → P → Type 0) → (P → Type 0) → (P → Option Change) → View → View → Result T SessionFault → Type 0
MakesFrom {P = P} Has Stands change old new result =
    new.clean → old.stands → (at : P) → Has old.register at → Stands at → MakesChange (change at) old new result

-- a step that doesn't use the office: its frame, and the state of the session after it
pub record Goes (step : Step) (state : State) (frame : List ℕ) : Type 0 where
  pub said : frame ≡ framed step.output
  pub unchanged : step.change ≡ None
  pub stands : StandsIn step.phase (standing_of state)

-- a function that looks up a value of the register, and changes nothing
abbrev pub Finds : {T : Type 0} → (Register → T) → View → View → Result T SessionFault → Type 0
Finds look old new (Ok x) = (x ≡ look old.register) × IsMade None None old new []
Finds look old new (Err fault) = DoesNot None old new fault

-- the same if the disk is clean after it, of an office that was valid
abbrev pub LooksFor : {T : Type 0} → (Register → T) → View → View → Result T SessionFault → Type 0
LooksFor look old new result = new.clean → old.stands → Finds look old new result

-- if the disk is clean after a call, the office was valid before it, and whether a response is next was remembered rightly, this holds
abbrev pub IfRecalled : Option Bool → Contact → View → View → Type 0 → Type 0
IfRecalled due contact old new holds = new.clean → old.stands → RecallsOf due contact old.register → holds

-- a step over an office: its frame, and the state of the session after it
abbrev pub Takes : Step → View → View → List ℕ → Result State SessionFault → Type 0
Takes step old new frame (Ok state) = IsMade step.change step.output old new frame × StandsIn step.phase (standing_of state)
Takes step old new frame (Err fault) = DoesNot step.change old new fault

-- the same if the disk is clean after it, of an office that was valid
abbrev pub StepsOver : (Register → Step) → View → View → List ℕ → Result State SessionFault → Type 0
StepsOver step old new frame result = new.clean → old.stands → Takes (step old.register) old new frame result

-- the same from a register of which this holds
abbrev pub StepsWhere : (Register → Type 0) → (Register → Step) → View → View → List ℕ → Result State SessionFault → Type 0
StepsWhere Has step old new frame result = new.clean → old.stands → Has old.register → Takes (step old.register) old new frame result

-- the same for each phase that suits the register and the state of the code
abbrev pub StepsFrom : {P : Type 0} → (Register → P → Type 0) → (P → Type 0) → (Register → P → Step) → View → View → List ℕ → Result State SessionFault → Type 0
StepsFrom {P = P} Has Stands step old new frame result =
    new.clean → old.stands → (at : P) → Has old.register at → Stands at → Takes (step old.register at) old new frame result

-- If the disk is clean after a call and the office was valid before it, this holds of the office's register. It holds of each phase
-- that the state may be in. The register suits the phase, and whether a response is next was remembered rightly.
abbrev pub InState : View → View → Standing → Option Bool → (Phase → Register → Type 0) → Type 0
InState before after standing due holds = after.clean → before.stands
    → (p : Phase) → Holds p before.register → StandsIn p standing → RecallsAt due standing before.register → holds p before.register
