-- Inside: the result of an operator's call before its line is out, for the functions of src/operating.rt and submitting.rt.
use Rattle.std.specs.Prelude.{◌≡◌, ℕ, ◌⊎◌, ⊤, List, Result, Ok, Err, codes}
use Rattle.oftp_register.specs.declared.office.OfficeFault.{OfficeFault}
use Rattle.oftp_register.specs.declared.office.OfficeFault.TheVariants as office
use Rattle.oftp_register.specs.declared.change.Change.{Change}
use Rattle.oftp_register.specs.Register.{Register}
use Rattle.oftp_register.specs.Soundness.{IsFit}
use Rattle.oftp_register.specs.Offices.{View, next_count}
use Rattle.oftp_session.specs.Calls.{IsBefore, Makes}
use Rattle.oftp_engine.specs.declared.operating.Operator.{Operator}
use Rattle.oftp_engine.specs.declared.operating.Told.{Told}
use Rattle.oftp_engine.specs.declared.operating.Told.TheVariants as told
use Rattle.oftp_engine.specs.declared.serving.RunFault.{RunFault}
use Rattle.oftp_engine.specs.declared.serving.RunFault.TheVariants as fault
use Rattle.oftp_engine.specs.Operating.{Deed, NeedsMemory, done_line, makes, refusal_line, refusal_of}
use Rattle.oftp_engine.specs.declared.operating.Operator.TheVariants as operator
use Rattle.oftp_engine.specs.Operated.{IsMadeBefore}
use Rattle.oftp_engine.specs.Serving.{OnCleanStore}

-- the beginning of the line of a call that was carried out
abbrev pub verb_of : Operator → List ℕ
verb_of (operator.Submit submission) = codes "done: submit "
verb_of (operator.Release n) = codes "done: release "
verb_of (operator.Refuse n reason text) = codes "done: refuse "

-- the line of a result
abbrev pub line_as : List ℕ → Told → List ℕ
line_as verb (told.Done n) = done_line verb n
line_as verb (told.Refused refusal) = refusal_line refusal

-- the office decided
pub record IsDecided (verb : List ℕ) (deed : Deed) (old new : View) (told' : Told) : Type 0 where
  pub told : told' ≡ deed.told
  pub line : line_as verb told' ≡ deed.line
  pub register : Makes deed.change old.register new.register
  pub stands : new.stands
  pub faults : new.told ≡ old.told

-- the office returned an error
pub record IsOpen (deed : Deed) (old new : View) : Type 0 where
  pub cases : IsBefore deed.change old new ⊎ IsMadeBefore deed.change old new
  pub faults : new.told ≡ next_count old.told

-- out of memory before the office was called
pub record IsUntouched (old new : View) : Type 0 where
  pub register : new.register ≡ old.register
  pub stands : new.stands
  pub faults : new.told ≡ old.told

abbrev pub AttemptsErr : (Deed → Type 0) → View → View → RunFault → Type 0
AttemptsErr IsIt old new fault.Read = ⊥
AttemptsErr IsIt old new fault.Write = ⊥
AttemptsErr IsIt old new fault.Office = (deed : Deed) × IsIt deed × IsOpen deed old new
AttemptsErr IsIt old new fault.Memory = IsUntouched old new

-- an error of a call before its line is written
abbrev pub MayFail : Operator → RunFault → Type 0
MayFail call fault.Read = ⊥
MayFail call fault.Write = ⊥
MayFail call fault.Office = ⊤
MayFail call fault.Memory = NeedsMemory call

-- the result of a commit of a change of the file with a number
abbrev pub fault_result : ℕ → OfficeFault → Result Told RunFault
fault_result n office.Store = Err fault.Office
fault_result n office.Memory = Err fault.Office
fault_result n (office.Refused cause) = Ok (told.Refused (refusal_of cause))

abbrev pub call_result : {T : Type 0} → ℕ → Result T OfficeFault → Result Told RunFault
call_result n (Ok x) = Ok (told.Done n)
call_result n (Err fault) = fault_result n fault

-- a call was tried that does a deed of this kind
abbrev pub Attempts : List ℕ → (Deed → Type 0) → View → View → Result Told RunFault → Type 0
Attempts verb IsIt old new (Ok told') = (deed : Deed) × IsIt deed × IsDecided verb deed old new told'
Attempts verb IsIt old new (Err fault) = AttemptsErr IsIt old new fault

-- on a clean store a call was tried that does such a deed, by the register that it found
abbrev pub Tries : List ℕ → (Register → Deed → Type 0) → View → View → Result Told RunFault → Type 0
Tries verb IsIt old new result = OnCleanStore old new (Attempts verb (IsIt old.register) old new result)

-- the same of the one deed that this is
abbrev pub TriesDeed : List ℕ → (Register → Deed) → View → View → Result Told RunFault → Type 0
TriesDeed verb deed_by old new result = OnCleanStore old new (Attempts verb (λ deed. deed ≡ deed_by old.register) old new result)

-- on a clean store a fit change of the file with a number was made or refused, whatever verb its line begins with
abbrev pub Decides : ℕ → Change → View → View → Result Told RunFault → Type 0
Decides n change old new result = OnCleanStore old new (IsFit old.register change → (verb : List ℕ)
    → Attempts verb (λ deed. deed ≡ makes verb n change old.register) old new result)
