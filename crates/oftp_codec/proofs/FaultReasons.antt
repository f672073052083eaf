-- Each error of a field has a reason for the ESID that answers it.
use Rattle.std.proofs.Common.{ℕ, ◌+◌, Bool, true, false, cond, ltb, List, length, Option, Some, None, IsSome, refl}
use Rattle.oftp_wire.specs.declared.fault.WireFault.{WireFault}
use Rattle.oftp_wire.specs.declared.fault.WireFault.TheVariants.{WrongLength}
use Rattle.oftp_wire.specs.Octets.{part}
use Rattle.oftp_codec.specs.Form.{Form, Name, Digits, OneOf, DigitsIf, Reserved, Return, Any, Utf8, size, allows, complaint, fault_of}
use Rattle.oftp_wire.specs.Reasons.{reason_of}

-- an error, if there is one, has a reason
abbrev pub Answered : Option WireFault → Type 0
Answered None = Unit {0}
Answered (Some e) = IsSome (reason_of e)

-- the same as a record, so that a proof finds its error
pub record IsAnswered (fault : Option WireFault) : Type 0 where
  pub answered : Answered fault

-- an invalid value has a reason
complaint_answered : (form : Form) (at : ℕ) → IsSome (reason_of (complaint form at))
complaint_answered (Name n) at = refl
complaint_answered (Digits n) at = refl
complaint_answered (OneOf n ws) at = refl
complaint_answered (DigitsIf b n) at = refl
complaint_answered (Reserved n) at = refl
complaint_answered Return at = refl
complaint_answered (Any n) at = refl
complaint_answered (Utf8 n) at = refl

-- a choice of two
either_answered : (b : Bool) (x y : Option WireFault) → IsAnswered x → IsAnswered y → IsAnswered (cond b x y)
either_answered true x y p q = p
either_answered false x y p q = q

-- no error
none_answered : IsAnswered None
none_answered = record { answered = tt }

-- a wrong length has a reason
length_answered : IsAnswered (Some WrongLength)
length_answered = record { answered = refl }

-- the error of a field has a reason
pub field_answered : (form : Form) (at : ℕ) (o : List ℕ) → IsAnswered (fault_of form at o)
unfolding fault_of
field_answered form at o =
    either_answered (ltb (length o) (at + size form)) (Some WrongLength) _ length_answered
    (either_answered (allows form (part at (size form) o)) None (Some (complaint form at)) none_answered (record { answered = complaint_answered form at }))
