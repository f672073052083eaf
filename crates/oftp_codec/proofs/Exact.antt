-- Reading from left to right agrees with the table.
use Rattle.std.proofs.Common.{◌≡◌, ℕ, Bool, true, false, cond, eqb, List, length, Option, Some, None, Result, Ok, Err, refl, sym, ap, ◌∙◌, MatchResult}
use Rattle.std.specs.Prelude.{IsSome}
use Rattle.oftp_wire.specs.declared.fault.WireFault.{WireFault}
use Rattle.oftp_wire.specs.declared.fault.WireFault.TheVariants.{WrongLength}
use Rattle.oftp_codec.specs.Form.{Form, fault_of, end_fault}
use Rattle.oftp_codec.specs.Reading.{◌>>=◌, unless}
use Rattle.oftp_wire.specs.Reasons.{reason_of}
use Rattle.oftp_codec.specs.Row.{or_else}
use Rattle.oftp_codec.proofs.FaultReasons.{IsAnswered, field_answered}
use Rattle.oftp_codec.proofs.Forms.{IsFine}
use Rattle.std.proofs.lemmas.Bool.{eqb-true}

-- what is read has P, and the table has no error; or the error is the table's, and an ESID can answer it
pub record Exact {B : Type 0} (r : Result B WireFault) (fault : Option WireFault) (P : B → Type 0) : Type 0 where
  pub met : MatchResult r (λ x. (fault ≡ None) × P x) (λ e. (fault ≡ Some e) × IsSome (reason_of e))

-- a value that has P is read where there is no error
pub reads : {B : Type 0} {x : B} {P : B → Type 0} → P x → Exact (let r : Result B WireFault = Ok x in r) None P
reads h = record { met = (refl, h) }

-- a read that fails has the error of its row; one that succeeds has a row without error
step_by : {A B : Type 0} (c rest : Option WireFault) (v : A) (k : A → Result B WireFault) (P : B → Type 0)
    → IsAnswered c → (c ≡ None → Exact (k v) rest P) → Exact (unless c v >>= k) (or_else c rest) P
step_by None rest v k P a h = h refl
step_by (Some e) rest v k P a h = record { met = (refl, a.answered) }

-- a field is read before what follows it
pub step : {A B : Type 0} {form : Form} {at : ℕ} {o : List ℕ} {rest : Option WireFault} {v : A} {P : B → Type 0} (k : A → Result B WireFault)
    → (IsFine form at o → Exact (k v) rest P) → Exact (unless (fault_of form at o) v >>= k) (or_else (fault_of form at o) rest) P
step {A} {B} {form} {at} {o} {rest} {v} {P} k h =
    step_by (fault_of form at o) rest v k P (field_answered form at o) (λ e. h (record { fine = e }))

-- the end is tested before what follows it
finish_by : {A B : Type 0} (b : Bool) (v : A) (k : A → Result B WireFault) (P : B → Type 0)
    → (b ≡ true → Exact (k v) None P) → Exact (unless (cond b None (Some WrongLength)) v >>= k) (cond b None (Some WrongLength)) P
finish_by true v k P h = h refl
finish_by false v k P h = record { met = (refl, refl) }

-- the same for the end of a table
pub finish : {A B : Type 0} {end : ℕ} {v : A} {P : B → Type 0} (o : List ℕ) (k : A → Result B WireFault)
    → (length o ≡ end → Exact (k v) None P) → Exact (unless (end_fault end o) v >>= k) (end_fault end o) P
unfolding end_fault
finish {A} {B} {end} {v} {P} o k h = finish_by (eqb (length o) end) v k P (λ e. h (eqb-true _ _ e))

-- no error is none
pub none_some : (e : WireFault) → ◌≡◌ {A = Option WireFault} None (Some e) → ⊥
none_some e h = cc

-- if nothing is faulty and at most one value has P, that value is read
only_by : {B : Type 0} (r : Result B WireFault) (fault : Option WireFault) (P : B → Type 0)
    → MatchResult r (λ x. (fault ≡ None) × P x) (λ e. (fault ≡ Some e) × IsSome (reason_of e))
    → fault ≡ None → ((x y : B) → P x → P y → x ≡ y) → (x : B) → P x → r ≡ Ok x
only_by (Ok y) fault P h none one x p = ap Ok (one y x h.1 p)
only_by (Err e) fault P h none one x p = absurd (none_some e (sym none ∙ h.0))

-- if nothing is faulty, the one value with P is read
pub only : {B : Type 0} {r : Result B WireFault} {fault : Option WireFault} {P : B → Type 0}
    → Exact r fault P → fault ≡ None → ((x y : B) → P x → P y → x ≡ y) → (x : B) → P x → r ≡ Ok x
only {B} {r} {fault} {P} h none one x p = only_by r fault P h.met none one x p

-- a value read under another name
named_by : {A B : Type 0} (r : Result A WireFault) (g : A → B) (fault : Option WireFault) (P : A → Type 0) (Q : B → Type 0)
    → MatchResult r (λ x. (fault ≡ None) × P x) (λ e. (fault ≡ Some e) × IsSome (reason_of e)) → ((x : A) → P x → Q (g x))
    → MatchResult (r >>= λ x. Ok (g x)) (λ x. (fault ≡ None) × Q x) (λ e. (fault ≡ Some e) × IsSome (reason_of e))
named_by (Ok x) g fault P Q h all = (h.0, all x h.1)
named_by (Err e) g fault P Q h all = h

-- the same for what is exact
pub named : {A B : Type 0} {r : Result A WireFault} {fault : Option WireFault} {P : A → Type 0} {Q : B → Type 0} (g : A → B)
    → Exact r fault P → ((x : A) → P x → Q (g x)) → Exact (r >>= λ x. Ok (g x)) fault Q
named {A} {B} {r} {fault} {P} {Q} g h all = record { met = named_by r g fault P Q h.met all }
