-- A failed look-up, and two look-ups in a row.
use Rattle.std.proofs.Common.{◌≡◌, Result, Ok, Err, IfOk, sym, ap, subst, ◌∙◌, arith}
use Rattle.std.specs.Result.{IsErrAnd}
use Rattle.std.proofs.lemmas.Result.{IfOk-weaker}
use Rattle.sqlite.specs.Effect.{Database}
use Rattle.sqlite.specs.State.{State, HasCleanDisk, IsUnchanged}
use Rattle.oftp_tables.specs.Schema.{office_schema}
use Rattle.oftp_register.specs.declared.office.OfficeFault.{OfficeFault}
use Rattle.oftp_register.specs.Register.{Register}
use Rattle.oftp_tables.specs.Statements.{Looks}
use Rattle.oftp_tables.specs.Tables.{Tables}
use Rattle.oftp_tables.proofs.LookupLemmas.{looks_as}

-- a look-up failed, and `?` passes its error on
pub looks_failed : {A B : Type 0} (old new : State) (fault : OfficeFault) (result : Result B OfficeFault) → Looks {T = A} old new (Err fault)
    → IsErrAnd result (λ (passed : OfficeFault). passed ≡ fault) → Looks old new result
looks_failed old new fault (Ok x) looks is = absurd is
looks_failed {A} old new fault (Err passed) looks is = looks_as old new passed (subst (λ f. Looks {T = A} old new (Err f)) (sym is) looks)

-- a clean disk with the office's tables, which represent a register
pub record IsLeft (r : Register) (s : State) : Type 0 where
  pub clean : HasCleanDisk s
  pub schema : s.now.schema ≡ office_schema
  pub tables : Tables r s.now.trees

pub left_on : {A : Type 0} (r : Register) (old mid : State) (x : A) → Looks old mid (Ok x) → HasCleanDisk mid → old.now.schema ≡ office_schema → Tables r old.now.trees → IsLeft r mid
left_on r old mid x looks clean has kept =
    let same : IsUnchanged old mid = looks.same clean has in
    record {
      clean = clean;
      schema = ap (λ (d : Database). d.schema) same.0.now_is ∙ has;
      tables = subst (λ (d : Database). Tables r d.trees) (sym same.0.now_is) kept;
    }

-- so the first of two look-ups leaves the tables unchanged for the second
pub left_by : {A B : Type 0} (r : Register) (old mid new : State) (x : A) (result : Result B OfficeFault) → Looks old mid (Ok x) → Looks mid new result
    → HasCleanDisk new → old.now.schema ≡ office_schema → Tables r old.now.trees → IsLeft r mid
left_by r old mid new x result one two clean has kept = left_on r old mid x one (omega (arith, two.clean, clean)) has kept

-- what the second look-up returns is true of the tables as they were before both
pub answers_after : {A B : Type 0} (First : Register → Type 0) (Second Both : Register → B → Type 0) (old mid new : State) (x : A) (result : Result B OfficeFault)
    → Looks old mid (Ok x) → Looks mid new result
    → (HasCleanDisk mid → old.now.schema ≡ office_schema → (r : Register) → Tables r old.now.trees → First r)
    → (HasCleanDisk new → mid.now.schema ≡ office_schema → IfOk result (λ y. (r : Register) → Tables r mid.now.trees → Second r y))
    → ((r : Register) (y : B) → First r → Second r y → Both r y)
    → HasCleanDisk new → old.now.schema ≡ office_schema → IfOk result (λ y. (r : Register) → Tables r old.now.trees → Both r y)
answers_after First Second Both old mid new x result one two first second both clean has =
    let early : HasCleanDisk mid = omega (arith, two.clean, clean) in
    let same : IsUnchanged old mid = one.same early has in
    IfOk-weaker result _ _ (λ y told r kept. both r y (first early has r kept) (told r (left_by r old mid new x result one two clean has kept).tables))
    (second clean (ap (λ (d : Database). d.schema) same.0.now_is ∙ has))
