-- A list that a sequence of look-ups builds, entry by entry.
use Rattle.std.proofs.Common.{◌≡◌, ℕ, Result, Ok, inl, inr, sym, subst, arith}
use Rattle.sqlite_trees.specs.declared.store.Store.{Ghosts}
use Rattle.sqlite.specs.Held.{Held, state}
use Rattle.sqlite.specs.State.{State, HasCleanDisk}
use Rattle.oftp_tables.specs.Schema.{office_schema}
use Rattle.oftp_register.specs.declared.office.OfficeFault.{OfficeFault}
use Rattle.oftp_register.specs.Register.{Register}
use Rattle.oftp_register.specs.Soundness.{IsSound}
use Rattle.oftp_tables.specs.Statements.{Looks}
use Rattle.oftp_tables.specs.Tables.{Tables}
use Rattle.oftp_tables.proofs.LookupLemmas.{looks_then}
use Rattle.oftp_store.specs.Tells.{LooksAtMost, Tells, TellsBetween}
use Rattle.oftp_store.proofs.CommitLemmas.{looks_both}
use Rattle.oftp_store.proofs.LookLemmas.{left_by, left_on}

-- what look-ups so far have shown of the register
pub record IsKnown (Known : Register → Type 0) (old now : State) : Type 0 where
  pub looks : Looks {T = ℕ} old now (Ok 0)
  pub known : HasCleanDisk now → old.now.schema ≡ office_schema → (r : Register) → Tables r old.now.trees → IsSound r → Known r

-- that look-ups leave the connection as it was doesn't depend on what they returned
pub looks_other : {A B : Type 0} (old new : State) (x : A) (y : B) → Looks {T = A} old new (Ok x) → Looks {T = B} old new (Ok y)
looks_other old new x y looks = record { clean = looks.clean; mode = looks.mode; same = looks.same; failed = λ k has. tt; left = looks.left; unrefused = tt }

pub begins_known : {T : Type 0} (Known : Register → Type 0) (old now : State) (x : T) → Looks old now (Ok x)
    → (HasCleanDisk now → old.now.schema ≡ office_schema → (r : Register) → Tables r old.now.trees → Known r) → IsKnown Known old now
begins_known Known old now x looks told = record { looks = looks_other old now x 0 looks; known = λ k has r kept sound. told k has r kept }

pub goes_on_known : {T : Type 0} (Known Next : Register → Type 0) (says : Register → T → Type 0) (old mid now : State) (x : T) → IsKnown Known old mid
    → Looks mid now (Ok x) → TellsBetween (λ r x. IsSound r → says r x) mid now (Ok x)
    → ((r : Register) → Tables r old.now.trees → IsSound r → Known r → says r x → Next r) → IsKnown Next old now
goes_on_known Known Next says old mid now x is looks told next = record {
  looks = looks_both old mid now 0 (Ok 0) is.looks (looks_other mid now x 0 looks);
  known = λ k has r kept sound.
      let here = left_by r old mid now 0 (Ok x) is.looks looks k has kept in
      next r kept sound (is.known here.clean has r kept sound) (told k here.schema r here.tables sound);
}

-- ---- a step that looks up, or only reads what was returned

module _ {S T : Type 0} (g : Ghosts S) (mid now : Held S) (result : Result T OfficeFault) where
  pub looks_after : (first : State) → Looks {T = ℕ} first (state g mid) (Ok 0) → LooksAtMost g mid now result → Looks first (state g now) result
  looks_after first before (inl (same, fails)) = looks_then first _ 0 result (subst (λ h. Looks {T = ℕ} first (state g h) (Ok 0)) (sym same) before) fails
  looks_after first before (inr looks) = looks_both first _ _ 0 result before looks

  pub clean_before : LooksAtMost g mid now result → HasCleanDisk (state g now) → HasCleanDisk (state g mid)
  clean_before (inl (same, fails)) clean = subst (λ h. HasCleanDisk (state g h)) same clean
  clean_before (inr looks) clean = omega (arith, looks.clean, clean)

pub goes_on_after : {S T : Type 0} (Known Next : Register → Type 0) (says : Register → T → Type 0) (g : Ghosts S) (old : State) (mid now : Held S) (x : T) → IsKnown Known old (state g mid)
    → LooksAtMost g mid now (Ok x) → Tells g says mid now (Ok x)
    → ((r : Register) → Tables r old.now.trees → IsSound r → Known r → says r x → Next r) → IsKnown Next old (state g now)
goes_on_after Known Next says g old mid now x is looks told next = record {
  looks = looks_other old (state g now) x 0 (looks_after g mid now (Ok x) old is.looks looks);
  known = λ k has r kept sound.
      let here = left_on r old (state g mid) 0 is.looks (clean_before g mid now (Ok x) looks k) has kept in
      next r kept sound (is.known here.clean has r kept sound) (told k here.schema r here.tables sound);
}

pub ends_known : {T : Type 0} (Known : Register → Type 0) (says : Register → T → Type 0) (old now : State) (x : T) → IsKnown Known old now
    → ((r : Register) → Tables r old.now.trees → IsSound r → Known r → says r x) → TellsBetween (λ r x. IsSound r → says r x) old now (Ok x)
ends_known Known says old now x is last k has r kept sound = last r kept sound (is.known k has r kept sound)
