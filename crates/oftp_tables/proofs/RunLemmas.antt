-- How statements make up a transaction.
use Rattle.std.proofs.Common.{◌≡◌, ◌≤◌, ◌∙◌, ℕ, List, [], true, false, Result, Ok, Err, IfErr, OnOk, OnErr, IsTrue, inl, inr, refl, sym, subst, arith}
use Rattle.sqlite_trees.specs.declared.store.Store.{Ghosts}
use Rattle.sqlite.specs.Held.{Held, state}
use Rattle.sqlite.specs.Effect.{Database}
use Rattle.sqlite.specs.Steps.{FailsToCommit}
use Rattle.sqlite.specs.View.{doubt}
use Rattle.sqlite.proofs.StateLemmas.{survives_then}
use Rattle.std.proofs.lemmas.Bool.{cases_Bool}
use Rattle.std.proofs.lemmas.Result.{on_ok_weaker, on_err_weaker}
use Rattle.sqlite.specs.Order.{Row}
use Rattle.sqlite.specs.declared.error.Error.{Error}
use Rattle.sqlite.specs.declared.error.Error.TheVariants.{SqliteFailure}
use Rattle.sqlite.specs.declared.error.ErrorCode.TheVariants.{TransactionState}
use Rattle.sqlite.specs.State.{State, ExecutesInside, HasCleanDisk, IsRolledBack, KeepsCommit, KeepsCounts, Shows, Survives}
use Rattle.oftp_tables.proofs.ConnectionLemmas.{on_ok, on_err}
use Rattle.oftp_tables.specs.Transactions.{IsInside, IsSpared, IsStatementError, IsTransactionError, IsUndone, Runs, StaysInside, Transacts}

pub spared_keeps : (old new : State) → IsSpared old new → KeepsCommit old new
spared_keeps old new (inl same) = record { was_open = λ _. same.0.was_open; committed = λ _. same.0.committed_is }
spared_keeps old new (inr undone) = record { was_open = undone.was_open; committed = λ h. (undone.undone h).1 }

inside_err : (sql : List ℕ) (params : Row) (old new : State) (e : Error) → ExecutesInside 0 sql params old new (Err e) → KeepsCommit old new
inside_err sql params old new e (inl h) = spared_keeps old new h.1
inside_err sql params old new e (inr h) = record { was_open = λ _. h.2.0.was_open; committed = λ _. h.2.0.committed_is }

-- a failed statement, in a transaction or past its end
pub keeps_on : (sql : List ℕ) (params : Row) (old new : State) (result : Result ℕ Error) → (old.in_transaction ≡ false → KeepsCommit old new)
    → (IsTrue old.in_transaction → ExecutesInside 0 sql params old new result) → OnErr result (KeepsCommit old new)
keeps_on sql params old new (Ok count) ended runs = tt
keeps_on sql params old new (Err e) ended runs =
    elim (cases_Bool old.in_transaction) [
      | inl inside ↦ inside_err sql params old new e (runs inside)
      | inr past ↦ ended past
    ]

-- a statement that ran did so in a transaction
pub ran_on : (sql : List ℕ) (params : Row) (old new : State) (result : Result ℕ Error) (e : Error) (P : Type 0) → (old.in_transaction ≡ false → result ≡ Err e)
    → (IsTrue old.in_transaction → ExecutesInside 0 sql params old new result)
    → ((count : ℕ) → ExecutesInside 0 sql params old new (Ok count) → P) → OnOk result P
ran_on sql params old new (Err e) other P ended runs then = tt
ran_on sql params old new (Ok count) e P ended runs then =
    elim (cases_Bool old.in_transaction) [
      | inl inside ↦ then count (runs inside)
      | inr past ↦ absurd (let no_such = ended past in cc)
    ]

-- the error of a statement
pub tells : {S : Type 0} (g : Ghosts S) (sql : List ℕ) (params : Row) (old new : Held S) (result : Result ℕ Error)
    → ((state g old).in_transaction ≡ false → (result ≡ Err (SqliteFailure TransactionState)) × (new ≡ old))
    → (IsTrue (state g old).in_transaction → ExecutesInside 0 sql params (state g old) (state g new) result) → IfErr result (IsStatementError g new)
tells g sql params old new (Ok count) ended runs = tt
tells g sql params old new (Err e) ended runs =
    elim (cases_Bool (state g old).in_transaction) [
      | inl inside ↦ inr (old, sql, params, runs inside)
      | inr past ↦ inl (let is = (ended past).0 in cc)
    ]

-- the error of a transaction that was rolled back after a failure
pub tells_after : {S U : Type 0} (g : Ghosts S) (last new : Held S) (result : Result U Error) (e : Error) → result ≡ Err e → (HasCleanDisk (state g last) → IsStatementError g last e)
    → doubt (state g last).is_clean ≤ doubt (state g new).is_clean → HasCleanDisk (state g new) → IfErr result (IsTransactionError g new)
tells_after g last new result e is told sure clean = rw is (last, inl (told (omega (arith, sure, clean))))

-- the error of the end of a transaction
pub tells_at_end : {S : Type 0} (g : Ghosts S) (last new : Held S) (result : Result (Unit {0}) Error) → IfErr result (FailsToCommit (state g last) (state g new))
    → IfErr result (IsTransactionError g new)
tells_at_end g last new (Ok x) h = tt
tells_at_end g last new (Err e) h = (last, inr h)

-- one part of a transaction and then another
pub stays_then : (a b c : State) → StaysInside a b → StaysInside b c → StaysInside a c
stays_then a b c one two = record { was_open = one.was_open; is_open = two.is_open; now_is = refl; committed_is = two.committed_is ∙ one.committed_is; mode = two.mode }

pub stays_keeps : (a b c : State) → StaysInside a b → KeepsCommit b c → KeepsCommit a c
stays_keeps a b c one two = record { was_open = λ h. one.was_open; committed = λ h. two.committed h ∙ one.committed_is }

-- where a statement failed, the drop of the transaction rolls it back
pub dropped : (old last new : State) → KeepsCommit old last → IsRolledBack last new → IsUndone old new
dropped old last new kept back = record {
  was_open = λ h. kept.was_open (back.was_open h);
  undone = λ h. let same = kept.committed (back.was_open h) in ((back.undone h).0 ∙ same, (back.undone h).1 ∙ same);
}

-- ---- statements in order

-- one statement
pub statement_runs : {S : Type 0} (g : Ghosts S) (old new : Held S) (Before : Database → Type 0) (Made : Database → Database → Type 0)
    (sql : List ℕ) (params : Row) (e : Error) (result : Result ℕ Error) → ((state g old).in_transaction ≡ false → (result ≡ Err e) × (new ≡ old))
    → (HasCleanDisk (state g new) → IsTrue (state g old).in_transaction → ExecutesInside 0 sql params (state g old) (state g new) result)
    → Survives (state g old) (state g new) (λ _. ⊥)
    → ((count : ℕ) → Before (state g old).now → ExecutesInside 0 sql params (state g old) (state g new) (Ok count) → Made (state g old).now (state g new).now)
    → Runs Before Made (state g old) (state g new) result
statement_runs g old new Before Made sql params e result ended runs survives made = record {
  done = λ clean within before. ran_on sql params (state g old) (state g new) result e _ (λ past. (ended past).0) (runs clean) (λ count h. (made count before h, h.1));
  failed = λ clean within before. keeps_on sql params (state g old) (state g new) result (λ past. kept (ended past).1) (runs clean);
  survives = survives;
}
  where
    kept : new ≡ old → KeepsCommit (state g old) (state g new)
    kept is = rw is (record { was_open = λ h. h; committed = λ h. refl })

-- if more was known before, and as much was made
pub runs_weaker : {T E : Type 0} (Before Known : Database → Type 0) (Made Then : Database → Database → Type 0) (old new : State) (result : Result T E) → ((d : Database) → Known d → Before d)
    → ((d e : Database) → Known d → Made d e → Then d e) → Runs Before Made old new result → Runs Known Then old new result
runs_weaker Before Known Made Then old new result knows makes one = record {
  done = λ clean within known. on_ok_weaker result (λ made. (makes old.now new.now known made.0, made.1)) (one.done clean within (knows old.now known));
  failed = λ clean within known. one.failed clean within (knows old.now known);
  survives = one.survives;
}

-- no statement
pub nothing_runs : {T E : Type 0} (Before : Database → Type 0) (Made : Database → Database → Type 0) (s : State) (result : Result T E) → ((d : Database) → Before d → Made d d)
    → Runs Before Made s s result
nothing_runs Before Made s result made = record {
  done = λ clean within before. on_ok result _ (made s.now before, record { was_open = within.is_open; is_open = within.is_open; now_is = refl; committed_is = refl; mode = within.inside });
  failed = λ clean within before. on_err result _ (record { was_open = λ h. h; committed = λ h. refl });
  survives = record { clean = omega arith; shield = λ is. is; counts = omega arith; limit = refl; closes = λ clean is. inl is; crash = λ clean db left. inl left };
}

-- some statements and then others
pub runs_then : {T U E F : Type 0} (Before Between : Database → Type 0) (First Next Both : Database → Database → Type 0) (a b c : State) (x : T) (result : Result U F)
    → ((d e : Database) → Before d → First d e → Between e) → ((d e f : Database) → First d e → Next e f → Both d f)
    → Runs {E = E} Before First a b (Ok x) → Runs Between Next b c result → Runs Before Both a c result
runs_then Before Between First Next Both a b c x result so both one two = record {
  done = λ clean within before.
      let first = one.done (earlier clean) within before in
      on_ok_weaker result (λ next. (both a.now b.now c.now first.0 next.0, stays_then a b c first.1 next.1)) (two.done clean (inside first.1) (so a.now b.now before first.0));
  failed = λ clean within before.
      let first = one.done (earlier clean) within before in
      on_err_weaker result (stays_keeps a b c first.1) (two.failed clean (inside first.1) (so a.now b.now before first.0));
  survives = survives_then a b c _ _ (λ _. ⊥) (λ _ db none. none) (λ _ db none. none) one.survives two.survives;
}
  where
    earlier : HasCleanDisk c → HasCleanDisk b
    earlier clean = omega (arith, two.survives.clean, clean)

    inside : StaysInside a b → IsInside b
    inside stays = record { is_open = stays.is_open; inside = stays.mode }

-- whatever their results
pub runs_whatever : {T U E F : Type 0} (Before : Database → Type 0) (Made : Database → Database → Type 0) (old new : State) (x : T) (y : U) → Runs {E = E} Before Made old new (Ok x)
    → Runs {E = F} Before Made old new (Ok y)
runs_whatever Before Made old new x y one = record { done = one.done; failed = λ clean within before. tt; survives = one.survives }

-- the first of them failed
pub runs_fails : {T U E F : Type 0} (Before : Database → Type 0) (Made Other : Database → Database → Type 0) (old new : State) (e : E) (f : F) → Runs {T = T} Before Made old new (Err e)
    → Runs {T = U} Before Other old new (Err f)
runs_fails Before Made Other old new e f one = record { done = λ clean within before. tt; failed = one.failed; survives = one.survives }

-- ---- the transaction

module _ (Before : Database → Type 0) (Made : Database → Database → Type 0) (old last new : State) where
  begun : IsTrue old.is_open → IsInside (record old { in_transaction = true })
  begun is = record { is_open = is; inside = refl }

  -- it was rolled back after a failure
  pub transacts_fails : {T U E F : Type 0} (e : E) (f : F) → Runs {T = T} Before Made (record old { in_transaction = true }) last (Err e)
      → new.in_transaction ≡ false → (HasCleanDisk new → IsRolledBack last new) → Survives last new (λ _. ⊥) → Transacts {T = U} Before Made old new (Err f)
  transacts_fails e f inside mode back survives = record {
    clean = omega (arith, inside.survives.clean, survives.clean);
    mode = mode;
    done = λ clean within before. tt;
    failed = λ clean within before. undone (inside.failed (earlier clean) (begun within) before) (back clean);
    left = λ clean within before db h. elim (survives.crash clean db h) [
      | inl then ↦ elim (inside.survives.crash (earlier clean) db then) [ inl first ↦ inl first | inr none ↦ absurd none ]
      | inr none ↦ absurd none
    ];
  }
    where
      earlier : HasCleanDisk new → HasCleanDisk last
      earlier clean = omega (arith, survives.clean, clean)

      undone : KeepsCommit (record old { in_transaction = true }) last → IsRolledBack last new → IsUndone old new
      undone kept back = let it = dropped (record old { in_transaction = true }) last new kept back in record { was_open = it.was_open; undone = it.undone }

  -- its commit was tried
  pub transacts_ends : {T E : Type 0} (x : T) (result : Result (Unit {0}) Error) → Runs {E = E} Before Made (record old { in_transaction = true }) last (Ok x) → new.in_transaction ≡ false
      → (HasCleanDisk new → OnOk result (IsTrue last.in_transaction × Shows last new last.now last.now false × KeepsCounts last new × (new.marks ≡ [])))
      → (HasCleanDisk new → IfErr result (FailsToCommit last new)) → Survives last new (λ db. db ≡ last.now.trees) → Transacts Before Made old new result
  transacts_ends x result inside mode ok err survives = record {
    clean = omega (arith, inside.survives.clean, survives.clean);
    mode = mode;
    done = λ clean within before. let made = inside.done (earlier clean) (begun within) before in on_ok_weaker result (λ h. ended made.0 made.1 h.1) (ok clean);
    failed = λ clean within before. fails result (inside.done (earlier clean) (begun within) before).1 (err clean);
    left = λ clean within before db h. elim (survives.crash clean db h) [
      | inl then ↦ elim (inside.survives.crash (earlier clean) db then) [ inl first ↦ inl first | inr none ↦ absurd none ]
      | inr is ↦ inr (last.now, (inside.done (earlier clean) (begun within) before).0, is)
    ];
  }
    where
      earlier : HasCleanDisk new → HasCleanDisk last
      earlier clean = omega (arith, survives.clean, clean)

      ended : Made old.now last.now → StaysInside (record old { in_transaction = true }) last → Shows last new last.now last.now false → Made old.now new.now × Shows old new new.now new.now false
      ended made stays shown = (
        subst (Made old.now) (sym shown.now_is) made,
        record { was_open = stays.was_open; is_open = shown.is_open; now_is = refl; committed_is = shown.committed_is ∙ sym shown.now_is; mode = shown.mode },
      )

      fails : (result : Result (Unit {0}) Error) → StaysInside (record old { in_transaction = true }) last → IfErr result (FailsToCommit last new) → OnErr result (IsUndone old new)
      fails (Ok done) stays h = tt
      fails (Err e) stays (inl failed) =
          let back = failed.3 in
          record { was_open = λ h. stays.was_open; undone = λ h. ((back.undone h).0 ∙ stays.committed_is, (back.undone h).1 ∙ stays.committed_is) }
      fails (Err e) stays (inr past) = absurd (let no_such = sym stays.mode ∙ past.1 in cc)
