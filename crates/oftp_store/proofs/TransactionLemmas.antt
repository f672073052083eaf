-- Edits in order, in one transaction.
use Rattle.std.proofs.Common.{◌≡◌, ◌↔◌, ◌+◌, ◌<◌, ℕ, List, [], ◌∷◌, ◌++◌, length, take, get_or, false, true, Result, Ok, Err, OnOk, IfErr, IsTrue, inl, inr, refl, sym, ap, subst, ◌∙◌, arith}
use Rattle.std.proofs.lemmas.List.{take_more}
use Rattle.sqlite_trees.specs.declared.store.Store.{Ghosts}
use Rattle.sqlite.specs.Held.{Held, state}
use Rattle.sqlite.specs.Tree.{Trees}
use Rattle.sqlite.specs.State.{HasCleanDisk, IsRolledBack, KeepsCounts, Shows, Survives}
use Rattle.sqlite.specs.Steps.{FailsToCommit}
use Rattle.sqlite.specs.declared.error.Error.{Error}
use Rattle.sqlite.specs.declared.error.Error.TheVariants.{SqliteFailure}
use Rattle.sqlite.specs.declared.error.ErrorCode.TheVariants.{OutOfMemory}
use Rattle.oftp_tables.specs.Transactions.{IsTransactionError, Transacts}
use Rattle.oftp_register.specs.declared.office.OfficeFault.{OfficeFault}
use Rattle.oftp_register.specs.declared.office.OfficeFault.TheVariants.{Memory}
use Rattle.oftp_register.specs.Offices.{IsFailure}
use Rattle.oftp_register.specs.Register.{Register}
use Rattle.oftp_tables.specs.Statements.{IsOffice, Moves, Performs}
use Rattle.oftp_tables.specs.Tables.{Tables}
use Rattle.oftp_tables.proofs.PerformLemmas.{performs_fails, performs_then}
use Rattle.oftp_tables.proofs.RunLemmas.{transacts_ends, transacts_fails}
use Rattle.oftp_store.specs.Commits.{MakesEdits}
use Rattle.oftp_store.specs.Edits.{AreEdited, IsEdited, Makes, MakesAll}
use Rattle.oftp_store.specs.declared.changes.edit.Edit.{Edit}

-- the last of the edits
record EndsWith (edits : List Edit) (edit : Edit) (r s : Register) : Type 0 where
  mid : Register
  first : AreEdited edits r mid
  last : IsEdited edit mid s

ends_with : (edits : List Edit) (edit : Edit) (r s : Register) → AreEdited (edits ++ edit ∷ []) r s → EndsWith edits edit r s
ends_with [] edit r s h = record { mid = r; first = refl; last = subst (IsEdited edit r) h.2 h.1 }
ends_with (x ∷ edits) edit r s h = let more = ends_with edits edit h.0 s h.2 in record { mid = more.mid; first = (h.0, h.1, more.first); last = more.last }

-- one edit more
pub edits_more : (edits : List Edit) (i : ℕ) (edit : Edit) → i < length edits → edit ≡ get_or edits i edit → (a b c : Trees) → MakesAll (take i edits) a b
    → Makes edit.no edit.kind b c → MakesAll (take (i + 1) edits) a c
edits_more edits i edit within item a b c one two r s did kept =
    let all : take (i + 1) edits ≡ take i edits ++ edit ∷ [] = take_more edits i edit within ∙ ap (λ e. take i edits ++ e ∷ []) (sym item) in
    let parts = ends_with (take i edits) edit r s (subst (λ edits. AreEdited edits r s) all did) in
    two parts.mid s parts.last (one r parts.mid parts.first kept)

-- no edit
pub no_edits : (db : Trees) → MakesAll [] db db
no_edits db r s same kept = subst (λ (q : Register). Tables q db) same kept

-- ---- one transaction of several edits

-- it begins and ends
module _ {S : Type 0} (edits : List Edit) (g : Ghosts S) (old begin last end new : Held S) (begun : begin ≡ record old { in_transaction = true }) (same : end ≡ new)
    (over : end.in_transaction ≡ false) where
  -- for an error that is returned as an error of the office
  given_up : (e : Error) (fault : OfficeFault) → Transacts {T = Unit {0}} IsOffice (Moves (MakesAll edits)) (state g old) (state g end) (Err e)
      → (HasCleanDisk (state g end) → IsTransactionError g end e) → IsFailure fault → (fault ≡ Memory) ↔ (e ≡ SqliteFailure OutOfMemory)
      → MakesEdits edits g old new (Err fault)
  given_up e fault did told failure memory = subst (λ h. MakesEdits edits g old h (Err fault)) same (record {
    made = inl (record {
      transacts = record { clean = did.clean; mode = did.mode; done = λ clean is ours. tt; failed = did.failed; left = did.left };
      told = λ clean. (e, told clean, failure, memory);
      failure = failure;
    });
  })

  -- it is committed, as the clause of a commit says
  abbrev pub IsEnded : Type 0
  IsEnded = IsTrue (state g last).in_transaction × Shows (state g last) (state g end) (state g last).now (state g last).now false × KeepsCounts (state g last) (state g end)
      × ((state g end).marks ≡ [])

  -- the edits were made, and the commit was tried
  ends : (result : Result (Unit {0}) Error) → Performs {T = Unit {0}} (MakesAll edits) g begin last (Ok tt)
      → (HasCleanDisk (state g end) → OnOk result IsEnded)
      → (HasCleanDisk (state g end) → IfErr result (FailsToCommit (state g last) (state g end))) → Survives (state g last) (state g end) (λ db. db ≡ (state g last).now.trees)
      → Transacts IsOffice (Moves (MakesAll edits)) (state g old) (state g end) result
  ends result made ok err survives =
      let inside = subst (λ h. Performs {T = Unit {0}} (MakesAll edits) g h last (Ok tt)) begun made in
      transacts_ends IsOffice (Moves (MakesAll edits)) (state g old) (state g last) (state g end) tt result inside.runs over ok err survives

  pub edits_committed : Performs {T = Unit {0}} (MakesAll edits) g begin last (Ok tt) → (HasCleanDisk (state g end) → IsEnded)
      → Survives (state g last) (state g end) (λ db. db ≡ (state g last).now.trees) → MakesEdits edits g old new (Ok tt)
  edits_committed made ok survives =
      let did = ends (Ok tt) made ok (λ clean. tt) survives in
      subst (λ h. MakesEdits edits g old h (Ok tt)) same (record {
        made = inl (record {
          transacts = record { clean = did.clean; mode = did.mode; done = did.done; failed = λ clean is ours. tt; left = did.left };
          told = λ clean. tt;
          failure = tt;
        });
      })

  pub edits_uncommitted : (e : Error) (fault : OfficeFault) → Performs {T = Unit {0}} (MakesAll edits) g begin last (Ok tt)
      → (HasCleanDisk (state g end) → FailsToCommit (state g last) (state g end) e)
      → Survives (state g last) (state g end) (λ db. db ≡ (state g last).now.trees) → IsFailure fault
      → (fault ≡ Memory) ↔ (e ≡ SqliteFailure OutOfMemory) → MakesEdits edits g old new (Err fault)
  edits_uncommitted e fault made err survives = given_up e fault (ends (Err e) made (λ clean. tt) err survives) (λ clean. (last, inr (err clean)))

  -- an edit failed after others, and the transaction was rolled back
  pub edits_rolled_back : (before : Trees → Trees → Type 0) (edit : Edit) (mid : Held S) (e : Error) (fault : OfficeFault) → Performs {T = Unit {0}} before g begin mid (Ok tt)
      → Performs {T = Unit {0}} (Makes edit.no edit.kind) g mid last (Err e) → (HasCleanDisk (state g end) → IsRolledBack (state g last) (state g end))
      → Survives (state g last) (state g end) (λ _. ⊥) → IsFailure fault → (fault ≡ Memory) ↔ (e ≡ SqliteFailure OutOfMemory)
      → MakesEdits edits g old new (Err fault)
  edits_rolled_back before edit mid e fault made failed back survives =
      let both = performs_then g begin mid last before (Makes edit.no edit.kind) (λ a b. Unit {0}) tt (Err e) (λ a b c one two. tt) made failed in
      let inside = subst (λ h. Performs {T = Unit {0}} (MakesAll edits) g h last (Err e)) begun (performs_fails g begin last (λ a b. Unit {0}) (MakesAll edits) e both) in
      given_up e fault (transacts_fails IsOffice (Moves (MakesAll edits)) (state g old) (state g last) (state g end) e e inside.runs over back survives)
      (λ clean. (last, inl (failed.told (omega (arith, survives.clean, clean)))))
