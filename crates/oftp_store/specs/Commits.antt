-- What a change does to a connection.
use Rattle.std.specs.Prelude.{◌≡◌, ◌≤◌, ◌⊎◌, ℕ, List, All, Option, Some, None, Result, Ok, Err, OnOk, OnErr, IfErr, IsTrue, Bool, false}
use Rattle.sqlite.specs.Tree.{Trees}
use Rattle.sqlite.specs.View.{doubt}
use Rattle.sqlite.specs.Held.{Held, state}
use Rattle.sqlite.specs.State.{State, HasCleanDisk}
use Rattle.sqlite_trees.specs.declared.store.Store.{Ghosts}
use Rattle.oftp_vfile.specs.declared.limits.Limits.{Limits}
use Rattle.oftp_register.specs.declared.change.Change.{Change}
use Rattle.oftp_register.specs.declared.change.Cause.TheVariants.{Unknown, State as Unfit}
use Rattle.oftp_register.specs.declared.office.OfficeFault.{OfficeFault}
use Rattle.oftp_register.specs.declared.office.OfficeFault.TheVariants.{Store}
use Rattle.oftp_register.specs.Register.{Register}
use Rattle.oftp_register.specs.Changes.{apply}
use Rattle.oftp_register.specs.Soundness.{IsFit, IsSound}
use Rattle.oftp_register.specs.Offices.{IsFailure, IsRefused}
use Rattle.oftp_tables.specs.Transactions.{IsTransactionError, Transacts}
use Rattle.oftp_tables.specs.Statements.{IsFaultOf, IsOffice, Looks, Moves}
use Rattle.oftp_tables.specs.Tables.{register_in}
use Rattle.oftp_tables.specs.Stands.{IsContentOf, Stands}
use Rattle.oftp_store.specs.Causes.{HasCommitCause}
use Rattle.oftp_store.specs.Edits.{IsStorable, MakesAll}
use Rattle.oftp_store.specs.declared.changes.edit.Edit.{Edit}

-- Within these limits the change is made, or it is refused for its cause, or the store failed. In the last case the register is
-- unchanged if the connection is open. After a crash the change is made or not made.
pub record CommitsOn {T : Type 0} (limits : Limits) (change : Change) (old new : State) (result : Result T OfficeFault) : Type 0 where
  pub clean : doubt old.is_clean ≤ doubt new.is_clean
  pub mode : old.in_transaction ≡ false → new.in_transaction ≡ false
  pub done : HasCleanDisk new → Stands limits old → IsFit (register_in limits old.now.trees) change
      → OnOk result ((apply (register_in limits old.now.trees) change ≡ Ok (register_in limits new.now.trees)) × Stands limits new)
  pub refused : HasCleanDisk new → Stands limits old → IsRefused (apply (register_in limits old.now.trees) change) result (Stands limits new)
  pub same : HasCleanDisk new → Stands limits old → OnErr result (IsTrue new.is_open → register_in limits new.now.trees ≡ register_in limits old.now.trees)
  pub left : HasCleanDisk new → Stands limits old → IsFit (register_in limits old.now.trees) change → (db : Trees) → new.may_leave db
      → old.may_leave db ⊎ ((r : Register) × (apply (register_in limits old.now.trees) change ≡ Ok r) × IsContentOf db r)

-- A change is committed, and if the store failed, there is a cause.
pub record MakesChange {S : Type 0} (g : Ghosts S) (limits : Limits) (change : Change) (old new : Held S) (result : Result (Unit {0}) OfficeFault) : Type 0 where
  pub commits : CommitsOn limits change (state g old) (state g new) result
  pub told : IfErr result (HasCommitCause g limits change old new)

-- Edits run in one transaction: all of them are committed, or none is.
pub record AreCarriedOut {S : Type 0} (edits : List Edit) (g : Ghosts S) (old new : Held S) (result : Result (Unit {0}) OfficeFault) : Type 0 where
  pub transacts : Transacts IsOffice (Moves (MakesAll edits)) (state g old) (state g new) result
  pub told : HasCleanDisk (state g new) → IfErr result (IsFaultOf (IsTransactionError g new))
  pub failure : IfErr result IsFailure

-- What edits do to a connection. If the database can't store one of them, the call fails and does nothing.
pub record MakesEdits {S : Type 0} (edits : List Edit) (g : Ghosts S) (old new : Held S) (result : Result (Unit {0}) OfficeFault) : Type 0 where
  pub made : AreCarriedOut edits g old new result ⊎ ((¬ All IsStorable edits) × (result ≡ Err Store) × (new ≡ old))

-- ---- the file that a change names

-- a look-up finds the file with a number, and returns this of it
pub record Finds {S A : Type 0} (g : Ghosts S) (told : Register → ℕ → Option A → Type 0) (n : ℕ) (old new : Held S) (file : A) : Type 0 where
  pub looks : Looks (state g old) (state g new) (Ok (Some file))
  pub answer : HasCleanDisk (state g new) → (limits : Limits) → Stands limits (state g old) → told (register_in limits (state g old).now.trees) n (Some file)

-- a change of a file that doesn't exist is refused as unknown, in a sound register
pub record NeedsFile {A : Type 0} (told : Register → ℕ → Option A → Type 0) (n : ℕ) (change : Change) : Type 0 where
  pub unknown : (r : Register) → IsSound r → told r n None → apply r change ≡ Err Unknown

-- where what was read of the file doesn't fit, the change is refused for the file's state
pub record NeedsFit {A : Type 0} (told : Register → ℕ → Option A → Type 0) (fits : A → Bool) (n : ℕ) (change : Change) : Type 0 where
  pub unknown : (r : Register) → IsSound r → told r n None → apply r change ≡ Err Unknown
  pub unfit : (r : Register) (file : A) → IsSound r → told r n (Some file) → fits file ≡ false → apply r change ≡ Err Unfit

-- the look-ups end, with this error, the commit of every change that needs them
abbrev pub EndsCommit : {S : Type 0} → Ghosts S → Limits → (Change → Type 0) → Held S → Held S → OfficeFault → Type 0
EndsCommit g limits Needs old new fault = (change : Change) → Needs change → MakesChange g limits change old new (Err fault)
