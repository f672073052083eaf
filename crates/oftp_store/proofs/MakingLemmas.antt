-- How a change ends: with its look-ups, or with its edits.
use Rattle.std.proofs.Common.{◌≡◌, ◌⊎◌, ℕ, List, All, Bool, true, false, Option, Some, None, Result, Ok, Err, IfErr, inl, inr, sym, subst, ◌∙◌, arith}
use Rattle.std.specs.Result.{IsErrAnd}
use Rattle.sqlite.specs.Held.{Held, state}
use Rattle.sqlite.specs.State.{HasCleanDisk}
use Rattle.sqlite.specs.Tree.{Trees}
use Rattle.sqlite_trees.specs.declared.store.Store.{Ghosts}
use Rattle.oftp_vfile.specs.declared.limits.Limits.{Limits}
use Rattle.oftp_register.specs.declared.change.Cause.{Cause}
use Rattle.oftp_register.specs.declared.change.Cause.TheVariants.{Unknown, State as Unfit}
use Rattle.oftp_register.specs.declared.change.Change.{Change}
use Rattle.oftp_register.specs.declared.office.OfficeFault.{OfficeFault}
use Rattle.oftp_register.specs.declared.office.OfficeFault.TheVariants.{Store, Memory, Refused}
use Rattle.oftp_register.specs.Register.{Register}
use Rattle.oftp_register.specs.Changes.{apply}
use Rattle.oftp_tables.specs.Stands.{Stands}
use Rattle.oftp_tables.specs.Statements.{Looks}
use Rattle.oftp_tables.specs.Tables.{Tables, register_in}
use Rattle.oftp_store.specs.Causes.{HasCause, HasCommitCause, reading, size, writing}
use Rattle.oftp_store.specs.Commits.{AreCarriedOut, EndsCommit, Finds, MakesChange, MakesEdits, NeedsFile, NeedsFit}
use Rattle.oftp_store.specs.Edits.{IsStorable}
use Rattle.oftp_store.specs.declared.changes.edit.Edit.{Edit}
use Rattle.oftp_store.proofs.CommitLemmas.{IsMadeBy, IsOfFile, commits_beyond, commits_by, commits_failed, commits_refused, made_fit, needs_file, needs_fit}

-- ---- any change

-- a refusal needs no cause
refused_told : {S : Type 0} (g : Ghosts S) (limits : Limits) (change : Change) (old new : Held S) (cause : Cause) → HasCommitCause g limits change old new (Refused cause)
refused_told g limits change old new cause = record { cause = λ is. absurd (let no_such = is in cc) }

-- the cause of a look-up is one of the change
look_told : {S : Type 0} (g : Ghosts S) (limits : Limits) (change : Change) (old new : Held S) (fault : OfficeFault) → HasCause g old new fault → HasCommitCause g limits change old new fault
look_told g limits change old new fault told = record { cause = λ is clean stands. reading (told.cause is clean limits stands) }

-- a look-up of it failed
change_failed : {S A : Type 0} (g : Ghosts S) (limits : Limits) (change : Change) (old new : Held S) (fault : OfficeFault) → Looks {T = A} (state g old) (state g new) (Err fault)
    → HasCause g old new fault → MakesChange g limits change old new (Err fault)
change_failed g limits change old new fault looks told = record {
  commits = commits_failed limits change (state g old) (state g new) fault looks;
  told = look_told g limits change old new fault told;
}

-- the register refuses it, as its look-ups tell
pub change_refused : {S A : Type 0} (g : Ghosts S) (limits : Limits) (change : Change) (old new : Held S) (x : A) (cause : Cause) → Looks (state g old) (state g new) (Ok x)
    → (HasCleanDisk (state g new) → Stands limits (state g old) → apply (register_in limits (state g old).now.trees) change ≡ Err cause)
    → MakesChange g limits change old new (Err (Refused cause))
change_refused g limits change old new x cause looks refuses = record {
  commits = commits_refused limits change (state g old) (state g new) x cause looks refuses;
  told = refused_told g limits change old new cause;
}

-- its edits failed
edits_told : {S A : Type 0} (g : Ghosts S) (edits : List Edit) (limits : Limits) (change : Change) (old mid new : Held S) (x : A) (result : Result (Unit {0}) OfficeFault)
    → Looks (state g old) (state g mid) (Ok x) → (HasCleanDisk (state g mid) → Stands limits (state g old) → IsMadeBy edits (register_in limits (state g old).now.trees) change)
    → MakesEdits edits g mid new result → IfErr result (HasCommitCause g limits change old new)
edits_told {S = S} g edits limits change old mid new x result looks by makes = go result makes.made
  where
    go : (r : Result (Unit {0}) OfficeFault) → AreCarriedOut edits g mid new r ⊎ ((¬ All IsStorable edits) × (r ≡ Err Store) × (new ≡ mid)) → IfErr r (HasCommitCause g limits change old new)
    go (Ok y) did = tt
    go (Err fault) (inl carried) = record {
      cause = λ is clean stands.
          let f = carried.told clean in
          let m = by (omega (arith, carried.transacts.clean, clean)) stands in
          writing m.now f.0 m.is f.1 (λ memory. let no_such : Store ≡ Memory = sym is ∙ f.3.1 memory in cc);
    }
    go (Err fault) (inr unstored) = record {
      cause = λ is clean stands. let m = by (subst (λ (h : Held S). HasCleanDisk (state g h)) unstored.2 clean) stands in size edits m.now m.is m.edited unstored.0;
    }

-- its edits make it, or fail
pub change_edited : {S A : Type 0} (g : Ghosts S) (edits : List Edit) (limits : Limits) (change : Change) (old mid new : Held S) (x : A) (result : Result (Unit {0}) OfficeFault)
    → Looks (state g old) (state g mid) (Ok x) → (HasCleanDisk (state g mid) → Stands limits (state g old) → IsMadeBy edits (register_in limits (state g old).now.trees) change)
    → MakesEdits edits g mid new result → MakesChange g limits change old new result
change_edited g edits limits change old mid new x result looks by makes = record {
  commits = commits_by g edits limits change old mid new x result looks by makes;
  told = edits_told g edits limits change old mid new x result looks by makes;
}

-- an error that `?` passes on ends it
change_passed : {S : Type 0} (g : Ghosts S) (limits : Limits) (change : Change) (old new : Held S) (fault : OfficeFault) (result : Result (Unit {0}) OfficeFault)
    → MakesChange g limits change old new (Err fault) → IsErrAnd result (λ (x : OfficeFault). x ≡ fault) → MakesChange g limits change old new result
change_passed g limits change old new fault (Ok x) ends is = absurd is
change_passed g limits change old new fault (Err x) ends is = subst (λ (f : OfficeFault). MakesChange g limits change old new (Err f)) (sym is) ends

-- that of a look-up
pub change_unread : {S A : Type 0} (g : Ghosts S) (limits : Limits) (change : Change) (old new : Held S) (fault : OfficeFault) (result : Result (Unit {0}) OfficeFault)
    → Looks {T = A} (state g old) (state g new) (Err fault) → HasCause g old new fault → IsErrAnd result (λ (x : OfficeFault). x ≡ fault) → MakesChange g limits change old new result
change_unread g limits change old new fault result looks told is = change_passed g limits change old new fault result (change_failed g limits change old new fault looks told) is

-- ---- the look-ups of the file that a change names by its number

-- they failed
pub ends_failed : {S A B : Type 0} (g : Ghosts S) (limits : Limits) (told : Register → ℕ → Option A → Type 0) (n : ℕ) (old new : Held S) (fault : OfficeFault) (result : Result B OfficeFault)
    → Looks {T = Option A} (state g old) (state g new) (Err fault) → HasCause g old new fault → IsErrAnd result (λ (x : OfficeFault). x ≡ fault)
    → IfErr result (EndsCommit g limits (NeedsFile told n) old new)
ends_failed g limits told n old new fault (Ok x) looks cause is = absurd is
ends_failed g limits told n old new fault (Err x) looks cause is = λ change needs.
    subst (λ (f : OfficeFault). MakesChange g limits change old new (Err f)) (sym is) (change_failed g limits change old new fault looks cause)

-- there is no such file
pub ends_unknown : {S A B : Type 0} (g : Ghosts S) (limits : Limits) (told : Register → ℕ → Option A → Type 0) (n : ℕ) (old new : Held S) (x : B) → Looks (state g old) (state g new) (Ok x)
    → (HasCleanDisk (state g new) → Stands limits (state g old) → told (register_in limits (state g old).now.trees) n None) → EndsCommit g limits (NeedsFile told n) old new (Refused Unknown)
ends_unknown g limits told n old new x looks none change needs =
    change_refused g limits change old new x Unknown looks (λ k stands. needs.unknown _ stands.holds.sound (none k stands))

-- nor can there be one
pub ends_beyond : {S A : Type 0} (g : Ghosts S) (limits : Limits) (told : Register → ℕ → Option A → Type 0) (n : ℕ) (conn : Held S)
    → ((r : Register) (db : Trees) → Tables r db → told r n None) → EndsCommit g limits (NeedsFile told n) conn conn (Refused Unknown)
ends_beyond g limits told n conn none change needs = record {
  commits = commits_beyond limits told n change (state g conn) none needs;
  told = refused_told g limits change conn conn Unknown;
}

-- the file exists, and what was read of it doesn't fit
pub ends_unfit : {S A : Type 0} (g : Ghosts S) (limits : Limits) (told : Register → ℕ → Option A → Type 0) (fits : A → Bool) (n : ℕ) (old new : Held S) (file : A)
    → Finds g told n old new file → fits file ≡ false → EndsCommit g limits (NeedsFit told fits n) old new (Refused Unfit)
ends_unfit g limits told fits n old new file finds unfit change needs =
    change_refused g limits change old new (Some file) Unfit finds.looks (λ k stands. needs.unfit _ file stands.holds.sound (finds.answer k limits stands) unfit)

pub ends_unfound : {S A : Type 0} (g : Ghosts S) (limits : Limits) (told : Register → ℕ → Option A → Type 0) (fits : A → Bool) (n : ℕ) (old new : Held S) (fault : OfficeFault)
    → EndsCommit g limits (NeedsFile told n) old new fault → EndsCommit g limits (NeedsFit told fits n) old new fault
ends_unfound g limits told fits n old new fault ends change needs = ends change (record { unknown = needs.unknown })

-- ---- the changes of a file by its number

-- How such a change ends: with an error of the look-up, or because there is no such file. The same for look-up and test together. It also
-- ends with the refusal of a file that doesn't fit; or with its edits.

pub made_unfound : {S A : Type 0} {g : Ghosts S} {limits : Limits} {told : Register → ℕ → Option A → Type 0} {fits : A → Bool} {edits : A → List Edit} {n : ℕ} {change : Change}
    {old new : Held S} {fault : OfficeFault} {result : Result (Unit {0}) OfficeFault} → IsOfFile told fits edits n change → EndsCommit g limits (NeedsFile told n) old new fault
    → IsErrAnd result (λ (x : OfficeFault). x ≡ fault) → MakesChange g limits change old new result
made_unfound {fault = fault} is ends passed = change_passed _ _ _ _ _ fault _ (ends _ (needs_file _ _ _ _ _ is)) passed

pub made_unopened : {S A : Type 0} {g : Ghosts S} {limits : Limits} {told : Register → ℕ → Option A → Type 0} {fits : A → Bool} {edits : A → List Edit} {n : ℕ} {change : Change}
    {old new : Held S} {fault : OfficeFault} {result : Result (Unit {0}) OfficeFault} → IsOfFile told fits edits n change → EndsCommit g limits (NeedsFit told fits n) old new fault
    → IsErrAnd result (λ (x : OfficeFault). x ≡ fault) → MakesChange g limits change old new result
made_unopened {fault = fault} is ends passed = change_passed _ _ _ _ _ fault _ (ends _ (needs_fit _ _ _ _ _ is)) passed

pub made_unfit : {S A : Type 0} {g : Ghosts S} {limits : Limits} {told : Register → ℕ → Option A → Type 0} {fits : A → Bool} {edits : A → List Edit} {n : ℕ} {change : Change}
    {old new : Held S} {file : A} → IsOfFile told fits edits n change → Finds g told n old new file → fits file ≡ false
    → MakesChange g limits change old new (Err (Refused Unfit))
made_unfit {g = g} {limits = limits} {old = old} {new = new} is finds unfit = ends_unfit g limits _ _ _ old new _ finds unfit _ (needs_fit _ _ _ _ _ is)

pub made_by_edits : {S A : Type 0} {g : Ghosts S} {limits : Limits} {told : Register → ℕ → Option A → Type 0} {fits : A → Bool} {edits : A → List Edit} {n : ℕ} {change : Change}
    {old mid new : Held S} {file : A} {result : Result (Unit {0}) OfficeFault} → IsOfFile told fits edits n change → Finds g told n old mid file → fits file ≡ true
    → MakesEdits (edits file) g mid new result → MakesChange g limits change old new result
made_by_edits {g = g} {limits = limits} {old = old} {mid = mid} {new = new} {file = file} is finds fit makes =
    change_edited g _ limits _ old mid new (Some file) _ finds.looks (λ k stands. made_fit is (finds.answer k limits stands) fit stands.holds.sound) makes
