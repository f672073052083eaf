-- How look-ups and a transaction make up a commit.
use Rattle.std.proofs.Common.{ℕ, List, All, ◌≡◌, ◌≤◌, ◌⊎◌, Bool, true, false, cond, Option, Some, None, Result, Ok, Err, IsTrue, OnOk, OnErr, IfErr, inl, inr, refl, sym, ap, subst, ◌∙◌, arith}
use Rattle.std.specs.Result.{IsErrAnd}
use Rattle.sqlite.specs.Tree.{Trees}
use Rattle.sqlite.specs.Effect.{Database}
use Rattle.sqlite.specs.View.{doubt}
use Rattle.sqlite.specs.Held.{Held, state}
use Rattle.sqlite.specs.State.{State, HasCleanDisk, IsUnchanged, Shows}
use Rattle.sqlite_trees.specs.declared.store.Store.{Ghosts}
use Rattle.sqlite_catalog.specs.Listing.{IsSound as IsSoundStore}
use Rattle.sqlite.proofs.Callers.{unchanged_then}
use Rattle.oftp_vfile.specs.declared.limits.Limits.{Limits}
use Rattle.oftp_register.specs.declared.change.Change.{Change}
use Rattle.oftp_register.specs.declared.change.Cause.{Cause}
use Rattle.oftp_register.specs.declared.change.Cause.TheVariants.{Unknown, State as Unfit}
use Rattle.oftp_register.specs.declared.office.OfficeFault.{OfficeFault}
use Rattle.oftp_register.specs.declared.office.OfficeFault.TheVariants.{Store, Memory, Refused}
use Rattle.oftp_register.specs.Register.{Register}
use Rattle.oftp_register.specs.Changes.{apply}
use Rattle.oftp_register.specs.Soundness.{IsFit, IsSound}
use Rattle.oftp_register.specs.Offices.{IsFailure, IsRefused}
use Rattle.oftp_tables.specs.Schema.{office_schema}
use Rattle.oftp_tables.specs.Transactions.{IsSpared, IsUndone, MayLeave}
use Rattle.oftp_tables.specs.Tables.{Tables, register_in}
use Rattle.oftp_tables.specs.Stands.{Holds, IsContentOf, Stands}
use Rattle.oftp_tables.specs.Statements.{IsOffice, Looks, Moves}
use Rattle.oftp_store.specs.Commits.{AreCarriedOut, CommitsOn, MakesEdits, NeedsFile, NeedsFit}
use Rattle.oftp_store.specs.Edits.{AreEdited, IsStorable, MakesAll}
use Rattle.oftp_store.specs.declared.changes.edit.Edit.{Edit}
use Rattle.oftp_register.proofs.KeepLemmas.{apply_keeps}
use Rattle.oftp_tables.proofs.BackLemmas.{register_of}

-- ---- look-ups

pub stands_same : (limits : Limits) (old new : State) → Stands limits old → IsUnchanged old new → Stands limits new
stands_same limits old new stands same = record {
  is_open = same.0.is_open;
  autocommit = same.0.mode ∙ stands.autocommit;
  settled = same.0.now_is ∙ stands.settled ∙ sym same.0.committed_is;
  holds = subst (Holds limits) (sym same.0.now_is) stands.holds;
}

pub spared_same : (limits : Limits) (old new : State) → Stands limits old → IsSpared old new → IsTrue new.is_open → new.now ≡ old.now
spared_same limits old new stands (inl same) h = same.0.now_is
spared_same limits old new stands (inr undone) h = (undone.undone h).0 ∙ sym stands.settled

abbrev pub register_at : Limits → Database → Register
register_at limits d = register_in limits d.trees

-- one look-up after another
pub looks_both : {A B : Type 0} (a b c : State) (x : A) (result : Result B OfficeFault) → Looks a b (Ok x) → Looks b c result → Looks a c result
looks_both {B = B} a b c x result one two = record {
  clean = omega (arith, one.clean, two.clean);
  mode = λ h. two.mode (one.mode h);
  same = λ k has. on_ok_then result (λ same. unchanged_then a b c (one.same (before k) has) same) (two.same k (ours k has));
  failed = λ k has. on_err_then result (λ spared. after (one.same (before k) has) spared) (two.failed k (ours k has));
  left = λ k has db h. one.left (before k) has db (two.left k (ours k has) db h);
  unrefused = two.unrefused;
}
  where
    before : HasCleanDisk c → HasCleanDisk b
    before k = omega (arith, two.clean, k)

    ours : HasCleanDisk c → a.now.schema ≡ office_schema → b.now.schema ≡ office_schema
    ours k has = ap (λ (d : Database). d.schema) (one.same (before k) has).0.now_is ∙ has

    on_ok_then : {P Q : Type 0} (r : Result B OfficeFault) → (P → Q) → OnOk r P → OnOk r Q
    on_ok_then (Ok y) f p = f p
    on_ok_then (Err e) f p = tt

    on_err_then : {P Q : Type 0} (r : Result B OfficeFault) → (P → Q) → OnErr r P → OnErr r Q
    on_err_then (Ok y) f p = tt
    on_err_then (Err e) f p = f p

    after : IsUnchanged a b → IsSpared b c → IsSpared a c
    after same (inl more) = inl (unchanged_then a b c same more)
    after same (inr undone) = inr (record {
      was_open = λ h. same.0.was_open;
      undone = λ h. ((undone.undone h).0 ∙ same.0.committed_is, (undone.undone h).1 ∙ same.0.committed_is);
      autocommit = undone.autocommit;
      unmarked = undone.unmarked;
      counts = record { changes = undone.counts.changes ∙ same.1.changes; last_rowid = undone.counts.last_rowid ∙ same.1.last_rowid };
    })

-- ---- what a change makes

-- the register after the change, and the tables that represent it
pub record IsMade (r : Register) (k : Change) (new : Trees) : Type 0 where
  pub now : Register
  pub is : apply r k ≡ Ok now
  pub limits : now.limits ≡ r.limits
  pub tables : Tables now new
  pub sound : IsSound now

-- the change is made by these edits
pub record IsMadeBy (edits : List Edit) (r : Register) (k : Change) : Type 0 where
  pub now : Register
  pub is : apply r k ≡ Ok now
  pub limits : now.limits ≡ r.limits
  pub edited : AreEdited edits r now

-- the change is made by these edits where the state of the file allows it, and refused otherwise
pub record IsMadeIf (allowed : Bool) (edits : List Edit) (r : Register) (k : Change) : Type 0 where
  pub now : Register
  pub is : apply r k ≡ cond allowed (Ok now) (Err Unfit)
  pub limits : now.limits ≡ r.limits
  pub edited : allowed ≡ true → AreEdited edits r now

pub is_made : (edits : List Edit) (r : Register) (k : Change) (old new : Trees) → IsSound r → IsFit r k → Tables r old → IsMadeBy edits r k → MakesAll edits old new → IsMade r k new
is_made edits r k old new sound fit kept by made = record {
  now = by.now;
  is = by.is;
  limits = by.limits;
  tables = made r by.now by.edited kept;
  sound = apply_keeps r k by.now sound fit by.is;
}

-- ---- a commit that ends with its look-ups

no_refusal : (T : Type 0) (wanted : Result Register Cause) (fault : OfficeFault) (P : Type 0) → IsFailure fault → IsRefused {T = T} wanted (Err fault) P
no_refusal T wanted Store P h = tt
no_refusal T wanted Memory P h = tt
no_refusal T wanted (Refused cause) P h = absurd h

pub commits_failed : {A T : Type 0} (limits : Limits) (change : Change) (old new : State) (fault : OfficeFault) → Looks {T = A} old new (Err fault)
    → CommitsOn {T = T} limits change old new (Err fault)
commits_failed {T = T} limits change old new fault looks = record {
  clean = looks.clean;
  mode = looks.mode;
  done = λ k stands fit. tt;
  refused = λ k stands. no_refusal T _ fault _ looks.unrefused;
  same = λ k stands h. ap (register_at limits) (spared_same limits old new stands (looks.failed k stands.holds.schema) h);
  left = λ k stands fit db h. inl (looks.left k stands.holds.schema db h);
}

pub commits_refused : {A T : Type 0} (limits : Limits) (change : Change) (old new : State) (x : A) (cause : Cause) → Looks old new (Ok x)
    → (HasCleanDisk new → Stands limits old → apply (register_in limits old.now.trees) change ≡ Err cause) → CommitsOn {T = T} limits change old new (Err (Refused cause))
commits_refused limits change old new x cause looks refuses = record {
  clean = looks.clean;
  mode = looks.mode;
  done = λ k stands fit. tt;
  refused = λ k stands. (refuses k stands, stands_same limits old new stands (looks.same k stands.holds.schema));
  same = λ k stands h. ap (register_at limits) (looks.same k stands.holds.schema).0.now_is;
  left = λ k stands fit db h. inl (looks.left k stands.holds.schema db h);
}

-- no file has a number of 2^63 or more, and such a change is refused without a query
pub commits_beyond : {A T : Type 0} (limits : Limits) (told : Register → ℕ → Option A → Type 0) (n : ℕ) (change : Change) (s : State)
    → ((r : Register) (db : Trees) → Tables r db → told r n None) → NeedsFile told n change → CommitsOn {T = T} limits change s s (Err (Refused Unknown))
commits_beyond limits told n change s none needs = record {
  clean = omega arith;
  mode = λ m. m;
  done = λ clean stands fit. tt;
  refused = λ clean stands. (needs.unknown _ stands.holds.sound (none _ s.now.trees stands.holds.tables), stands);
  same = λ clean stands was_open. refl;
  left = λ clean stands fit db there. inl there;
}

-- an error that `?` passes on
pub err_passed : {T : Type 0} (P : OfficeFault → Type 0) (told : OfficeFault) (result : Result T OfficeFault) → IsErrAnd result (λ (x : OfficeFault). x ≡ told) → P told → IfErr result P
err_passed P told (Ok x) is h = absurd is
err_passed P told (Err x) is h = subst P (sym is) h

-- the database can't store what is to be written
commits_unstored : {A : Type 0} (limits : Limits) (change : Change) (old new : State) (x : A) → Looks old new (Ok x) → CommitsOn {T = Unit {0}} limits change old new (Err Store)
commits_unstored limits change old new x looks = record {
  clean = looks.clean;
  mode = looks.mode;
  done = λ k stands fit. tt;
  refused = λ k stands. tt;
  same = λ k stands h. ap (register_at limits) (looks.same k stands.holds.schema).0.now_is;
  left = λ k stands fit db h. inl (looks.left k stands.holds.schema db h);
}

-- ---- a commit that ends with its transaction

module _ {A : Type 0} (Made : Trees → Trees → Type 0) (limits : Limits) (change : Change) (old mid new : State) (x : A) (looks : Looks old mid (Ok x))
    (clean : doubt mid.is_clean ≤ doubt new.is_clean) (mode : new.in_transaction ≡ false)
    (makes : HasCleanDisk mid → Stands limits old → IsFit (register_in limits old.now.trees) change → (db : Trees) → Made old.now.trees db → IsMade (register_in limits old.now.trees) change db)
    (leaves : HasCleanDisk new → IsTrue mid.is_open → IsOffice mid.now → (db : Trees) → new.may_leave db → mid.may_leave db ⊎ MayLeave (Moves Made) mid.now db) where
  before : HasCleanDisk new → HasCleanDisk mid
  before k = omega (arith, clean, k)

  ours : Stands limits mid → IsOffice mid.now
  ours stands = record { schema = stands.holds.schema; store = stands.holds.store }

  mid_stands : HasCleanDisk new → Stands limits old → Stands limits mid
  mid_stands k stands = stands_same limits old mid stands (looks.same (before k) stands.holds.schema)

  as_old : HasCleanDisk new → Stands limits old → (db : Trees) → Made mid.now.trees db → Made old.now.trees db
  as_old k stands db made = subst (λ (d : Database). Made d.trees db) (looks.same (before k) stands.holds.schema).0.now_is made

  left_by_it : HasCleanDisk new → Stands limits old → IsFit (register_in limits old.now.trees) change → (db : Trees) → new.may_leave db
      → old.may_leave db ⊎ ((r : Register) × (apply (register_in limits old.now.trees) change ≡ Ok r) × IsContentOf db r)
  left_by_it k stands fit db h =
      let here = mid_stands k stands in
      elim (leaves k here.is_open (ours here) db h) [
        | inl earlier ↦ inl (looks.left (before k) stands.holds.schema db earlier)
        | inr now ↦
            let moved = now.1 in
            let m = makes (before k) stands fit now.0.trees (as_old k stands now.0.trees moved.made) in
            inr (
              m.now,
              m.is,
              subst (λ (db : Trees). IsContentOf db m.now) (sym now.2)
                  (record { store = subst (λ schema. IsSoundStore schema now.0.trees) moved.schema moved.store; tables = m.tables; sound = m.sound }),
            )
      ]

  pub commits_made : (HasCleanDisk new → IsTrue mid.is_open → IsOffice mid.now → Moves Made mid.now new.now × Shows mid new new.now new.now false)
      → CommitsOn {T = Unit {0}} limits change old new (Ok tt)
  commits_made did = record {
    clean = omega (arith, looks.clean, clean);
    mode = λ h. mode;
    done = λ k stands fit. let here = mid_stands k stands in made k stands fit (did k here.is_open (ours here));
    refused = λ k stands. tt;
    same = λ k stands. tt;
    left = left_by_it;
  }
    where
      made : HasCleanDisk new → Stands limits old → IsFit (register_in limits old.now.trees) change → Moves Made mid.now new.now × Shows mid new new.now new.now false
          → (apply (register_in limits old.now.trees) change ≡ Ok (register_in limits new.now.trees)) × Stands limits new
      made k stands fit both =
          let moved = both.0 in
          let shown = both.1 in
          let m = makes (before k) stands fit new.now.trees (as_old k stands new.now.trees moved.made) in
          let read : register_in limits new.now.trees ≡ m.now = subst (λ (l : Limits). register_in l new.now.trees ≡ m.now) m.limits (register_of m.now new.now.trees m.tables m.sound) in (
            m.is ∙ ap Ok (sym read),
            record {
              is_open = shown.is_open;
              autocommit = shown.mode;
              settled = sym shown.committed_is;
              holds = record {
                schema = moved.schema;
                store = moved.store;
                tables = subst (λ (r : Register). Tables r new.now.trees) (sym read) m.tables;
                sound = subst IsSound (sym read) m.sound;
              };
            },
          )

  pub commits_undone : (fault : OfficeFault) → IsFailure fault → (HasCleanDisk new → IsTrue mid.is_open → IsOffice mid.now → IsUndone mid new)
      → CommitsOn {T = Unit {0}} limits change old new (Err fault)
  commits_undone fault failure did = record {
    clean = omega (arith, looks.clean, clean);
    mode = λ h. mode;
    done = λ k stands fit. tt;
    refused = λ k stands. no_refusal (Unit {0}) _ fault _ failure;
    same = λ k stands h.
        let m = mid_stands k stands in
        ap (register_at limits) (((did k m.is_open (ours m)).undone h).0 ∙ sym m.settled ∙ (looks.same (before k) stands.holds.schema).0.now_is);
    left = left_by_it;
  }

-- a commit that ends with its edits, whatever their outcome
commits_with : {S A : Type 0} (g : Ghosts S) (edits : List Edit) (limits : Limits) (change : Change) (old mid new : Held S) (x : A) (result : Result (Unit {0}) OfficeFault)
    → Looks (state g old) (state g mid) (Ok x) → (HasCleanDisk (state g mid) → Stands limits (state g old) → IsMadeBy edits (register_in limits (state g old).now.trees) change)
    → AreCarriedOut edits g mid new result ⊎ ((¬ All IsStorable edits) × (result ≡ Err Store) × (new ≡ mid)) → CommitsOn limits change (state g old) (state g new) result
commits_with g edits limits change old mid new x (Ok _) looks by (inl carried) =
    let did = carried.transacts in
    commits_made (MakesAll edits) limits change (state g old) (state g mid) (state g new) x looks did.clean did.mode
    (λ k stands fit db made. is_made edits _ change _ db stands.holds.sound fit stands.holds.tables (by k stands) made) did.left did.done
commits_with g edits limits change old mid new x (Err fault) looks by (inl carried) =
    let did = carried.transacts in
    commits_undone (MakesAll edits) limits change (state g old) (state g mid) (state g new) x looks did.clean did.mode
    (λ k stands fit db made. is_made edits _ change _ db stands.holds.sound fit stands.holds.tables (by k stands) made) did.left fault carried.failure did.failed
commits_with g edits limits change old mid new x result looks by (inr unstored) =
    rw (unstored.1, unstored.2) (commits_unstored limits change (state g old) (state g mid) x looks)

pub commits_by : {S A : Type 0} (g : Ghosts S) (edits : List Edit) (limits : Limits) (change : Change) (old mid new : Held S) (x : A) (result : Result (Unit {0}) OfficeFault)
    → Looks (state g old) (state g mid) (Ok x) → (HasCleanDisk (state g mid) → Stands limits (state g old) → IsMadeBy edits (register_in limits (state g old).now.trees) change)
    → MakesEdits edits g mid new result → CommitsOn limits change (state g old) (state g new) result
commits_by g edits limits change old mid new x result looks by makes = commits_with g edits limits change old mid new x result looks by makes.made

-- ---- the changes of a file by its number

-- a change of the file with a number is made by these edits where what was read of the file fits, and is refused otherwise
pub record IsOfFile {A : Type 0} (told : Register → ℕ → Option A → Type 0) (fits : A → Bool) (edits : A → List Edit) (n : ℕ) (change : Change) : Type 0 where
  pub unknown : (r : Register) → IsSound r → told r n None → apply r change ≡ Err Unknown
  pub known : (r : Register) (file : A) → IsSound r → told r n (Some file) → IsMadeIf (fits file) (edits file) r change

pub needs_file : {A : Type 0} (told : Register → ℕ → Option A → Type 0) (fits : A → Bool) (edits : A → List Edit) (n : ℕ) (change : Change) → IsOfFile told fits edits n change
    → NeedsFile told n change
needs_file told fits edits n change is = record { unknown = is.unknown }

pub needs_fit : {A : Type 0} (told : Register → ℕ → Option A → Type 0) (fits : A → Bool) (edits : A → List Edit) (n : ℕ) (change : Change) → IsOfFile told fits edits n change
    → NeedsFit told fits n change
needs_fit told fits edits n change is = record {
  unknown = is.unknown;
  unfit = λ r file sound here unfit. let m = is.known r file sound here in m.is ∙ ap (λ b. cond b (Ok m.now) (Err Unfit)) unfit;
}

-- a file that fits is changed by these edits
pub made_fit : {A : Type 0} {told : Register → ℕ → Option A → Type 0} {fits : A → Bool} {edits : A → List Edit} {n : ℕ} {change : Change} {r : Register} {file : A}
    → IsOfFile told fits edits n change → told r n (Some file) → fits file ≡ true → IsSound r → IsMadeBy (edits file) r change
made_fit {r = r} {file = file} is here fit sound =
    let m = is.known r file sound here in
    record { now = m.now; is = m.is ∙ ap (λ b. cond b (Ok m.now) (Err Unfit)) fit; limits = m.limits; edited = m.edited fit }
