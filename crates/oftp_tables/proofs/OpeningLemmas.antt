-- Which register a store has once it is opened.
use Rattle.std.proofs.Common.{◌≡◌, ◌≢◌, ◌≤◌, ◌⊎◌, ◌∙◌, List, [], false, Result, Ok, Err, IfErr, MatchResult, OnOk, IsTrue, inl, inr, sym, ap, subst, arith}
use Rattle.std.specs.List.Sorted.{IsPermutation}
use Rattle.std.proofs.lemmas.List.Sorted.{IsPermutation-refl}
use Rattle.std.proofs.lemmas.Result.{IfErr-weaker, on_ok_weaker}
use Rattle.sqlite.specs.Order.{Row}
use Rattle.sqlite.specs.Tree.{Trees}
use Rattle.sqlite.specs.View.{doubt}
use Rattle.sqlite.specs.Effect.{Database, IsDatabase}
use Rattle.sqlite.specs.State.{State, HasCleanDisk, IsUnchanged}
use Rattle.sqlite_catalog.specs.Listing.{IsSound as IsSoundStore}
use Rattle.oftp_vfile.specs.declared.limits.Limits.{Limits}
use Rattle.oftp_register.specs.Register.{Register, empty}
use Rattle.oftp_register.specs.Soundness.{IsSound}
use Rattle.oftp_tables.specs.declared.fault.StoreFault.{StoreFault}
use Rattle.oftp_tables.specs.declared.fault.StoreFault.TheVariants.{WrongSchema}
use Rattle.oftp_tables.specs.Schema.{first_schema, no_schema, office_schema}
use Rattle.oftp_tables.specs.Transactions.{IsCommitted, MayLeave}
use Rattle.oftp_tables.specs.Making.{AreNew, HasFirst, HasOffice, IsAsBefore, IsEmpty, IsNew, about_rows, about_told}
use Rattle.oftp_tables.proofs.ConnectionLemmas.{on_ok}
use Rattle.oftp_tables.proofs.AboutLemmas.{first_not_office, not_empty}
use Rattle.oftp_tables.proofs.SchemaLemmas.{same_first, same_none, same_schema}
use Rattle.oftp_tables.specs.Tables.{AreNumbered, Tables, less_rowids, register_in}
use Rattle.oftp_tables.proofs.BackLemmas.{register_of}
use Rattle.oftp_tables.specs.Migration.{IsMigrated}
use Rattle.oftp_tables.specs.Stands.{Has, IsContentOf}
use Rattle.oftp_tables.specs.Opening.{IsAt, IsAtFirst, IsMigratable, IsOpenable, Leaves, Opens, Refuses, SparesUnless}

-- the new tables represent the empty register
new_tables : (limits : Limits) (db : Trees) → AreNew db → Tables (empty limits) db
new_tables limits db new = record {
  about = new.about;
  incoming = record {
    headers = new.in_files;
    rows = subst (λ (rows : List Row). IsPermutation [] (less_rowids rows)) (sym new.in_rows) (IsPermutation-refl []);
    row_ids = subst AreNumbered (sym new.in_rows) (tt, tt);
    responses = new.issued;
    reasons = tt;
    few = omega arith;
  };
  outgoing = record {
    headers = new.out_files;
    rows = subst (λ (rows : List Row). IsPermutation [] (less_rowids rows)) (sym new.out_rows) (IsPermutation-refl []);
    row_ids = subst AreNumbered (sym new.out_rows) (tt, tt);
    reasons = tt;
    few = omega arith;
  };
  received = record { responses_are = new.received; notes_are = new.notes; reasons = tt };
}

-- ---- which of its contents a store has

not_both : (s : State) → s.now.schema ≡ office_schema → s.now.schema ≡ no_schema → ⊥
not_both s ours none = not_empty (sym none ∙ ours)

empty_at : (r : Register) (s : State) → IsEmpty s.now → IsAt r s → r ≡ empty r.limits
empty_at r s none at =
    elim at.content [
      | inl ours ↦ absurd (not_both s (same_schema s.now.schema s.now.trees ours.store at.sound) none)
      | inr empty ↦ empty.1
    ]

office_at : (r : Register) (s : State) → s.now.schema ≡ office_schema → IsAt r s → IsContentOf s.now.trees r
office_at r s ours at =
    elim at.content [
      | inl content ↦ content
      | inr empty ↦ absurd (not_both s ours (same_none s.now.schema s.now.trees empty.0 at.sound))
    ]

-- ---- the register that it then has

stands : (r : Register) (s : State) → IsTrue s.is_open → s.in_transaction ≡ false → s.now ≡ s.committed → s.now.schema ≡ office_schema → IsDatabase s.now → Tables r s.now.trees → IsSound r
    → Has r.limits r s
stands r s is_open autocommit settled schema store tables sound =
    let is : register_in r.limits s.now.trees ≡ r = register_of r s.now.trees tables sound in (
      record {
        is_open = is_open;
        autocommit = autocommit;
        settled = settled;
        holds = record {
          schema = schema;
          store = store;
          tables = subst (λ (x : Register). Tables x s.now.trees) (sym is) tables;
          sound = subst IsSound (sym is) sound;
        };
      },
      is,
    )

stands_new : (r : Register) (old new : State) → IsEmpty old.now → IsAt r old → IsNew new.now → IsCommitted old new → Has r.limits r new
stands_new r old new none at made shown =
    let tables : Tables r new.now.trees = subst (λ (x : Register). Tables x new.now.trees) (sym (empty_at r old none at)) (new_tables r.limits new.now.trees made.tables) in
    stands r new shown.is_open shown.mode (sym shown.committed_is) made.schema made.sound tables at.register

stands_found : (r : Register) (old new : State) → HasOffice old.now → old.in_transaction ≡ false → IsAt r old → IsUnchanged old new → Has r.limits r new
stands_found r old new ours mode at same =
    let now = same.0.now_is in
    let content = office_at r old ours.schema at in
    stands r new same.0.is_open (same.0.mode ∙ mode) (now ∙ at.settled ∙ sym same.0.committed_is) (ap (λ (d : Database). d.schema) now ∙ ours.schema) (subst IsDatabase (sym now) at.sound)
    (subst (λ (d : Database). Tables r d.trees) (sym now) content.tables) at.register

-- what a crash leaves while the tables are made
new_content : (old : State) (r : Register) (db : Trees) → IsAt r old → IsEmpty old.now × MayLeave (λ old new. IsNew new) old.now db → IsContentOf db r
new_content old r db at left =
    let made = left.1.1 in
    let is = left.1.2 in
    let tables : Tables r left.1.0.trees = subst (λ (x : Register). Tables x left.1.0.trees) (sym (empty_at r old left.0 at)) (new_tables r.limits left.1.0.trees made.tables) in
    subst (λ t. IsContentOf t r) (sym is) (record { store = subst (λ schema. IsSoundStore schema left.1.0.trees) made.schema made.sound; tables = tables; sound = at.register })

-- ---- the migration

has_first : (r : Register) (s : State) → IsAtFirst r s → HasFirst s.now
has_first r s at = record {
  schema = same_first s.now.schema s.now.trees at.content.store at.sound;
  about = ap (λ (rows : List Row). about_of rows) at.content.tables.about;
}
  where
    about_of : List Row → List Row
    about_of rows = about_told (λ tree. rows)

migrated_tables : (r : Register) (old : State) (new : Database) → IsAtFirst r old → IsMigrated old.now new → Tables r new.trees
migrated_tables r old new at made = subst (λ (x : Register). Tables x new.trees) at.content.textless (made.tables r at.content.tables)

stands_migrated : (r : Register) (old new : State) → IsAtFirst r old → IsMigrated old.now new.now → IsCommitted old new → Has r.limits r new
stands_migrated r old new at made shown = stands r new shown.is_open shown.mode (sym shown.committed_is) made.schema made.sound (migrated_tables r old new.now at made) at.content.sound

migrated_content : (old : State) (r : Register) (db : Trees) → IsAtFirst r old → HasFirst old.now × MayLeave IsMigrated old.now db → IsContentOf db r
migrated_content old r db at left =
    let new = left.1.0 in
    let made = left.1.1 in
    subst (λ t. IsContentOf t r) (sym left.1.2) (record {
      store = subst (λ schema. IsSoundStore schema new.trees) made.schema made.sound;
      tables = migrated_tables r old new at made;
      sound = at.content.sound;
    })

-- ---- what an opening does to a connection, whichever stores it accepts

module _ (Takes Changes : Database → Type 0) (Made : Database → Database → Type 0) (IsOf : Register → State → Type 0) (old new : State) (clean : doubt old.is_clean ≤ doubt new.is_clean)
    (autocommit : new.in_transaction ≡ false) (is_open : (r : Register) → IsOf r old → IsTrue old.is_open)
    (content : (r : Register) (db : Trees) → IsOf r old → Changes old.now × MayLeave Made old.now db → IsContentOf db r)
    (left : HasCleanDisk new → IsTrue old.is_open → (db : Trees) → new.may_leave db → old.may_leave db ⊎ (Changes old.now × MayLeave Made old.now db)) where
  leaves : HasCleanDisk new → Leaves IsOf old new
  leaves k r at db h = elim (left k (is_open r at) db h) [ inl before ↦ inl before | inr made ↦ inr (content r db at made) ]

  spares : HasCleanDisk new → SparesUnless Changes old new
  spares k was_open other db h = elim (left k was_open db h) [ inl before ↦ before | inr made ↦ absurd (other made.0) ]

  -- it succeeded
  opened : (result : Result (Unit {0}) StoreFault) → (HasCleanDisk new → OnOk result (Takes old.now))
      → (HasCleanDisk new → IfErr result (λ fault. fault ≡ WrongSchema → ¬ Takes old.now × IsAsBefore old new))
      → (HasCleanDisk new → (r : Register) → IsOf r old → OnOk result (Has r.limits r new))
      → MatchResult result (λ _. (limits : Limits) → Opens Takes Changes IsOf limits old new) (λ fault. Refuses Takes Changes IsOf fault old new)
  opened (Ok x) known wrong has = λ limits. record {
    clean = clean;
    known = known;
    found = λ k r is at. subst (λ (l : Limits). Has l r new) is (has k r at);
    left = leaves;
    spared = spares;
  }
  opened (Err fault) known wrong has = record { clean = clean; autocommit = autocommit; wrong = wrong; left = leaves; spared = spares }

-- ---- the opening

-- the tables are made where there are none
pub makes_store : (old new : State) (result : Result (Unit {0}) StoreFault) → IsEmpty old.now → doubt old.is_clean ≤ doubt new.is_clean → new.in_transaction ≡ false
    → (HasCleanDisk new → IsTrue old.is_open → OnOk result (IsNew new.now × IsCommitted old new))
    → (HasCleanDisk new → IsTrue old.is_open → (db : Trees) → new.may_leave db → old.may_leave db ⊎ MayLeave (λ old new. IsNew new) old.now db)
    → IfErr result (λ fault. fault ≢ WrongSchema)
    → MatchResult result (λ _. (limits : Limits) → Opens IsOpenable IsEmpty IsAt limits old new) (λ fault. Refuses IsOpenable IsEmpty IsAt fault old new)
makes_store old new result none clean autocommit made left named =
    opened IsOpenable IsEmpty (λ old new. IsNew new) IsAt old new clean autocommit (λ r at. at.is_open) (new_content old)
    (λ k is_open db h. elim (left k is_open db h) [ inl before ↦ inl before | inr new ↦ inr (none, new) ]) result (λ k. on_ok result _ (inl none))
    (λ k. IfErr-weaker result _ _ (λ fault other is. absurd (other is)) named) (λ k r at. on_ok_weaker result (λ h. stands_new r old new none at h.0 h.1) (made k at.is_open))

-- the tables of schema 2 exist, and `about` is queried
pub finds_store : (old new : State) (result : Result (Unit {0}) StoreFault) → old.in_transaction ≡ false → old.now.schema ≢ no_schema → old.now.schema ≡ office_schema
    → doubt old.is_clean ≤ doubt new.is_clean → new.in_transaction ≡ false
    → (HasCleanDisk new → OnOk result (IsUnchanged old new)) → (HasCleanDisk new → OnOk result (about_told old.now.trees ≡ about_rows 2))
    → (HasCleanDisk new → IfErr result (λ fault. fault ≡ WrongSchema → (about_told old.now.trees ≢ about_rows 2) × IsAsBefore old new))
    → (HasCleanDisk new → (db : Trees) → new.may_leave db → old.may_leave db)
    → MatchResult result (λ _. (limits : Limits) → Opens IsOpenable IsEmpty IsAt limits old new) (λ fault. Refuses IsOpenable IsEmpty IsAt fault old new)
finds_store old new (Ok x) mode some schema clean autocommit same known wrong left = λ limits. record {
  clean = clean;
  known = λ k. inr (record { schema = schema; about = known k });
  found = λ k r is at. subst (λ (l : Limits). Has l r new) is (stands_found r old new (record { schema = schema; about = known k }) mode at (same k));
  left = λ k r at db h. inl (left k db h);
  spared = λ k is_open other db h. left k db h;
}
finds_store old new (Err fault) mode some schema clean autocommit same known wrong left = record {
  clean = clean;
  autocommit = autocommit;
  wrong = λ k is. (others (wrong k is).0, (wrong k is).1);
  left = λ k r at db h. inl (left k db h);
  spared = λ k is_open other db h. left k db h;
}
  where
    others : (about_told old.now.trees ≢ about_rows 2) → ¬ IsOpenable old.now
    others other (inl none) = some none
    others other (inr ours) = other ours.about

-- the tables of schema 1 become those of schema 2
pub migrates_store : (old new : State) (result : Result (Unit {0}) StoreFault) → old.now.schema ≡ first_schema → doubt old.is_clean ≤ doubt new.is_clean → new.in_transaction ≡ false
    → (HasCleanDisk new → OnOk result (about_told old.now.trees ≡ about_rows 1))
    → (HasCleanDisk new → IfErr result (λ fault. fault ≡ WrongSchema → (about_told old.now.trees ≢ about_rows 1) × IsAsBefore old new))
    → (HasCleanDisk new → IsTrue old.is_open → OnOk result (IsMigrated old.now new.now × IsCommitted old new))
    → (HasCleanDisk new → IsTrue old.is_open → (db : Trees) → new.may_leave db → old.may_leave db ⊎ (HasFirst old.now × MayLeave IsMigrated old.now db))
    → MatchResult result (λ _. (limits : Limits) → Opens IsMigratable HasFirst IsAtFirst limits old new) (λ fault. Refuses IsMigratable HasFirst IsAtFirst fault old new)
migrates_store old new result schema clean autocommit known wrong made left =
    opened IsMigratable HasFirst IsMigrated IsAtFirst old new clean autocommit (λ r at. at.is_open) (migrated_content old) left result
    (λ k. on_ok_weaker result (λ about. inl (record { schema = schema; about = about })) (known k))
    (λ k. IfErr-weaker result _ _ (λ fault told is. (first_only (told is).0, (told is).1)) (wrong k))
    (λ k r at. on_ok_weaker result (λ h. stands_migrated r old new at h.0 h.1) (made k at.is_open))
  where
    first_only : (about_told old.now.trees ≢ about_rows 1) → ¬ IsMigratable old.now
    first_only other (inl first) = other first.about
    first_only other (inr ours) = first_not_office (sym schema ∙ ours.schema)

-- over the tables of schema 2 it has the register that they represented
pub has_found : (r : Register) (old new : State) (result : Result (Unit {0}) StoreFault) → old.in_transaction ≡ false → IsAt r old → HasOffice old.now → OnOk result (IsUnchanged old new)
    → OnOk result (Has r.limits r new)
has_found r old new result mode at ours = on_ok_weaker result (stands_found r old new ours mode at)
