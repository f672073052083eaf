-- What opening an office does to the store of a register, in memory or in files.
use Rattle.std.proofs.Common.{◌≡◌, ◌≤◌, ◌↔◌, ◌⊎◌, ◌∙◌, IsTrue, [], Result, Ok, Err, IfErr, IfOk, MatchResult, inl, inr, refl, sym, ap, subst, arith}
use Rattle.std.specs.Result.{IsErrAnd}
use Rattle.std.proofs.lemmas.Result.{err_from_is_err_and}
use Rattle.sqlite.specs.Tree.{Trees}
use Rattle.sqlite.specs.Schema.{Schema}
use Rattle.sqlite.specs.Effect.{Database, IsDatabase}
use Rattle.sqlite.specs.declared.error.Error.{Error}
use Rattle.sqlite.specs.Held.{Held}
use Rattle.sqlite.specs.Opening.{is_open_error}
use Rattle.sqlite.specs.Files.{HoldsDatabase}
use Rattle.sqlite.specs.Recovery.{Image}
use Rattle.sqlite.specs.State.{State, HasCleanDisk, IsLive}
use Rattle.sqlite.specs.State as connection
use Rattle.sqlite_catalog.specs.Listing.{IsSound}
use Rattle.sqlite_trees.specs.declared.store.Store.{Ghosts}
use Rattle.oftp_vfile.specs.declared.limits.Limits.{Limits}
use Rattle.oftp_register.specs.declared.fit.TheConstants.{MOST_FILES, MOST_OCTETS}
use Rattle.oftp_register.specs.Register.{Register, empty}
use Rattle.oftp_register.specs.Soundness.{IsSound as IsSoundRegister}
use Rattle.oftp_register.proofs.EmptyLemmas.{sound_empty}
use Rattle.oftp_tables.specs.declared.fault.StoreFault.{StoreFault}
use Rattle.oftp_tables.specs.declared.fault.StoreFault.TheVariants.{WrongSchema}
use Rattle.oftp_tables.specs.Schema.{first_schema, no_schema, office_schema}
use Rattle.oftp_tables.specs.Making.{HasFirst, HasOffice, IsEmpty, about_told}
use Rattle.oftp_tables.specs.Opening.{IsAt, IsAtFirst, IsFirstOf, IsStoreOf}
use Rattle.oftp_tables.proofs.AboutLemmas.{not_empty}
use Rattle.oftp_tables.proofs.SchemaLemmas.{same_first, same_none, same_schema}
use Rattle.oftp_store.specs.declared.path.PathFault.{PathFault}
use Rattle.oftp_store.specs.declared.path.PathFault.TheVariants.{Unkept}
use Rattle.oftp_store.specs.declared.file.PathRefused.{PathRefused}
use Rattle.oftp_store.specs.declared.file.PathRefused.TheVariants as refusal
use Rattle.oftp_store.specs.declared.open.OpenRefused.{OpenRefused}
use Rattle.oftp_store.specs.Opens.{Demand, Has, HoldsNoTable, HoldsTaken, IsMigratable, IsOpenable, IsUnopened, LeavesCommitted, Opens, Refuses, RefusesFiles, RefusesPath, TellsPath, to_migrate, to_open}
use Rattle.oftp_store.specs.Paths.{IsFaultFor, IsOpeningFault}

-- an office that was opened over the store of a register has the register
pub has_after : (Takes Changes : Database → Type 0) (IsOf : Register → State → Type 0) (limits : Limits) (old new : State) (r : Register) → Opens Takes Changes IsOf limits old new
    → HasCleanDisk new → r.limits ≡ limits → (HasCleanDisk old → IsOf r old) → Has limits r new
has_after Takes Changes IsOf limits old new r opens clean is so = opens.found clean r is (so (omega (arith, opens.clean, clean)))

-- ---- files

-- an open connection shows what the files hold, and nothing uncommitted
pub record IsReadFrom (Holds : Trees → Type 0) (s : State) : Type 0 where
  pub is_open : IsTrue s.is_open
  pub settled : s.now ≡ s.committed
  pub sound : IsDatabase s.now
  pub holds : (db : Trees) → Holds db → s.now.trees ≡ db

pub is_read : (Holds : Trees → Type 0) (s : State) → connection.Opens s × IsLive s → ((db : Trees) → Holds db → s.committed.trees ≡ db) → IsReadFrom Holds s
is_read Holds s opened found = record {
  is_open = opened.0.is_open;
  settled = opened.0.clean;
  sound = (opened.1 opened.0.is_open).0;
  holds = λ db holds. ap (λ (d : Database). d.trees) opened.0.clean ∙ found db holds;
}

-- ---- what the trees of a database say of it

abbrev pub IsByTrees : (Database → Type 0) → Type 0
IsByTrees P = (d e : Database) → d.trees ≡ e.trees → IsDatabase d → IsDatabase e → P d → P e

sound_over : (schema : Schema) (d e : Database) → d.schema ≡ schema → d.trees ≡ e.trees → IsDatabase d → IsSound schema e.trees
sound_over schema d e is trees sound = subst (λ s. IsSound s e.trees) is (subst (IsSound d.schema) trees sound)

empty_by_trees : IsByTrees IsEmpty
empty_by_trees d e trees ours theirs is = same_none e.schema e.trees (sound_over no_schema d e is trees ours) theirs

first_by_trees : IsByTrees (λ d. d.schema ≡ first_schema)
first_by_trees d e trees ours theirs is = same_first e.schema e.trees (sound_over first_schema d e is trees ours) theirs

office_by_trees : IsByTrees (λ d. d.schema ≡ office_schema)
office_by_trees d e trees ours theirs is = same_schema e.schema e.trees (sound_over office_schema d e is trees ours) theirs

has_first_by_trees : IsByTrees HasFirst
has_first_by_trees d e trees ours theirs first = record { schema = first_by_trees d e trees ours theirs first.schema; about = ap about_told (sym trees) ∙ first.about }

has_office_by_trees : IsByTrees HasOffice
has_office_by_trees d e trees ours theirs office = record { schema = office_by_trees d e trees ours theirs office.schema; about = ap about_told (sym trees) ∙ office.about }

pub same_openable : IsByTrees IsOpenable
same_openable d e trees ours theirs (inl empty) = inl (empty_by_trees d e trees ours theirs empty)
same_openable d e trees ours theirs (inr office) = inr (has_office_by_trees d e trees ours theirs office)

pub same_migratable : IsByTrees IsMigratable
same_migratable d e trees ours theirs (inl first) = inl (has_first_by_trees d e trees ours theirs first)
same_migratable d e trees ours theirs (inr office) = inr (has_office_by_trees d e trees ours theirs office)

-- files over which an office was opened hold a store that the opening accepts
pub holds_taken : (Takes Changes : Database → Type 0) (IsOf : Register → State → Type 0) (limits : Limits) (Holds : Trees → Type 0) (old new : State)
    → IsByTrees Takes → Opens Takes Changes IsOf limits old new → HasCleanDisk new → (HasCleanDisk old → IsReadFrom Holds old) → HoldsTaken Takes Holds
holds_taken Takes Changes IsOf limits Holds old new same opens clean so d sound holds =
    let read = so (omega (arith, opens.clean, clean)) in
    same old.now d (read.holds d.trees holds) read.sound sound (opens.known clean)

-- ---- a refusal

-- the trees decide what an opening demands
pub record AsksByTrees (demand : Demand) : Type 0 where
  pub takes : IsByTrees demand.Takes
  pub changes : IsByTrees demand.Changes
  pub foreign : IsByTrees demand.IsForeign
  -- it accepts what it changes
  pub fewer : (d : Database) → demand.Changes d → demand.Takes d

pub asks_to_open : AsksByTrees to_open
asks_to_open = record {
  takes = same_openable;
  changes = empty_by_trees;
  foreign = λ d e trees ours theirs other. (
    λ empty. other.0 (empty_by_trees e d (sym trees) theirs ours empty),
    λ office. other.1 (office_by_trees e d (sym trees) theirs ours office),
  );
  fewer = λ d empty. inl empty;
}

pub asks_to_migrate : AsksByTrees to_migrate
asks_to_migrate = record {
  takes = same_migratable;
  changes = has_first_by_trees;
  foreign = λ d e trees ours theirs other. (
    λ first. other.0 (first_by_trees e d (sym trees) theirs ours first),
    λ office. other.1 (office_by_trees e d (sym trees) theirs ours office),
  );
  fewer = λ d first. inl first;
}

-- What a refusal leaves of the files, from what it leaves of the connection over them.
module _ (demand : Demand) (IsOf : Register → State → Type 0) (image : Image) (fault : StoreFault) (old new : State) (asks : AsksByTrees demand)
    (refuses : Refuses demand.Takes demand.Changes IsOf fault old new) (clean : HasCleanDisk new) (read : IsReadFrom (HoldsDatabase image) old) (leaves : LeavesCommitted old) where
  held_before : (db left : Trees) → HoldsDatabase image db → old.may_leave left → left ≡ db
  held_before db left holds may = leaves read.is_open left may ∙ sym (ap (λ (d : Database). d.trees) read.settled) ∙ read.holds db holds

  spares : (d : Database) → HoldsDatabase image d.trees → ¬ demand.Changes old.now → (left : Trees) → new.may_leave left → left ≡ d.trees
  spares d holds other left may = held_before d.trees left holds (refuses.spared clean read.is_open other left may)

  pub refuses_files : (demand.IsForeign old.now → fault ≡ WrongSchema) → (HoldsNoTable image → demand.AsEmpty fault) → ((r : Register) → demand.IsOf r old.now.trees → IsOf r old)
      → RefusesFiles demand image fault new
  refuses_files foreign bare of = record {
    foreign = λ d sound holds other. foreign (asks.foreign d old.now (sym (read.holds d.trees holds)) sound read.sound other);
    bare = bare;
    wrong = λ is d sound holds.
        let trees = read.holds d.trees holds in
        let both = refuses.wrong clean is in (
          λ takes. both.0 (asks.takes d old.now (sym trees) sound read.sound takes),
          record {
            now = ap (λ (x : Database). x.trees) both.1.now ∙ trees;
            committed = ap (λ (x : Database). x.trees) (both.1.committed ∙ sym read.settled) ∙ trees;
            left = spares d holds (λ changes. both.0 (asks.fewer old.now changes));
          },
        );
    left = λ r db holds is left may.
        elim (refuses.left clean r (of r (subst (demand.IsOf r) (sym (read.holds db holds)) is)) left may) [ inl before ↦ inl (held_before db left holds before) | inr made ↦ inr made ];
    spared = λ d sound holds other. spares d holds (λ changes. other (asks.changes old.now d (read.holds d.trees holds) read.sound sound changes));
  }

-- ---- the register that a connection represents when it is opened over files

module _ (Holds : Trees → Type 0) (s : State) (read : IsReadFrom Holds s) where
  pub is_at : (r : Register) → IsSoundRegister r × IsStoreOf r s.now.trees → IsAt r s
  is_at r store = record { is_open = read.is_open; settled = read.settled; sound = read.sound; content = store.1; register = store.0 }

  pub is_at_first : (r : Register) → IsFirstOf r s.now.trees → IsAtFirst r s
  is_at_first r first = record { is_open = read.is_open; settled = read.settled; sound = read.sound; content = first }

  -- over no table, the empty register
  pub is_at_none : (limits : Limits) → limits.files ≤ MOST_FILES → limits.octets ≤ MOST_OCTETS → IsEmpty s.now → IsAt (empty limits) s
  is_at_none limits files octets none = is_at (empty limits) (sound_empty limits files octets, inr (subst (λ schema. IsSound schema s.now.trees) none read.sound, refl))

not_first : no_schema ≡ first_schema → ⊥
not_first e = let tables = ap (λ (s : Schema). s.tables) e in let no_such : [] ≡ first_schema.tables = tables in absurd (cc)

-- a database with no table is foreign to a migration
pub empty_is_foreign : (d : Database) → IsEmpty d → to_migrate.IsForeign d
empty_is_foreign d none = (λ first. not_first (sym none ∙ first), λ office. not_empty (sym none ∙ office))

-- ---- paths

pub opened_is_kept : {X E : Type 0} (x : X) (e : E) → Ok x ≡ Err e → ⊥
opened_is_kept x e is = let no = is in cc

pub told_is_kept : {X S : Type 0} (refused : OpenRefused S) (result : Result X (PathRefused S)) → result ≡ Err (refusal.Store refused)
    → result ≡ Err (refusal.Path Unkept) → ⊥
told_is_kept refused result told is = let no = told in let other = is in cc

-- where files were opened, their path is kept
pub after_files : {X Y E IsKept : Type 0} (e : E) (x : X) (result : Result Y E) → (result ≡ Err e → ⊥) → (Ok x ≡ Err e) ↔ ¬ IsKept → (result ≡ Err e) ↔ ¬ IsKept
after_files e x result other files = (λ is. absurd (other is), λ unkept. absurd (opened_is_kept x e (files.1 unkept)))

-- an error of files that weren't opened says nothing of their content
module _ {S : Type 0} (g : Ghosts S) (demand : Demand) (image : Image) where
  unopened_path : (e : PathRefused S) → IsUnopened e → RefusesPath g demand image e
  unopened_path (refusal.Path fault) h = h
  unopened_path (refusal.Store refused) h = absurd h

  pub unopened_refused : {X Y : Type 0} (e : PathRefused S) (r : Result Y (PathRefused S)) → IsErrAnd r (λ x. x ≡ e) → (it : Result X (PathRefused S)) → it ≡ Err e
      → IfErr it IsUnopened → IfErr r (RefusesPath g demand image)
  unopened_refused {X} {Y} e r h it was unopened =
      let told = err_from_is_err_and r h in
      let is : r ≡ Err e = told.1 ∙ ap (λ (x : PathRefused S). Err x) told.2 in
      subst (λ (y : Result Y (PathRefused S)). IfErr y (RefusesPath g demand image)) (sym is)
      (unopened_path e (subst (λ (y : Result X (PathRefused S)). IfErr y IsUnopened) was unopened))

  untold_path : (Fails : Held S → Held S → StoreFault → Type 0) (e : PathRefused S) → IsUnopened e → TellsPath g Fails image e
  untold_path Fails (refusal.Path fault) h = tt
  untold_path Fails (refusal.Store refused) h = absurd h

  pub unopened_untold : {X Y : Type 0} (Fails : Held S → Held S → StoreFault → Type 0) (e : PathRefused S) (r : Result Y (PathRefused S)) → IsErrAnd r (λ x. x ≡ e)
      → (it : Result X (PathRefused S)) → it ≡ Err e → IfErr it IsUnopened → IfErr r (TellsPath g Fails image)
  unopened_untold {X} {Y} Fails e r h it was unopened =
      let told = err_from_is_err_and r h in
      let is : r ≡ Err e = told.1 ∙ ap (λ (x : PathRefused S). Err x) told.2 in
      subst (λ (y : Result Y (PathRefused S)). IfErr y (TellsPath g Fails image)) (sym is)
      (untold_path Fails e (subst (λ (y : Result X (PathRefused S)). IfErr y IsUnopened) was unopened))

-- ---- the results of an opening

module _ {X E : Type 0} (A : X → Type 0) (B : E → Type 0) where
  pub matched_ok : (result : Result X E) (P : X → Type 0) → MatchResult result A B → ((x : X) → A x → P x) → IfOk result P
  matched_ok (Ok x) P h f = f x h
  matched_ok (Err e) P h f = tt

  -- of a result of which something else is known too
  pub both_ok : (result : Result X E) (Q P : X → Type 0) → MatchResult result A B → IfOk result Q → ((x : X) → A x → Q x → P x) → IfOk result P
  both_ok (Ok x) Q P h k f = f x h k
  both_ok (Err e) Q P h k f = tt

  -- and of one that has to be an error where this is known
  pub refused_ok : {Known : Type 0} (result : Result X E) (Q : E → Type 0) (P : X → Type 0) → MatchResult result A B → (Known → MatchResult result (λ _. ⊥) Q) → ((x : X) → A x → ¬ Known → P x)
      → IfOk result P
  refused_ok (Ok x) Q P h k f = f x h k
  refused_ok (Err e) Q P h k f = tt

  pub both_err : {Known : Type 0} (result : Result X E) (Q P : E → Type 0) → MatchResult result A B → (Known → MatchResult result (λ _. ⊥) Q) → ((e : E) → B e → (Known → Q e) → P e)
      → IfErr result P
  both_err (Ok x) Q P h k f = tt
  both_err (Err e) Q P h k f = f e h k

-- the library's answer is carried to the caller of `connect`
module _ {C L : Type 0} where
  pub connected_ok : (opened : Result C (Error × L)) (result : Result C PathFault) (P : C → Type 0) → IfOk opened (λ conn. result ≡ Ok conn)
      → IfErr opened (λ e. IsErrAnd result (IsFaultFor e.0)) → IfOk opened P → IfOk result P
  connected_ok (Ok conn) result P is other holds = rw is holds
  connected_ok (Err e) (Ok conn) P is other holds = absurd other
  connected_ok (Err e) (Err fault) P is other holds = tt

  pub connected_err : (opened : Result C (Error × L)) (result : Result C PathFault) → IfOk opened (λ conn. result ≡ Ok conn) → IfErr opened (λ e. IsErrAnd result (IsFaultFor e.0))
      → IfErr opened (λ e. IsTrue (is_open_error e.0)) → IfErr result (λ fault. (fault ≡ Unkept) ⊎ IsOpeningFault fault)
  connected_err (Ok conn) result is other named = rw is tt
  connected_err (Err e) (Ok conn) is other named = absurd other
  connected_err (Err e) (Err fault) is other named = inr (record { error = e.0; opening = named; told = other })

  pub connected_kept : {IsKept : Type 0} (opened : Result C (Error × L)) (result : Result C PathFault) → IfOk opened (λ conn. result ≡ Ok conn)
      → IfErr opened (λ e. IsErrAnd result (IsFaultFor e.0)) → IsKept → (result ≡ Err Unkept) ↔ ¬ IsKept
  connected_kept (Ok conn) result is other kept = (λ unkept. absurd (let no = is in let so = unkept in cc), λ unkept. absurd (unkept kept))
  connected_kept (Err e) (Ok conn) is other kept = absurd other
  connected_kept (Err e) (Err fault) is other kept = (λ unkept. absurd (other.kept (let so = unkept in cc)), λ unkept. absurd (unkept kept))

-- the fault of a path in the error of an office that wasn't opened
pub told_of_path : {X Y S IsKept : Type 0} (fault : PathFault) → (let first : Result X PathFault = Err fault in first ≡ Err Unkept) ↔ ¬ IsKept
    → (let last : Result Y (PathRefused S) = Err (refusal.Path fault) in last ≡ Err (refusal.Path Unkept)) ↔ ¬ IsKept
told_of_path fault files = (λ is. files.0 (let so = is in cc), λ unkept. let so = files.1 unkept in cc)
