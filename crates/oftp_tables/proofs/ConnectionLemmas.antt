-- What the calls of a connection do.
use Rattle.std.proofs.Common.{◌≡◌, ◌≤◌, ◌∙◌, ℕ, List, Option, Some, None, Result, Ok, Err, OnOk, OnErr, IsTrue, inl, inr, subst, subst₂, sym, ap, append-nil, false}
use Rattle.std.proofs.lemmas.Bool.{cases_Bool}
use Rattle.sqlite.specs.Order.{Row}
use Rattle.sqlite.specs.Tree.{Trees}
use Rattle.sqlite.specs.Schema.{Schema}
use Rattle.sqlite.specs.Command.{Command}
use Rattle.sqlite.specs.View.{doubt}
use Rattle.sqlite.specs.Clock.{timed}
use Rattle.sqlite.specs.Listing.{understood}
use Rattle.sqlite.specs.declared.error.Error.{Error}
use Rattle.sqlite.specs.State.{State, CommitsBy, CommitsShowing, Executes, ExecutesIn, FailsToQuery, FailsToShow, HasCleanDisk, IsNotRun, IsUnchanged, MayCommit, Shown, ShowsRows, Survives, shows_rows}
use Rattle.sqlite.proofs.StateLemmas.{survives_weaker}
use Rattle.sqlite.proofs.Callers.{IsPlain, never_commits, command_of, statement_of}
use Rattle.sqlite_resolve.specs.declared.compiled.Compiled.{Compiled}
use Rattle.sqlite_schema.specs.declared.command.Returning.{Returning}
use Rattle.oftp_tables.specs.Transactions.{IsSpared, IsQuery}

pub not_run : (sql : List ℕ) (params : Row) (old new : State) (e : Error) → IsNotRun old new sql params e → IsSpared old new
unfolding IsNotRun
not_run sql params old new e (inl refused) = inl refused.1
not_run sql params old new e (inr failed) = inr failed.3

pub spared_query : (sql : List ℕ) (params : Row) (old new : State) (e : Error) → IsPlain (understood old.now.schema sql) → FailsToQuery sql params old new e → IsSpared old new
unfolding FailsToQuery
spared_query sql params old new e plain (inl h) = not_run sql params old new e h
spared_query sql params old new e plain (inr h) =
    let none = (subst IsPlain h.1.is plain).0 in
    let shows = subst (FailsToShow old new sql h.0 (timed params h.0.formats h.1.now) e) none h.2 in
    inl shows.3

pub commits_nothing : (sql : List ℕ) (params : Row) (old new : State) → IsPlain (understood old.now.schema sql) → Survives old new (CommitsShowing sql params old) → Survives old new (λ _. ⊥)
commits_nothing sql params old new plain = survives_weaker old new _ _ (λ _ db. never_commits sql params old db plain)

pub unchanged_query : (sql : List ℕ) (params : Row) (old new : State) (rows : List Row) → IsPlain (understood old.now.schema sql) → Shown sql params old new rows → IsUnchanged old new
unfolding Shown
unchanged_query sql params old new rows plain h =
    let none = (subst IsPlain h.1.is plain).0 in
    let shows = subst (ShowsRows old new sql h.0 (timed params h.0.formats h.1.now) rows) none h.2 in
    shows.3

pub on_ok : {A E : Type 0} (r : Result A E) (P : Type 0) → P → OnOk r P
on_ok (Ok a) P p = p
on_ok (Err e) P p = tt

pub on_err : {A E : Type 0} (r : Result A E) (P : Type 0) → P → OnErr r P
on_err (Ok a) P p = tt
on_err (Err e) P p = p

pub spared_write : (sql : List ℕ) (params : Row) (old new : State) (e : Error) → Executes sql params old new (Err e) → IsSpared old new
unfolding ExecutesIn
spared_write sql params old new e (inl h) = not_run sql params old new e h
spared_write sql params old new e (inr h) =
    elim (cases_Bool (shows_rows false h.0)) [
      | inl shows ↦ inl (rw shows at h.2).1
      | inr runs ↦ elim (rw runs at h.2) [
        | inl refused ↦ inl refused.1
        | inr failed ↦ inr failed.3
      ]
    ]

-- what SQL of a known meaning may commit
pub commits_as : (sql : List ℕ) (params : Row) (s : State) (schema : Schema) → s.now.schema ≡ schema → (command : Command) → command_of (understood schema sql) ≡ command
    → IsPlain (understood schema sql)
    → (db : Trees) → CommitsBy sql params s db → MayCommit s None command (statement_of sql (understood schema sql)) params db
unfolding CommitsBy
commits_as sql params s schema has command is plain db h =
    let known = sym h.1.is ∙ ap (λ s. understood s sql) has in
    let bare = subst IsPlain (sym known) plain in
    subst₂ (λ k t. MayCommit s None k t params db) (ap command_of known ∙ is) (ap (statement_of sql) known) (rw (bare.0, bare.1, append-nil params) at h.2)

pub spared_on : (sql : List ℕ) (params : Row) (old new : State) (result : Result ℕ Error) → Executes sql params old new result → OnErr result (IsSpared old new)
spared_on sql params old new (Ok count) h = tt
spared_on sql params old new (Err e) h = spared_write sql params old new e h

-- a query doesn't open a connection that was closed
shows_open : (sql : List ℕ) (params : Row) (old new : State) (c : Compiled) (rows : List Row) (o : Option Returning) → ShowsRows old new sql c params rows o → IsTrue old.is_open
shows_open sql params old new c rows None h = h.3.0.was_open
shows_open sql params old new c rows (Some what) h = h.1.shown.was_open

pub open_shown : (sql : List ℕ) (params : Row) (old new : State) (rows : List Row) → Shown sql params old new rows → IsTrue old.is_open
unfolding Shown
open_shown sql params old new rows h = shows_open sql (timed params h.0.formats h.1.now) old new h.0 rows h.0.returning h.2

spared_open : (old new : State) → IsSpared old new → IsTrue new.is_open → IsTrue old.is_open
spared_open old new (inl same) h = same.0.was_open
spared_open old new (inr undone) h = undone.was_open h

fails_open : (sql : List ℕ) (params : Row) (old new : State) (c : Compiled) (e : Error) (o : Option Returning) → FailsToShow old new sql c params e o → IsTrue new.is_open → IsTrue old.is_open
fails_open sql params old new c e None h = spared_open old new (inl h.3)
fails_open sql params old new c e (Some what) (inl refused) = spared_open old new (inl refused.1)
fails_open sql params old new c e (Some what) (inr failed) = spared_open old new (inr failed.3)

pub open_failed : (sql : List ℕ) (params : Row) (old new : State) (e : Error) → FailsToQuery sql params old new e → IsTrue new.is_open → IsTrue old.is_open
unfolding FailsToQuery
open_failed sql params old new e (inl h) = spared_open old new (not_run sql params old new e h)
open_failed sql params old new e (inr h) = fails_open sql (timed params h.0.formats h.1.now) old new h.0 e h.0.returning h.2

-- a query commits nothing
pub query_leaves : (sql : List ℕ) (params : Row) (old new : State) → IsPlain (understood old.now.schema sql) → Survives old new (CommitsShowing sql params old)
    → HasCleanDisk new → (db : Trees) → new.may_leave db → old.may_leave db
query_leaves sql params old new plain survives clean db h = elim (survives.crash clean db h) [ inl before ↦ before | inr now ↦ absurd (never_commits sql params old db plain now) ]

-- ---- a query over the tables of a schema

module _ (ours : Schema) (sql : List ℕ) (params : Row) (old new : State) (plain : (schema : Schema) → schema ≡ ours → IsPlain (understood schema sql))
    (clean : doubt old.is_clean ≤ doubt new.is_clean) (mode : old.in_transaction ≡ false → new.in_transaction ≡ false) (survives : Survives old new (CommitsShowing sql params old)) where
  -- it returned rows
  pub queries_shown : {T E : Type 0} (result : Result T E) → (HasCleanDisk new → (rows : List Row) × Shown sql params old new rows) → IsQuery ours old new result
  queries_shown result shown = record {
    clean = clean;
    mode = mode;
    was_open = λ k h. open_shown sql params old new (shown k).0 (shown k).1;
    same = λ k has. on_ok result _ (unchanged_query sql params old new (shown k).0 (plain _ has) (shown k).1);
    failed = λ k has. on_err result _ (inl (unchanged_query sql params old new (shown k).0 (plain _ has) (shown k).1));
    left = λ k has. query_leaves sql params old new (plain _ has) survives k;
  }

  -- it failed
  pub queries_failed : {T E : Type 0} (fault : E) (e : Error) → (HasCleanDisk new → FailsToQuery sql params old new e) → IsQuery {T = T} ours old new (Err fault)
  queries_failed fault e fails = record {
    clean = clean;
    mode = mode;
    was_open = λ k h. open_failed sql params old new e (fails k) h;
    same = λ k has. tt;
    failed = λ k has. spared_query sql params old new e (plain _ has) (fails k);
    left = λ k has. query_leaves sql params old new (plain _ has) survives k;
  }

-- what is made of the rows that a query returned
pub queries_then : {A B E : Type 0} (ours : Schema) (old new : State) (rows : A) (result : Result B E) → IsQuery {E = E} ours old new (Ok rows) → IsQuery ours old new result
queries_then ours old new rows result query = record {
  clean = query.clean;
  mode = query.mode;
  was_open = query.was_open;
  same = λ k has. on_ok result _ (query.same k has);
  failed = λ k has. on_err result _ (inl (query.same k has));
  left = query.left;
}

pub queries_as : {A B E F : Type 0} (ours : Schema) (old new : State) (fault : E) (other : F) → IsQuery {T = A} ours old new (Err fault) → IsQuery {T = B} ours old new (Err other)
queries_as ours old new fault other query =
    record { clean = query.clean; mode = query.mode; was_open = query.was_open; same = λ k has. tt; failed = query.failed; left = query.left }
