-- The cause of a failed store is told by one step after another.
use Rattle.std.proofs.Common.{◌≡◌, ◌≤◌, ◌<◌, ◌+◌, ◌^◌, ℕ, nat_lt, List, length, find, option_map, Bool, false, is_some, IsSome, slice_get, Option, Some, None, Result, Ok, Err, IfErr, IsTrue, inl, inr, refl, sym, ap, subst, ◌∙◌, arith}
use Rattle.std.specs.Prelude.{⊤}
use Rattle.std.specs.Option.{IsSomeAnd}
use Rattle.std.specs.Result.{IsErrAnd}
use Rattle.std.proofs.lemmas.Bool.{cases_Bool}
use Rattle.std.proofs.lemmas.Bool.Decides.{nat_tests}
use Rattle.sqlite.specs.Effect.{Database}
use Rattle.sqlite.specs.Tree.{Trees}
use Rattle.sqlite.specs.View.{doubt}
use Rattle.sqlite.specs.Order.{Row}
use Rattle.sqlite.specs.Held.{Held, state}
use Rattle.sqlite.specs.State.{State, HasCleanDisk, FailsToQuery, IsUnchanged, Shown, ShowsRows}
use Rattle.sqlite.specs.Clock.{timed}
use Rattle.sqlite.specs.Given.{IsPlain}
use Rattle.sqlite.specs.Listing.{understood}
use Rattle.sqlite.proofs.Callers.{unchanged_then}
use Rattle.sqlite_trees.specs.declared.store.Store.{Ghosts}
use Rattle.oftp_vfile.specs.declared.limits.Limits.{Limits}
use Rattle.oftp_register.specs.declared.office.OfficeFault.{OfficeFault}
use Rattle.oftp_register.specs.declared.office.OfficeFault.TheVariants.{Store, Memory}
use Rattle.oftp_register.specs.declared.entry.Identity.{Identity}
use Rattle.oftp_register.specs.declared.entries.IncomingEntry.{IncomingEntry}
use Rattle.oftp_register.specs.declared.entries.OutgoingEntry.{OutgoingEntry}
use Rattle.oftp_register.specs.declared.entries.Side.TheVariants as side
use Rattle.oftp_register.specs.Register.{Register, same_identity}
use Rattle.oftp_register.specs.LookUps.{entry_at, incoming_entry, numbered, outgoing_entry}
use Rattle.oftp_tables.specs.Schema.{office_schema}
use Rattle.oftp_tables.specs.Stands.{Stands}
use Rattle.oftp_tables.specs.Statements.{IsFaultOf, Looks}
use Rattle.oftp_tables.specs.Tables.{Tables, register_in}
use Rattle.oftp_store.specs.Causes.{Fits, HasCause, HasCauseWhere, HasQueryCause, HasRowCause, IsCause, IsQueryCause, IsRowCause, Misfits, Query, asking, error, misread, number, query, row, sql_of, values_of}
use Rattle.oftp_store.specs.FileProgress.{incoming_told, outgoing_told}
use Rattle.oftp_store.specs.Numbers.{entries_in, file_number}
use Rattle.oftp_store.specs.Texts.{IsPlainText}
use Rattle.oftp_store.specs.declared.queries.last_number.Table.{Table}
use Rattle.oftp_store.specs.declared.queries.progress.IncomingProgress.{IncomingProgress}
use Rattle.oftp_store.specs.declared.queries.progress.OutgoingProgress.{OutgoingProgress}
use Rattle.oftp_store.proofs.CommitLemmas.{err_passed, stands_same}
use Rattle.oftp_store.proofs.FirstLemmas.{same_by_number}
use Rattle.oftp_store.proofs.NumberLemmas.{entry_unknown}

pub not_some : {A : Type 0} (o : Option A) → false ≡ is_some o → IsSome o → ⊥
not_some None none is = let no_such = is in cc
not_some (Some x) none is = let no_such = none in cc

pub err_weaker : {T : Type 0} {P Q : OfficeFault → Type 0} (result : Result T OfficeFault) → ((fault : OfficeFault) → P fault → Q fault) → IfErr result P → IfErr result Q
err_weaker (Ok x) more told = tt
err_weaker (Err fault) more told = more fault told

-- ---- one query

-- its error
pub query_failed : {S : Type 0} (g : Ghosts S) (text : List ℕ) (params : Row) (Fit : Row → Type 0) (old new : Held S) (fault : OfficeFault)
    → (HasCleanDisk (state g new) → IsFaultOf (FailsToQuery text params (state g old) (state g new)) fault) → HasQueryCause g text params Fit old new fault
query_failed g text params Fit old new fault told = record {
  cause = λ is clean. let f = told clean in error f.0 f.1 (λ memory. let no_such : Store ≡ Memory = sym is ∙ f.3.1 memory in cc);
}

pub query_failed_by : {S T : Type 0} (g : Ghosts S) (text : List ℕ) (params : Row) (Fit : Row → Type 0) (old new : Held S) (result : Result T OfficeFault)
    → (HasCleanDisk (state g new) → IfErr result (IsFaultOf (FailsToQuery text params (state g old) (state g new)))) → IfErr result (HasQueryCause g text params Fit old new)
query_failed_by g text params Fit old new (Ok x) told = tt
query_failed_by g text params Fit old new (Err fault) told = query_failed g text params Fit old new fault told

-- which no row can alter
pub query_weaker : {S : Type 0} (g : Ghosts S) (text : List ℕ) (params : Row) (Fit : Row → Type 0) (old new : Held S) (fault : OfficeFault)
    → HasQueryCause g text params (λ _. ⊤) old new fault → HasQueryCause g text params Fit old new fault
query_weaker {S = S} g text params Fit old new fault told = record { cause = λ is clean. go (told.cause is clean) }
  where
    go : IsQueryCause g text params (λ _. ⊤) old new → IsQueryCause g text params Fit old new
    go (error e fails other) = error e fails other
    go (row rows at here shown there unfit) = absurd (unfit tt)

-- its first row
pub query_misread : {S : Type 0} (g : Ghosts S) (text : List ℕ) (params : Row) (Fit : Row → Type 0) (old new : Held S) (first : Option Row) (here : Row) (fault : OfficeFault)
    → first ≡ Some here → (HasCleanDisk (state g new) → (rows : List Row) × Shown text params (state g old) (state g new) rows × (first ≡ slice_get rows 0))
    → (fault ≡ Store → ¬ Fit here) → HasQueryCause g text params Fit old new fault
query_misread g text params Fit old new first here fault same shown unfit = record { cause = λ is clean. let s = shown clean in row s.0 0 here s.1 (sym s.2 ∙ same) (unfit is) }

pub query_misread_by : {S T : Type 0} (g : Ghosts S) (text : List ℕ) (params : Row) (Fit : Row → Type 0) (old new : Held S) (first : Option Row) (result : Result T OfficeFault)
    → (HasCleanDisk (state g new) → (rows : List Row) × Shown text params (state g old) (state g new) rows × (first ≡ slice_get rows 0))
    → IfErr result (λ _. IsSomeAnd first (λ row. ¬ Fit row)) → IfErr result (HasQueryCause g text params Fit old new)
query_misread_by g text params Fit old new first (Ok x) shown unfit = tt
query_misread_by g text params Fit old new None (Err fault) shown unfit = absurd unfit
query_misread_by g text params Fit old new (Some here) (Err fault) shown unfit = query_misread g text params Fit old new (Some here) here fault refl shown (λ is. unfit)

-- one of its rows
pub query_misread_in : {S T : Type 0} (g : Ghosts S) (text : List ℕ) (params : Row) (Fit : Row → Type 0) (old new : Held S) (rows : List Row) (result : Result T OfficeFault)
    → (HasCleanDisk (state g new) → Shown text params (state g old) (state g new) rows) → IfErr result (λ fault. fault ≡ Store → Misfits Fit rows)
    → IfErr result (HasQueryCause g text params Fit old new)
query_misread_in g text params Fit old new rows (Ok x) shown unfit = tt
query_misread_in g text params Fit old new rows (Err fault) shown unfit = record { cause = λ is clean. let m = unfit is in row rows m.0 m.1 (shown clean) m.2 m.3 }

-- it is a query of the office

pub asked : {S : Type 0} (g : Ghosts S) (q : Query) (params : Row) (old new : Held S) (fault : OfficeFault) → length params ≡ values_of q
    → HasQueryCause g (sql_of q) params (Fits q) old new fault → HasCause g old new fault
asked g q params old new fault given told = record { cause = λ is clean limits stands. query q old params given (told.cause is clean) }

pub asked_by : {S T : Type 0} (g : Ghosts S) (q : Query) (params : Row) (old new : Held S) (result : Result T OfficeFault) → length params ≡ values_of q
    → IfErr result (HasQueryCause g (sql_of q) params (Fits q) old new) → IfErr result (HasCause g old new)
asked_by g q params old new (Ok x) given told = tt
asked_by g q params old new (Err fault) given told = asked g q params old new fault given told

-- ---- several look-ups

-- the last of them failed

pub told_since : {S A B : Type 0} (g : Ghosts S) (old mid new : Held S) (x : A) (result : Result B OfficeFault) → Looks (state g old) (state g mid) (Ok x)
    → doubt (state g mid).is_clean ≤ doubt (state g new).is_clean → IfErr result (HasCause g mid new) → IfErr result (HasCause g old new)
told_since g old mid new x (Ok y) one two told = tt
told_since g old mid new x (Err fault) one two told = record {
  cause = λ is clean limits stands.
      let early : HasCleanDisk (state g mid) = omega (arith, two, clean) in
      let same : IsUnchanged (state g old) (state g mid) = one.same early stands.holds.schema in
      subst (λ (d : Database). IsCause g (register_in limits d.trees) new) same.0.now_is (told.cause is clean limits (stands_same limits _ _ stands same));
}

pub told_after : {S A B : Type 0} (g : Ghosts S) (old mid new : Held S) (x : A) (result : Result B OfficeFault) → Looks (state g old) (state g mid) (Ok x)
    → Looks (state g mid) (state g new) result → IfErr result (HasCause g mid new) → IfErr result (HasCause g old new)
told_after g old mid new x result one two told = told_since g old mid new x result one two.clean told

-- ---- a cause in a register of which something holds

module _ {S T : Type 0} (g : Ghosts S) (Holds : Register → Type 0) (old new : Held S) (result : Result T OfficeFault) where
  pub where_by : IfErr result (HasCause g old new) → IfErr result (HasCauseWhere g Holds old new)
  where_by = err_weaker result (λ fault told. record { cause = λ is clean limits stands holds. told.cause is clean limits stands })

  pub where_weaker : (More : Register → Type 0) → ((r : Register) → Holds r → More r) → IfErr result (HasCauseWhere g More old new) → IfErr result (HasCauseWhere g Holds old new)
  where_weaker More weaker = err_weaker result (λ fault told. record { cause = λ is clean limits stands holds. told.cause is clean limits stands (weaker _ holds) })

  -- what isn't over an office that stands
  pub beyond_told : (Beyond : Type 0) → (HasCleanDisk (state g new) → (limits : Limits) → Stands limits (state g old) → Holds (register_in limits (state g old).now.trees) → Beyond → ⊥)
      → IfErr result (λ _. Beyond) → IfErr result (HasCauseWhere g Holds old new)
  beyond_told Beyond never = err_weaker result (λ fault beyond. record { cause = λ is clean limits stands holds. absurd (never clean limits stands holds beyond) })

-- it holds, as the first look-up told
pub told_where : {S A B : Type 0} (g : Ghosts S) (Holds : Register → Type 0) (old mid new : Held S) (x : A) (result : Result B OfficeFault) → Looks (state g old) (state g mid) (Ok x)
    → Looks (state g mid) (state g new) result → (HasCleanDisk (state g mid) → (limits : Limits) → Stands limits (state g old) → Holds (register_in limits (state g old).now.trees))
    → IfErr result (HasCauseWhere g Holds mid new) → IfErr result (HasCause g old new)
told_where g Holds old mid new x result one two first = err_weaker result (λ fault told. record {
  cause = λ is clean limits stands.
      let early : HasCleanDisk (state g mid) = omega (arith, two.clean, clean) in
      let same : IsUnchanged (state g old) (state g mid) = one.same early stands.holds.schema in
      subst (λ (d : Database). Holds (register_in limits d.trees) → IsCause g (register_in limits d.trees) new) same.0.now_is
      (told.cause is clean limits (stands_same limits _ _ stands same)) (first early limits stands);
})

-- and `?` passes its error on
pub passed_where : {S A B C : Type 0} (g : Ghosts S) (Holds : Register → Type 0) (old mid new : Held S) (x : A) (fault : OfficeFault) (result : Result C OfficeFault)
    → Looks (state g old) (state g mid) (Ok x) → Looks {T = B} (state g mid) (state g new) (Err fault)
    → (HasCleanDisk (state g mid) → (limits : Limits) → Stands limits (state g old) → Holds (register_in limits (state g old).now.trees)) → HasCauseWhere g Holds mid new fault
    → IsErrAnd result (λ (passed : OfficeFault). passed ≡ fault) → IfErr result (HasCause g old new)
passed_where {B = B} g Holds old mid new x fault result one two first told passed =
    err_passed (HasCause g old new) fault result passed (told_where {B = B} g Holds old mid new x (Err fault) one two first told)

-- ---- `?`

-- the error of the last look-up is passed on
pub passed_after : {S A B C : Type 0} (g : Ghosts S) (old mid new : Held S) (x : A) (fault : OfficeFault) (result : Result C OfficeFault) → Looks (state g old) (state g mid) (Ok x)
    → Looks {T = B} (state g mid) (state g new) (Err fault) → HasCause g mid new fault → IsErrAnd result (λ (passed : OfficeFault). passed ≡ fault) → IfErr result (HasCause g old new)
passed_after {B = B} g old mid new x fault result one two told passed =
    err_passed (HasCause g old new) fault result passed (told_after {B = B} g old mid new x (Err fault) one two told)

-- what can't be over an office that stands has every cause
pub never_told : {S : Type 0} (g : Ghosts S) (old new : Held S) (fault : OfficeFault) → (HasCleanDisk (state g new) → (limits : Limits) → Stands limits (state g old) → ⊥)
    → HasCause g old new fault
never_told g old new fault never = record { cause = λ is clean limits stands. absurd (never clean limits stands) }

-- ---- the rows of a page

-- rows that were shown still are
shown_on : (text : List ℕ) (params : Row) (old mid new : State) (rows : List Row) → old.now.schema ≡ office_schema → IsPlainText text → IsUnchanged old new
    → Shown text params old mid rows → Shown text params old new rows
unfolding Shown
shown_on text params old mid new rows has plain same h =
    let bare = (subst IsPlain (sym (ap (λ s. understood s text) has) ∙ h.1.is) plain).0 in
    let full = timed params h.0.formats h.1.now in
    let it = subst (ShowsRows old mid text h.0 full rows) bare h.2 in
    (h.0, h.1, subst (ShowsRows old new text h.0 full rows) (sym bare) (it.0, it.1, it.2, same))

-- an open connection that nothing changed
unchanged_self : (s : State) → IsTrue s.is_open → IsUnchanged s s
unchanged_self s is_open =
    (record { was_open = is_open; is_open = is_open; now_is = refl; committed_is = refl; mode = refl }, record { changes = refl; last_rowid = refl }, refl)

module _ {S T : Type 0} (g : Ghosts S) (q : Query) (At : Register → Type 0) (here : Row) (old new : Held S) where
  -- a look-up for the row failed
  pub row_asked : (fault : OfficeFault) (result : Result T OfficeFault) → HasCause g old new fault → IsErrAnd result (λ (passed : OfficeFault). passed ≡ fault)
      → IfErr result (HasRowCause g q At here old new)
  row_asked fault result told passed =
      err_passed (HasRowCause g q At here old new) fault result passed (record { cause = λ is clean limits stands at. asking (told.cause is clean limits stands) })

  -- the row is misread after a look-up
  pub row_misread : {A : Type 0} (Beyond : Type 0) (x : A) (result : Result T OfficeFault) → Looks (state g old) (state g new) (Ok x)
      → (HasCleanDisk (state g new) → (limits : Limits) → Stands limits (state g old) → At (register_in limits (state g old).now.trees) → Beyond → ⊥)
      → IfErr result (λ fault. fault ≡ Store → Fits q here → Beyond) → IfErr result (HasRowCause g q At here old new)
  row_misread Beyond x result looks never = err_weaker result (λ fault beyond. record {
    cause = λ is clean limits stands at. misread (λ fits. never clean limits stands at (beyond is fits)) (looks.same clean stands.holds.schema);
  })

-- the row is misread at once
pub row_unfit : {S T : Type 0} (g : Ghosts S) (q : Query) (At : Register → Type 0) (here : Row) (conn : Held S) (result : Result T OfficeFault)
    → IfErr result (λ fault. fault ≡ Store → ¬ Fits q here) → IfErr result (HasRowCause g q At here conn conn)
row_unfit g q At here conn result = err_weaker result (λ fault wrong. record { cause = λ is clean limits stands at. misread (wrong is) (unchanged_self (state g conn) stands.is_open) })

-- so it is with a row of a page that was shown
pub row_told : {S T A : Type 0} (g : Ghosts S) (q : Query) (Holds At : Register → Type 0) (here params : Row) (rows : List Row) (at : ℕ) (old page mid new : Held S) (x : A) (fault : OfficeFault)
    (result : Result T OfficeFault) → length params ≡ values_of q → IsPlainText (sql_of q) → slice_get rows at ≡ Some here → Looks (state g old) (state g mid) (Ok x)
    → (HasCleanDisk (state g new) → HasCleanDisk (state g mid))
    → (HasCleanDisk (state g mid) → (limits : Limits) → Stands limits (state g old) → Shown (sql_of q) params (state g old) (state g page) rows × At (register_in limits (state g old).now.trees))
    → HasRowCause g q At here mid new fault → IsErrAnd result (λ (passed : OfficeFault). passed ≡ fault) → IfErr result (HasCauseWhere g Holds old new)
row_told g q Holds At here params rows at old page mid new x fault result given plain here_is looks later first told passed =
    err_passed (HasCauseWhere g Holds old new) fault result passed (record {
      cause = λ is clean limits stands holds.
          let early = later clean in
          let same : IsUnchanged (state g old) (state g mid) = looks.same early stands.holds.schema in
          let was = first early limits stands in
          let listed = subst (λ (d : Database). At (register_in limits d.trees)) (sym same.0.now_is) was.1 in
          go limits stands.holds.schema same was.0 (told.cause is clean limits (stands_same limits _ _ stands same) listed);
    })
  where
    go : (limits : Limits) → (state g old).now.schema ≡ office_schema → IsUnchanged (state g old) (state g mid) → Shown (sql_of q) params (state g old) (state g page) rows
        → IsRowCause g q (register_in limits (state g mid).now.trees) here mid new → IsCause g (register_in limits (state g old).now.trees) new
    go limits has same shown (asking cause) = subst (λ (d : Database). IsCause g (register_in limits d.trees) new) same.0.now_is cause
    go limits has same shown (misread wrong more) =
        query q old params given (row rows at here (shown_on (sql_of q) params _ _ _ rows has plain (unchanged_then _ _ _ same more) shown) here_is wrong)

-- an error of memory needs no cause
pub memory_told : {S T : Type 0} (g : Ghosts S) (Holds : Register → Type 0) (old new : Held S) (fault : OfficeFault) (result : Result T OfficeFault) → fault ≡ Memory
    → IsErrAnd result (λ (passed : OfficeFault). passed ≡ fault) → IfErr result (HasCauseWhere g Holds old new)
memory_told g Holds old new fault result memory passed =
    err_passed (HasCauseWhere g Holds old new) fault result passed (record { cause = λ is. absurd (let no_such : Store ≡ Memory = sym is ∙ memory in cc) })

-- the file of a number that was read is there

pub lost_told : {S T : Type 0} (g : Ghosts S) (old new : Held S) (fault : OfficeFault) (result : Result T OfficeFault)
    → (HasCleanDisk (state g new) → (limits : Limits) → Stands limits (state g old) → ⊥) → IsErrAnd result (λ (passed : OfficeFault). passed ≡ fault) → IfErr result (HasCause g old new)
lost_told g old new fault result never passed =
    err_passed (HasCause g old new) fault result passed (never_told g old new fault never)

none_is : {A : Type 0} (o : Option A) → false ≡ is_some o → o ≡ None
none_is None none = refl
none_is (Some x) none = absurd (let no_such = none in cc)

known_there : {X E : Type 0} (entry : ℕ → X → E) (number_of : E → ℕ) → ((n : ℕ) (x : X) → number_of (entry n x) ≡ n) → (wanted : E → Bool) (k : ℕ) (xs : List X)
    → option_map number_of (find wanted (numbered entry 1 xs)) ≡ Some k → entry_at k xs ≡ None → ⊥
known_there entry number_of same wanted k xs is unknown =
    let none : find wanted (numbered entry 1 xs) ≡ None = sym (same_by_number entry number_of same wanted k 1 xs is) ∙ entry_unknown entry number_of same k xs unknown in
    let no_such = sym (ap (option_map number_of) none) ∙ is in
    cc

pub incoming_there : (r : Register) (it : Identity) (n : ℕ) (found : Option IncomingProgress) → file_number r side.Incoming it ≡ Some n → false ≡ is_some found
    → incoming_told r n found → ⊥
incoming_there r it n found is none told =
    known_there incoming_entry (λ (e : IncomingEntry). e.no) (λ n x. refl) (λ (e : IncomingEntry). same_identity e.identity it) n r.incoming is (subst (incoming_told r n) (none_is found none) told)

pub outgoing_there : (r : Register) (it : Identity) (n : ℕ) (found : Option OutgoingProgress) → file_number r side.Outgoing it ≡ Some n → false ≡ is_some found
    → outgoing_told r n found → ⊥
outgoing_there r it n found is none told =
    known_there outgoing_entry (λ (e : OutgoingEntry). e.no) (λ n x. refl) (λ (e : OutgoingEntry). same_identity e.identity it) n r.outgoing is (subst (outgoing_told r n) (none_is found none) told)

-- the tables don't depend on the limits
pub tables_limited : (limits other : Limits) (db : Trees) → Tables (register_in other db) db → Tables (register_in limits db) db
tables_limited limits other db kept = record { about = kept.about; incoming = kept.incoming; outgoing = kept.outgoing; received = kept.received }

-- no number is left

far_by : (last : ℕ) (fault : OfficeFault) → (last + 1 < 2 ^ 63 → (let failed : Result ℕ OfficeFault = Err fault in failed ≡ Ok (last + 1))) → 2 ^ 63 ≤ last + 1
far_by last fault made = elim (cases_Bool (nat_lt (last + 1) (2 ^ 63))) [
  | inl near ↦ absurd (let no_such = made (grind (arith, nat_tests, near)) in cc)
  | inr far ↦ grind (arith, nat_tests, far)
]

pub far_told : {S A : Type 0} (g : Ghosts S) (table : Table) (old new : Held S) (last : ℕ) (result : Result A OfficeFault)
    → (HasCleanDisk (state g new) → (state g old).now.schema ≡ office_schema → (r : Register) → Tables r (state g old).now.trees → last ≡ entries_in r table)
    → IfErr result (λ _. 2 ^ 63 ≤ last + 1) → IfErr result (HasCause g old new)
far_told g table old new last (Ok x) answer far = tt
far_told g table old new last (Err fault) answer far = record {
  cause = λ is clean limits stands. let counted = answer clean stands.holds.schema _ stands.holds.tables in number table (omega (arith, counted, far));
}

pub number_told : {S : Type 0} (g : Ghosts S) (table : Table) (old new : Held S) (last : ℕ) (result : Result ℕ OfficeFault)
    → (HasCleanDisk (state g new) → (state g old).now.schema ≡ office_schema → (r : Register) → Tables r (state g old).now.trees → last ≡ entries_in r table)
    → (last + 1 < 2 ^ 63 → result ≡ Ok (last + 1)) → IfErr result (HasCause g old new)
number_told g table old new last (Ok x) answer made = tt
number_told g table old new last (Err fault) answer made = far_told {A = ℕ} g table old new last (Err fault) answer (far_by last fault made)
