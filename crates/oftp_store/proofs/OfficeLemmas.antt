-- A look-up and a commit of the connection are those of the office.
use Rattle.std.proofs.Common.{◌≡◌, ◌≤◌, ◌<◌, ◌^◌, ◌||◌, nat_le, nat_lt, true, ℕ, zero, suc, List, [], length, map, take, drop, Result, Ok, Err, IsTrue, OnOk, OnErr, None, unwrap_or, inl, inr, refl, sym, ap, ◌∙◌, arith}
use Rattle.std.proofs.lemmas.Bool.{cases_Bool}
use Rattle.std.proofs.lemmas.Bool.Decides.{nat_tests}
use Rattle.std.proofs.lemmas.List.{length-map, drop_all}
use Rattle.std.proofs.lemmas.Result.{IfOk-weaker, on_ok_weaker}
use Rattle.sqlite.specs.Tree.{Trees}
use Rattle.sqlite.specs.Effect.{Database}
use Rattle.sqlite.specs.State.{State, IsUnchanged}
use Rattle.sqlite.specs.Held.{Held, state}
use Rattle.sqlite_trees.specs.declared.store.Store.{Ghosts}
use Rattle.oftp_vfile.specs.declared.limits.Limits.{Limits}
use Rattle.oftp_vfile.specs.declared.format.TheConstants.{MOST_ROWS}
use Rattle.oftp_register.specs.declared.change.Change.{Change}
use Rattle.oftp_register.specs.declared.entries.Side.{Side}
use Rattle.oftp_register.specs.declared.entries.Side.TheVariants as side
use Rattle.oftp_register.specs.declared.office.OfficeFault.{OfficeFault}
use Rattle.oftp_register.specs.Register.{Register}
use Rattle.oftp_register.specs.Soundness.{IsSound}
use Rattle.oftp_register.proofs.FileRowLemmas.{few_rows}
use Rattle.oftp_vfile.specs.VirtualFile.{units_in}
use Rattle.oftp_register.specs.LookUps.{file_rows, in_by_no, out_by_no, rows_of, units_of}
use Rattle.oftp_register.specs.Offices.{Commits, Counts, LooksUp, View}
use Rattle.oftp_tables.specs.Transactions.{IsSpared}
use Rattle.oftp_tables.specs.Statements.{Looks}
use Rattle.oftp_tables.specs.Tables.{Tables, register_in, rows_in, rows_out}
use Rattle.oftp_tables.specs.Stands.{IsContentOf, Stands}
use Rattle.oftp_store.specs.Commits.{CommitsOn}
use Rattle.oftp_store.specs.Tells.{TellsBetween}
use Rattle.oftp_store.specs.Views.{content_alone, view_of}
use Rattle.oftp_store.proofs.CommitLemmas.{spared_same, stands_same}
use Rattle.oftp_store.proofs.NumberLemmas.{entry_beyond}
use Rattle.oftp_store.proofs.ProgressLemmas.{no_incoming, no_outgoing}

-- what a crash leaves of an office that is open and has its register
abbrev pub IsAlone : Limits → State → Type 0
IsAlone limits s = Stands limits s → (db : Trees) → s.may_leave db → IsContentOf db (register_in limits s.now.trees)

-- while the store is open, a crash leaves the last commit
pub settled_alone : {S : Type 0} (g : Ghosts S) → ((s : S) (db : Trees) → IsTrue (g.view s).is_open → g.recovers s db → db ≡ (g.view s).committed) → (limits : Limits) (h : Held S)
    → IsAlone limits (state g h)
settled_alone g settled limits h stands db left = content_alone limits (state g h) stands db (settled h.store db stands.is_open left)

same_now : {T : Type 0} (limits : Limits) (old new : State) (result : Result T OfficeFault) → Stands limits old → OnOk result (IsUnchanged old new) → OnErr result (IsSpared old new)
    → IsTrue new.is_open → new.now ≡ old.now
same_now limits old new (Ok x) stands same spared is_open = same.0.now_is
same_now limits old new (Err e) stands same spared is_open = spared_same limits old new stands spared is_open

pub looks_up : {T : Type 0} (says : Register → T → Type 0) (limits : Limits) (m n : ℕ) (old new : State) (result : Result T OfficeFault) → IsAlone limits old → Looks old new result
    → TellsBetween (λ r x. IsSound r → says r x) old new result → Counts m n result
    → LooksUp says (view_of limits m old) (view_of limits n new) result
looks_up says limits m n old new result alone looks tells counts = record {
  clean = λ k. omega (arith, looks.clean, k);
  answer = λ k stands. IfOk-weaker result _ _ (λ x told. told (register_in limits old.now.trees) stands.holds.tables stands.holds.sound) (tells k stands.holds.schema);
  stays = λ k stands. on_ok_weaker result (stands_same limits old new stands) (looks.same k stands.holds.schema);
  register = λ k stands is_open. ap (λ (d : Database). register_in limits d.trees) (same_now limits old new result stands (looks.same k stands.holds.schema)
      (looks.failed k stands.holds.schema) is_open);
  left = λ k stands db h. alone stands db (looks.left k stands.holds.schema db h);
  unrefused = looks.unrefused;
  counts = counts;
}

-- what else was read of this register
pub looks_weaker : {T : Type 0} (says tells : Register → T → Type 0) (old new : View) (result : Result T OfficeFault) → LooksUp says old new result → ((x : T) → says old.register x
    → tells old.register x) → LooksUp tells old new result
looks_weaker says tells old new result looked more = record {
  clean = looked.clean;
  answer = λ k stands. IfOk-weaker result _ _ more (looked.answer k stands);
  stays = looked.stays;
  register = looked.register;
  left = looked.left;
  unrefused = looked.unrefused;
  counts = looked.counts;
}

-- a result without a query
pub looks_nowhere : {T : Type 0} (says : Register → T → Type 0) (limits : Limits) (m : ℕ) (s : State) (x : T) → IsAlone limits s → (Stands limits s → says (register_in limits s.now.trees) x)
    → LooksUp says (view_of limits m s) (view_of limits m s) (Ok x)
looks_nowhere says limits m s x alone told = record {
  clean = λ k. k;
  answer = λ k stands. told stands;
  stays = λ k stands. stands;
  register = λ k stands is_open. refl;
  left = λ k stands. alone stands;
  unrefused = tt;
  counts = refl;
}

pub commits : {T : Type 0} (limits : Limits) (change : Change) (m n : ℕ) (old new : State) (result : Result T OfficeFault) → IsAlone limits old → CommitsOn limits change old new result
    → Counts m n result
    → Commits change (view_of limits m old) (view_of limits n new) result
commits limits change m n old new result alone made counts = record {
  clean = λ k. omega (arith, made.clean, k);
  done = made.done;
  refused = made.refused;
  same = made.same;
  left = λ k stands fit db h. elim (made.left k stands fit db h) [ inl before ↦ inl (alone stands db before) | inr after ↦ inr after ];
  counts = counts;
}

-- ---- beyond the numbers that the database can store

pub far_incoming : (r : Register) (n : ℕ) → length r.incoming < 2 ^ 63 → 2 ^ 63 ≤ n → in_by_no r n ≡ None
far_incoming r n few far = no_incoming r n (entry_beyond n r.incoming (omega (arith, few, far)))

pub far_outgoing : (r : Register) (n : ℕ) → length r.outgoing < 2 ^ 63 → 2 ^ 63 ≤ n → out_by_no r n ≡ None
far_outgoing r n few far = no_outgoing r n (entry_beyond n r.outgoing (omega (arith, few, far)))

take_none : (most : ℕ) → (let empty : List (List ℕ) = [] in take most empty ≡ empty)
take_none zero = refl
take_none (suc most) = refl

far_rows : (r : Register) (db : Trees) (which : Side) (n : ℕ) → Tables r db → 2 ^ 63 ≤ n → file_rows r which n ≡ []
far_rows r db side.Incoming n kept far = ap (λ o. unwrap_or o []) (entry_beyond n (map rows_in r.incoming) (omega (arith, kept.incoming.few, far, length-map r.incoming rows_in)))
far_rows r db side.Outgoing n kept far = ap (λ o. unwrap_or o []) (entry_beyond n (map rows_out r.outgoing) (omega (arith, kept.outgoing.few, far, length-map r.outgoing rows_out)))

far_answer : (r : Register) (db : Trees) (which : Side) (n from most : ℕ) → Tables r db → 2 ^ 63 ≤ n → [] ≡ rows_of r which n from most
far_answer r db which n from most kept far = sym (ap (λ rows. take most (drop from rows)) (far_rows r db which n kept far) ∙ none most from)
  where
    none : (most from : ℕ) → (let empty : List (List ℕ) = [] in take most (drop from empty) ≡ empty)
    none most zero = take_none most
    none most (suc from) = take_none most

-- beyond the rows that a file may have
past_answer : (r : Register) (which : Side) (n from most : ℕ) → IsSound r → MOST_ROWS < from → [] ≡ rows_of r which n from most
past_answer r which n from most sound past =
    sym (ap (take most) (drop_all from (file_rows r which n) (omega (arith, few_rows r which n sound, past))) ∙ take_none most)

pub empty_answer : (r : Register) (db : Trees) (which : Side) (n from most : ℕ) → Tables r db → IsSound r → (nat_le (2 ^ 63) n || nat_lt MOST_ROWS from) ≡ true → [] ≡ rows_of r which n from most
empty_answer r db which n from most kept sound h =
    elim (cases_Bool (nat_le (2 ^ 63) n)) [
      | inl far ↦ far_answer r db which n from most kept (grind (arith, nat_tests, far))
      | inr near ↦ past_answer r which n from most sound (let past : nat_lt MOST_ROWS from ≡ true = rw near at h in grind (arith, nat_tests, past))
    ]

pub far_units : (r : Register) (db : Trees) (which : Side) (n : ℕ) → Tables r db → 2 ^ 63 ≤ n → 0 ≡ units_of r which n
far_units r db which n kept far = sym (ap units_in (far_rows r db which n kept far))
