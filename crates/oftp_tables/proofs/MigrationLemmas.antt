-- What the steps of the migration do.
use Rattle.std.proofs.Common.{◌≡◌, ◌+◌, ◌<◌, ◌++◌, ◌∙◌, ℕ, List, [], ◌∷◌, map, take, length, get_or, codes, Ok, refl, sym, ap, subst, arith, append-nil, append_assoc}
use Rattle.std.specs.List.{AllByRecursion}
use Rattle.std.proofs.lemmas.List.{take_more}
use Rattle.sqlite_tied.specs.Compute.{everything}
use Rattle.sqlite.specs.declared.types.Value.TheVariants.{Null, Text}
use Rattle.sqlite.specs.Order.{Row, column}
use Rattle.sqlite.specs.Values.{bound_value}
use Rattle.sqlite.specs.Tree.{Trees, put_row}
use Rattle.sqlite.specs.Term.{Term, col, lit}
use Rattle.sqlite.specs.Table.{Table}
use Rattle.sqlite.specs.Command.{Command}
use Rattle.sqlite.specs.Command.TheVariants.{Insert, Update}
use Rattle.sqlite.specs.Source.TheVariants.{Values}
use Rattle.sqlite.specs.Cast.{cast_row}
use Rattle.sqlite.specs.Edit.{with_rowid}
use Rattle.sqlite.specs.Rowids.TheVariants.{Chosen}
use Rattle.sqlite.specs.Listing.{understood}
use Rattle.sqlite.specs.Effect.{Database}
use Rattle.sqlite.specs.State.{State, ExecutesInside}
use Rattle.oftp_register.specs.declared.entry.ResponseKind.TheVariants.{EndResponse, NegativeEndResponse}
use Rattle.oftp_register.specs.Register.{Received}
use Rattle.oftp_tables.specs.Schema.{about, about_tree, note_tree, office_schema, received_note}
use Rattle.oftp_tables.specs.Transactions.{MayLeave}
use Rattle.oftp_tables.specs.Making.{Creates}
use Rattle.oftp_tables.proofs.TermLemmas.{cast_int, cast_null}
use Rattle.oftp_tables.proofs.SqlLemmas.{IsRead, is_read}
use Rattle.oftp_tables.specs.Tables.{HoldIncoming, HoldOutgoing, about_row, about_row_of, note_if_negative, notes_from, number_value, received_row, rows_from}
use Rattle.oftp_tables.proofs.SplitLemmas.{IsBelow, put_between}
use Rattle.oftp_tables.proofs.StatementLemmas.{by_number_program, inserts_one, updates_row}
use Rattle.oftp_tables.specs.Migration.{FirstTables, IsMigrated}
use Rattle.oftp_tables.specs.MigrationSteps.{AddsNotes, AreNegatives, IsNumber, SetsSchema, Upgrades, empty_note, number_if_negative, numbers_from, put_notes}

-- ---- one note

abbrev pub note_text : List ℕ
note_text = codes "INSERT INTO received_note (no, creator, note) VALUES (?1, '', '')"

abbrev note_terms : List Term
note_terms = col 0 0 ∷ lit Null ∷ lit (Text []) ∷ lit (Text []) ∷ []

abbrev note_insert : Command
note_insert = Insert 7 (Values note_terms 4)

abbrev notes : Table
notes = record received_note { tree = note_tree }

note_read : IsRead note_text note_insert (understood office_schema note_text)
unfolding understood everything
note_read = is_read _ _ _ (refl, refl, refl, refl)

note_cast : (number : Row) (rows : List Row) → IsNumber number
    → put_row (with_rowid Chosen rows (cast_row notes (bound_value (column number 0) ∷ Null ∷ Text [] ∷ Text [] ∷ []))) rows ≡ put_row (empty_note number) rows
note_cast number rows it = rw it.is (simp (cast_null, cast_int))

pub adds_note : (old new : State) (number : Row) (count : ℕ) → old.now.schema ≡ office_schema → ExecutesInside 0 note_text (bound_value (column number 0) ∷ []) old new (Ok count)
    → AddsNotes (number ∷ []) old.now new.now
adds_note old new number count has h =
    let source : Row = bound_value (column number 0) ∷ Null ∷ Text [] ∷ Text [] ∷ [] in
    let it = inserts_one old new note_text 7 notes note_terms 4 (bound_value (column number 0) ∷ []) source count has note_read.command_is note_read.plain refl refl h in
    record { schema = it.schema; notes = λ are. it.made.rows ∙ note_cast number (old.now.trees note_tree) are.0; others = it.made.tables }

-- ---- all notes

put_last : (numbers : List Row) (number : Row) (rows : List Row) → put_notes (numbers ++ number ∷ []) rows ≡ put_row (empty_note number) (put_notes numbers rows)
put_last [] number rows = refl
put_last (x ∷ numbers) number rows = put_last numbers number (put_row (empty_note x) rows)

all_first : (P : Row → Type 0) (xs : List Row) (x : Row) → AllByRecursion P (xs ++ x ∷ []) → AllByRecursion P xs × P x
all_first P [] x all = (tt, all.0)
all_first P (y ∷ xs) x all = let more = all_first P xs x all.1 in ((all.0, more.0), more.1)

others_then : (tree : ℕ) (a b c : Trees) (ts : List Table) → AllByRecursion (λ (t : Table). (t.tree ≡ tree → ⊥) → b t.tree ≡ a t.tree) ts
    → AllByRecursion (λ (t : Table). (t.tree ≡ tree → ⊥) → c t.tree ≡ b t.tree) ts
    → AllByRecursion (λ (t : Table). (t.tree ≡ tree → ⊥) → c t.tree ≡ a t.tree) ts
others_then tree a b c [] one two = tt
others_then tree a b c (t ∷ ts) one two = (λ other. two.0 other ∙ one.0 other, others_then tree a b c ts one.1 two.1)

others_same : (tree : ℕ) (a : Trees) (ts : List Table) → AllByRecursion (λ (t : Table). (t.tree ≡ tree → ⊥) → a t.tree ≡ a t.tree) ts
others_same tree a [] = tt
others_same tree a (t ∷ ts) = (λ other. refl, others_same tree a ts)

pub no_notes : (db : Database) → db.schema ≡ office_schema → AddsNotes [] db db
no_notes db has = record { schema = has; notes = λ are. refl; others = others_same note_tree db.trees office_schema.tables }

pub one_note_more : (numbers : List Row) (number : Row) (a b c : Database) → AddsNotes numbers a b → AddsNotes (number ∷ []) b c → AddsNotes (numbers ++ number ∷ []) a c
one_note_more numbers number a b c one two = record {
  schema = two.schema;
  notes = λ are. let both = all_first IsNumber numbers number are in two.notes (both.1, tt) ∙ ap (put_row (empty_note number)) (one.notes both.0) ∙ sym (put_last numbers number (a.trees note_tree));
  others = others_then note_tree a.trees b.trees c.trees office_schema.tables one.others two.others;
}

pub next_note : (numbers : List Row) (at : ℕ) (number : Row) → at < length numbers → number ≡ get_or numbers at number
    → (a b c : Database) → AddsNotes (take at numbers) a b → AddsNotes (number ∷ []) b c → AddsNotes (take (at + 1) numbers) a c
next_note numbers at number within item a b c one two =
    let more : take at numbers ++ number ∷ [] ≡ take (at + 1) numbers = ap (λ n. take at numbers ++ n ∷ []) item ∙ sym (take_more numbers at number within) in
    subst (λ ns. AddsNotes ns a c) more (one_note_more (take at numbers) number a b c one two)

-- ---- the schema

abbrev pub schema_text : List ℕ
schema_text = codes "UPDATE about SET schema = ?2 WHERE id = ?1"

abbrev schema_terms : List Term
schema_terms = lit Null ∷ col 0 1 ∷ []

schema_read : IsRead schema_text (Update 0 (by_number_program about_tree schema_terms)) (understood office_schema schema_text)
unfolding understood everything
schema_read = is_read _ _ _ (refl, refl, refl, refl)

pub sets_schema : (old new : State) (count : ℕ) → old.now.schema ≡ office_schema → ExecutesInside 0 schema_text (number_value 1 ∷ number_value 2 ∷ []) old new (Ok count) → SetsSchema old.now new.now
sets_schema old new count has h =
    let it = updates_row old new schema_text 0 about schema_terms (number_value 2 ∷ []) 1 count has schema_read.command_is schema_read.plain refl h in
    record {
      schema = it.schema;
      sound = it.store;
      about = it.made.rows [] [] (about_row_of 1) about_row (record { below = tt; above = tt }) refl refl (simp (cast_null, cast_int));
      others = it.made.others;
    }

-- ---- the whole

abbrev less_text : Received → Received
less_text x = record x { creator = []; text = [] }

weaker : (n : ℕ) (rows : List Row) → AllByRecursion (IsBelow n) rows → AllByRecursion (IsBelow (n + 1)) rows
weaker n [] h = tt
weaker n (r ∷ rows) h = (record { number = h.0.number; is = h.0.is; below = omega (arith, h.0.below) }, weaker n rows h.1)

and_one : (n : ℕ) (rows : List Row) → AllByRecursion (IsBelow n) rows → AllByRecursion (IsBelow (n + 1)) (rows ++ empty_note (number_value n ∷ []) ∷ [])
and_one n [] h = (record { number = n; is = refl; below = omega arith }, tt)
and_one n (r ∷ rows) h = (record { number = h.0.number; is = h.0.is; below = omega (arith, h.0.below) }, and_one n rows h.1)

put_all : (n : ℕ) (xs : List Received) (lo : List Row) → AllByRecursion (IsBelow n) lo → put_notes (numbers_from n xs) lo ≡ lo ++ notes_from n (map less_text xs)
put_all n [] lo h = sym (append-nil lo)
put_all n (x ∷ xs) lo h =
    let note : Row = empty_note (number_value n ∷ []) in
    let rest : List Row = notes_from (n + 1) (map less_text xs) in
    let there : put_row note lo ≡ lo ++ note ∷ [] = ap (put_row note) (sym (append-nil lo)) ∙ put_between n note lo [] refl (record { below = h; above = tt }) in
    elim x.kind as (λ k. put_notes (number_if_negative n k ++ numbers_from (n + 1) xs) lo ≡ lo ++ (note_if_negative n (less_text x) k ++ rest)) [
      | EndResponse ↦ put_all (n + 1) xs lo (weaker n lo h)
      | NegativeEndResponse ↦ ap (put_notes (numbers_from (n + 1) xs)) there ∙ put_all (n + 1) xs (lo ++ note ∷ []) (and_one n lo h) ∙ append_assoc lo (note ∷ []) rest
    ]

are_numbers : (n : ℕ) (xs : List Received) → AllByRecursion IsNumber (numbers_from n xs)
are_numbers n [] = tt
are_numbers n (x ∷ xs) =
    elim x.kind as (λ k. AllByRecursion IsNumber (number_if_negative n k ++ numbers_from (n + 1) xs)) [
      | EndResponse ↦ are_numbers (n + 1) xs
      | NegativeEndResponse ↦ (record { number = n; is = refl }, are_numbers (n + 1) xs)
    ]

same_rows : (n : ℕ) (xs : List Received) → rows_from received_row n xs ≡ rows_from received_row n (map less_text xs)
same_rows n [] = refl
same_rows n (x ∷ xs) = ap (λ rows. received_row n x ∷ rows) (same_rows (n + 1) xs)

same_reasons : (xs : List Received) → AllByRecursion (λ (x : Received). x.reason < 100) xs → AllByRecursion (λ (x : Received). x.reason < 100) (map less_text xs)
same_reasons [] h = tt
same_reasons (x ∷ xs) h = (h.0, same_reasons xs h.1)

pub upgrades : (numbers : List Row) (a b c d : Database) → Creates 7 a b → AddsNotes numbers b c → SetsSchema c d → Upgrades numbers a d
upgrades numbers a b c d made noted set = record {
  schema = set.schema;
  sound = set.sound;
  tables = λ r first is.
      let holds = HoldIncoming r.incoming in
      let to_c = noted.others in
      let to_d = set.others in
      let kept = made.others in
      let one : a.trees 1 ≡ d.trees 1 = sym (to_d.1.0 (λ e. omega (arith, e)) ∙ to_c.1.0 (λ e. omega (arith, e)) ∙ kept.1.0) in
      let three : a.trees 3 ≡ d.trees 3 = sym (to_d.1.1.0 (λ e. omega (arith, e)) ∙ to_c.1.1.0 (λ e. omega (arith, e)) ∙ kept.1.1.0) in
      let five : a.trees 5 ≡ d.trees 5 = sym (to_d.1.1.1.0 (λ e. omega (arith, e)) ∙ to_c.1.1.1.0 (λ e. omega (arith, e)) ∙ kept.1.1.1.0) in
      let seven : a.trees 7 ≡ d.trees 7 = sym (to_d.1.1.1.1.0 (λ e. omega (arith, e)) ∙ to_c.1.1.1.1.0 (λ e. omega (arith, e)) ∙ kept.1.1.1.1.0) in
      let nine : a.trees 9 ≡ d.trees 9 = sym (to_d.1.1.1.1.1.0 (λ e. omega (arith, e)) ∙ to_c.1.1.1.1.1.0 (λ e. omega (arith, e)) ∙ kept.1.1.1.1.1.0) in
      let ten : d.trees 10 ≡ a.trees 10 = to_d.1.1.1.1.1.1.0 (λ e. omega (arith, e)) ∙ to_c.1.1.1.1.1.1.0 (λ e. omega (arith, e)) ∙ kept.1.1.1.1.1.1.0 in
      let notes : d.trees 12 ≡ put_notes numbers [] =
      to_d.1.1.1.1.1.1.1.0 (λ e. omega (arith, e)) ∙ noted.notes (subst (AllByRecursion IsNumber) (sym is) (are_numbers 1 r.received)) ∙ ap (put_notes numbers) made.empty in
      record {
        about = set.about (to_c.0 (λ e. omega (arith, e)) ∙ kept.0 ∙ first.about);
        incoming = subst (holds (d.trees 1) (d.trees 3)) nine (subst (λ rows. holds (d.trees 1) rows (a.trees 9)) three (subst (λ files. holds files (a.trees 3) (a.trees 9)) one first.incoming));
        outgoing = subst (HoldOutgoing r.outgoing (d.trees 5)) seven (subst (λ files. HoldOutgoing r.outgoing files (a.trees 7)) five first.outgoing);
        received = record {
          responses_are = ten ∙ first.received ∙ same_rows 1 r.received;
          notes_are = notes ∙ ap (λ xs. put_notes xs []) is ∙ put_all 1 r.received [] tt;
          reasons = same_reasons r.received first.reasons;
        };
      };
}

-- the three steps in order

abbrev pub notes_made : (numbers : List Row) → Database → Database → Type 0
notes_made numbers old new = (between : Database) × Creates 7 old between × AddsNotes numbers between new

-- what the transaction does, if the numbers were read before

pub is_migrated : (old mid new : Database) (numbers : List Row) → mid ≡ old → AreNegatives old.trees numbers → Upgrades numbers mid new → IsMigrated old new
is_migrated old mid new numbers same negatives up = record {
  schema = up.schema;
  sound = up.sound;
  tables = λ r first. up.tables r (subst (λ (d : Database). FirstTables r d.trees) (sym same) first) (negatives r first);
}

pub leaves_migrated : (old mid : Database) (numbers : List Row) (db : Trees) → mid ≡ old → AreNegatives old.trees numbers → MayLeave (Upgrades numbers) mid db → MayLeave IsMigrated old db
leaves_migrated old mid numbers db same negatives left = (left.0, is_migrated old mid left.0 numbers same negatives left.1, left.2)
