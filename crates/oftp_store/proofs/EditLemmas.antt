-- What the statements on one row do to the tables of a register.
use Rattle.std.proofs.Common.{◌≡◌, ◌+◌, ◌<◌, ◌^◌, ℕ, suc, pos, List, [], ◌∷◌, ◌++◌, length, map, Some, None, codes, append-nil, length-append, refl, sym, ap, subst, ◌∙◌, arith, Ok}
use Rattle.std.specs.Prelude.{⊤}
use Rattle.std.specs.List.{AllByRecursion}
use Rattle.std.specs.List.Sorted.{IsPermutation}
use Rattle.std.proofs.lemmas.List.{map-append}
use Rattle.sqlite.specs.declared.types.Value.TheVariants.{Null, Int, Text}
use Rattle.sqlite.specs.Order.{Row, column}
use Rattle.sqlite.specs.Cast.{cast_row}
use Rattle.sqlite.specs.Term.{Term, eval_all}
use Rattle.sqlite.specs.Tree.{Trees, with_tree}
use Rattle.sqlite.specs.Table.{Table}
use Rattle.sqlite.specs.State.{State, ExecutesInside}
use Rattle.oftp_tables.specs.Schema.{office_schema, in_file, in_file_tree, in_row_tree, issued, issued_tree, out_file, out_file_tree, out_row_tree}
use Rattle.oftp_tables.proofs.TermLemmas.{cast_null, cast_int}
use Rattle.oftp_register.specs.declared.entry.Dispatch.TheVariants.{Sent}
use Rattle.oftp_register.specs.declared.entry.IncomingState.TheVariants.{Whole}
use Rattle.oftp_register.specs.declared.entry.OutgoingState.{OutgoingState}
use Rattle.oftp_register.specs.declared.entries.Side.{Side}
use Rattle.oftp_register.specs.declared.entries.Side.TheVariants as side
use Rattle.oftp_register.specs.Register.{Register, Incoming, Issued, Outgoing}
use Rattle.oftp_tables.specs.Statements.{Moves}
use Rattle.oftp_tables.specs.Tables.{HasReason, HasRefusal, Tables, bodies_from, body_rows, format_text, identity_values, in_file_row, issued_from, issued_if_any, issued_row, kind_text, less_rowids, number_value, out_file_row, out_state_text, reason_text, refusal_text, rows_from, rows_in, rows_out}
use Rattle.oftp_tables.proofs.SplitLemmas.{HaveNumber, IsAmong, IsSplit, among, pieces_below, pieces_from, rows_pieces}
use Rattle.oftp_tables.proofs.StatementLemmas.{Others, PutsIn, Rewrites, updates_row, inserts_row}
use Rattle.oftp_tables.proofs.LandLemmas.{lands}
use Rattle.oftp_tables.proofs.PerformLemmas.{moves_as}
use Rattle.oftp_tables.proofs.BackLemmas.{at_place}
use Rattle.std.proofs.Common.{Bor}
use Rattle.oftp_store.specs.Edits.{ChangesIncoming, Makes, header_params, incoming_with, issued_with, outgoing_with}
use Rattle.oftp_store.specs.Texts.{add_file_text, add_issued_text, set_header_text, set_outgoing_text, set_sent_text, set_whole_text}
use Rattle.oftp_store.specs.declared.changes.edit.EditKind.TheVariants.{AddFile, AddIssued, SetHeader, SetOutgoing, SetSent, SetWhole}
use Rattle.oftp_store.specs.declared.changes.edit.NewHeader.{NewHeader}
use Rattle.oftp_store.specs.declared.changes.edit.NewIssued.{NewIssued}
use Rattle.oftp_store.proofs.EditTexts.{add_file_plain, add_file_terms, add_incoming_is, add_issued_is, add_issued_plain, add_issued_terms, add_outgoing_is, set_header_is, set_header_plain, set_header_terms, set_outgoing_is, set_outgoing_plain, set_outgoing_terms, set_sent_is, set_sent_plain, set_sent_terms, set_whole_is, set_whole_plain, set_whole_terms}

-- ---- one row an entry

-- the row of the entry with a number, between the others
pub record Between {X : Type 0} (row : ℕ → X → Row) (k : ℕ) (before : List X) (x : X) (after : List X) : Type 0 where
  pub lo : List Row
  pub hi : List Row
  pub split : IsSplit k lo hi
  pub is : (y : X) → rows_from row 1 (before ++ y ∷ after) ≡ lo ++ row k y ∷ hi

pub between : {X : Type 0} (row : ℕ → X → Row) → ((n : ℕ) (x : X) → column (row n x) 0 ≡ Int (pos n)) → (k : ℕ) (before : List X) (x : X) (after : List X)
    → k ≡ 1 + length before → Between row k before x after
between {X} row numbered k before x after at =
    let piece : ℕ → X → List Row = λ n y. row n y ∷ [] in
    let found : (y : X) → IsAmong piece (λ n y. (numbered n y, tt)) k before y after = λ y. among piece (λ n y. (numbered n y, tt)) k before y after at in
    record {
      lo = pieces_from piece 1 before;
      hi = pieces_from piece (k + 1) after;
      split = (found x).split;
      is = λ y. rows_pieces row 1 (before ++ y ∷ after) ∙ (found y).rows;
    }

-- the row of an entry after the others
pub record Behind {X : Type 0} (row : ℕ → X → Row) (k : ℕ) (xs : List X) : Type 0 where
  pub lo : List Row
  pub split : IsSplit k lo []
  pub was : rows_from row 1 xs ≡ lo ++ []
  pub is : (y : X) → rows_from row 1 (xs ++ y ∷ []) ≡ lo ++ row k y ∷ []

pub behind : {X : Type 0} (row : ℕ → X → Row) → ((n : ℕ) (x : X) → column (row n x) 0 ≡ Int (pos n)) → (k : ℕ) (xs : List X) → k ≡ 1 + length xs → Behind row k xs
behind {X} row numbered k xs at =
    let piece : ℕ → X → List Row = λ n y. row n y ∷ [] in
    let has : (n : ℕ) (y : X) → HaveNumber n (piece n y) = λ n y. (numbered n y, tt) in
    record {
      lo = pieces_from piece 1 xs;
      split = record { below = pieces_below piece has k 1 xs (omega (arith, at)); above = tt };
      was = rows_pieces row 1 xs ∙ sym (append-nil (pieces_from piece 1 xs));
      is = λ y. rows_pieces row 1 (xs ++ y ∷ []) ∙ (among piece has k xs y [] at).rows;
    }

-- a fact of each entry, where one entry is replaced
pub all_but : {X : Type 0} (P : X → Type 0) (before : List X) (x y : X) (after : List X) → P y → AllByRecursion P (before ++ x ∷ after) → AllByRecursion P (before ++ y ∷ after)
all_but P [] x y after p h = (p, h.1)
all_but P (b ∷ before) x y after p h = (h.0, all_but P before x y after p h.1)

-- what an edit leaves of an entry
pub same_but : {X Y : Type 0} (f : X → Y) (before : List X) (x y : X) (after : List X) → f y ≡ f x → map f (before ++ y ∷ after) ≡ map f (before ++ x ∷ after)
same_but f [] x y after is = ap (λ z. z ∷ map f after) is
same_but f (b ∷ before) x y after is = ap (λ zs. f b ∷ zs) (same_but f before x y after is)

pub length_but : {X : Type 0} (before : List X) (x y : X) (after : List X) → length (before ++ y ∷ after) ≡ length (before ++ x ∷ after)
length_but [] x y after = refl
length_but (b ∷ before) x y after = ap suc (length_but before x y after)

-- ---- the state of an outgoing file

abbrev our_out_file : Table
our_out_file = record out_file { tree = out_file_tree }

makes_outgoing : (n mark : ℕ) (stage : OutgoingState) → HasRefusal stage → (old new : Trees)
    → Rewrites n our_out_file set_outgoing_terms (number_value mark ∷ Text (out_state_text stage) ∷ Text (refusal_text stage) ∷ []) old new → Makes n (SetOutgoing mark stage) old new
makes_outgoing n mark stage refusal old new made r s did kept =
    let f = did.file in
    let g : Outgoing = record f { mark = mark; state = stage } in
    let place = between out_file_row (λ k x. refl) n did.before f did.after did.number in
    let was : old out_file_tree ≡ place.lo ++ out_file_row n f ∷ place.hi = kept.outgoing.headers ∙ ap (rows_from out_file_row 1) did.here ∙ place.is f in
    let row = made.rows place.lo place.hi (out_file_row n f) (out_file_row n g) place.split refl refl (simp (cast_null, cast_int)) was in
    lands out_file_tree (place.lo ++ out_file_row n g ∷ place.hi) old new row s made.others
    (subst (λ (q : Register). Tables q (with_tree old out_file_tree (place.lo ++ out_file_row n g ∷ place.hi))) (sym did.now) (record {
      about = kept.about;
      incoming = kept.incoming;
      outgoing = record {
        headers = sym (place.is g);
        rows =
            subst (λ files. IsPermutation (bodies_from 1 files) (less_rowids (old out_row_tree)))
            (ap (map rows_out) did.here ∙ sym (same_but rows_out did.before f g did.after refl)) kept.outgoing.rows;
        row_ids = kept.outgoing.row_ids;
        reasons = all_but (λ (x : Outgoing). HasRefusal x.state) did.before f g did.after refusal (subst (AllByRecursion (λ (x : Outgoing). HasRefusal x.state)) did.here kept.outgoing.reasons);
        few = omega (arith, kept.outgoing.few, ap length did.here, length_but did.before f g did.after);
      };
      received = kept.received;
    }))

pub outgoing_set : (old new : State) (n mark : ℕ) (stage : OutgoingState) (count : ℕ) → HasRefusal stage → old.now.schema ≡ office_schema
    → ExecutesInside 0 set_outgoing_text (number_value n ∷ number_value mark ∷ Text (out_state_text stage) ∷ Text (refusal_text stage) ∷ []) old new (Ok count)
    → Moves (Makes n (SetOutgoing mark stage)) old.now new.now
outgoing_set old new n mark stage count refusal has h =
    moves_as _ _ old.now new.now (makes_outgoing n mark stage refusal)
    (updates_row old new set_outgoing_text 3 our_out_file set_outgoing_terms
    (number_value mark ∷ Text (out_state_text stage) ∷ Text (refusal_text stage) ∷ []) n count has set_outgoing_is set_outgoing_plain refl h)

-- ---- the header of an incoming file

abbrev our_in_file : Table
our_in_file = record in_file { tree = in_file_tree }

issued_same : (f g : Incoming) → g.response ≡ f.response → (n : ℕ) (before after : List Incoming) → issued_from n (before ++ f ∷ after) ≡ issued_from n (before ++ g ∷ after)
issued_same f g same n [] after = ap (λ o. issued_if_any n o ++ issued_from (n + 1) after) (sym same)
issued_same f g same n (b ∷ before) after = ap (λ (rows : List Row). issued_if_any n b.response ++ rows) (issued_same f g same (n + 1) before after)

-- the columns of a header behind those of the identity
abbrev pub header_columns : NewHeader → Row
header_columns header = Text (format_text header.format) ∷ number_value header.longest ∷ Text header.description.now ∷ []

-- the header of one file is replaced
header_lands : (r : Register) (n : ℕ) (before : List Incoming) (f g : Incoming) (after : List Incoming) → r.incoming ≡ before ++ f ∷ after → g.rows ≡ f.rows
    → g.response ≡ f.response → (place : Between in_file_row n before f after)
    → (old new : Trees) → new in_file_tree ≡ place.lo ++ in_file_row n g ∷ place.hi → Others in_file_tree old new → Tables r old → Tables (record r { incoming = before ++ g ∷ after }) new
header_lands r n before f g after here rows response place old new row others kept =
    lands in_file_tree (place.lo ++ in_file_row n g ∷ place.hi) old new row (record r { incoming = before ++ g ∷ after }) others (record {
      about = kept.about;
      incoming = record {
        headers = sym (place.is g);
        rows = subst (λ files. IsPermutation (bodies_from 1 files) (less_rowids (old in_row_tree))) (ap (map rows_in) here ∙ sym (same_but rows_in before f g after rows)) kept.incoming.rows;
        row_ids = kept.incoming.row_ids;
        responses = kept.incoming.responses ∙ ap (issued_from 1) here ∙ issued_same f g response 1 before after;
        reasons =
            all_but (λ (x : Incoming). HasReason x.response) before f g after
            (subst HasReason (sym response)
            (at_place (λ (x : Incoming). HasReason x.response) before f after (subst (AllByRecursion (λ (x : Incoming). HasReason x.response)) here kept.incoming.reasons)))
            (subst (AllByRecursion (λ (x : Incoming). HasReason x.response)) here kept.incoming.reasons);
        few = omega (arith, kept.incoming.few, ap length here, length_but before f g after);
      };
      outgoing = kept.outgoing;
      received = kept.received;
    })

-- so a statement that rewrites its row replaces it
module _ (n : ℕ) (terms : List Term) (params : Row) (change : Incoming → Incoming) (rows : (f : Incoming) → (change f).rows ≡ f.rows)
    (response : (f : Incoming) → (change f).response ≡ f.response)
    (computes : (f : Incoming) → cast_row our_in_file (column (in_file_row n f) 0 ∷ eval_all terms ((number_value n ∷ params) ∷ in_file_row n f ∷ [])) ≡ in_file_row n (change f)) where
  header_rewritten : (old new : Trees) → Rewrites n our_in_file terms params old new → (r s : Register) → ChangesIncoming n (λ f. ⊤) change r s → Tables r old → Tables s new
  header_rewritten old new made r s did kept =
      let f = did.file in
      let place = between in_file_row (λ k x. refl) n did.before f did.after did.number in
      let was : old in_file_tree ≡ place.lo ++ in_file_row n f ∷ place.hi = kept.incoming.headers ∙ ap (rows_from in_file_row 1) did.here ∙ place.is f in
      let row = made.rows place.lo place.hi (in_file_row n f) (in_file_row n (change f)) place.split refl refl (computes f) was in
      subst (λ (q : Register). Tables q new) (sym did.now)
      (header_lands r n did.before f (change f) did.after did.here (rows f) (response f) place old new row made.others kept)

makes_header : (n : ℕ) (header : Bor NewHeader) (old new : Trees) → Rewrites n our_in_file set_header_terms (header_columns header.now) old new → Makes n (SetHeader header) old new
makes_header n header =
    header_rewritten n set_header_terms (header_columns header.now) (λ f. record f { format = header.now.format; longest = header.now.longest; description = header.now.description.now })
    (λ f. refl) (λ f. refl) (λ f. simp (cast_null, cast_int))

makes_whole : (n : ℕ) (old new : Trees) → Rewrites n our_in_file set_whole_terms [] old new → Makes n SetWhole old new
makes_whole n = header_rewritten n set_whole_terms [] (λ f. record f { state = Whole }) (λ f. refl) (λ f. refl) (λ f. simp (cast_null, cast_int))

pub header_set : (old new : State) (n : ℕ) (header : Bor NewHeader) (count : ℕ) → old.now.schema ≡ office_schema
    → ExecutesInside 0 set_header_text (number_value n ∷ header_columns header.now) old new (Ok count) → Moves (Makes n (SetHeader header)) old.now new.now
header_set old new n header count has h =
    moves_as _ _ old.now new.now (makes_header n header)
    (updates_row old new set_header_text 1 our_in_file set_header_terms (header_columns header.now) n count has set_header_is set_header_plain refl h)

pub whole_set : (old new : State) (n count : ℕ) → old.now.schema ≡ office_schema → ExecutesInside 0 set_whole_text (number_value n ∷ []) old new (Ok count) → Moves (Makes n SetWhole) old.now new.now
whole_set old new n count has h = moves_as _ _ old.now new.now (makes_whole n) (updates_row old new set_whole_text 1 our_in_file set_whole_terms [] n count has set_whole_is set_whole_plain refl h)

-- ---- a new file

bodies_behind : (n : ℕ) (files : List (List (List ℕ))) → bodies_from n (files ++ [] ∷ []) ≡ bodies_from n files
bodies_behind n [] = refl
bodies_behind n (f ∷ files) = ap (λ (rows : List Row). body_rows n 0 f ++ rows) (bodies_behind (n + 1) files)

issued_behind : (f : Incoming) → f.response ≡ None → (n : ℕ) (files : List Incoming) → issued_from n (files ++ f ∷ []) ≡ issued_from n files
issued_behind f none n [] = ap (λ o. issued_if_any n o ++ []) none
issued_behind f none n (g ∷ files) = ap (λ (rows : List Row). issued_if_any n g.response ++ rows) (issued_behind f none (n + 1) files)

pub all_and_last : {X : Type 0} (P : X → Type 0) (xs : List X) (x : X) → AllByRecursion P xs → P x → AllByRecursion P (xs ++ x ∷ [])
all_and_last P [] x all last = (last, tt)
all_and_last P (y ∷ xs) x all last = (all.0, all_and_last P xs x all.1 last)

-- the rows that the statements put in, with no rowid yet

abbrev incoming_source : ℕ → NewHeader → Row
incoming_source n header =
    number_value n ∷ Null ∷ identity_values header.identity.now ++ Text (format_text header.format) ∷ number_value header.longest ∷ Text header.description.now ∷ Text (codes "open") ∷ []

abbrev outgoing_source : ℕ → NewHeader → Row
outgoing_source n header =
    number_value n ∷ Null ∷ identity_values header.identity.now ++ Text (format_text header.format) ∷ number_value header.longest ∷ Text header.description.now
    ∷ number_value 0 ∷ Text (codes "waiting") ∷ Text [] ∷ []

makes_incoming : (n : ℕ) → n < 2 ^ 63 → (header : Bor NewHeader) (old new : Trees) → PutsIn n our_in_file (incoming_source n header.now) old new → Makes n (AddFile side.Incoming header) old new
makes_incoming n held header old new made r s did kept =
    let f = incoming_with header.now in
    let place = behind in_file_row (λ k x. refl) n r.incoming did.0.number in
    let was : old in_file_tree ≡ place.lo ++ [] = kept.incoming.headers ∙ place.was in
    let row = made.rows place.lo [] (in_file_row n f) place.split refl (simp (cast_null, cast_int)) was in
    lands in_file_tree (place.lo ++ in_file_row n f ∷ []) old new row s made.others
    (subst (λ (q : Register). Tables q (with_tree old in_file_tree (place.lo ++ in_file_row n f ∷ []))) (sym did.1) (record {
      about = kept.about;
      incoming = record {
        headers = sym (place.is f);
        rows = subst (λ rows. IsPermutation rows (less_rowids (old in_row_tree)))
            (sym (bodies_behind 1 (map rows_in r.incoming)) ∙ ap (bodies_from 1) (sym (map-append rows_in r.incoming (f ∷ [])))) kept.incoming.rows;
        row_ids = kept.incoming.row_ids;
        responses = kept.incoming.responses ∙ sym (issued_behind f refl 1 r.incoming);
        reasons = all_and_last (λ (x : Incoming). HasReason x.response) r.incoming f kept.incoming.reasons tt;
        few = omega (arith, held, did.0.number, length-append r.incoming (f ∷ []));
      };
      outgoing = kept.outgoing;
      received = kept.received;
    }))

makes_new_outgoing : (n : ℕ) → n < 2 ^ 63 → (header : Bor NewHeader) (old new : Trees) → PutsIn n our_out_file (outgoing_source n header.now) old new → Makes n (AddFile side.Outgoing header) old new
makes_new_outgoing n held header old new made r s did kept =
    let f = outgoing_with header.now [] in
    let place = behind out_file_row (λ k x. refl) n r.outgoing did.0.number in
    let was : old out_file_tree ≡ place.lo ++ [] = kept.outgoing.headers ∙ place.was in
    let row = made.rows place.lo [] (out_file_row n f) place.split refl (simp (cast_null, cast_int)) was in
    lands out_file_tree (place.lo ++ out_file_row n f ∷ []) old new row s made.others
    (subst (λ (q : Register). Tables q (with_tree old out_file_tree (place.lo ++ out_file_row n f ∷ []))) (sym did.1) (record {
      about = kept.about;
      incoming = kept.incoming;
      outgoing = record {
        headers = sym (place.is f);
        rows = subst (λ rows. IsPermutation rows (less_rowids (old out_row_tree)))
            (sym (bodies_behind 1 (map rows_out r.outgoing)) ∙ ap (bodies_from 1) (sym (map-append rows_out r.outgoing (f ∷ [])))) kept.outgoing.rows;
        row_ids = kept.outgoing.row_ids;
        reasons = all_and_last (λ (x : Outgoing). HasRefusal x.state) r.outgoing f kept.outgoing.reasons tt;
        few = omega (arith, held, did.0.number, length-append r.outgoing (f ∷ []));
      };
      received = kept.received;
    }))

pub file_added : (which : Side) (old new : State) (n : ℕ) → n < 2 ^ 63 → (header : Bor NewHeader) (count : ℕ) → old.now.schema ≡ office_schema
    → ExecutesInside 0 (add_file_text which) (header_params n header.now) old new (Ok count) → Moves (Makes n (AddFile which header)) old.now new.now
file_added side.Incoming old new n held header count has h =
    moves_as _ _ old.now new.now (makes_incoming n held header)
    (inserts_row old new (add_file_text side.Incoming) 1 our_in_file (add_file_terms side.Incoming) 11 (header_params n header.now) (incoming_source n header.now) n count
    has add_incoming_is (add_file_plain side.Incoming) refl refl h)
file_added side.Outgoing old new n held header count has h =
    moves_as _ _ old.now new.now (makes_new_outgoing n held header)
    (inserts_row old new (add_file_text side.Outgoing) 3 our_out_file (add_file_terms side.Outgoing) 13 (header_params n header.now) (outgoing_source n header.now) n count
    has add_outgoing_is (add_file_plain side.Outgoing) refl refl h)

-- ---- the response to an incoming file

abbrev our_issued : Table
our_issued = record issued { tree = issued_tree }

abbrev pub issued_piece : ℕ → Incoming → List Row
issued_piece n f = issued_if_any n f.response

pub issued_pieces : (n : ℕ) (files : List Incoming) → issued_from n files ≡ pieces_from issued_piece n files
issued_pieces n [] = refl
issued_pieces n (f ∷ files) = ap (λ rows. issued_piece n f ++ rows) (issued_pieces (n + 1) files)

pub issued_number : (n : ℕ) (f : Incoming) → HaveNumber n (issued_piece n f)
issued_number n f = elim f.response as (λ o. HaveNumber n (issued_if_any n o)) [ None ↦ tt | Some x ↦ (refl, tt) ]

-- the response of one file is replaced
response_lands : (r : Register) (n : ℕ) (before : List Incoming) (f : Incoming) (x : Issued) (after : List Incoming) → r.incoming ≡ before ++ f ∷ after → x.reason < 100 → n ≡ 1 + length before
    → (old new : Trees) → new issued_tree ≡ pieces_from issued_piece 1 before ++ issued_row n x ∷ pieces_from issued_piece (n + 1) after → Others issued_tree old new → Tables r old
    → Tables (record r { incoming = before ++ (record f { response = Some x }) ∷ after }) new
response_lands r n before f x after here small at old new row others kept =
    let g : Incoming = record f { response = Some x } in
    let files = before ++ g ∷ after in
    let all = pieces_from issued_piece 1 before ++ issued_row n x ∷ pieces_from issued_piece (n + 1) after in
    lands issued_tree all old new row (record r { incoming = files }) others (record {
      about = kept.about;
      incoming = record {
        headers = kept.incoming.headers ∙ ap (rows_from in_file_row 1) here ∙ sym (rows_same f g 1 before after);
        rows = subst (λ files. IsPermutation (bodies_from 1 files) (less_rowids (old in_row_tree))) (ap (map rows_in) here ∙ sym (same_but rows_in before f g after refl)) kept.incoming.rows;
        row_ids = kept.incoming.row_ids;
        responses = sym (issued_pieces 1 files ∙ (among issued_piece issued_number n before g after at).rows);
        reasons = all_but (λ (y : Incoming). HasReason y.response) before f g after small (subst (AllByRecursion (λ (y : Incoming). HasReason y.response)) here kept.incoming.reasons);
        few = omega (arith, kept.incoming.few, ap length here, length_but before f g after);
      };
      outgoing = kept.outgoing;
      received = kept.received;
    })
  where
    rows_same : (f : Incoming) (g : Incoming) → (k : ℕ) (before after : List Incoming)
        → rows_from in_file_row k (before ++ (record f { response = g.response }) ∷ after) ≡ rows_from in_file_row k (before ++ f ∷ after)
    rows_same f g k [] after = refl
    rows_same f g k (b ∷ before) after = ap (λ (rows : List Row). in_file_row k b ∷ rows) (rows_same f g (k + 1) before after)

-- the parameters of the statement that adds a response, and the row that it puts in

abbrev pub issued_params : ℕ → NewIssued → Row
issued_params n response = number_value n ∷ Text (kind_text response.kind) ∷ Text (reason_text response.kind response.reason) ∷ Text response.text.now ∷ []

abbrev issued_source : ℕ → NewIssued → Row
issued_source n response =
    number_value n ∷ Null ∷ Text (kind_text response.kind) ∷ Text (reason_text response.kind response.reason) ∷ Text response.text.now ∷ number_value 0 ∷ []

makes_issued : (n : ℕ) (response : Bor NewIssued) → response.now.reason < 100 → (old new : Trees) → PutsIn n our_issued (issued_source n response.now) old new → Makes n (AddIssued response) old new
makes_issued n response small old new made r s did kept =
    let f = did.file in
    let x = issued_with response.now in
    let place = among issued_piece issued_number n did.before f did.after did.number in
    let was : old issued_tree ≡ pieces_from issued_piece 1 did.before ++ pieces_from issued_piece (n + 1) did.after =
    kept.incoming.responses ∙ ap (issued_from 1) did.here ∙ issued_pieces 1 (did.before ++ f ∷ did.after) ∙ place.rows
    ∙ ap (λ o. pieces_from issued_piece 1 did.before ++ (issued_if_any n o ++ pieces_from issued_piece (n + 1) did.after)) did.was in
    let row = made.rows _ _ (issued_row n x) place.split refl (simp (cast_null, cast_int)) was in
    subst (λ (q : Register). Tables q new) (sym did.now) (response_lands r n did.before f x did.after did.here small did.number old new row made.others kept)

makes_sent : (n : ℕ) (old new : Trees) → Rewrites n our_issued set_sent_terms [] old new → Makes n SetSent old new
makes_sent n old new made r s done kept =
    let answer = done.0 in
    let did = done.1 in
    let f = did.file in
    let x : Issued = record answer { dispatch = Sent } in
    let place = among issued_piece issued_number n did.before f did.after did.number in
    let was : old issued_tree ≡ pieces_from issued_piece 1 did.before ++ issued_row n answer ∷ pieces_from issued_piece (n + 1) did.after =
    kept.incoming.responses ∙ ap (issued_from 1) did.here ∙ issued_pieces 1 (did.before ++ f ∷ did.after) ∙ place.rows
    ∙ ap (λ o. pieces_from issued_piece 1 did.before ++ (issued_if_any n o ++ pieces_from issued_piece (n + 1) did.after)) did.was in
    let row = made.rows _ _ (issued_row n answer) (issued_row n x) place.split refl refl (simp (cast_null, cast_int)) was in
    let small : answer.reason < 100 =
    subst HasReason did.was (at_place (λ (y : Incoming). HasReason y.response) did.before f did.after
    (subst (AllByRecursion (λ (y : Incoming). HasReason y.response)) did.here kept.incoming.reasons)) in
    subst (λ (q : Register). Tables q new) (sym did.now) (response_lands r n did.before f x did.after did.here small did.number old new row made.others kept)

pub issued_added : (old new : State) (n : ℕ) (response : Bor NewIssued) (count : ℕ) → response.now.reason < 100 → old.now.schema ≡ office_schema
    → ExecutesInside 0 add_issued_text (issued_params n response.now) old new (Ok count) → Moves (Makes n (AddIssued response)) old.now new.now
issued_added old new n response count small has h =
    moves_as _ _ old.now new.now (makes_issued n response small)
    (inserts_row old new add_issued_text 5 our_issued add_issued_terms 6 (issued_params n response.now) (issued_source n response.now) n count has add_issued_is add_issued_plain refl refl h)

pub sent_set : (old new : State) (n count : ℕ) → old.now.schema ≡ office_schema → ExecutesInside 0 set_sent_text (number_value n ∷ []) old new (Ok count) → Moves (Makes n SetSent) old.now new.now
sent_set old new n count has h = moves_as _ _ old.now new.now (makes_sent n) (updates_row old new set_sent_text 5 our_issued set_sent_terms [] n count has set_sent_is set_sent_plain refl h)
