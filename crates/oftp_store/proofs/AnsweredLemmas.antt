-- What a page of the received responses answers, each with the file that has its identity.
use Rattle.std.proofs.Common.{◌≡◌, ◌+◌, ℕ, Bool, true, false, cond, if◌then◌else◌, List, [], ◌∷◌, map, filter, find, codes, Option, Some, inl, inr, refl, sym, ap, ◌∙◌}
use Rattle.std.specs.List.{list_all, list_any}
use Rattle.std.specs.Option.{option_map}
use Rattle.std.proofs.lemmas.Bool.{cases_Bool, cond-true, cond-false, or_parts}
use Rattle.sqlite_tied.specs.Compute.{everything}
use Rattle.sqlite.specs.declared.types.Value.TheVariants.{Null}
use Rattle.sqlite.specs.Order.{Row, column}
use Rattle.sqlite.specs.Tree.{Trees}
use Rattle.sqlite.specs.Term.{Term, col, eval_all, holds}
use Rattle.sqlite.specs.Query.{left, end, or_nulls}
use Rattle.sqlite.specs.Command.{Command}
use Rattle.sqlite.specs.Command.TheVariants.{Select}
use Rattle.sqlite.specs.Listing.{understood}
use Rattle.oftp_register.specs.declared.entry.Identity.{Identity}
use Rattle.oftp_register.specs.declared.entries.AnsweredEntry.{AnsweredEntry}
use Rattle.oftp_register.specs.declared.entries.OutgoingEntry.{OutgoingEntry}
use Rattle.oftp_register.specs.Register.{Register, Outgoing, Received, same_identity}
use Rattle.oftp_register.specs.Soundness.{AreNamedOnce}
use Rattle.oftp_register.specs.LookUps.{answered_entry, numbered, outgoing_entry}
use Rattle.oftp_register.proofs.NameLemmas.{same_identity-true}
use Rattle.oftp_tables.specs.Schema.{out_file_tree, received_tree}
use Rattle.oftp_tables.specs.Tables.{number_in, out_file_row, received_row, rows_from}
use Rattle.oftp_tables.proofs.TermLemmas.{and_true, equal, equal_texts}
use Rattle.oftp_store.specs.Reads.{all_listed, if_told, numbers_of, paged_answered, paged_answered_number}
use Rattle.oftp_store.specs.Tells.{FindsPages}
use Rattle.oftp_store.specs.Texts.{answered_page_text}
use Rattle.oftp_store.proofs.FilingLemmas.{name_of, no_other}
use Rattle.oftp_store.proofs.ListPageLemmas.{finds_also, finds_by, joins_one, numbers_same, page_params, page_query, page_told}
use Rattle.oftp_store.proofs.ReadLemmas.{IsRead}

-- ---- the query

-- what is joined has the identity of the response
abbrev identity_on : List Term
identity_on = equal (col 2 2) (col 1 3) ∷ equal (col 2 3) (col 1 4) ∷ equal (col 2 4) (col 1 5) ∷ equal (col 2 5) (col 1 6) ∷ equal (col 2 6) (col 1 7) ∷ []

abbrev page_project : List Term
page_project = col 1 0 ∷ col 2 0 ∷ []

abbrev page_select : Command
page_select =
    Select (record { lets = []; body = page_query received_tree (left out_file_tree identity_on end) page_project }) (codes "no" ∷ codes "no" ∷ [])

page_read : IsRead answered_page_text page_select
unfolding understood everything
page_read = record { is = refl; unlisted = refl; plain = (refl, refl) }

-- ---- the file with an identity

-- its row, in a table that begins with a number, or a row with no column where there is none
abbrev named_row : Identity → ℕ → List Outgoing → Row
named_row it n [] = []
named_row it n (f ∷ files) = if same_identity f.identity it then out_file_row n f else named_row it (n + 1) files

-- such a row is the only one that passes a test for the identity
module _ (it : Identity) (test : Row → Bool) (same : (n : ℕ) (f : Outgoing) → test (out_file_row n f) ≡ same_identity f.identity it) where
  none_named : (n : ℕ) (files : List Outgoing) → list_any (λ (f : Outgoing). same_identity f.identity it) files ≡ false → filter test (rows_from out_file_row n files) ≡ []
  none_named n [] h = refl
  none_named n (f ∷ files) h =
      let parts = or_parts (same_identity f.identity it) (list_any (λ (g : Outgoing). same_identity g.identity it) files) h in
      cond-false (test (out_file_row n f)) _ _ (same n f ∙ parts.0) ∙ none_named (n + 1) files parts.1

  one_named : (n : ℕ) (files : List Outgoing) → AreNamedOnce (map name_of files) → or_nulls (filter test (rows_from out_file_row n files)) ≡ named_row it n files ∷ []
  one_named n [] once = refl
  one_named n (f ∷ files) once =
      let row = out_file_row n f in
      let later = filter test (rows_from out_file_row (n + 1) files) in
      elim (cases_Bool (same_identity f.identity it)) [
        | inl here ↦
            ap or_nulls (cond-true (test row) (row ∷ later) later (same n f ∙ here))
            ∙ ap (λ rows. row ∷ rows) (none_named (n + 1) files (no_other it f files once (same_identity-true f.identity it here)))
            ∙ sym (ap (λ s. s ∷ []) (cond-true (same_identity f.identity it) row (named_row it (n + 1) files) here))
        | inr other ↦
            ap or_nulls (cond-false (test row) (row ∷ later) later (same n f ∙ other))
            ∙ one_named (n + 1) files once.1
            ∙ sym (ap (λ s. s ∷ []) (cond-false (same_identity f.identity it) row (named_row it (n + 1) files) other))
      ]

-- the number in a row, if it has one
abbrev no_told : Row → Option ℕ
no_told s = if_told (column s 0) (number_in (column s 0))

-- it is the number of that file
named_number : (it : Identity) (n : ℕ) (files : List Outgoing)
    → no_told (named_row it n files) ≡ option_map (λ (e : OutgoingEntry). e.no) (find (λ (e : OutgoingEntry). same_identity e.identity it) (numbered outgoing_entry n files))
named_number it n [] = refl
named_number it n (f ∷ files) = go (same_identity f.identity it) (named_number it (n + 1) files)
  where
    later : Option OutgoingEntry
    later = find (λ (e : OutgoingEntry). same_identity e.identity it) (numbered outgoing_entry (n + 1) files)

    go : (b : Bool) → no_told (named_row it (n + 1) files) ≡ option_map (λ (e : OutgoingEntry). e.no) later
        → no_told (cond b (out_file_row n f) (named_row it (n + 1) files)) ≡ option_map (λ (e : OutgoingEntry). e.no) (cond b (Some (outgoing_entry n f)) later)
    go true more = refl
    go false more = more

-- ---- what a row of a page has

-- the row of the file that a response answers
abbrev answered_row : Register → Received → Row
answered_row r x = named_row x.identity 1 r.outgoing

answer_passes : (behind n m : ℕ) (x : Received) (f : Outgoing)
    → list_all (holds (page_params behind ∷ received_row n x ∷ out_file_row m f ∷ [])) identity_on ≡ same_identity f.identity x.identity
answer_passes behind n m x f = simp (equal_texts, and_true)

joined : (r : Register) (db : Trees) (behind n : ℕ) (x : Received) → db out_file_tree ≡ rows_from out_file_row 1 r.outgoing → AreNamedOnce (map name_of r.outgoing)
    → or_nulls (filter (λ s. list_all (holds (page_params behind ∷ received_row n x ∷ s ∷ [])) identity_on) (db out_file_tree)) ≡ answered_row r x ∷ []
joined r db behind n x table once =
    let test = λ (s : Row). list_all (holds (page_params behind ∷ received_row n x ∷ s ∷ [])) identity_on in
    ap (λ rows. or_nulls (filter test rows)) table ∙ one_named x.identity test (λ m f. answer_passes behind n m x f) 1 r.outgoing once

abbrev page_row : Register → ℕ → ℕ → Received → Row
page_row r behind n x = eval_all page_project (page_params behind ∷ received_row n x ∷ answered_row r x ∷ [])

row_back : (r : Register) (behind n : ℕ) (x : Received) → paged_answered (page_row r behind n x) ≡ answered_entry r n x
row_back r behind n x = ap (λ file. let e : AnsweredEntry = record { no = n; file = file } in e) (named_number x.identity 1 r.outgoing)

module _ {E : Type 0} (told : Row → E) (entry : Register → ℕ → Received → E) (back : (r : Register) (behind n : ℕ) (x : Received) → told (page_row r behind n x) ≡ entry r n x) where
  finds_page : FindsPages answered_page_text (λ r row. told row) (λ r. numbered (entry r) 1 r.received)
  finds_page = finds_by page_read (λ db behind rows answer r kept sound.
      page_told received_row received_tree (left out_file_tree identity_on end) page_project db.trees behind r.received
      (λ n x. page_params behind ∷ received_row n x ∷ answered_row r x ∷ []) (λ n x. refl)
      (λ n before x after placed.
      joins_one received_row (λ n x. refl) db.trees behind n x out_file_tree identity_on (answered_row r x)
      (joined r db.trees behind n x kept.outgoing.headers sound.outgoing_once))
      told (entry r) (λ n before x after placed. back r behind n x)
      rows kept.received.responses_are (answer.answer Null))

pub finds_answered : FindsPages answered_page_text (λ r row. Some (paged_answered row)) (λ r. all_listed (answered_entry r) r.received)
finds_answered = finds_page (λ row. Some (paged_answered row)) (λ r n x. Some (answered_entry r n x)) (λ r behind n x. ap Some (row_back r behind n x))

pub numbers_answered : FindsPages answered_page_text (λ r row. paged_answered_number row) (λ r. numbers_of (all_listed (answered_entry r) r.received))
numbers_answered = finds_also _ (finds_page paged_answered_number (λ r n x. n) (λ r behind n x. refl)) (λ r. numbers_same (λ n x. Some (answered_entry r n x)) r.received)
