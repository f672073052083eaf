-- What a page of the received responses answers, each with its texts.
use Rattle.std.proofs.Common.{◌≡◌, ◌<◌, ℕ, List, [], ◌∷◌, codes, Some, All, refl, sym, ap, subst, ◌∙◌}
use Rattle.std.specs.List.{AllByRecursion}
use Rattle.sqlite_tied.specs.Compute.{everything}
use Rattle.sqlite.specs.declared.types.Value.TheVariants.{Null, Text}
use Rattle.sqlite.specs.Order.{Row}
use Rattle.sqlite.specs.Term.{Term, Env, col, eval_all}
use Rattle.sqlite.specs.Query.{left, end, or_nulls}
use Rattle.sqlite.specs.Command.{Command}
use Rattle.sqlite.specs.Command.TheVariants.{Select}
use Rattle.sqlite.specs.Listing.{understood}
use Rattle.oftp_wire.specs.Octets.{number}
use Rattle.oftp_register.specs.declared.entry.Dispatch.TheVariants.{Due}
use Rattle.oftp_register.specs.declared.entry.ResponseKind.{ResponseKind}
use Rattle.oftp_register.specs.declared.entry.ResponseKind.TheVariants.{EndResponse, NegativeEndResponse}
use Rattle.oftp_register.specs.Register.{Issued, Received}
use Rattle.oftp_register.specs.Soundness.{IsResponse, IsSoundReceived}
use Rattle.oftp_register.specs.LookUps.{numbered, received_entry}
use Rattle.oftp_tables.specs.Schema.{note_tree, received_tree}
use Rattle.oftp_tables.specs.Tables.{note_if_negative, number_value, reason_text, received_row}
use Rattle.oftp_tables.proofs.BackLemmas.{all_at_place, at_place, issued_back, kind_back}
use Rattle.oftp_store.specs.Reads.{all_listed, numbers_of, paged_note, paged_received, paged_received_number, received_entry_of, received_header_in}
use Rattle.oftp_store.specs.Tells.{FindsPages}
use Rattle.oftp_store.specs.Texts.{received_page_text}
use Rattle.oftp_store.specs.declared.queries.received.ReceivedHeader.{ReceivedHeader}
use Rattle.oftp_store.specs.declared.queries.received.ReceivedNote.{ReceivedNote}
use Rattle.oftp_store.proofs.ListPageLemmas.{finds_also, finds_by, joins, numbers_same, page_on, page_params, page_query, page_told}
use Rattle.oftp_store.proofs.ReadLemmas.{IsRead}
use Rattle.oftp_store.proofs.ReceivedEditLemmas.{note_number, note_piece, notes_pieces}

-- ---- the query

abbrev page_project : List Term
page_project = col 1 2 ∷ col 1 3 ∷ col 1 4 ∷ col 1 5 ∷ col 1 6 ∷ col 1 7 ∷ col 1 8 ∷ col 2 2 ∷ col 2 3 ∷ col 1 0 ∷ []

abbrev page_select : Command
page_select =
    Select (record { lets = []; body = page_query received_tree (left note_tree page_on end) page_project })
    (codes "kind" ∷ codes "dataset" ∷ codes "date" ∷ codes "time" ∷ codes "originator" ∷ codes "destination" ∷ codes "reason" ∷ codes "creator" ∷ codes "note" ∷ codes "no" ∷ [])

page_read : IsRead received_page_text page_select
unfolding understood everything
page_read = record { is = refl; unlisted = refl; plain = (refl, refl) }

-- the row of the texts of a response, with no column where it has none
abbrev note_row : ℕ → Received → ResponseKind → Row
note_row n x EndResponse = []
note_row n x NegativeEndResponse = number_value n ∷ Null ∷ Text x.creator ∷ Text x.text ∷ []

or_null : (n : ℕ) (x : Received) (kind : ResponseKind) → or_nulls (note_if_negative n x kind) ≡ note_row n x kind ∷ []
or_null n x EndResponse = refl
or_null n x NegativeEndResponse = refl

abbrev page_env : ℕ → ℕ → Received → Env
page_env behind n x = page_params behind ∷ received_row n x ∷ note_row n x x.kind ∷ []

abbrev page_row : ℕ → ℕ → Received → ResponseKind → Row
page_row behind n x kind = eval_all page_project (page_params behind ∷ received_row n x ∷ note_row n x kind ∷ [])

-- ---- what a row has

textless : (kind : ResponseKind) (reason : ℕ) (creator text : List ℕ) → IsResponse kind reason creator text → IsResponse kind reason [] []
textless EndResponse reason creator text h = (h.0, refl, refl)
textless NegativeEndResponse reason creator text h = tt

reason_is_back : (x : Received) → x.reason < 100 → IsSoundReceived x → number (reason_text x.kind x.reason) ≡ x.reason
reason_is_back x small sound =
    let answer : Issued = record { kind = x.kind; reason = x.reason; text = []; dispatch = Due } in
    ap (λ (i : Issued). i.reason) (issued_back 0 answer small (textless x.kind x.reason x.creator x.text sound))

abbrev header_of : Received → ReceivedHeader
header_of x = record { kind = x.kind; identity = x.identity; reason = x.reason }

header_back : (behind n : ℕ) (x : Received) → x.reason < 100 → IsSoundReceived x → received_header_in (page_row behind n x x.kind) ≡ header_of x
header_back behind n x small sound =
    ap (λ y. let h : ReceivedHeader = record { kind = y; identity = x.identity; reason = number (reason_text x.kind x.reason) } in h) (kind_back x.kind)
    ∙ ap (λ y. let h : ReceivedHeader = record { kind = x.kind; identity = x.identity; reason = y } in h) (reason_is_back x small sound)

abbrev note_of : Received → ReceivedNote
note_of x = record { creator = x.creator; text = x.text }

-- an End-to-End Response has no texts
note_back : (behind n : ℕ) (x : Received) (kind : ResponseKind) → IsResponse kind x.reason x.creator x.text → paged_note kind (page_row behind n x kind) ≡ note_of x
note_back behind n x EndResponse sound =
    ap (λ c. let m : ReceivedNote = record { creator = c; text = [] } in m) (sym sound.1) ∙ ap (λ t. let m : ReceivedNote = record { creator = x.creator; text = t } in m) (sym sound.2)
note_back behind n x NegativeEndResponse sound = refl

row_back : (behind n : ℕ) (x : Received) → x.reason < 100 → IsSoundReceived x → paged_received (page_row behind n x x.kind) ≡ received_entry n x
row_back behind n x small sound =
    let row = page_row behind n x x.kind in
    ap (λ (h : ReceivedHeader). received_entry_of n h (paged_note h.kind row)) (header_back behind n x small sound)
    ∙ ap (received_entry_of n (header_of x)) (note_back behind n x x.kind sound)

-- an entry that is made of what a row has
pub received_told : (row : Row) (k : ℕ) (header : ReceivedHeader) (note : ReceivedNote) → header ≡ received_header_in row → note ≡ paged_note header.kind row → k ≡ paged_received_number row
    → received_entry_of k header note ≡ paged_received row
received_told row k header note header_is note_is number_is =
    ap (received_entry_of k header) note_is ∙ ap (λ (h : ReceivedHeader). received_entry_of k h (paged_note h.kind row)) header_is
    ∙ ap (λ n. received_entry_of n (received_header_in row) (paged_note (received_header_in row).kind row)) number_is

module _ {E : Type 0} (told : Row → E) (entry : ℕ → Received → E) (back : (behind n : ℕ) (x : Received) → x.reason < 100 → IsSoundReceived x
    → told (page_row behind n x x.kind) ≡ entry n x) where
  finds_page : FindsPages received_page_text (λ r row. told row) (λ r. numbered entry 1 r.received)
  finds_page = finds_by page_read (λ db behind rows answer r kept sound.
      page_told received_row received_tree (left note_tree page_on end) page_project db.trees behind r.received (λ n x. page_env behind n x) (λ n x. refl)
      (joins received_row (λ n x. refl) note_piece note_number (λ n x. note_row n x x.kind) (λ n x. or_null n x x.kind) note_tree db.trees behind r.received
      (kept.received.notes_are ∙ notes_pieces 1 r.received))
      told entry
      (λ n before x after placed.
      let small = at_place (λ (y : Received). y.reason < 100) before x after (subst (AllByRecursion (λ (y : Received). y.reason < 100)) placed.here kept.received.reasons) in
      let right = all_at_place IsSoundReceived before x after (subst (All IsSoundReceived) placed.here sound.received) in
      back behind n x small right)
      rows kept.received.responses_are (answer.answer Null))

pub finds_received : FindsPages received_page_text (λ r row. Some (paged_received row)) (λ r. all_listed received_entry r.received)
finds_received = finds_page (λ row. Some (paged_received row)) (λ n x. Some (received_entry n x)) (λ behind n x small right. ap Some (row_back behind n x small right))

pub numbers_received : FindsPages received_page_text (λ r row. paged_received_number row) (λ r. numbers_of (all_listed received_entry r.received))
numbers_received = finds_also _ (finds_page paged_received_number (λ n x. n) (λ behind n x small right. refl)) (λ r. numbers_same (λ n x. Some (received_entry n x)) r.received)
