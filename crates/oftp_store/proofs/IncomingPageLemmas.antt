-- What a page of the incoming files answers, each with its response.
use Rattle.std.proofs.Common.{◌≡◌, ℕ, List, [], ◌∷◌, length, unwrap_or, codes, Option, Some, None, All, refl, ap, subst, ◌∙◌}
use Rattle.std.specs.List.{AllByRecursion}
use Rattle.std.specs.Option.{option_map}
use Rattle.sqlite_tied.specs.Compute.{everything}
use Rattle.sqlite.specs.declared.types.Value.TheVariants.{Null}
use Rattle.sqlite.specs.Order.{Row}
use Rattle.sqlite.specs.Tree.{Trees}
use Rattle.sqlite.specs.Term.{Term, Env, col, eval_all}
use Rattle.sqlite.specs.Query.{left, end, or_nulls}
use Rattle.sqlite.specs.Command.{Command}
use Rattle.sqlite.specs.Command.TheVariants.{Select}
use Rattle.sqlite.specs.Listing.{understood}
use Rattle.oftp_register.specs.declared.entry.IncomingState.{IncomingState}
use Rattle.oftp_register.specs.declared.entries.IncomingEntry.{IncomingEntry}
use Rattle.oftp_register.specs.declared.entries.IssuedResponse.{IssuedResponse}
use Rattle.oftp_register.specs.declared.entries.Side.TheVariants as side
use Rattle.oftp_vfile.specs.declared.format.Format.{Format}
use Rattle.oftp_register.specs.Register.{Register, Incoming, Issued}
use Rattle.oftp_register.specs.Soundness.{IsSound, IsSoundAnswer, IsSoundIncoming}
use Rattle.oftp_register.specs.LookUps.{file_rows, incoming_entry, issued_entry, issued_response, numbered}
use Rattle.oftp_tables.specs.Schema.{in_file_tree, issued_tree}
use Rattle.oftp_tables.specs.Tables.{HasReason, Tables, in_file_row, in_state_in, in_state_text, issued_if_any, issued_row, rows_in}
use Rattle.oftp_tables.proofs.BackLemmas.{all_at_place, at_place, format_back, in_state_back, issued_back}
use Rattle.oftp_store.specs.Reads.{IsPlaced, all_listed, incoming_entry_of, incoming_header_in, incoming_header_of, issued_entry_of, numbers_of, paged_entry, paged_file, paged_issued, paged_number, paged_response}
use Rattle.oftp_store.specs.declared.queries.header.IncomingHeader.{IncomingHeader}
use Rattle.oftp_store.specs.Tells.{FindsPages}
use Rattle.oftp_store.specs.Texts.{in_page_text}
use Rattle.oftp_store.proofs.EditLemmas.{issued_number, issued_piece, issued_pieces}
use Rattle.oftp_store.proofs.ListLemmas.{entry_made}
use Rattle.oftp_store.proofs.ListPageLemmas.{finds_also, finds_by, joins, numbers_same, page_on, page_params, page_query, page_told}
use Rattle.oftp_store.proofs.ProgressLemmas.{mapped_placed}
use Rattle.oftp_store.proofs.ReadLemmas.{IsRead}

-- ---- the query

abbrev page_project : List Term
page_project = col 1 2 ∷ col 1 3 ∷ col 1 4 ∷ col 1 5 ∷ col 1 6 ∷ col 1 7 ∷ col 1 8 ∷ col 1 9 ∷ col 1 10 ∷ col 2 2 ∷ col 2 3 ∷ col 2 4 ∷ col 2 5 ∷ col 1 0 ∷ []

abbrev page_select : Command
page_select =
    Select (record { lets = []; body = page_query in_file_tree (left issued_tree page_on end) page_project })
    (codes "dataset" ∷ codes "date" ∷ codes "time" ∷ codes "originator" ∷ codes "destination" ∷ codes "format" ∷ codes "longest" ∷ codes "description" ∷ codes "state"
    ∷ codes "kind" ∷ codes "reason" ∷ codes "note" ∷ codes "sent" ∷ codes "no" ∷ [])

page_read : IsRead in_page_text page_select
unfolding understood everything
page_read = record { is = refl; unlisted = refl; plain = (refl, refl) }

-- the row of the response to a file, with no column where there is none
abbrev answer_row : ℕ → Option Issued → Row
answer_row n None = []
answer_row n (Some x) = issued_row n x

or_null : (n : ℕ) (o : Option Issued) → or_nulls (issued_if_any n o) ≡ answer_row n o ∷ []
or_null n None = refl
or_null n (Some x) = refl

abbrev page_env : ℕ → ℕ → Incoming → Env
page_env behind n f = page_params behind ∷ in_file_row n f ∷ answer_row n f.response ∷ []

abbrev page_row : ℕ → ℕ → Incoming → Option Issued → Row
page_row behind n f o = eval_all page_project (page_params behind ∷ in_file_row n f ∷ answer_row n o ∷ [])

-- ---- what a row has

answer_back : (behind n : ℕ) (f : Incoming) (o : Option Issued) → HasReason o → IsSoundAnswer o → paged_response (page_row behind n f o) ≡ option_map issued_response o
answer_back behind n f None small right = refl
answer_back behind n f (Some x) small right = ap (λ (i : Issued). Some (issued_response i)) (issued_back n x small right)

abbrev made : ℕ → Incoming → Format → IncomingState → ℕ → Option IssuedResponse → IncomingEntry
made n f format state count response =
    record { no = n; identity = f.identity; format = format; longest = f.longest; description = f.description; state = state; rows = count; response = response }

row_back : (r : Register) (behind n : ℕ) (f : Incoming) → HasReason f.response → IsSoundAnswer f.response → length (file_rows r side.Incoming n) ≡ length f.rows
    → paged_entry r (page_row behind n f f.response) ≡ incoming_entry n f
row_back r behind n f small right counted =
    let count = length (file_rows r side.Incoming n) in
    let response = paged_response (page_row behind n f f.response) in
    ap (λ format. made n f format (in_state_in (in_state_text f.state)) count response) (format_back f.format)
    ∙ ap (λ state. made n f f.format state count response) (in_state_back f.state)
    ∙ ap (λ count. made n f f.format f.state count response) counted
    ∙ ap (made n f f.format f.state (length f.rows)) (answer_back behind n f f.response small right)

-- an entry that is made of what a row has
pub file_told : (row : Row) (k rows : ℕ) (header : IncomingHeader) (response : Option IssuedResponse) → header ≡ incoming_header_in row → response ≡ paged_response row
    → k ≡ paged_number row → incoming_entry_of k header rows response ≡ paged_file row rows
file_told row k rows header response header_is response_is number_is =
    ap (λ h. incoming_entry_of k h rows response) header_is ∙ ap (incoming_entry_of k (incoming_header_in row) rows) response_is
    ∙ ap (λ n. incoming_entry_of n (incoming_header_in row) rows (paged_response row)) number_is

-- the response that a row has, with its file

pub none_issued : (row : Row) → None ≡ paged_response row → None ≡ paged_issued row
none_issued row is = ap (option_map (issued_entry_of (paged_number row) (incoming_header_in row))) is

pub issued_told : (row : Row) (k : ℕ) (header : IncomingHeader) (x : IssuedResponse) → header ≡ incoming_header_in row → Some x ≡ paged_response row → k ≡ paged_number row
    → Some (issued_entry_of k header x) ≡ paged_issued row
issued_told row k header x header_is response_is number_is =
    ap (λ n. Some (issued_entry_of n header x)) number_is ∙ ap (λ h. Some (issued_entry_of (paged_number row) h x)) header_is
    ∙ ap (option_map (issued_entry_of (paged_number row) (incoming_header_in row))) response_is

-- ---- a page of the files

-- what is true of a file, by its place
record IsFit (r : Register) (n : ℕ) (f : Incoming) : Type 0 where
  small : HasReason f.response
  right : IsSoundAnswer f.response
  counted : length (file_rows r side.Incoming n) ≡ length f.rows

fit_at : (r : Register) (db : Trees) (n : ℕ) (before : List Incoming) (f : Incoming) (after : List Incoming) → IsPlaced r.incoming n before f after
    → Tables r db → IsSound r → IsFit r n f
fit_at r db n before f after placed kept sound = record {
  small = at_place (λ (x : Incoming). HasReason x.response) before f after (subst (AllByRecursion (λ (x : Incoming). HasReason x.response)) placed.here kept.incoming.reasons);
  right = (all_at_place IsSoundIncoming before f after (subst (All IsSoundIncoming) placed.here sound.incoming)).answer;
  counted = ap (λ o. length (unwrap_or o [])) (mapped_placed rows_in n r.incoming before f after placed);
}

module _ {E : Type 0} (told : Register → Row → E) (entry : ℕ → Incoming → E) (back : (r : Register) (behind n : ℕ) (f : Incoming) → IsFit r n f
    → told r (page_row behind n f f.response) ≡ entry n f) where
  finds_page : FindsPages in_page_text told (λ r. numbered entry 1 r.incoming)
  finds_page = finds_by page_read (λ db behind rows answer r kept sound.
      page_told in_file_row in_file_tree (left issued_tree page_on end) page_project db.trees behind r.incoming (λ n f. page_env behind n f) (λ n f. refl)
      (joins in_file_row (λ n f. refl) issued_piece issued_number (λ n f. answer_row n f.response) (λ n f. or_null n f.response) issued_tree db.trees behind r.incoming
      (kept.incoming.responses ∙ issued_pieces 1 r.incoming))
      (told r) entry (λ n before f after placed. back r behind n f (fit_at r db.trees n before f after placed kept sound))
      rows kept.incoming.headers (answer.answer Null))

pub finds_incoming : FindsPages in_page_text (λ r row. Some (paged_entry r row)) (λ r. all_listed incoming_entry r.incoming)
finds_incoming =
    finds_page (λ r row. Some (paged_entry r row)) (λ n f. Some (incoming_entry n f)) (λ r behind n f fit. ap Some (row_back r behind n f fit.small fit.right fit.counted))

pub finds_issued : FindsPages in_page_text (λ r row. paged_issued row) (λ r. numbered issued_entry 1 r.incoming)
finds_issued = finds_page (λ r row. paged_issued row) issued_entry (λ r behind n f fit.
    ap (option_map (issued_entry_of n (incoming_header_of f))) (answer_back behind n f f.response fit.small fit.right) ∙ entry_made n f f.response)

pub numbers_incoming : {E : Type 0} (entry : ℕ → Incoming → E) → FindsPages in_page_text (λ r row. paged_number row) (λ r. numbers_of (numbered entry 1 r.incoming))
numbers_incoming entry = finds_also _ (finds_page (λ r row. paged_number row) (λ n f. n) (λ r behind n f fit. refl)) (λ r. numbers_same entry r.incoming)
