-- Headers and responses are read back.
use Rattle.std.proofs.Common.{◌≡◌, ◌+◌, ℕ, List, [], ◌∷◌, ◌++◌, codes, Option, Some, None, All, refl, ap, subst, ◌∙◌}
use Rattle.std.specs.List.{AllByRecursion}
use Rattle.std.specs.List.Sorted.{IsPermutation}
use Rattle.std.specs.Option.{option_map}
use Rattle.sqlite_tied.specs.Compute.{everything}
use Rattle.sqlite.specs.declared.types.Value.TheVariants.{Null}
use Rattle.sqlite.specs.Order.{Row}
use Rattle.sqlite.specs.Term.{Term, col, eval_all}
use Rattle.sqlite.specs.Command.{Command}
use Rattle.sqlite.specs.Command.TheVariants.{Select}
use Rattle.sqlite.specs.Listing.{understood}
use Rattle.sqlite.specs.Effect.{Database, Reads}
use Rattle.sqlite.proofs.Callers.{one_permutation}
use Rattle.oftp_tables.specs.Schema.{in_file_tree, issued_tree, out_file_tree}
use Rattle.oftp_tables.proofs.QueryLemmas.{answers, chosen, plain_query}
use Rattle.oftp_register.specs.Register.{Register, Incoming, Issued, Outgoing}
use Rattle.oftp_register.specs.Soundness.{IsSound, IsSoundAnswer, IsSoundIncoming}
use Rattle.oftp_register.specs.LookUps.{issued_response}
use Rattle.oftp_tables.specs.Tables.{HasReason, HasRefusal, Tables, format_in, format_text, in_file_row, in_state_in, in_state_text, issued_from, issued_if_any, issued_row, number_value, out_file_row, out_state_in, out_state_text, refusal_text}
use Rattle.oftp_tables.proofs.BackLemmas.{all_at_place, at_place, format_back, in_state_back, issued_back, out_state_back}
use Rattle.oftp_tables.proofs.SplitLemmas.{among, by_number, chosen_none, chosen_one}
use Rattle.oftp_store.specs.Reads.{IsResponseTo, IsToldOf, first_told, incoming_header_in, incoming_header_of, outgoing_header_in, outgoing_header_of, response_in}
use Rattle.oftp_store.specs.Tells.{FindsByNumber}
use Rattle.oftp_store.specs.Texts.{in_header_text, out_header_text, response_text}
use Rattle.oftp_store.specs.declared.queries.header.FileHeader.{FileHeader}
use Rattle.oftp_store.specs.declared.queries.header.IncomingHeader.{IncomingHeader}
use Rattle.oftp_store.specs.declared.queries.header.OutgoingHeader.{OutgoingHeader}
use Rattle.oftp_store.proofs.EditLemmas.{issued_number, issued_piece, issued_pieces}
use Rattle.oftp_store.proofs.NumberLemmas.{no_rows}
use Rattle.oftp_store.proofs.ReadLemmas.{IsRead, by_its_number, finds_told}

-- the columns that the tables of both sides share are read back
file_back : (h : FileHeader) → record h { format = format_in (format_text h.format) } ≡ h
file_back h = ap (λ format. record h { format = format }) (format_back h.format)

-- ---- incoming files

abbrev in_project : List Term
in_project = col 1 2 ∷ col 1 3 ∷ col 1 4 ∷ col 1 5 ∷ col 1 6 ∷ col 1 7 ∷ col 1 8 ∷ col 1 9 ∷ col 1 10 ∷ []

abbrev in_select : Command
in_select =
    Select (record { lets = []; body = plain_query in_file_tree by_number in_project })
    (codes "dataset" ∷ codes "date" ∷ codes "time" ∷ codes "originator" ∷ codes "destination" ∷ codes "format" ∷ codes "longest" ∷ codes "description" ∷ codes "state" ∷ [])

in_header_read : IsRead in_header_text in_select
unfolding understood everything
in_header_read = record { is = refl; unlisted = refl; plain = (refl, refl) }

in_back : (k : ℕ) (f : Incoming) → incoming_header_in (eval_all in_project ((number_value k ∷ []) ∷ in_file_row k f ∷ [])) ≡ incoming_header_of f
in_back k f =
    let file = (incoming_header_of f).file in
    ap (λ x. let h : IncomingHeader = record { file = x; state = in_state_in (in_state_text f.state) } in h) (file_back file)
    ∙ ap (λ x. let h : IncomingHeader = record { file = file; state = x } in h) (in_state_back f.state)

pub finds_in_header : FindsByNumber in_header_text incoming_header_in (λ r k found. IsToldOf incoming_header_of r.incoming k found)
finds_in_header = by_its_number in_header_read (λ db k rows answer r kept.
    finds_told in_file_row (λ n x. refl) in_file_tree in_project incoming_header_in incoming_header_of db r.incoming k rows answer kept.incoming.headers (λ before f after placed. in_back k f))

-- ---- outgoing files

abbrev out_project : List Term
out_project = col 1 2 ∷ col 1 3 ∷ col 1 4 ∷ col 1 5 ∷ col 1 6 ∷ col 1 7 ∷ col 1 8 ∷ col 1 9 ∷ col 1 10 ∷ col 1 11 ∷ col 1 12 ∷ []

abbrev out_select : Command
out_select =
    Select (record { lets = []; body = plain_query out_file_tree by_number out_project })
    (codes "dataset" ∷ codes "date" ∷ codes "time" ∷ codes "originator" ∷ codes "destination" ∷ codes "format" ∷ codes "longest" ∷ codes "description" ∷ codes "mark"
    ∷ codes "state" ∷ codes "reason" ∷ [])

out_header_read : IsRead out_header_text out_select
unfolding understood everything
out_header_read = record { is = refl; unlisted = refl; plain = (refl, refl) }

pub out_back : (k : ℕ) (f : Outgoing) → HasRefusal f.state → outgoing_header_in (eval_all out_project ((number_value k ∷ []) ∷ out_file_row k f ∷ [])) ≡ outgoing_header_of f
out_back k f small =
    let file = (outgoing_header_of f).file in
    ap (λ x. let h : OutgoingHeader = record { file = x; mark = f.mark; state = out_state_in (out_state_text f.state) (refusal_text f.state) } in h) (file_back file)
    ∙ ap (λ x. let h : OutgoingHeader = record { file = file; mark = f.mark; state = x } in h) (out_state_back f.state small)

pub finds_out_header : FindsByNumber out_header_text outgoing_header_in (λ r k found. IsToldOf outgoing_header_of r.outgoing k found)
finds_out_header = by_its_number out_header_read (λ db k rows answer r kept.
    finds_told out_file_row (λ n x. refl) out_file_tree out_project outgoing_header_in outgoing_header_of db r.outgoing k rows answer kept.outgoing.headers
    (λ before f after placed.
    let small = at_place (λ (x : Outgoing). HasRefusal x.state) before f after (subst (AllByRecursion (λ (x : Outgoing). HasRefusal x.state)) placed.here kept.outgoing.reasons) in
    out_back k f small))

-- ---- responses

abbrev response_project : List Term
response_project = col 1 2 ∷ col 1 3 ∷ col 1 4 ∷ col 1 5 ∷ []

abbrev response_select : Command
response_select = Select (record { lets = []; body = plain_query issued_tree by_number response_project }) (codes "kind" ∷ codes "reason" ∷ codes "note" ∷ codes "sent" ∷ [])

response_read : IsRead response_text response_select
unfolding understood everything
response_read = record { is = refl; unlisted = refl; plain = (refl, refl) }

response_there : (db : Database) (k : ℕ) (rows : List Row) → Reads response_select db (number_value k ∷ []) rows → (r : Register) → Tables r db.trees → IsSound r
    → IsResponseTo r k (first_told response_in rows)
response_there db k rows read r kept sound before f after placed =
    let params = number_value k ∷ [] in
    let perm = answers db.trees issued_tree by_number response_project params rows (read.answer Null) in
    let place = among issued_piece issued_number k before f after placed.number in
    let table : db.trees issued_tree ≡ _ = kept.incoming.responses ∙ ap (issued_from 1) placed.here ∙ issued_pieces 1 (before ++ f ∷ after) ∙ place.rows in
    let small = at_place (λ (x : Incoming). HasReason x.response) before f after (subst (AllByRecursion (λ (x : Incoming). HasReason x.response)) placed.here kept.incoming.reasons) in
    let right = (all_at_place IsSoundIncoming before f after (subst (All IsSoundIncoming) placed.here sound.incoming)).answer in
    go f.response small right (subst (λ table. IsPermutation (chosen by_number response_project params table) rows) table perm)
  where
    lo : List Row
    lo = Rattle.oftp_tables.proofs.SplitLemmas.pieces_from issued_piece 1 before

    hi : List Row
    hi = Rattle.oftp_tables.proofs.SplitLemmas.pieces_from issued_piece (k + 1) after

    go : (o : Option Issued) → HasReason o → IsSoundAnswer o
        → IsPermutation (chosen by_number response_project (number_value k ∷ []) (lo ++ (issued_if_any k o ++ hi))) rows → first_told response_in rows ≡ option_map issued_response o
    go None small right perm =
        ap (first_told response_in) (no_rows rows
        (subst (λ all. IsPermutation all rows) (chosen_none response_project k [] lo hi (among issued_piece issued_number k before f after placed.number).split) perm))
    go (Some x) small right perm =
        ap (first_told response_in) (one_permutation _ rows
        (subst (λ all. IsPermutation all rows) (chosen_one response_project k [] (issued_row k x) lo hi refl (among issued_piece issued_number k before f after placed.number).split) perm))
        ∙ ap (λ (i : Issued). Some (issued_response i)) (issued_back k x small right)

pub finds_response : FindsByNumber response_text response_in (λ r k found. IsSound r → IsResponseTo r k found)
finds_response = by_its_number response_read response_there
