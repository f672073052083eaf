-- What the queries by identity return.
use Rattle.std.proofs.Common.{◌≡◌, ℕ, List, [], ◌∷◌, codes, is_some, slice_get, Option, refl, ◌∙◌}
use Rattle.std.specs.List.{list_all}
use Rattle.sqlite_tied.specs.Compute.{everything}
use Rattle.sqlite.specs.declared.types.Value.TheVariants.{Null, Text}
use Rattle.sqlite.specs.Order.{Row}
use Rattle.sqlite.specs.Tree.{Trees}
use Rattle.sqlite.specs.Term.{Term, lit, col, holds}
use Rattle.sqlite.specs.Query.{IsAnswer}
use Rattle.sqlite.specs.Program.{overlay}
use Rattle.sqlite.specs.Command.{Command}
use Rattle.sqlite.specs.Command.TheVariants.{Select}
use Rattle.sqlite.specs.Listing.{understood}
use Rattle.sqlite.specs.State.{State, Shown}
use Rattle.oftp_tables.specs.Schema.{in_file_tree, office_schema, out_file_tree, received_tree}
use Rattle.oftp_tables.proofs.TermLemmas.{equal, equal_texts, and_true}
use Rattle.oftp_register.specs.declared.entry.Identity.{Identity}
use Rattle.oftp_register.specs.declared.entry.ResponseKind.{ResponseKind}
use Rattle.oftp_register.specs.declared.entry.ResponseKind.TheVariants.{EndResponse, NegativeEndResponse}
use Rattle.oftp_register.specs.declared.entries.Side.{Side}
use Rattle.oftp_register.specs.declared.entries.Side.TheVariants as side
use Rattle.oftp_register.specs.declared.entries.IncomingEntry.{IncomingEntry}
use Rattle.oftp_register.specs.declared.entries.OutgoingEntry.{OutgoingEntry}
use Rattle.oftp_register.specs.Register.{Register, Incoming, Outgoing, Received, has_received, is_response_to, same_identity}
use Rattle.oftp_register.specs.LookUps.{incoming_entry, outgoing_entry}
use Rattle.oftp_tables.specs.Tables.{Tables, identity_values, in_file_row, kind_text, out_file_row, received_row}
use Rattle.oftp_store.specs.Numbers.{TellsNo, has_filed_text, file_number, file_number_text}
use Rattle.oftp_store.proofs.FirstLemmas.{answers_first, any_told, any_wanted, first_query, first_wanted, number_told}
use Rattle.oftp_store.proofs.ReadLemmas.{IsRead, read_so}

-- ---- files

abbrev pub by_identity : List Term
by_identity = equal (col 1 2) (col 0 0) ∷ equal (col 1 3) (col 0 1) ∷ equal (col 1 4) (col 0 2) ∷ equal (col 1 5) (col 0 3) ∷ equal (col 1 6) (col 0 4) ∷ []

abbrev pub tree_of : Side → ℕ
tree_of side.Incoming = in_file_tree
tree_of side.Outgoing = out_file_tree

abbrev pub file_number_select : Side → Command
file_number_select which = Select (record { lets = []; body = first_query (tree_of which) by_identity }) (codes "no" ∷ [])

pub file_number_read : (which : Side) → IsRead (file_number_text which) (file_number_select which)
unfolding understood everything
file_number_read side.Incoming = record { is = refl; unlisted = refl; plain = (refl, refl) }
file_number_read side.Outgoing = record { is = refl; unlisted = refl; plain = (refl, refl) }

incoming_passes : (it : Identity) (n : ℕ) (f : Incoming) → list_all (holds (identity_values it ∷ in_file_row n f ∷ [])) by_identity ≡ same_identity f.identity it
incoming_passes it n f = simp (equal_texts, and_true)

outgoing_passes : (it : Identity) (n : ℕ) (f : Outgoing) → list_all (holds (identity_values it ∷ out_file_row n f ∷ [])) by_identity ≡ same_identity f.identity it
outgoing_passes it n f = simp (equal_texts, and_true)

no_there : (which : Side) (it : Identity) (rows : List Row) (told : Option ℕ) (r : Register) (db : Trees) → TellsNo told (slice_get rows 0) → Tables r db
    → IsAnswer (first_query (tree_of which) by_identity) (overlay db []) (identity_values it) rows → told ≡ file_number r which it
no_there side.Incoming it rows told r db tells kept answer =
    number_told _ rows told (answers_first in_file_row (λ n x. refl) by_identity (identity_values it) (λ n (f : Incoming). same_identity f.identity it)
    (incoming_passes it) db in_file_tree rows r.incoming kept.incoming.headers answer) tells
    ∙ first_wanted incoming_entry (λ (e : IncomingEntry). e.no) (λ n x. refl) (λ (e : IncomingEntry). same_identity e.identity it) (λ n (f : Incoming). same_identity f.identity it)
    (λ n x. refl) 1 r.incoming
no_there side.Outgoing it rows told r db tells kept answer =
    number_told _ rows told (answers_first out_file_row (λ n x. refl) by_identity (identity_values it) (λ n (f : Outgoing). same_identity f.identity it)
    (outgoing_passes it) db out_file_tree rows r.outgoing kept.outgoing.headers answer) tells
    ∙ first_wanted outgoing_entry (λ (e : OutgoingEntry). e.no) (λ n x. refl) (λ (e : OutgoingEntry). same_identity e.identity it) (λ n (f : Outgoing). same_identity f.identity it)
    (λ n x. refl) 1 r.outgoing

pub finds_no : (which : Side) (old new : State) (it : Identity) (rows : List Row) (told : Option ℕ) → old.now.schema ≡ office_schema
    → Shown (file_number_text which) (identity_values it) old new rows → TellsNo told (slice_get rows 0)
    → (r : Register) → Tables r old.now.trees → told ≡ file_number r which it
finds_no which old new it rows told has h tells r kept =
    let read = read_so (file_number_text which) (identity_values it) old new _ rows (file_number_read which) has h in
    no_there which it rows told r old.now.trees tells kept (read.answer Null)

-- ---- received responses

abbrev pub by_response : ResponseKind → List Term
by_response kind = equal (col 1 2) (lit (Text (kind_text kind))) ∷ equal (col 1 3) (col 0 0) ∷ equal (col 1 4) (col 0 1) ∷ equal (col 1 5) (col 0 2) ∷ equal (col 1 6) (col 0 3) ∷ equal
    (col 1 7) (col 0 4) ∷ []

abbrev pub filed_select : ResponseKind → Command
filed_select kind = Select (record { lets = []; body = first_query received_tree (by_response kind) }) (codes "no" ∷ [])

pub filed_read : (kind : ResponseKind) → IsRead (has_filed_text kind) (filed_select kind)
unfolding understood everything
filed_read EndResponse = record { is = refl; unlisted = refl; plain = (refl, refl) }
filed_read NegativeEndResponse = record { is = refl; unlisted = refl; plain = (refl, refl) }

same_kinds : (a b : ResponseKind) → Rattle.std.specs.Str.bytes_eq (kind_text a) (kind_text b) ≡ Rattle.oftp_register.specs.Register.same_kind a b
same_kinds EndResponse EndResponse = refl
same_kinds EndResponse NegativeEndResponse = refl
same_kinds NegativeEndResponse EndResponse = refl
same_kinds NegativeEndResponse NegativeEndResponse = refl

response_passes : (kind : ResponseKind) (it : Identity) (n : ℕ) (x : Received) → list_all (holds (identity_values it ∷ received_row n x ∷ [])) (by_response kind) ≡ is_response_to kind it x
response_passes kind it n x = simp (equal_texts, and_true, same_kinds)

pub finds_filed : (kind : ResponseKind) (old new : State) (it : Identity) (rows : List Row) → old.now.schema ≡ office_schema → Shown (has_filed_text kind) (identity_values it) old new rows
    → (r : Register) → Tables r old.now.trees → is_some (slice_get rows 0) ≡ has_received r kind it
finds_filed kind old new it rows has h r kept =
    let read = read_so (has_filed_text kind) (identity_values it) old new _ rows (filed_read kind) has h in
    any_told _ rows (answers_first received_row (λ n x. refl) (by_response kind) (identity_values it) (λ n x. is_response_to kind it x)
    (response_passes kind it) old.now.trees received_tree rows r.received kept.received.responses_are (read.answer Null))
    ∙ any_wanted (is_response_to kind it) 1 r.received
