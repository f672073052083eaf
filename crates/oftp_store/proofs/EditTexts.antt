-- What the texts of the changes mean.
use Rattle.std.proofs.Common.{◌≡◌, pos, List, [], ◌∷◌, codes, refl}
use Rattle.sqlite_tied.specs.Compute.{everything}
use Rattle.sqlite.specs.declared.types.Value.TheVariants.{Null, Int, Text}
use Rattle.sqlite.specs.Term.{Term, lit, col}
use Rattle.sqlite.specs.Command.TheVariants.{Insert, Update}
use Rattle.sqlite.specs.Source.TheVariants.{Values}
use Rattle.sqlite.specs.Listing.{understood}
use Rattle.sqlite.proofs.Callers.{IsPlain, command_of}
use Rattle.oftp_register.specs.declared.entries.Side.{Side}
use Rattle.oftp_register.specs.declared.entries.Side.TheVariants as side
use Rattle.oftp_tables.specs.Schema.{office_schema, in_file_tree, issued_tree, out_file_tree}
use Rattle.oftp_tables.proofs.StatementLemmas.{by_number_program}
use Rattle.oftp_store.specs.Texts.{add_file_text, add_issued_text, add_note_text, add_received_text, set_header_text, set_outgoing_text, set_sent_text, set_whole_text}

-- ---- UPDATE

abbrev pub set_outgoing_terms : List Term
set_outgoing_terms = lit Null ∷ col 1 2 ∷ col 1 3 ∷ col 1 4 ∷ col 1 5 ∷ col 1 6 ∷ col 1 7 ∷ col 1 8 ∷ col 1 9 ∷ col 0 1 ∷ col 0 2 ∷ col 0 3 ∷ []

pub set_outgoing_is : command_of (understood office_schema set_outgoing_text) ≡ Update 3 (by_number_program out_file_tree set_outgoing_terms)
unfolding understood everything
set_outgoing_is = refl

pub set_outgoing_plain : IsPlain (understood office_schema set_outgoing_text)
unfolding understood everything
set_outgoing_plain = (refl, refl)

abbrev pub set_header_terms : List Term
set_header_terms = lit Null ∷ col 1 2 ∷ col 1 3 ∷ col 1 4 ∷ col 1 5 ∷ col 1 6 ∷ col 0 1 ∷ col 0 2 ∷ col 0 3 ∷ col 1 10 ∷ []

pub set_header_is : command_of (understood office_schema set_header_text) ≡ Update 1 (by_number_program in_file_tree set_header_terms)
unfolding understood everything
set_header_is = refl

pub set_header_plain : IsPlain (understood office_schema set_header_text)
unfolding understood everything
set_header_plain = (refl, refl)

abbrev pub set_whole_terms : List Term
set_whole_terms = lit Null ∷ col 1 2 ∷ col 1 3 ∷ col 1 4 ∷ col 1 5 ∷ col 1 6 ∷ col 1 7 ∷ col 1 8 ∷ col 1 9 ∷ lit (Text (codes "whole")) ∷ []

pub set_whole_is : command_of (understood office_schema set_whole_text) ≡ Update 1 (by_number_program in_file_tree set_whole_terms)
unfolding understood everything
set_whole_is = refl

pub set_whole_plain : IsPlain (understood office_schema set_whole_text)
unfolding understood everything
set_whole_plain = (refl, refl)

abbrev pub set_sent_terms : List Term
set_sent_terms = lit Null ∷ col 1 2 ∷ col 1 3 ∷ col 1 4 ∷ lit (Int (pos 1)) ∷ []

pub set_sent_is : command_of (understood office_schema set_sent_text) ≡ Update 5 (by_number_program issued_tree set_sent_terms)
unfolding understood everything
set_sent_is = refl

pub set_sent_plain : IsPlain (understood office_schema set_sent_text)
unfolding understood everything
set_sent_plain = (refl, refl)

-- ---- INSERT

abbrev pub add_file_terms : Side → List Term
add_file_terms side.Incoming = col 0 0 ∷ lit Null ∷ col 0 1 ∷ col 0 2 ∷ col 0 3 ∷ col 0 4 ∷ col 0 5 ∷ col 0 6 ∷ col 0 7 ∷ col 0 8 ∷ lit (Text (codes "open")) ∷ []
add_file_terms side.Outgoing =
    col 0 0 ∷ lit Null ∷ col 0 1 ∷ col 0 2 ∷ col 0 3 ∷ col 0 4 ∷ col 0 5 ∷ col 0 6 ∷ col 0 7 ∷ col 0 8 ∷ lit (Int (pos 0)) ∷ lit (Text (codes "waiting")) ∷ lit (Text []) ∷ []

pub add_incoming_is : command_of (understood office_schema (add_file_text side.Incoming)) ≡ Insert 1 (Values (add_file_terms side.Incoming) 11)
unfolding understood everything
add_incoming_is = refl

pub add_outgoing_is : command_of (understood office_schema (add_file_text side.Outgoing)) ≡ Insert 3 (Values (add_file_terms side.Outgoing) 13)
unfolding understood everything
add_outgoing_is = refl

pub add_file_plain : (which : Side) → IsPlain (understood office_schema (add_file_text which))
unfolding understood everything
add_file_plain side.Incoming = (refl, refl)
add_file_plain side.Outgoing = (refl, refl)

abbrev pub add_issued_terms : List Term
add_issued_terms = col 0 0 ∷ lit Null ∷ col 0 1 ∷ col 0 2 ∷ col 0 3 ∷ lit (Int (pos 0)) ∷ []

pub add_issued_is : command_of (understood office_schema add_issued_text) ≡ Insert 5 (Values add_issued_terms 6)
unfolding understood everything
add_issued_is = refl

pub add_issued_plain : IsPlain (understood office_schema add_issued_text)
unfolding understood everything
add_issued_plain = (refl, refl)

abbrev pub add_received_terms : List Term
add_received_terms = col 0 0 ∷ lit Null ∷ col 0 1 ∷ col 0 2 ∷ col 0 3 ∷ col 0 4 ∷ col 0 5 ∷ col 0 6 ∷ col 0 7 ∷ []

pub add_received_is : command_of (understood office_schema add_received_text) ≡ Insert 6 (Values add_received_terms 9)
unfolding understood everything
add_received_is = refl

pub add_received_plain : IsPlain (understood office_schema add_received_text)
unfolding understood everything
add_received_plain = (refl, refl)

abbrev pub add_note_terms : List Term
add_note_terms = col 0 0 ∷ lit Null ∷ col 0 1 ∷ col 0 2 ∷ []

pub add_note_is : command_of (understood office_schema add_note_text) ≡ Insert 7 (Values add_note_terms 4)
unfolding understood everything
add_note_is = refl

pub add_note_plain : IsPlain (understood office_schema add_note_text)
unfolding understood everything
add_note_plain = (refl, refl)
