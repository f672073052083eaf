-- What the statements on a received response do to the tables of a register.
use Rattle.std.proofs.Common.{◌≡◌, ◌+◌, ◌<◌, ℕ, List, [], ◌∷◌, ◌++◌, Ok, append-nil, refl, sym, ap, subst, ◌∙◌, arith}
use Rattle.sqlite.specs.declared.types.Value.TheVariants.{Null, Text}
use Rattle.sqlite.specs.Order.{Row}
use Rattle.sqlite.specs.Tree.{Trees}
use Rattle.sqlite.specs.Table.{Table}
use Rattle.sqlite.specs.State.{State, ExecutesInside}
use Rattle.oftp_tables.specs.Schema.{about_tree, in_file_tree, in_row_tree, issued_tree, note_tree, office_schema, out_file_tree, out_row_tree, received, received_note, received_tree}
use Rattle.oftp_tables.proofs.TermLemmas.{cast_null, cast_int}
use Rattle.oftp_register.specs.declared.entry.Identity.{Identity}
use Rattle.oftp_register.specs.declared.entry.ResponseKind.{ResponseKind}
use Rattle.oftp_register.specs.declared.entry.ResponseKind.TheVariants.{EndResponse, NegativeEndResponse}
use Rattle.oftp_register.specs.Register.{Register, Received}
use Rattle.oftp_tables.specs.Statements.{Moves}
use Rattle.oftp_tables.specs.Tables.{HoldIncoming, HoldOutgoing, Tables, about_row, identity_values, kind_text, note_if_negative, notes_from, number_value, reason_text, received_row}
use Rattle.oftp_tables.proofs.SplitLemmas.{HaveNumber, IsSplit, among, pieces_below, pieces_from}
use Rattle.oftp_tables.proofs.StatementLemmas.{Others, PutsIn, inserts_row}
use Rattle.oftp_tables.proofs.PerformLemmas.{moves_as}
use Rattle.std.proofs.Common.{Bor}
use Rattle.oftp_store.specs.Edits.{HoldNoteless, Makes, MakesNote, MakesNoteless, received_with}
use Rattle.oftp_store.specs.declared.changes.edit.EditKind.TheVariants.{AddReceived}
use Rattle.oftp_store.specs.declared.changes.edit.NewReceived.{NewReceived}
use Rattle.oftp_store.specs.Texts.{add_note_text, add_received_text}
use Rattle.oftp_store.proofs.EditTexts.{add_note_is, add_note_plain, add_note_terms, add_received_is, add_received_plain, add_received_terms}
use Rattle.oftp_store.proofs.EditLemmas.{all_and_last, behind}

abbrev our_received : Table
our_received = record received { tree = received_tree }

abbrev our_note : Table
our_note = record received_note { tree = note_tree }

abbrev received_source : ℕ → ResponseKind → Identity → ℕ → Row
received_source n kind identity reason = number_value n ∷ Null ∷ Text (kind_text kind) ∷ identity_values identity ++ Text (reason_text kind reason) ∷ []

-- the content of all tables but those of the received responses
record HoldFiles (r : Register) (db : Trees) : Type 0 where
  about : db about_tree ≡ about_row ∷ []
  incoming : HoldIncoming r.incoming (db in_file_tree) (db in_row_tree) (db issued_tree)
  outgoing : HoldOutgoing r.outgoing (db out_file_tree) (db out_row_tree)

-- they keep it when another table is written
files_stay : (r : Register) (tree : ℕ) (old new : Trees) → issued_tree < tree → Others tree old new → old about_tree ≡ about_row ∷ []
    → HoldIncoming r.incoming (old in_file_tree) (old in_row_tree) (old issued_tree) → HoldOutgoing r.outgoing (old out_file_tree) (old out_row_tree) → HoldFiles r new
files_stay r tree old new past others about incoming outgoing = record {
  about = others.0 (λ e. omega (arith, e, past)) ∙ about;
  incoming =
      subst (λ issued. HoldIncoming r.incoming (new 1) (new 3) issued) (sym (others.1.1.1.1.1.0 (λ e. omega (arith, e, past))))
      (subst (λ in_row. HoldIncoming r.incoming (new 1) in_row (old 9)) (sym (others.1.1.0 (λ e. omega (arith, e, past))))
      (subst (λ in_file. HoldIncoming r.incoming in_file (old 3) (old 9)) (sym (others.1.0 (λ e. omega (arith, e, past)))) incoming));
  outgoing =
      subst (HoldOutgoing r.outgoing (new 5)) (sym (others.1.1.1.1.0 (λ e. omega (arith, e, past))))
      (subst (λ out_file. HoldOutgoing r.outgoing out_file (old 7)) (sym (others.1.1.1.0 (λ e. omega (arith, e, past)))) outgoing);
}

makes_noteless : (n : ℕ) (kind : ResponseKind) (identity : Identity) (reason : ℕ) → reason < 100 → (old new : Trees)
    → PutsIn n our_received (received_source n kind identity reason) old new → MakesNoteless n kind identity reason old new
makes_noteless n kind identity reason small old new made r creator text next kept =
    let x : Received = record { kind = kind; identity = identity; reason = reason; creator = creator; text = text } in
    let place = behind received_row (λ k x. refl) n r.received next.number in
    let row = made.rows place.lo [] (received_row n x) place.split refl (simp (cast_null, cast_int)) (kept.received.responses_are ∙ place.was) in
    let files = files_stay r received_tree old new (omega arith) made.others kept.about kept.incoming kept.outgoing in
    record {
      about = files.about;
      incoming = files.incoming;
      outgoing = files.outgoing;
      responses_are = row ∙ sym (place.is x);
      notes_are = made.others.1.1.1.1.1.1.1.0 (λ e. omega (arith, e)) ∙ kept.received.notes_are;
      reasons = all_and_last (λ (y : Received). y.reason < 100) r.received x kept.received.reasons small;
    }

-- ---- the notes

abbrev pub note_piece : ℕ → Received → List Row
note_piece n r = note_if_negative n r r.kind

pub notes_pieces : (n : ℕ) (rs : List Received) → notes_from n rs ≡ pieces_from note_piece n rs
notes_pieces n [] = refl
notes_pieces n (r ∷ rs) = ap (λ rows. note_piece n r ++ rows) (notes_pieces (n + 1) rs)

pub note_number : (n : ℕ) (r : Received) → HaveNumber n (note_piece n r)
note_number n r = elim r.kind as (λ kind. HaveNumber n (note_if_negative n r kind)) [ EndResponse ↦ tt | NegativeEndResponse ↦ (refl, tt) ]

-- an End-to-End Response needs no note
pub unnoted : (r : Register) (x : Received) (db : Trees) → x.kind ≡ EndResponse → HoldNoteless r x db → Tables (record r { received = r.received ++ x ∷ [] }) db
unnoted r x db end held = record {
  about = held.about;
  incoming = held.incoming;
  outgoing = held.outgoing;
  received = record { responses_are = held.responses_are; notes_are = held.notes_are ∙ sym (behind_end 1 r.received); reasons = held.reasons };
}
  where
    behind_end : (n : ℕ) (rs : List Received) → notes_from n (rs ++ x ∷ []) ≡ notes_from n rs
    behind_end n [] = ap (λ kind. note_if_negative n x kind ++ []) end
    behind_end n (y ∷ rs) = ap (λ (rows : List Row). note_if_negative n y y.kind ++ rows) (behind_end (n + 1) rs)

makes_note : (n : ℕ) (creator text : List ℕ) (old new : Trees) → PutsIn n our_note (number_value n ∷ Null ∷ Text creator ∷ Text text ∷ []) old new → MakesNote n creator text old new
makes_note n creator text old new made r identity reason next held =
    let x : Received = record { kind = NegativeEndResponse; identity = identity; reason = reason; creator = creator; text = text } in
    let found = among note_piece note_number n r.received x [] next.number in
    let lo = pieces_from note_piece 1 r.received in
    let split : IsSplit n lo [] = record { below = pieces_below note_piece note_number n 1 r.received (omega (arith, next.number)); above = tt } in
    let row = made.rows lo [] (number_value n ∷ Null ∷ Text creator ∷ Text text ∷ []) split refl (simp (cast_null, cast_int)) (held.notes_are ∙ notes_pieces 1 r.received ∙ sym (append-nil lo)) in
    let files = files_stay r note_tree old new (omega arith) made.others held.about held.incoming held.outgoing in
    record {
      about = files.about;
      incoming = files.incoming;
      outgoing = files.outgoing;
      received = record {
        responses_are = made.others.1.1.1.1.1.1.0 (λ e. omega (arith, e)) ∙ held.responses_are;
        notes_are = row ∙ sym (notes_pieces 1 (r.received ++ x ∷ []) ∙ found.rows);
        reasons = held.reasons;
      };
    }

abbrev pub received_params : ℕ → ResponseKind → Identity → ℕ → Row
received_params n kind identity reason =
    number_value n ∷ Text (kind_text kind) ∷ Text identity.dataset ∷ Text identity.date ∷ Text identity.time ∷ Text identity.originator ∷ Text identity.destination
    ∷ Text (reason_text kind reason) ∷ []

pub received_added : (old new : State) (n : ℕ) (kind : ResponseKind) (identity : Identity) (reason count : ℕ) → reason < 100 → old.now.schema ≡ office_schema
    → ExecutesInside 0 add_received_text (received_params n kind identity reason) old new (Ok count) → Moves (MakesNoteless n kind identity reason) old.now new.now
received_added old new n kind identity reason count small has h =
    moves_as _ _ old.now new.now (makes_noteless n kind identity reason small)
    (inserts_row old new add_received_text 6 our_received add_received_terms 9 (received_params n kind identity reason)
    (received_source n kind identity reason) n count has add_received_is add_received_plain refl refl h)

pub note_added : (old new : State) (n : ℕ) (creator text : List ℕ) (count : ℕ) → old.now.schema ≡ office_schema
    → ExecutesInside 0 add_note_text (number_value n ∷ Text creator ∷ Text text ∷ []) old new (Ok count) → Moves (MakesNote n creator text) old.now new.now
note_added old new n creator text count has h =
    moves_as _ _ old.now new.now (makes_note n creator text)
    (inserts_row old new add_note_text 7 our_note add_note_terms 4 (number_value n ∷ Text creator ∷ Text text ∷ [])
    (number_value n ∷ Null ∷ Text creator ∷ Text text ∷ []) n count has add_note_is add_note_plain refl refl h)

-- ---- a response with its note

-- the response as one of another kind
abbrev received_as : NewReceived → ResponseKind → Received
received_as x kind = record (received_with x) { kind = kind }

abbrev added : Register → Received → Register
added r x = record r { received = r.received ++ x ∷ [] }

pub makes_negative : (n : ℕ) (response : Bor NewReceived) → (let x = response.now in x.kind ≡ NegativeEndResponse → (a b c : Trees) → MakesNoteless n x.kind x.identity.now x.reason a b
    → MakesNote n x.creator.now x.text.now b c → Makes n (AddReceived response) a c)
makes_negative n response negative a b c one two r s did kept =
    let x = response.now in
    subst (λ (q : Register). Tables q c) (sym did.1)
    (subst (λ (kind : ResponseKind). Tables (added r (received_as x kind)) c) (sym negative)
    (two r x.identity.now x.reason did.0 (subst (λ (kind : ResponseKind). HoldNoteless r (received_as x kind) b) negative (one r x.creator.now x.text.now did.0 kept))))

pub makes_end : (n : ℕ) (response : Bor NewReceived) → (let x = response.now in x.kind ≡ EndResponse → (a b : Trees) → MakesNoteless n x.kind x.identity.now x.reason a b
    → Makes n (AddReceived response) a b)
makes_end n response end a b one r s did kept =
    let x = response.now in
    subst (λ (q : Register). Tables q b) (sym did.1) (unnoted r (received_with x) b end (one r x.creator.now x.text.now did.0 kept))
