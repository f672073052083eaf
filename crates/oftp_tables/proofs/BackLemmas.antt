-- The register is read back from its tables.
use Rattle.std.proofs.Common.{◌≡◌, ◌==◌, ◌+◌, ◌<◌, ℕ, false, List, [], ◌∷◌, ◌++◌, length, map, find, Option, Some, None, All, refl, sym, ap, subst, ◌∙◌, arith}
use Rattle.std.specs.List.{AllByRecursion}
use Rattle.std.specs.List.Sorted.{IsPermutation}
use Rattle.std.specs.Option.{option_map}
use Rattle.std.proofs.lemmas.List.{append_assoc, length_push, length-map, map-append}
use Rattle.std.proofs.lemmas.List.Elements.{recursion_from_All}
use Rattle.sqlite.specs.Order.{Row}
use Rattle.sqlite.specs.Tree.{Trees}
use Rattle.oftp_vfile.specs.declared.format.Format.{Format}
use Rattle.oftp_vfile.specs.declared.format.Format.TheVariants as format
use Rattle.oftp_wire.specs.Octets.{decimal, number}
use Rattle.oftp_register.specs.declared.entry.ResponseKind.{ResponseKind}
use Rattle.oftp_register.specs.declared.entry.ResponseKind.TheVariants.{EndResponse, NegativeEndResponse}
use Rattle.oftp_register.specs.declared.entry.IncomingState.{IncomingState}
use Rattle.oftp_register.specs.declared.entry.IncomingState.TheVariants.{Open, Whole}
use Rattle.oftp_register.specs.declared.entry.OutgoingState.{OutgoingState}
use Rattle.oftp_register.specs.declared.entry.OutgoingState.TheVariants.{Waiting, Closing, Handed, Refused, Delivered, Returned}
use Rattle.oftp_register.specs.declared.entry.Dispatch.{Dispatch}
use Rattle.oftp_register.specs.declared.entry.Dispatch.TheVariants.{Due, Sent}
use Rattle.oftp_register.specs.Register.{Register, Incoming, Outgoing, Issued, Received}
use Rattle.oftp_register.specs.Soundness.{IsSound, IsSoundAnswer, IsSoundIncoming, IsSoundReceived, IsResponse}
use Rattle.oftp_tables.specs.Schema.{in_row_tree, out_file_tree, out_row_tree, issued_tree, received_tree, note_tree}
use Rattle.oftp_tables.specs.Tables.{format_text, kind_text, reason_text, in_state_text, out_state_text, refusal_text, sent_number, in_file_row, out_file_row, issued_row, received_row, rows_from, issued_if_any, issued_from, note_if_negative, notes_from, bodies_from, less_rowids, rows_in, rows_out, HasReason, HasRefusal, Tables, format_in, kind_in, in_state_in, out_state_in, dispatch_in, has_number, bodies_in, issued_in, incoming_in, outgoing_in, text_at, received_in, register_in}
use Rattle.oftp_tables.proofs.BodyLemmas.{bodies_back}
use Rattle.oftp_tables.proofs.NumberLemmas.{unlike, above, alike}

-- ---- the parts

-- two digits represent a number below 100
two_digits : (n : ℕ) → n < 100 → number (decimal 2 n) ≡ n
unfolding decimal
two_digits n h = omega arith

pub format_back : (f : Format) → format_in (format_text f) ≡ f
format_back format.Fixed = refl
format_back format.Variable = refl
format_back format.Unstructured = refl
format_back format.Text = refl

pub kind_back : (kind : ResponseKind) → kind_in (kind_text kind) ≡ kind
kind_back EndResponse = refl
kind_back NegativeEndResponse = refl

pub in_state_back : (s : IncomingState) → in_state_in (in_state_text s) ≡ s
in_state_back Open = refl
in_state_back Whole = refl

dispatch_back : (d : Dispatch) → dispatch_in (sent_number d) ≡ d
dispatch_back Due = refl
dispatch_back Sent = refl

pub out_state_back : (s : OutgoingState) → HasRefusal s → out_state_in (out_state_text s) (refusal_text s) ≡ s
out_state_back Waiting h = refl
out_state_back Closing h = refl
out_state_back Handed h = refl
out_state_back (Refused reason) h = ap Refused (two_digits reason h)
out_state_back Delivered h = refl
out_state_back Returned h = refl

reason_back : (kind : ResponseKind) (reason : ℕ) (creator text : List ℕ) → reason < 100 → IsResponse kind reason creator text → number (reason_text kind reason) ≡ reason
reason_back EndResponse reason creator text h sound = sym sound.0
reason_back NegativeEndResponse reason creator text h sound = two_digits reason h

pub issued_back : (n : ℕ) (r : Issued) → r.reason < 100 → IsResponse r.kind r.reason [] r.text → issued_in (issued_row n r) ≡ r
issued_back n r h sound =
    ap (λ k. let i : Issued = record { kind = k; reason = number (reason_text r.kind r.reason); text = r.text; dispatch = dispatch_in (sent_number r.dispatch) } in i) (kind_back r.kind)
    ∙ ap (λ m. let i : Issued = record { kind = r.kind; reason = m; text = r.text; dispatch = dispatch_in (sent_number r.dispatch) } in i) (reason_back r.kind r.reason [] r.text h sound)
    ∙ ap (λ d. let i : Issued = record { kind = r.kind; reason = r.reason; text = r.text; dispatch = d } in i) (dispatch_back r.dispatch)

-- ---- the rows of one file

not_issued : (k n : ℕ) (fs : List Incoming) → k < n → find (has_number k) (issued_from n fs) ≡ None
not_issued k n [] h = refl
not_issued k n (f ∷ fs) h = go f.response (not_issued k (n + 1) fs (omega arith))
  where
    go : (o : Option Issued) → find (has_number k) (issued_from (n + 1) fs) ≡ None → find (has_number k) (issued_if_any n o ++ issued_from (n + 1) fs) ≡ None
    go None more = more
    go (Some r) more = rw (above n k h) more

response_at : (k n : ℕ) (files : List Incoming) (f : Incoming) (after : List Incoming) → k ≡ n + length files
    → AllByRecursion (λ (g : Incoming). HasReason g.response) (files ++ f ∷ after) → IsSoundAnswer f.response
    → option_map issued_in (find (has_number k) (issued_from n (files ++ f ∷ after))) ≡ f.response
response_at k n [] f after is reasons sound =
    let here : k ≡ n = omega (arith, is) in
    subst (λ m. option_map issued_in (find (has_number k) (issued_if_any m f.response ++ issued_from (m + 1) after)) ≡ f.response) here (go f.response reasons.0 sound)
  where
    go : (o : Option Issued) → HasReason o → IsSoundAnswer o → option_map issued_in (find (has_number k) (issued_if_any k o ++ issued_from (k + 1) after)) ≡ o
    go None h s = ap (option_map issued_in) (not_issued k (k + 1) after (omega arith))
    go (Some r) h s = rw (alike k) (ap Some (issued_back k r h s))
response_at k n (g ∷ files) f after is reasons sound = go g.response (response_at k (n + 1) files f after (omega (arith, is)) reasons.1 sound)
  where
    go : (o : Option Issued) → option_map issued_in (find (has_number k) (issued_from (n + 1) (files ++ f ∷ after))) ≡ f.response
        → option_map issued_in (find (has_number k) (issued_if_any n o ++ issued_from (n + 1) (files ++ f ∷ after))) ≡ f.response
    go None more = more
    go (Some r) more = let other : (n == k) ≡ false = unlike n k (omega (arith, is)) in rw other more

not_noted : (k n : ℕ) (rs : List Received) → k < n → find (has_number k) (notes_from n rs) ≡ None
not_noted k n [] h = refl
not_noted k n (r ∷ rs) h = go r.kind (not_noted k (n + 1) rs (omega arith))
  where
    go : (kind : ResponseKind) → find (has_number k) (notes_from (n + 1) rs) ≡ None → find (has_number k) (note_if_negative n r kind ++ notes_from (n + 1) rs) ≡ None
    go EndResponse more = more
    go NegativeEndResponse more = rw (above n k h) more

-- creator and text of a response
record IsNote (r : Received) (found : Option Row) : Type 0 where
  creator : text_at 2 found ≡ r.creator
  text : text_at 3 found ≡ r.text

note_at : (k n : ℕ) (before : List Received) (r : Received) (after : List Received) → k ≡ n + length before → IsSoundReceived r → IsNote r (find (has_number k) (notes_from n (before ++ r ∷ after)))
note_at k n [] r after is sound =
    let here : k ≡ n = omega (arith, is) in
    subst (λ m. IsNote r (find (has_number k) (note_if_negative m r r.kind ++ notes_from (m + 1) after))) here (go r.kind sound)
  where
    go : (kind : ResponseKind) → IsResponse kind r.reason r.creator r.text → IsNote r (find (has_number k) (note_if_negative k r kind ++ notes_from (k + 1) after))
    go EndResponse s =
        let none = not_noted k (k + 1) after (omega arith) in
        record { creator = ap (text_at 2) none ∙ sym s.1; text = ap (text_at 3) none ∙ sym s.2 }
    go NegativeEndResponse s = rw (alike k) (record { creator = refl; text = refl })
note_at k n (g ∷ before) r after is sound = go g.kind (note_at k (n + 1) before r after (omega (arith, is)) sound)
  where
    go : (kind : ResponseKind) → IsNote r (find (has_number k) (notes_from (n + 1) (before ++ r ∷ after)))
        → IsNote r (find (has_number k) (note_if_negative n g kind ++ notes_from (n + 1) (before ++ r ∷ after)))
    go EndResponse more = more
    go NegativeEndResponse more = let other : (n == k) ≡ false = unlike n k (omega (arith, is)) in rw other more

-- ---- the lists

-- each entry is read back, so the list is
module _ {X : Type 0} (row : ℕ → X → Row) (read : Row → X) where
  pub read_back : (all : List X) (n : ℕ) (before rest : List X) → all ≡ before ++ rest → n ≡ 1 + length before
      → ((k : ℕ) (before : List X) (x : X) (after : List X) → all ≡ before ++ x ∷ after → k ≡ 1 + length before → read (row k x) ≡ x) → map read (rows_from row n rest) ≡ rest
  read_back all n before [] is at each = refl
  read_back all n before (x ∷ rest) is at each =
      let longer : all ≡ (before ++ x ∷ []) ++ rest = is ∙ sym (append_assoc before (x ∷ []) rest) in
      let next : n + 1 ≡ 1 + length (before ++ x ∷ []) = omega (arith, at, length_push before x) in
      ap (λ y. y ∷ map read (rows_from row (n + 1) rest)) (each n before x rest is at) ∙ ap (λ ys. x ∷ ys) (read_back all (n + 1) (before ++ x ∷ []) rest longer next each)

-- a fact of the entry at a place
pub at_place : {X : Type 0} (P : X → Type 0) (before : List X) (x : X) (after : List X) → AllByRecursion P (before ++ x ∷ after) → P x
at_place P [] x after h = h.0
at_place P (y ∷ before) x after h = at_place P before x after h.1

pub all_at_place : {X : Type 0} (P : X → Type 0) (before : List X) (x : X) (after : List X) → All P (before ++ x ∷ after) → P x
all_at_place P before x after h = at_place P before x after (recursion_from_All P _ h)

-- an entry whose parts are read back is read back
same_incoming : (f : Incoming) (format : Format) (state : IncomingState) (rows : List (List ℕ)) (response : Option Issued)
    → format ≡ f.format → state ≡ f.state → rows ≡ f.rows → response ≡ f.response
    → record f { format = format; state = state; rows = rows; response = response } ≡ f
same_incoming f format state rows response format_is state_is rows_are response_is = rw (format_is, state_is, rows_are, response_is) refl

same_outgoing : (f : Outgoing) (format : Format) (rows : List (List ℕ)) (state : OutgoingState)
    → format ≡ f.format → rows ≡ f.rows → state ≡ f.state → record f { format = format; rows = rows; state = state } ≡ f
same_outgoing f format rows state format_is rows_are state_is = rw (format_is, rows_are, state_is) refl

same_received : (x : Received) (kind : ResponseKind) (reason : ℕ) (creator text : List ℕ)
    → kind ≡ x.kind → reason ≡ x.reason → creator ≡ x.creator → text ≡ x.text
    → record x { kind = kind; reason = reason; creator = creator; text = text } ≡ x
same_received x kind reason creator text kind_is reason_is creator_is text_is = rw (kind_is, reason_is, creator_is, text_is) refl

module _ (r : Register) (db : Trees) (kept : Tables r db) (sound : IsSound r) where
  one_incoming : (k : ℕ) (before : List Incoming) (f : Incoming) (after : List Incoming) → r.incoming ≡ before ++ f ∷ after → k ≡ 1 + length before → incoming_in db (in_file_row k f) ≡ f
  one_incoming k before f after is at =
      let rows : bodies_in k (less_rowids (db in_row_tree)) ≡ f.rows =
      bodies_back k (map rows_in before) f.rows (map rows_in after) (less_rowids (db in_row_tree)) (omega (arith, at, length-map before rows_in))
      (subst (λ files. IsPermutation (bodies_from 1 files) (less_rowids (db in_row_tree))) (ap (map rows_in) is ∙ map-append rows_in before (f ∷ after)) kept.incoming.rows) in
      let reasons = subst (AllByRecursion (λ (g : Incoming). HasReason g.response)) is kept.incoming.reasons in
      let right = all_at_place IsSoundIncoming before f after (subst (All IsSoundIncoming) is sound.incoming) in
      let response : option_map issued_in (find (has_number k) (db issued_tree)) ≡ f.response =
      ap (λ (rows : List Row). option_map issued_in (find (has_number k) rows)) (kept.incoming.responses ∙ ap (issued_from 1) is)
      ∙ response_at k 1 before f after at reasons right.answer in
      same_incoming f _ _ _ _ (format_back f.format) (in_state_back f.state) rows response

  one_outgoing : (k : ℕ) (before : List Outgoing) (f : Outgoing) (after : List Outgoing) → r.outgoing ≡ before ++ f ∷ after → k ≡ 1 + length before → outgoing_in db (out_file_row k f) ≡ f
  one_outgoing k before f after is at =
      let rows : bodies_in k (less_rowids (db out_row_tree)) ≡ f.rows =
      bodies_back k (map rows_out before) f.rows (map rows_out after) (less_rowids (db out_row_tree)) (omega (arith, at, length-map before rows_out))
      (subst (λ files. IsPermutation (bodies_from 1 files) (less_rowids (db out_row_tree))) (ap (map rows_out) is ∙ map-append rows_out before (f ∷ after)) kept.outgoing.rows) in
      let has_refusal = λ (g : Outgoing). HasRefusal g.state in
      let state = out_state_back f.state (at_place has_refusal before f after (subst (AllByRecursion has_refusal) is kept.outgoing.reasons)) in
      same_outgoing f _ _ _ (format_back f.format) rows state

  one_received : (k : ℕ) (before : List Received) (x : Received) (after : List Received) → r.received ≡ before ++ x ∷ after → k ≡ 1 + length before → received_in db (received_row k x) ≡ x
  one_received k before x after is at =
      let right = all_at_place IsSoundReceived before x after (subst (All IsSoundReceived) is sound.received) in
      let is_small = λ (y : Received). y.reason < 100 in
      let reason = reason_back x.kind x.reason x.creator x.text (at_place is_small before x after (subst (AllByRecursion is_small) is kept.received.reasons)) right in
      let notes : db note_tree ≡ notes_from 1 (before ++ x ∷ after) = kept.received.notes_are ∙ ap (notes_from 1) is in
      let note : IsNote x (find (has_number k) (db note_tree)) =
      subst (λ (rows : List Row). IsNote x (find (has_number k) rows)) (sym notes) (note_at k 1 before x after at right) in
      same_received x _ _ _ _ (kind_back x.kind) reason note.creator note.text

  -- the tables represent one register
  pub register_of : register_in r.limits db ≡ r
  register_of =
      let incoming = ap (map (incoming_in db)) kept.incoming.headers ∙ read_back in_file_row (incoming_in db) r.incoming 1 [] r.incoming refl refl one_incoming in
      let outgoing = ap (map (outgoing_in db)) kept.outgoing.headers ∙ read_back out_file_row (outgoing_in db) r.outgoing 1 [] r.outgoing refl refl one_outgoing in
      let received = ap (map (received_in db)) kept.received.responses_are ∙ read_back received_row (received_in db) r.received 1 [] r.received refl refl one_received in
      ap (λ x. let s : Register = record { limits = r.limits; incoming = x; outgoing = map (outgoing_in db) (db out_file_tree); received = map (received_in db) (db received_tree) } in s) incoming
      ∙ ap (λ x. let s : Register = record { limits = r.limits; incoming = r.incoming; outgoing = x; received = map (received_in db) (db received_tree) } in s) outgoing
      ∙ ap (λ x. let s : Register = record { limits = r.limits; incoming = r.incoming; outgoing = r.outgoing; received = x } in s) received
