-- What a change needs to know of a file, from its header, its rows and its response.
use Rattle.std.proofs.Common.{◌≡◌, ◌==◌, ◌≤◌, ℕ, All, List, [], ◌∷◌, length, map, find, Option, Some, None, unwrap_or, refl, sym, ap, subst, ◌∙◌, arith}
use Rattle.std.specs.Option.{option_map}
use Rattle.std.proofs.lemmas.List.{map-append, length-map}
use Rattle.oftp_register.specs.declared.entries.IssuedResponse.{IssuedResponse}
use Rattle.oftp_register.specs.declared.entries.Side.TheVariants as side
use Rattle.oftp_register.specs.Register.{Register, Incoming, Issued}
use Rattle.oftp_register.specs.Soundness.{IsSound, IsSoundOutgoing}
use Rattle.oftp_register.specs.LookUps.{entry_at, file_rows, in_by_no, incoming_entry, issued_response, numbered, out_by_no, outgoing_entry}
use Rattle.oftp_register.specs.declared.entries.IncomingEntry.{IncomingEntry}
use Rattle.oftp_register.specs.declared.entries.OutgoingEntry.{OutgoingEntry}
use Rattle.oftp_tables.specs.Tables.{rows_in, rows_out}
use Rattle.oftp_tables.proofs.BackLemmas.{all_at_place}
use Rattle.oftp_store.specs.Reads.{IsPlaced, IsResponseTo, IsToldOf, incoming_entry_of, incoming_header_of, outgoing_entry_of, outgoing_header_of}
use Rattle.oftp_store.specs.FileProgress.{response_progress_of, dispatch_of, incoming_progress_of, outgoing_progress_of}
use Rattle.oftp_store.specs.declared.queries.header.IncomingHeader.{IncomingHeader}
use Rattle.oftp_store.specs.declared.queries.header.OutgoingHeader.{OutgoingHeader}
use Rattle.oftp_store.specs.declared.queries.progress.IncomingProgress.{IncomingProgress}
use Rattle.oftp_store.specs.declared.queries.progress.OutgoingProgress.{OutgoingProgress}
use Rattle.oftp_store.specs.declared.queries.progress.ResponseProgress.{ResponseProgress}
use Rattle.oftp_store.proofs.NumberLemmas.{entry_known, entry_placed, entry_unknown}

-- what each entry has, at a number
pub mapped_placed : {X Y : Type 0} (f : X → Y) (k : ℕ) (xs before : List X) (x : X) (after : List X) → IsPlaced xs k before x after → entry_at k (map f xs) ≡ Some (f x)
mapped_placed f k xs before x after placed =
    entry_placed k (map f xs) (map f before) (f x) (map f after)
    (record { here = ap (map f) placed.here ∙ map-append f before (x ∷ after); number = omega (arith, placed.number, length-map before f) })

-- what is read of a file from its header and its number of rows
counted_told : {X H P : Type 0} (rows : X → List (List ℕ)) (tell : X → H) (make : H → ℕ → P) (k count : ℕ) (xs : List X) (h : H) → IsToldOf tell xs k (Some h)
    → count ≡ length (unwrap_or (entry_at k (map rows xs)) []) → IsToldOf (λ x. make (tell x) (length (rows x))) xs k (Some (make h count))
counted_told rows tell make k count xs h (before, x, after, placed, is) counted =
    let same : count ≡ length (rows x) = counted ∙ ap (λ o. length (unwrap_or o [])) (mapped_placed rows k xs before x after placed) in
    (before, x, after, placed, ap (λ h. make h count) is ∙ ap (make (tell x)) same)

-- and from the response to it
answered_told : {P : Type 0} (make : Incoming → Option IssuedResponse → P) (r : Register) (k : ℕ) (response : Option IssuedResponse) (p : P)
    → IsToldOf (λ f. make f response) r.incoming k (Some p) → IsResponseTo r k response → IsToldOf (λ f. make f (option_map issued_response f.response)) r.incoming k (Some p)
answered_told make r k response p (before, f, after, placed, is) answered = (before, f, after, placed, is ∙ ap (make f) (answered before f after placed))

pub incoming_progress_told : (r : Register) (k count : ℕ) (h : IncomingHeader) → IsToldOf incoming_header_of r.incoming k (Some h) → count ≡ length (file_rows r side.Incoming k)
    → (let progress : IncomingProgress = record { state = h.state; rows = count } in IsToldOf incoming_progress_of r.incoming k (Some progress))
incoming_progress_told r k count h = counted_told rows_in incoming_header_of (λ h n. let p : IncomingProgress = record { state = h.state; rows = n } in p) k count r.incoming h

pub outgoing_progress_told : (r : Register) (k count : ℕ) (h : OutgoingHeader) → IsToldOf outgoing_header_of r.outgoing k (Some h) → count ≡ length (file_rows r side.Outgoing k)
    → (let progress : OutgoingProgress = record { mark = h.mark; state = h.state; rows = count } in IsToldOf outgoing_progress_of r.outgoing k (Some progress))
outgoing_progress_told r k count h = counted_told rows_out outgoing_header_of (λ h n. let p : OutgoingProgress = record { mark = h.mark; state = h.state; rows = n } in p) k count r.outgoing h

pub response_progress_told : (r : Register) (k : ℕ) (h : IncomingHeader) (found : Option IssuedResponse) → IsToldOf incoming_header_of r.incoming k (Some h) → IsResponseTo r k found
    → (let progress : ResponseProgress = record { state = h.state; response = option_map (λ (i : IssuedResponse). i.dispatch) found } in IsToldOf response_progress_of r.incoming k (Some progress))
response_progress_told r k h found (before, f, after, placed, is) response = (
  before,
  f,
  after,
  placed,
  ap (λ st. let a : ResponseProgress = record { state = st; response = option_map (λ (i : IssuedResponse). i.dispatch) found } in a) (ap (λ (h : IncomingHeader). h.state) is)
      ∙ ap (λ o. let a : ResponseProgress = record { state = f.state; response = option_map (λ (i : IssuedResponse). i.dispatch) o } in a) (response before f after placed)
      ∙ ap (λ o. let a : ResponseProgress = record { state = f.state; response = o } in a) (twice f.response),
)
  where
    twice : (o : Option Issued) → option_map (λ (i : IssuedResponse). i.dispatch) (option_map issued_response o) ≡ option_map dispatch_of o
    twice None = refl
    twice (Some x) = refl

-- the mark of a file doesn't exceed its rows
pub mark_within : (r : Register) (k count : ℕ) (h : OutgoingHeader) → IsSound r → IsToldOf outgoing_header_of r.outgoing k (Some h) → count ≡ length (file_rows r side.Outgoing k) → h.mark ≤ count
mark_within r k count h sound (before, f, after, placed, is) counted =
    let mark : h.mark ≡ f.mark = ap (λ (h : OutgoingHeader). h.mark) is in
    let rows : count ≡ length f.rows = counted ∙ ap (λ o. length (unwrap_or o [])) (mapped_placed rows_out k r.outgoing before f after placed) in
    let file = all_at_place IsSoundOutgoing before f after (subst (All IsSoundOutgoing) placed.here sound.outgoing) in
    omega (arith, mark, rows, file.marked)

-- ---- entries

pub no_incoming : (r : Register) (k : ℕ) → entry_at k r.incoming ≡ None → in_by_no r k ≡ None
no_incoming r k none = entry_unknown incoming_entry (λ (e : IncomingEntry). e.no) (λ n x. refl) k r.incoming none

pub no_outgoing : (r : Register) (k : ℕ) → entry_at k r.outgoing ≡ None → out_by_no r k ≡ None
no_outgoing r k none = entry_unknown outgoing_entry (λ (e : OutgoingEntry). e.no) (λ n x. refl) k r.outgoing none

-- the entry that was read is the one that the office returns
found_entry : {X E : Type 0} (entry : ℕ → X → E) (number : E → ℕ) → ((n : ℕ) (x : X) → number (entry n x) ≡ n) → (k : ℕ) (xs : List X) (e : E) → IsToldOf (entry k) xs k (Some e)
    → Some e ≡ find (λ e. number e == k) (numbered entry 1 xs)
found_entry entry number same k xs e (before, x, after, placed, is) = ap Some is ∙ sym (entry_known entry number same k xs before x after placed)

pub incoming_told : (r : Register) (k count : ℕ) (h : IncomingHeader) (response : Option IssuedResponse) → IsToldOf incoming_header_of r.incoming k (Some h)
    → count ≡ length (file_rows r side.Incoming k) → IsResponseTo r k response → Some (incoming_entry_of k h count response) ≡ in_by_no r k
incoming_told r k count h response told counted answered =
    found_entry incoming_entry (λ (e : IncomingEntry). e.no) (λ n x. refl) k r.incoming _
    (answered_told (λ f o. incoming_entry_of k (incoming_header_of f) (length f.rows) o) r k response _
    (counted_told rows_in incoming_header_of (λ h n. incoming_entry_of k h n response) k count r.incoming h told counted) answered)

pub outgoing_told : (r : Register) (k count : ℕ) (h : OutgoingHeader) → IsToldOf outgoing_header_of r.outgoing k (Some h) → count ≡ length (file_rows r side.Outgoing k)
    → Some (outgoing_entry_of k h count) ≡ out_by_no r k
outgoing_told r k count h told counted =
    found_entry outgoing_entry (λ (e : OutgoingEntry). e.no) (λ n x. refl) k r.outgoing _ (counted_told rows_out outgoing_header_of (outgoing_entry_of k) k count r.outgoing h told counted)
