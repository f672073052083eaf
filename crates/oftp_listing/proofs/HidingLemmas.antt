-- A register without the content of its files is shown like the register.
use Rattle.std.proofs.Common.{◌≡◌, ℕ, zero, suc, ◌+◌, Bool, List, [], ◌∷◌, ◌++◌, map, find, Option, None, Some, slice_get, refl, ap, sym, ◌∙◌}
use Rattle.std.specs.List.{flat_map, filter_map}
use Rattle.std.specs.Option.{option_map, unwrap_or}
use Rattle.std.proofs.lemmas.List.{length-append, length-map}
use Rattle.oftp_vfile.specs.VirtualFile.{units_in}
use Rattle.oftp_register.specs.Register.{Register, Incoming, Outgoing, same_identity}
use Rattle.oftp_register.specs.LookUps.{in_by_no, incoming_entry, issued_entry, list_in, list_issued, list_out, look_out, numbered, out_by_no, outgoing_entry, units_of}
use Rattle.oftp_register.specs.declared.entries.Side.{Side}
use Rattle.oftp_register.specs.declared.entries.Side.TheVariants as side
use Rattle.oftp_register.specs.declared.entries.IncomingEntry.{IncomingEntry}
use Rattle.oftp_register.specs.declared.entries.OutgoingEntry.{OutgoingEntry}
use Rattle.oftp_register.specs.declared.entries.IssuedEntry.{IssuedEntry}
use Rattle.oftp_register.specs.declared.entries.ReceivedEntry.{ReceivedEntry}
use Rattle.oftp_listing.specs.declared.reports.ReportKind.{ReportKind}
use Rattle.oftp_listing.specs.declared.reports.ReportKind.TheVariants as kind
use Rattle.oftp_listing.specs.declared.route.Route.{Route}
use Rattle.oftp_listing.specs.declared.route.Route.TheVariants as route
use Rattle.oftp_listing.specs.Hiding.{blank, blank_incoming, blank_octets, blank_outgoing, blank_rows}
use Rattle.oftp_listing.specs.Objects.{incoming_object, outgoing_object, received_object}
use Rattle.oftp_listing.specs.Reports.{heading, incoming_fields, incoming_line, issued_fields, line, lines_of, outgoing_fields, outgoing_line, received_fields, received_line, report_of}
use Rattle.oftp_listing.specs.Texts.{list_of, no_of, reply_to, shown, shown_in, shown_out, shown_received, shown_responses, text_of}

-- ---- the same, element by element

map_same : {A B : Type 0} (f g : A → B) → ((x : A) → f x ≡ g x) → (xs : List A) → map f xs ≡ map g xs
map_same f g same [] = refl
map_same f g same (x ∷ xs) = rw (same x, map_same f g same xs) refl

flat_map_same : {A B : Type 0} (f g : A → List B) → ((x : A) → f x ≡ g x) → (xs : List A) → flat_map f xs ≡ flat_map g xs
flat_map_same f g same [] = refl
flat_map_same f g same (x ∷ xs) = rw (same x, flat_map_same f g same xs) refl

option_same : {A B : Type 0} (f g : A → B) → ((x : A) → f x ≡ g x) → (found : Option A) → option_map f found ≡ option_map g found
option_same f g same None = refl
option_same f g same (Some x) = ap Some (same x)

-- ---- what the look-ups return

units_blank : (rows : List (List ℕ)) → units_in (blank_rows rows) ≡ units_in rows
units_blank [] = refl
units_blank (row ∷ rows) = simp (length-append, length-map, units_blank rows) refl

blank_at : {A : Type 0} (rows : A → List (List ℕ)) (blanked : A → A) → ((x : A) → rows (blanked x) ≡ blank_rows (rows x)) → (xs : List A) (i : ℕ)
    → units_in (unwrap_or (slice_get (map rows (map blanked xs)) i) []) ≡ units_in (unwrap_or (slice_get (map rows xs) i) [])
blank_at rows blanked is [] i = refl
blank_at rows blanked is (x ∷ xs) zero = ap units_in (is x) ∙ units_blank (rows x)
blank_at rows blanked is (x ∷ xs) (suc i) = blank_at rows blanked is xs i

units_same : (r : Register) (which : Side) (n : ℕ) → units_of (blank r) which n ≡ units_of r which n
units_same r side.Incoming zero = refl
units_same r side.Incoming (suc i) = blank_at (λ (f : Incoming). f.rows) blank_incoming (λ x. refl) r.incoming i
units_same r side.Outgoing zero = refl
units_same r side.Outgoing (suc i) = blank_at (λ (f : Outgoing). f.rows) blank_outgoing (λ x. refl) r.outgoing i

incoming_same : (n : ℕ) (files : List Incoming) → numbered incoming_entry n (map blank_incoming files) ≡ numbered incoming_entry n files
incoming_same n [] = refl
incoming_same n (file ∷ files) = rw (length-map file.rows blank_octets, incoming_same (n + 1) files) refl

outgoing_same : (n : ℕ) (files : List Outgoing) → numbered outgoing_entry n (map blank_outgoing files) ≡ numbered outgoing_entry n files
outgoing_same n [] = refl
outgoing_same n (file ∷ files) = rw (length-map file.rows blank_octets, outgoing_same (n + 1) files) refl

issued_same : (n : ℕ) (files : List Incoming) → numbered issued_entry n (map blank_incoming files) ≡ numbered issued_entry n files
issued_same n [] = refl
issued_same n (file ∷ files) = ap (λ es. issued_entry n file ∷ es) (issued_same (n + 1) files)

list_in_same : (r : Register) → list_in (blank r) ≡ list_in r
list_in_same r = incoming_same 1 r.incoming

list_out_same : (r : Register) → list_out (blank r) ≡ list_out r
list_out_same r = outgoing_same 1 r.outgoing

list_issued_same : (r : Register) → list_issued (blank r) ≡ list_issued r
list_issued_same r = ap (filter_map (λ entry. entry)) (issued_same 1 r.incoming)

file_same : (r : Register) (e : ReceivedEntry) → no_of (look_out (blank r) e.response.identity) ≡ no_of (look_out r e.response.identity)
file_same r e = ap (λ es. no_of (find (λ (x : OutgoingEntry). same_identity x.identity e.response.identity) es)) (list_out_same r)

-- ---- what is shown of them

shown_in_same : (r : Register) (e : IncomingEntry) → shown_in (blank r) e ≡ shown_in r e
shown_in_same r e = ap (incoming_object e) (units_same r side.Incoming e.no)

shown_out_same : (r : Register) (e : OutgoingEntry) → shown_out (blank r) e ≡ shown_out r e
shown_out_same r e = ap (outgoing_object e) (units_same r side.Outgoing e.no)

shown_received_same : (r : Register) (e : ReceivedEntry) → shown_received (blank r) e ≡ shown_received r e
shown_received_same r e = ap (received_object e) (file_same r e)

responses_same : (r : Register) → shown_responses (blank r) ≡ shown_responses r
responses_same r = rw (list_issued_same r, map_same (shown_received (blank r)) (shown_received r) (shown_received_same r) _) refl

shown_same : (r : Register) (asked : Route) → shown (blank r) asked ≡ shown r asked
shown_same r route.Incoming = rw (list_in_same r) (ap (λ ds. Some (list_of ds)) (map_same (shown_in (blank r)) (shown_in r) (shown_in_same r) (list_in r)))
shown_same r (route.IncomingFile n) = rw (list_in_same r) (option_same (shown_in (blank r)) (shown_in r) (shown_in_same r) (in_by_no r n))
shown_same r route.Outgoing = rw (list_out_same r) (ap (λ ds. Some (list_of ds)) (map_same (shown_out (blank r)) (shown_out r) (shown_out_same r) (list_out r)))
shown_same r (route.OutgoingFile n) = rw (list_out_same r) (option_same (shown_out (blank r)) (shown_out r) (shown_out_same r) (out_by_no r n))
shown_same r route.Responses = ap Some (responses_same r)

text_same : (is_get : Bool) (asked : Option Route) (r : Register) → text_of is_get asked (blank r) ≡ text_of is_get asked r
text_same is_get None r = refl
text_same is_get (Some asked) r = ap (reply_to is_get) (shown_same r asked)

lines_same : (what : ReportKind) (r : Register) → lines_of what (blank r) ≡ lines_of what r
lines_same kind.Incoming r = rw (list_in_same r)
    (flat_map_same (incoming_line (blank r)) (incoming_line r) (λ e. ap (λ units. line (incoming_fields e units)) (units_same r side.Incoming e.no)) (list_in r))
lines_same kind.Outgoing r = rw (list_out_same r)
    (flat_map_same (outgoing_line (blank r)) (outgoing_line r) (λ e. ap (λ units. line (outgoing_fields e units)) (units_same r side.Outgoing e.no)) (list_out r))
lines_same kind.Issued r = ap (flat_map (λ (e : IssuedEntry). line (issued_fields e))) (list_issued_same r)
lines_same kind.Received r = flat_map_same (received_line (blank r)) (received_line r) (λ e. ap (λ file. line (received_fields e file)) (file_same r e)) _

-- ---- registers that are alike

pub replies_alike : (r s : Register) → blank r ≡ blank s → (is_get : Bool) (asked : Option Route) → text_of is_get asked r ≡ text_of is_get asked s
replies_alike r s e is_get asked = sym (text_same is_get asked r) ∙ ap (text_of is_get asked) e ∙ text_same is_get asked s

pub reports_alike : (r s : Register) → blank r ≡ blank s → (what : ReportKind) → report_of what r ≡ report_of what s
reports_alike r s e what = ap (λ ls. heading what ++ ls) (sym (lines_same what r) ∙ ap (lines_of what) e ∙ lines_same what s)
