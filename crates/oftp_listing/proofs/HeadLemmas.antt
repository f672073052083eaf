-- What the parser's answer says of the octets of a request.
use Rattle.std.proofs.Common.{◌≡◌, ◌≤◌, ◌<◌, ◌++◌, ℕ, List, [], length, take, inl, inr, ap, refl, sym, subst, ◌∙◌, arith, append-nil}
use Rattle.std.specs.Str.{IsUtf8}
use Rattle.std.proofs.lemmas.List.{length-map, length-take}
use Rattle.httparse.proofs.GrammarLemmas.{request_unique}
use Rattle.httparse.specs.declared.spans.HeaderSpan.{HeaderSpan}
use Rattle.httparse.specs.declared.spans.RequestSpans.{RequestSpans}
use Rattle.httparse.specs.Grammar.{EndsInTarget, Field, HasNoRequest, MayBecomeRequest, NeverHasRequest, ReadsRequest, RequestHead}
use Rattle.httparse.specs.Spans.{IsRequestAt, IsRequestOf, AreFieldsAt, RequestOverflows, header_bytes, name_and_value, span_bytes}
use Rattle.oftp_listing.specs.declared.head.TheConstants.{LONGEST_HEAD, MOST_FIELDS}
use Rattle.oftp_listing.specs.declared.head.Head.{Head}
use Rattle.oftp_listing.specs.declared.head.Head.TheVariants as head
use Rattle.oftp_listing.specs.Heads.{Heard, Unfinished, Refused, Whole, Hears, Reads}
use Rattle.oftp_listing.specs.InsideQuery.{IsBegun, IsHeadOf}

-- a head has no more fields than there was room for
pub fields_fit : (buf : List ℕ) (spans : List HeaderSpan) (count : ℕ) (fields : List Field) → AreFieldsAt buf spans count fields → length fields ≤ length spans
fields_fit buf spans count fields are =
    let same : length (take count spans) ≡ length fields = sym (length-map (take count spans) (header_bytes buf)) ∙ ap length are ∙ length-map fields name_and_value in
    omega (arith, same, length-take count spans)

-- where the parser found a head, the head that was made of it is the one of the definition
pub head_found : (buf : List ℕ) (spans : List HeaderSpan) (r : RequestSpans) (m t : List ℕ) (made : Head) → length spans ≡ MOST_FIELDS
    → ((h : RequestHead) (rest : List ℕ) → ReadsRequest buf h rest → length h.fields ≤ MOST_FIELDS → IsRequestAt buf spans r h) → IsRequestOf buf spans r
    → m ≡ span_bytes buf r.method → t ≡ span_bytes buf r.path → IsHeadOf buf m t made → (heard : Heard) → Hears buf heard → Reads heard made
head_found buf spans r m t made room finds is em et of Unfinished h = absurd (h.not_yet is.0 _ is.1.reads)
head_found buf spans r m t made room finds is em et of Refused (inl big) = of.long big
head_found buf spans r m t made room finds is em et of Refused (inr (inl never)) =
    let none : HasNoRequest buf = rw (append-nil buf) at (never.0 []) in
    absurd (none is.0 _ is.1.reads)
head_found buf spans r m t made room finds is em et of Refused (inr (inr crowd)) =
    let same = (request_unique buf crowd.head is.0 crowd.rest _ crowd.reads is.1.reads).0 in
    let fit = fields_fit buf spans r.headers is.0.fields is.1.fields in
    absurd (omega (arith, room, fit, ap (λ (h : RequestHead). length h.fields) same, crowd.many))
head_found buf spans r m t made room finds is em et of (Whole method target) h =
    let at = finds h.head h.rest h.reads h.few in
    let asked_m : m ≡ method = em ∙ at.method ∙ h.method in
    let asked_t : t ≡ target = et ∙ at.path ∙ h.target in
    let text : IsUtf8 t = subst IsUtf8 (sym (et ∙ at.path)) h.reads.0.target_text in
    subst (λ (x : List ℕ). Reads (Whole x target) made) asked_m (subst (λ (x : List ℕ). Reads (Whole m x) made) asked_t (of.short h.short text))

never_becomes : (buf : List ℕ) → NeverHasRequest buf → ¬ (EndsInTarget buf) → MayBecomeRequest buf → ⊥
never_becomes buf never elsewhere (inl (more, h, reads)) = never more h [] reads
never_becomes buf never elsewhere (inr ends) = elsewhere ends

-- where it found the beginning of one
pub head_begun : (buf : List ℕ) (made : Head) → HasNoRequest buf → MayBecomeRequest buf → IsBegun buf made → (heard : Heard) → Hears buf heard → Reads heard made
head_begun buf made none may begun Unfinished h = begun.short h.short
head_begun buf made none may begun Refused (inl big) = begun.long big
head_begun buf made none may begun Refused (inr (inl never)) = absurd (never_becomes buf never.0 never.1 may)
head_begun buf made none may begun Refused (inr (inr crowd)) = absurd (none crowd.head crowd.rest crowd.reads)
head_begun buf made none may begun (Whole m t) h = absurd (none h.head h.rest h.reads)

-- no head of so few fields is there, where whatever follows leaves none
pub fields_overflow : (buf : List ℕ) → RequestOverflows MOST_FIELDS buf → (h : RequestHead) (rest : List ℕ) → ReadsRequest buf h rest → MOST_FIELDS < length h.fields
fields_overflow buf over h rest reads = over [] h rest (subst (λ (b : List ℕ). ReadsRequest b h rest) (sym (append-nil buf)) reads)

-- where it found none
pub head_refused : (buf : List ℕ) → RequestOverflows MOST_FIELDS buf → (heard : Heard) → Hears buf heard → Reads heard head.Refused
head_refused buf over Unfinished h = absurd (omega (arith, h.few, over h.more h.head [] h.reads))
head_refused buf over Refused h = refl
head_refused buf over (Whole m t) h = absurd (omega (arith, h.few, fields_overflow buf over h.head h.rest h.reads))
