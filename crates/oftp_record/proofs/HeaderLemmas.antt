-- The octets of headers and entries: their lengths, and that they are read in one way.
use Rattle.std.proofs.Common.{◌≡◌, ℕ, ◌+◌, ◌-◌, ◌^◌, ◌<◌, ◌≤◌, List, [], ◌∷◌, ◌++◌, length, take, drop, get_or, codes, refl, sym, ap, ◌∙◌, append_assoc, arith, length-append}
use Rattle.std.proofs.lemmas.List.{drop-drop, drop_at, drop_more, take-append-drop, take_at}
use Rattle.std.proofs.lemmas.Nat.{from_be_bytes-to_be_bytes_4, from_be_bytes-to_be_bytes_8}
use Rattle.std.specs.Int.{w32, w64, to_be_bytes, from_be_bytes}
use Rattle.sha2.proofs.Facts256.{length-sha256}
use Rattle.sha2.specs.Sha256.{sha256}
use Rattle.oftp_record.specs.Entries.{IsEntry, Noted, entry_body, entry_digest, entry_header, entry_length, entry_octets, kind_number}
use Rattle.oftp_record.specs.Next.{HasNoHeader}
use Rattle.oftp_record.specs.declared.chain.TheConstants.{DIGEST_LEN}
use Rattle.oftp_record.specs.declared.header.TheConstants.{COUNT_AT, HEADER_LEN, KIND_AT, LACK_AT, LONGEST_CONTENT, MOMENT_AT}
use Rattle.oftp_record.specs.declared.kind.RecordKind.{RecordKind}
use Rattle.oftp_record.specs.declared.kind.RecordKind.TheVariants as kinds

-- the kinds by their numbers, from 0 on; no kind has the number 0
abbrev pub kinds_by_number : List RecordKind
kinds_by_number = kinds.Mark ∷ kinds.Opening ∷ kinds.Session ∷ kinds.OctetsIn ∷ kinds.OctetsOut ∷ kinds.End ∷ kinds.Call ∷ kinds.Backup ∷ kinds.Mark ∷ []

kind_again : (kind : RecordKind) → get_or kinds_by_number (kind_number kind) kinds.Mark ≡ kind
kind_again kinds.Opening = refl
kind_again kinds.Session = refl
kind_again kinds.OctetsIn = refl
kind_again kinds.OctetsOut = refl
kind_again kinds.End = refl
kind_again kinds.Call = refl
kind_again kinds.Backup = refl
kind_again kinds.Mark = refl

one_kind : (kind other : RecordKind) → kind_number kind ≡ kind_number other → kind ≡ other
one_kind kind other e = sym (kind_again kind) ∙ ap (λ (n : ℕ). get_or kinds_by_number n kinds.Mark) e ∙ kind_again other

-- two beginnings of one length
pub same_front : (c d x y : List ℕ) → length c ≡ length d → c ++ x ≡ d ++ y → (c ≡ d) × (x ≡ y)
same_front c d x y n e = (
  sym (take_at c x (length c) refl) ∙ ap (λ (z : List ℕ). take (length c) z) e ∙ take_at d y (length c) (sym n),
  sym (drop_at c x (length c) refl) ∙ ap (λ (z : List ℕ). drop (length c) z) e ∙ drop_at d y (length c) (sym n),
)

pub same_short : (n c : ℕ) → n < 2 ^ 32 → c < 2 ^ 32 → to_be_bytes w32 n ≡ to_be_bytes w32 c → n ≡ c
same_short n c p q e = sym (from_be_bytes-to_be_bytes_4 n p) ∙ ap (λ (z : List ℕ). from_be_bytes w32 z) e ∙ from_be_bytes-to_be_bytes_4 c q

same_long : (n c : ℕ) → n < 2 ^ 64 → c < 2 ^ 64 → to_be_bytes w64 n ≡ to_be_bytes w64 c → n ≡ c
same_long n c p q e = sym (from_be_bytes-to_be_bytes_8 n p) ∙ ap (λ (z : List ℕ). from_be_bytes w64 z) e ∙ from_be_bytes-to_be_bytes_8 c q

module _ (k l : RecordKind) (m o n c : ℕ) (x y : List ℕ) (e : entry_header k m n ++ x ≡ entry_header l o c ++ y) where
  headers : (entry_header k m n ≡ entry_header l o c) × (x ≡ y)
  headers = same_front (entry_header k m n) (entry_header l o c) x y refl e

  -- two headers at the beginning of the same octets announce as many octets
  pub same_count : n ≤ LONGEST_CONTENT → c ≤ LONGEST_CONTENT → (n ≡ c) × (x ≡ y)
  same_count small few =
      let octets : to_be_bytes w32 n ≡ to_be_bytes w32 c = ap (λ (z : List ℕ). take 4 (drop COUNT_AT z)) headers.0 in
      (same_short n c (omega (arith, small)) (omega (arith, few)) octets, headers.1)

  -- and are of one kind and one moment
  same_said : m < 2 ^ 64 → o < 2 ^ 64 → (k ≡ l) × (m ≡ o)
  same_said early soon =
      let number : kind_number k ≡ kind_number l = ap (λ (z : List ℕ). get_or z 5 0) headers.0 in
      let octets : to_be_bytes w64 m ≡ to_be_bytes w64 o = ap (λ (z : List ℕ). take 8 (drop MOMENT_AT z)) headers.0 in
      (one_kind k l number, same_long m o early soon octets)

same_noted : (e f : Noted) → e.kind ≡ f.kind → e.moment ≡ f.moment → e.content ≡ f.content → e ≡ f
same_noted e f k m c = λ i. record { kind = k i; moment = m i; content = c i }

-- two entries at the beginning of the same octets
pub same_entry : (e f : Noted) (x y : List ℕ) → IsEntry e → IsEntry f → entry_body e ++ x ≡ entry_body f ++ y → (e ≡ f) × (x ≡ y)
same_entry e f x y is it same =
    let whole : entry_header e.kind e.moment (length e.content) ++ (e.content ++ x) ≡ entry_header f.kind f.moment (length f.content) ++ (f.content ++ y) =
    sym (append_assoc (entry_header e.kind e.moment (length e.content)) e.content x) ∙ same
    ∙ append_assoc (entry_header f.kind f.moment (length f.content)) f.content y in
    let count = same_count e.kind f.kind e.moment f.moment (length e.content) (length f.content) (e.content ++ x) (f.content ++ y) whole is.content it.content in
    let said = same_said e.kind f.kind e.moment f.moment (length e.content) (length f.content) (e.content ++ x) (f.content ++ y) whole is.moment it.moment in
    let contents = same_front e.content f.content x y count.0 count.1 in
    (same_noted e f said.0 said.1 contents.0, contents.1)

pub header_length : (kind : RecordKind) (moment count : ℕ) → length (entry_header kind moment count) ≡ HEADER_LEN
header_length kind moment count = refl

pub body_length : (e : Noted) → length (entry_body e) ≡ HEADER_LEN + length e.content
body_length e = length-append (entry_header e.kind e.moment (length e.content)) e.content

pub digest_length : (e : Noted) (before : List ℕ) → length (entry_digest e before) ≡ DIGEST_LEN
digest_length e before = length-sha256 (sha256 (entry_body e) ++ before)

pub octets_length : (e : Noted) (before : List ℕ) → length (entry_octets e before) ≡ entry_length e
octets_length e before = omega (arith, length-append (entry_body e) (entry_digest e before), body_length e, digest_length e before)

-- octets that have the parts of a header
pub header_from : (o : List ℕ) (k : RecordKind) (m n : ℕ) → length o ≡ HEADER_LEN → take KIND_AT o ≡ codes "OREC2" → kind_number k ≡ get_or o KIND_AT 0
    → to_be_bytes w64 m ≡ take 8 (drop MOMENT_AT o) → to_be_bytes w32 n ≡ take 4 (drop COUNT_AT o) → to_be_bytes w32 (2 ^ 32 - 1 - n) ≡ drop LACK_AT o
    → o ≡ entry_header k m n
header_from o k m n long word kind moment count lack =
    let behind_word : drop KIND_AT o ≡ get_or o KIND_AT 0 ∷ drop MOMENT_AT o = drop_more o KIND_AT 0 (omega (arith, long)) in
    let behind_kind : drop MOMENT_AT o ≡ to_be_bytes w64 m ++ drop COUNT_AT o =
    sym (take-append-drop 8 (drop MOMENT_AT o)) ∙ ap (λ (z : List ℕ). z ++ drop 8 (drop MOMENT_AT o)) (sym moment)
    ∙ ap (λ (z : List ℕ). to_be_bytes w64 m ++ z) (drop-drop 8 MOMENT_AT o) in
    let behind_moment : drop COUNT_AT o ≡ to_be_bytes w32 n ++ drop LACK_AT o =
    sym (take-append-drop 4 (drop COUNT_AT o)) ∙ ap (λ (z : List ℕ). z ++ drop 4 (drop COUNT_AT o)) (sym count)
    ∙ ap (λ (z : List ℕ). to_be_bytes w32 n ++ z) (drop-drop 4 COUNT_AT o) in
    let numbers : drop MOMENT_AT o ≡ to_be_bytes w64 m ++ (to_be_bytes w32 n ++ to_be_bytes w32 (2 ^ 32 - 1 - n)) =
    behind_kind ∙ ap (λ (z : List ℕ). to_be_bytes w64 m ++ z) (behind_moment ∙ ap (λ (z : List ℕ). to_be_bytes w32 n ++ z) (sym lack)) in
    sym (take-append-drop KIND_AT o) ∙ ap (λ (z : List ℕ). z ++ drop KIND_AT o) word ∙ ap (λ (z : List ℕ). codes "OREC2" ++ z)
    (behind_word ∙ ap (λ (x : ℕ). x ∷ drop MOMENT_AT o) (sym kind) ∙ ap (λ (z : List ℕ). kind_number k ∷ z) numbers)

-- octets of which the first ones are no header
pub no_header : (o : List ℕ) → HEADER_LEN ≤ length o
    → ((k : RecordKind) (m n : ℕ) → n ≤ LONGEST_CONTENT → take HEADER_LEN o ≡ entry_header k m n → ⊥) → HasNoHeader o
no_header o enough none = record {
  enough = enough;
  none = λ k m n rest few e. none k m n few (ap (λ (z : List ℕ). take HEADER_LEN z) e ∙ take_at (entry_header k m n) rest HEADER_LEN refl);
}
