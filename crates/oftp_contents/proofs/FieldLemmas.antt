-- The encoding of fields is read in one way.
use Rattle.std.proofs.Common.{◌≡◌, ℕ, ◌^◌, ◌<◌, List, ◌∷◌, ◌++◌, length, take, drop, get_or, refl, sym, ap, ◌∙◌, append_assoc}
use Rattle.std.proofs.lemmas.List.{take_at, drop_at}
use Rattle.std.proofs.lemmas.Nat.{from_be_bytes-to_be_bytes_4, from_be_bytes-to_be_bytes_8}
use Rattle.std.specs.Int.{w32, w64, to_be_bytes, from_be_bytes}
use Rattle.oftp_contents.specs.Fields.{IsLaid, Laid, fields_octets, spelled_text}

-- two beginnings of one length
same_front : (c d x y : List ℕ) → length c ≡ length d → c ++ x ≡ d ++ y → (c ≡ d) × (x ≡ y)
same_front c d x y n e = (
  sym (take_at c x (length c) refl) ∙ ap (λ (z : List ℕ). take (length c) z) e ∙ take_at d y (length c) (sym n),
  sym (drop_at c x (length c) refl) ∙ ap (λ (z : List ℕ). drop (length c) z) e ∙ drop_at d y (length c) (sym n),
)

same_short : (n c : ℕ) → n < 2 ^ 32 → c < 2 ^ 32 → to_be_bytes w32 n ≡ to_be_bytes w32 c → n ≡ c
same_short n c p q e = sym (from_be_bytes-to_be_bytes_4 n p) ∙ ap (λ (z : List ℕ). from_be_bytes w32 z) e ∙ from_be_bytes-to_be_bytes_4 c q

same_long : (n c : ℕ) → n < 2 ^ 64 → c < 2 ^ 64 → to_be_bytes w64 n ≡ to_be_bytes w64 c → n ≡ c
same_long n c p q e = sym (from_be_bytes-to_be_bytes_8 n p) ∙ ap (λ (z : List ℕ). from_be_bytes w64 z) e ∙ from_be_bytes-to_be_bytes_8 c q

-- octets that begin with a length begin with one alone
same_count : (n c : ℕ) (x y : List ℕ) → n < 2 ^ 32 → c < 2 ^ 32 → to_be_bytes w32 n ++ x ≡ to_be_bytes w32 c ++ y → (n ≡ c) × (x ≡ y)
same_count n c x y p q e =
    let fronts = same_front (to_be_bytes w32 n) (to_be_bytes w32 c) x y refl e in
    (same_short n c p q fronts.0, fronts.1)

-- and octets that begin with a text
same_text : (a b x y : List ℕ) → length a < 2 ^ 32 → length b < 2 ^ 32 → spelled_text a ++ x ≡ spelled_text b ++ y → (a ≡ b) × (x ≡ y)
same_text a b x y p q e =
    let regrouped : to_be_bytes w32 (length a) ++ (a ++ x) ≡ to_be_bytes w32 (length b) ++ (b ++ y) =
    sym (append_assoc (to_be_bytes w32 (length a)) a x) ∙ e ∙ append_assoc (to_be_bytes w32 (length b)) b y in
    let counts = same_count (length a) (length b) (a ++ x) (b ++ y) p q regrouped in
    same_front a b x y counts.0 counts.1

-- what is behind the number
abbrev behind_number : Laid → List ℕ
behind_number fields = fields.code ∷ (spelled_text fields.first ++ (spelled_text fields.second ++ fields.rest))

-- and behind the code
abbrev behind_code : Laid → List ℕ
behind_code fields = spelled_text fields.first ++ (spelled_text fields.second ++ fields.rest)

-- of octets that are fields and have a text behind the number and the code, the others are the second text and the octets
pub second_behind : (octets text after : List ℕ) (f : Laid) → IsLaid f → drop 9 octets ≡ spelled_text text ++ after → length text < 2 ^ 32
    → octets ≡ fields_octets f → after ≡ spelled_text f.second ++ f.rest
second_behind octets text after f is begun short spelled =
    let texts : drop 9 octets ≡ behind_code f = ap (λ (z : List ℕ). drop 9 z) spelled in
    (same_text text f.first after (spelled_text f.second ++ f.rest) short is.first (sym begun ∙ texts)).1

-- octets are the encoding of one list of fields
pub one_content : (f g : Laid) → IsLaid f → IsLaid g → fields_octets f ≡ fields_octets g → f ≡ g
one_content f g p q e =
    let numbers = same_front (to_be_bytes w64 f.number) (to_be_bytes w64 g.number) (behind_number f) (behind_number g) refl e in
    let number : f.number ≡ g.number = same_long f.number g.number p.number q.number numbers.0 in
    let code : f.code ≡ g.code = ap (λ (z : List ℕ). get_or z 0 0) numbers.1 in
    let texts : behind_code f ≡ behind_code g = ap (λ (z : List ℕ). drop 1 z) numbers.1 in
    let first = same_text f.first g.first (spelled_text f.second ++ f.rest) (spelled_text g.second ++ g.rest) p.first q.first texts in
    let second = same_text f.second g.second f.rest g.rest p.second q.second first.1 in
    λ i. record { number = number i; code = code i; first = first.0 i; second = second.0 i; rest = second.1 i }
