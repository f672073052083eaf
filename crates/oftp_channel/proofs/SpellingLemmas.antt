-- An encoding is read in one way.
use Rattle.std.proofs.Common.{◌≡◌, ℕ, ◌+◌, ◌^◌, ◌<◌, ◌≤◌, List, [], ◌∷◌, ◌++◌, length, take, drop, refl, sym, ap, ◌∙◌, append_assoc, arith}
use Rattle.std.proofs.lemmas.List.{append-nil, take_at, drop_at}
use Rattle.std.proofs.lemmas.List.Concat.{flat_map-append}
use Rattle.std.proofs.lemmas.Nat.{from_be_bytes-to_be_bytes_4, from_be_bytes-to_be_bytes_8}
use Rattle.std.specs.Int.{w32, w64, to_be_bytes, from_be_bytes}
use Rattle.std.specs.List.{flat_map}
use Rattle.oftp_channel.specs.Requests.{spelled_word, total}

-- the first octets that were read, and the octets after the input
pub regroup : (heard front after more whole : List ℕ) → heard ≡ front ++ after → heard ++ more ≡ whole → front ++ (after ++ more) ≡ whole
regroup heard front after more whole p q = sym (append_assoc front after more) ∙ ap (λ (z : List ℕ). z ++ more) (sym p) ∙ q

pub same_number : (m n : ℕ) (x y : List ℕ) → m < 2 ^ 32 → n < 2 ^ 32 → to_be_bytes w32 m ++ x ≡ to_be_bytes w32 n ++ y → (m ≡ n) × (x ≡ y)
same_number m n x y p q e =
    let fronts : to_be_bytes w32 m ≡ to_be_bytes w32 n = sym (take_at (to_be_bytes w32 m) x 4 refl) ∙ ap (λ (z : List ℕ). take 4 z) e ∙ take_at (to_be_bytes w32 n) y 4 refl in (
      sym (from_be_bytes-to_be_bytes_4 m p) ∙ ap (λ (z : List ℕ). from_be_bytes w32 z) fronts ∙ from_be_bytes-to_be_bytes_4 n q,
      sym (drop_at (to_be_bytes w32 m) x 4 refl) ∙ ap (λ (z : List ℕ). drop 4 z) e ∙ drop_at (to_be_bytes w32 n) y 4 refl,
    )

pub same_long : (m n : ℕ) (x y : List ℕ) → m < 2 ^ 64 → n < 2 ^ 64 → to_be_bytes w64 m ++ x ≡ to_be_bytes w64 n ++ y → m ≡ n
same_long m n x y p q e =
    let fronts : to_be_bytes w64 m ≡ to_be_bytes w64 n = sym (take_at (to_be_bytes w64 m) x 8 refl) ∙ ap (λ (z : List ℕ). take 8 z) e ∙ take_at (to_be_bytes w64 n) y 8 refl in
    sym (from_be_bytes-to_be_bytes_8 m p) ∙ ap (λ (z : List ℕ). from_be_bytes w64 z) fronts ∙ from_be_bytes-to_be_bytes_8 n q

pub same_word : (a b x y : List ℕ) → length a < 2 ^ 32 → length b < 2 ^ 32 → spelled_word a ++ x ≡ spelled_word b ++ y → (a ≡ b) × (x ≡ y)
same_word a b x y p q e =
    let regrouped : to_be_bytes w32 (length a) ++ (a ++ x) ≡ to_be_bytes w32 (length b) ++ (b ++ y) =
    sym (append_assoc (to_be_bytes w32 (length a)) a x) ∙ e ∙ append_assoc (to_be_bytes w32 (length b)) b y in
    let n = same_number (length a) (length b) (a ++ x) (b ++ y) p q regrouped in (
      sym (take_at a x (length a) refl) ∙ ap (λ (z : List ℕ). take (length a) z) n.1 ∙ take_at b y (length a) (sym n.0),
      sym (drop_at a x (length a) refl) ∙ ap (λ (z : List ℕ). drop (length a) z) n.1 ∙ drop_at b y (length a) (sym n.0),
    )

-- the first word of each, and the octets after it
first_words : (s t : List ℕ) (ss ts : List (List ℕ)) (x y : List ℕ) → length s < 2 ^ 32 → length t < 2 ^ 32
    → flat_map spelled_word (s ∷ ss) ++ x ≡ flat_map spelled_word (t ∷ ts) ++ y → (s ≡ t) × (flat_map spelled_word ss ++ x ≡ flat_map spelled_word ts ++ y)
first_words s t ss ts x y p q e = same_word s t (flat_map spelled_word ss ++ x) (flat_map spelled_word ts ++ y) p q
    (sym (append_assoc (spelled_word s) (flat_map spelled_word ss) x) ∙ e ∙ append_assoc (spelled_word t) (flat_map spelled_word ts) y)

-- as many words with the same encoding are the same
pub same_words : (got words : List (List ℕ)) (x y : List ℕ) → total got < 2 ^ 32 → total words < 2 ^ 32 → length got ≡ length words
    → flat_map spelled_word got ++ x ≡ flat_map spelled_word words ++ y → got ≡ words
same_words [] [] x y p q n e = refl
same_words [] (t ∷ ts) x y p q n e = absurd (omega (arith, n))
same_words (s ∷ ss) [] x y p q n e = absurd (omega (arith, n))
same_words (s ∷ ss) (t ∷ ts) x y p q n e =
    let first = first_words s t ss ts x y (omega (arith, p)) (omega (arith, q)) e in
    let others = same_words ss ts x y (omega (arith, p)) (omega (arith, q)) (omega (arith, n)) first.1 in
    ap (λ (z : List ℕ). z ∷ ss) first.0 ∙ ap (λ (z : List (List ℕ)). t ∷ z) others

-- if fewer words are read than were written, the next one follows
pub next_word : (got words : List (List ℕ)) (x y : List ℕ) → total got < 2 ^ 32 → total words < 2 ^ 32 → length got < length words
    → flat_map spelled_word got ++ x ≡ flat_map spelled_word words ++ y
    → (s : List ℕ) × (after : List ℕ) × (x ≡ spelled_word s ++ after) × (total got + length s ≤ total words)
next_word [] [] x y p q n e = absurd (omega (arith, n))
next_word [] (t ∷ ts) x y p q n e = (t, flat_map spelled_word ts ++ y, e ∙ append_assoc (spelled_word t) (flat_map spelled_word ts) y, omega arith)
next_word (s ∷ ss) [] x y p q n e = absurd (omega (arith, n))
next_word (s ∷ ss) (t ∷ ts) x y p q n e =
    let first = first_words s t ss ts x y (omega (arith, p)) (omega (arith, q)) e in
    let later = next_word ss ts x y (omega (arith, p)) (omega (arith, q)) (omega (arith, n)) first.1 in
    (later.0, later.1, later.2, omega (arith, later.3, ap (λ (z : List ℕ). length z) first.0))

pub total_push : (words : List (List ℕ)) (s : List ℕ) → total (words ++ s ∷ []) ≡ total words + length s
total_push [] s = omega arith
total_push (t ∷ ts) s = omega (arith, total_push ts s)

pub spelled_push : (words : List (List ℕ)) (s : List ℕ) → flat_map spelled_word (words ++ s ∷ []) ≡ flat_map spelled_word words ++ spelled_word s
spelled_push words s = flat_map-append spelled_word words (s ∷ []) ∙ ap (λ (z : List ℕ). flat_map spelled_word words ++ z) (append-nil (spelled_word s))
