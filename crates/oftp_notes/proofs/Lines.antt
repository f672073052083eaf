-- Lines of which each character can be seen: each is one line, and none is long.
use Rattle.std.proofs.Common.{◌≡◌, ◌⊎◌, inl, inr, ℕ, zero, suc, ◌+◌, ◌<◌, ◌≤◌, ◌/◌, ◌%◌, ◌==◌, ◌&&◌, ◌||◌, not, Bool, true, false, cond, nat_le, nat_lt, List, [], ◌∷◌, ◌++◌, length, get_or, codes, refl, sym, ap, subst, ◌∙◌, arith, encode_utf8, encode_utf8_all, append_assoc, append-nil, ltb-true, fold, Result, Ok, Err, IfOk}
use Rattle.std.specs.Fmt.{digit_glyph, digits, digits_onto}
use Rattle.std.specs.List.{list_all}
use Rattle.std.specs.Str.{IsUtf8, chars}
use Rattle.std.specs.Char.Unicode.Alphabetic.{is_alphabetic}
use Rattle.std.specs.Char.Unicode.Numeric.{is_numeric}
use Rattle.std.proofs.lemmas.Bool.{and_from, and_parts, cond_both, le-leb, leb-true, or_cases, cases_lt}
use Rattle.std.proofs.lemmas.List.{length-append, nil_from_length}
use Rattle.std.proofs.lemmas.List.Folds.{list_all-append}
use Rattle.std.proofs.lemmas.List.Sums.{fold-append}
use Rattle.std.specs.Char.{len_utf8}
use Rattle.std.proofs.lemmas.Str.{encode_ascii, encodes-append, chars_from_encodes, inside_one, length-encode}
use Rattle.oftp_notes.specs.Seen.{IsOneLine, is_seen, seen_line, seen_of, with_seen}

-- no octet of a text is below 32
abbrev IsPrinted : List ℕ → Type 0
IsPrinted octets = list_all (nat_le 32) octets ≡ true

joined : (xs ys : List ℕ) → IsPrinted xs → IsPrinted ys → IsPrinted (xs ++ ys)
joined xs ys first second = list_all-append (nat_le 32) xs ys ∙ and_from _ _ first second

one_more : (x : ℕ) (xs : List ℕ) → 32 ≤ x → IsPrinted xs → IsPrinted (x ∷ xs)
one_more x xs high rest = and_from _ _ (le-leb 32 x high) rest

-- ---- numbers

glyph_high : (d : ℕ) → 32 ≤ digit_glyph false d
glyph_high d = cond_both (nat_lt d 10) (48 + d) (87 + d) (λ (c : ℕ). 32 ≤ c) (λ _. omega arith) (λ _. omega arith)

digits_printed : (k n : ℕ) (text : List ℕ) → IsPrinted text → IsPrinted (digits_onto k 16 false n text)
digits_printed zero n text rest = rest
digits_printed (suc k) n text rest =
    let last : ℕ = digit_glyph false (n % 16) in
    let more : IsPrinted (last ∷ text) = one_more last text (glyph_high (n % 16)) rest in
    cond_both (n / 16 == 0) (last ∷ text) (digits_onto k 16 false (n / 16) (last ∷ text)) IsPrinted (λ _. more) (λ _. digits_printed k (n / 16) (last ∷ text) more)

digits_short : (k n : ℕ) (text : List ℕ) → length (digits_onto k 16 false n text) ≤ k + length text
digits_short zero n text = omega arith
digits_short (suc k) n text =
    let last : ℕ = digit_glyph false (n % 16) in
    cond_both (n / 16 == 0) (last ∷ text) (digits_onto k 16 false (n / 16) (last ∷ text)) (λ (x : List ℕ). length x ≤ suc k + length text)
    (λ _. omega arith)
    (λ _. omega (arith, digits_short k (n / 16) (last ∷ text)))

-- ---- characters

-- octets that are all high
all_high : (xs : List ℕ) → ((k : ℕ) → k < length xs → 128 ≤ get_or xs k 0) → IsPrinted xs
all_high [] h = refl
all_high (x ∷ xs) h =
    let high : 128 ≤ x = h 0 (omega arith) in
    one_more x xs (omega arith) (all_high xs (λ k below. h (suc k) (omega arith)))

encode_printed : (c : ℕ) → 32 ≤ c → IsPrinted (encode_utf8 c)
encode_printed c high = elim (cases_lt c 128) [
  | inl small ↦ subst IsPrinted (sym (encode_ascii c small)) (one_more c [] high refl)
  | inr big ↦ all_high (encode_utf8 c) (λ k below. elim (cases_lt (get_or (encode_utf8 c) k 0) 128) [
    | inl low ↦ absurd (omega (arith, inside_one c [] (encode_utf8 c) k (sym (append-nil _)) below low))
    | inr h ↦ h
  ])
]

len_short : (c : ℕ) → len_utf8 c ≤ 4
len_short c = cond_both (nat_lt c 128) 1 (cond (nat_lt c 2048) 2 (cond (nat_lt c 65536) 3 4)) (λ (n : ℕ). n ≤ 4) (λ _. omega arith)
    (λ _. cond_both (nat_lt c 2048) 2 (cond (nat_lt c 65536) 3 4) (λ (n : ℕ). n ≤ 4) (λ _. omega arith)
    (λ _. cond_both (nat_lt c 65536) 3 4 (λ (n : ℕ). n ≤ 4) (λ _. omega arith) (λ _. omega arith)))

encode_short : (c : ℕ) → length (encode_utf8 c) ≤ 4
encode_short c = omega (arith, length-encode c, len_short c)

seen_high : (c : ℕ) → is_seen c ≡ true → 32 ≤ c
unfolding is_seen
seen_high c e =
    let ascii : Bool = nat_le 32 c && nat_le c 126 in
    let other : Bool = nat_le 160 c && (is_alphabetic c || is_numeric c) in
    elim (or_cases ascii other (and_parts (not (c == 92)) (ascii || other) e).1) [
      | inl a ↦ leb-true 32 c (and_parts (nat_le 32 c) (nat_le c 126) a).0
      | inr b ↦
          let high : 160 ≤ c = leb-true 160 c (and_parts (nat_le 160 c) (is_alphabetic c || is_numeric c) b).0 in
          omega arith
    ]

-- the escape of a character
abbrev escape_of : ℕ → List ℕ
escape_of c = codes "\\u{" ++ (digits 16 false c ++ codes "}")

escape_printed : (c : ℕ) → IsPrinted (escape_of c)
unfolding digits
escape_printed c =
    let number : List ℕ = digits_onto 64 16 false c [] in
    joined (codes "\\u{") (number ++ codes "}") refl (joined number (codes "}") (digits_printed 64 c [] refl) refl)

escape_short : (c : ℕ) → length (escape_of c) ≤ 68
unfolding digits
escape_short c =
    let all : length (digits_onto 64 16 false c [] ++ codes "}") ≡ length (digits_onto 64 16 false c []) + 1 = length-append (digits_onto 64 16 false c []) (codes "}") in
    omega (arith, digits_short 64 c [], all)

seen_printed : (c : ℕ) → IsPrinted (seen_of c)
seen_printed c = cond_both (is_seen c) (encode_utf8 c) (escape_of c) IsPrinted (λ e. encode_printed c (seen_high c e)) (λ _. escape_printed c)

seen_short : (c : ℕ) → length (seen_of c) ≤ 68
seen_short c = cond_both (is_seen c) (encode_utf8 c) (escape_of c) (λ (x : List ℕ). length x ≤ 68) (λ _. omega (arith, encode_short c)) (λ _. escape_short c)

-- ---- lines

with_printed : (line : List ℕ) (c : ℕ) → IsPrinted line → IsPrinted (with_seen line c)
with_printed line c so_far = cond_both (nat_lt (length line) 2000) (line ++ seen_of c) line IsPrinted (λ _. joined line (seen_of c) so_far (seen_printed c)) (λ _. so_far)

with_short : (line : List ℕ) (c : ℕ) → length line ≤ 2067 → length (with_seen line c) ≤ 2067
with_short line c so_far = cond_both (nat_lt (length line) 2000) (line ++ seen_of c) line (λ (x : List ℕ). length x ≤ 2067)
    (λ e. omega (arith, ltb-true _ _ e, length-append line (seen_of c), seen_short c))
    (λ _. so_far)

fold_printed : (cs line : List ℕ) → IsPrinted line → IsPrinted (fold with_seen line cs)
fold_printed [] line so_far = so_far
fold_printed (c ∷ cs) line so_far = fold_printed cs (with_seen line c) (with_printed line c so_far)

fold_short : (cs line : List ℕ) → length line ≤ 2067 → length (fold with_seen line cs) ≤ 2067
fold_short [] line so_far = so_far
fold_short (c ∷ cs) line so_far = fold_short cs (with_seen line c) (with_short line c so_far)

is_one_line : (text : List ℕ) → IsOneLine (seen_line text)
is_one_line text = (fold with_seen [] (chars text), refl, fold_printed (chars text) [] refl)

is_short : (text : List ℕ) → length (seen_line text) ≤ 2100
is_short text = omega (arith, length-append (fold with_seen [] (chars text)) (codes "\n"), fold_short (chars text) [] (omega arith))

-- the line of a text is one line
pub one_line_of : (octets text : List ℕ) → octets ≡ seen_line text → IsOneLine octets
one_line_of octets text e = subst IsOneLine (sym e) (is_one_line text)

-- a result that is the line of a text is one line
pub one_line_all : {A E : Type 0} (bytes : A → List ℕ) (r : Result A E) (text : List ℕ) → IfOk r (λ l. bytes l ≡ seen_line text) → IfOk r (λ l. IsOneLine (bytes l))
one_line_all bytes (Ok l) text e = one_line_of (bytes l) text e
one_line_all bytes (Err x) text e = tt

-- the line of a text isn't long
pub short_of : (octets text : List ℕ) → octets ≡ seen_line text → length octets ≤ 2100
short_of octets text e = subst (λ (x : List ℕ). length x ≤ 2100) (sym e) (is_short text)

-- one more character is taken from the text
pub taken_more : (cs : List ℕ) (c : ℕ) (rest next text : List ℕ) → rest ≡ encode_utf8 c ++ next → encode_utf8_all cs ++ rest ≡ text → encode_utf8_all (cs ++ c ∷ []) ++ next ≡ text
taken_more cs c rest next text step so_far =
    ap (λ (x : List ℕ). x ++ next) (encodes-append cs (c ∷ []) ∙ ap (λ (x : List ℕ). encode_utf8_all cs ++ x) (append-nil (encode_utf8 c)))
    ∙ append_assoc (encode_utf8_all cs) (encode_utf8 c) next
    ∙ ap (λ (x : List ℕ). encode_utf8_all cs ++ x) (sym step)
    ∙ so_far

-- one more character is appended
pub seen_more : (cs : List ℕ) (c : ℕ) (old new : List ℕ) → old ≡ fold with_seen [] cs → new ≡ with_seen old c → new ≡ fold with_seen [] (cs ++ c ∷ [])
seen_more cs c old new so_far step = step ∙ ap (λ (x : List ℕ). with_seen x c) so_far ∙ sym (fold-append with_seen [] cs (c ∷ []))

-- all characters are appended, and the line's end
pub seen_all : (cs rest text line : List ℕ) → IsUtf8 text → length rest ≡ 0 → encode_utf8_all cs ++ rest ≡ text → line ≡ fold with_seen [] cs → line ++ codes "\n" ≡ seen_line text
seen_all cs rest text line utf8 none so_far written =
    let read : encode_utf8_all cs ≡ text = sym (append-nil (encode_utf8_all cs)) ∙ ap (λ (x : List ℕ). encode_utf8_all cs ++ x) (sym (nil_from_length rest none)) ∙ so_far in
    ap (λ (x : List ℕ). x ++ codes "\n") (written ∙ ap (fold with_seen []) (chars_from_encodes cs text utf8 read))
