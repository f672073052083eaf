-- JSON has no control character, whatever its texts have.
use Rattle.std.proofs.Common.{◌≡◌, ◌⊎◌, inl, inr, ℕ, zero, suc, ◌+◌, ◌≤◌, ◌/◌, ◌%◌, ◌==◌, ◌||◌, pos, negsuc, List, [], ◌∷◌, ◌++◌, Bool, true, false, cond, nat_le, nat_lt, codes, decimal, refl, ◌∙◌, arith}
use Rattle.std.specs.Char.{digit_char}
use Rattle.std.specs.Fmt.{digit_glyph, digits, digits_onto}
use Rattle.std.specs.List.{flat_map, list_all}
use Rattle.std.proofs.lemmas.Bool.{and_from, cond_both, eqb-true, le-leb, ltb-false, or_cases}
use Rattle.std.proofs.lemmas.List.Folds.{list_all-append}
use Rattle.json.specs.Print.{escape_byte, escape_letter, quoted}
use Rattle.serde_json.specs.Data.{Num, unsigned, negative, float, Data, null, boolean, number, string, array, object, Items, no_items, item, Members, no_members, member}
use Rattle.serde_json.specs.Written.{comma_if, compact_text, items_text, members_text, number_text}
use Rattle.oftp_events.specs.Lines.{IsOneLine}

-- no octet of a text is below 32
abbrev IsPrinted : List ℕ → Type 0
IsPrinted octets = list_all (nat_le 32) octets ≡ true

joined : (xs ys : List ℕ) → IsPrinted xs → IsPrinted ys → IsPrinted (xs ++ ys)
joined xs ys first second = list_all-append (nat_le 32) xs ys ∙ and_from _ _ first second

one_more : (x : ℕ) (xs : List ℕ) → 32 ≤ x → IsPrinted xs → IsPrinted (x ∷ xs)
one_more x xs high rest = and_from _ _ (le-leb 32 x high) rest

-- ---- numbers

glyph_high : (d : ℕ) → 32 ≤ digit_glyph false d
glyph_high d = cond_both (nat_lt d 10) (48 + d) (87 + d) (λ (c : ℕ). 32 ≤ c) (λ _. omega arith) (λ _. omega arith)

digits_printed : (k n : ℕ) (text : List ℕ) → IsPrinted text → IsPrinted (digits_onto k 10 false n text)
digits_printed zero n text rest = rest
digits_printed (suc k) n text rest =
    let last : ℕ = digit_glyph false (n % 10) in
    let more : IsPrinted (last ∷ text) = one_more last text (glyph_high (n % 10)) rest in
    cond_both (n / 10 == 0) (last ∷ text) (digits_onto k 10 false (n / 10) (last ∷ text)) IsPrinted (λ _. more) (λ _. digits_printed k (n / 10) (last ∷ text) more)

decimal_printed : (n : ℕ) → IsPrinted (decimal n)
unfolding digits
decimal_printed n = digits_printed 64 n [] refl

number_printed : (n : Num) → IsPrinted (number_text n)
number_printed (unsigned n) = decimal_printed n
number_printed (negative (pos n)) = decimal_printed n
number_printed (negative (negsuc n)) = one_more 45 (decimal (suc n)) (omega arith) (decimal_printed (suc n))
number_printed (float x) = refl

-- ---- texts

char_high : (d : ℕ) → 32 ≤ digit_char d
char_high d = cond_both (nat_lt d 10) (48 + d) (87 + d) (λ (c : ℕ). 32 ≤ c) (λ _. omega arith) (λ _. omega arith)

-- a quote and a backslash are no control characters
quote_high : (x : ℕ) → ((x == 34) ≡ true) ⊎ ((x == 92) ≡ true) → 32 ≤ x
quote_high x (inl e) = let is : x ≡ 34 = eqb-true x 34 e in omega arith
quote_high x (inr e) = let is : x ≡ 92 = eqb-true x 92 e in omega arith

-- a letter of an escape, if it is one
abbrev IsLetter : ℕ → Type 0
IsLetter c = nat_lt 0 c ≡ true → 32 ≤ c

either_letter : (b : Bool) (c other : ℕ) → 32 ≤ c → IsLetter other → IsLetter (cond b c other)
either_letter b c other high rest = cond_both b c other IsLetter (λ _ _. high) (λ _. rest)

letter_high : (x : ℕ) → IsLetter (escape_letter x)
letter_high x =
    cond_both ((x == 34) || (x == 92)) x _ IsLetter (λ e _. quote_high x (or_cases (x == 34) (x == 92) e))
    (λ _. either_letter (x == 8) 98 _ (omega arith)
    (either_letter (x == 12) 102 _ (omega arith)
    (either_letter (x == 10) 110 _ (omega arith)
    (either_letter (x == 13) 114 _ (omega arith)
    (either_letter (x == 9) 116 0 (omega arith) (λ none. cc))))))

escape_printed : (x : ℕ) → IsPrinted (escape_byte x)
unfolding escape_byte
escape_printed x =
    let low : List ℕ = 92 ∷ 117 ∷ 48 ∷ 48 ∷ digit_char (x / 16) ∷ digit_char (x % 16) ∷ [] in
    let digits_high : IsPrinted (digit_char (x / 16) ∷ digit_char (x % 16) ∷ []) =
    one_more (digit_char (x / 16)) (digit_char (x % 16) ∷ []) (char_high (x / 16)) (one_more (digit_char (x % 16)) [] (char_high (x % 16)) refl) in
    cond_both (nat_lt 0 (escape_letter x)) (92 ∷ escape_letter x ∷ []) (cond (nat_lt x 32) low (x ∷ [])) IsPrinted
    (λ some. one_more (escape_letter x) [] (letter_high x some) refl)
    (λ _. cond_both (nat_lt x 32) low (x ∷ []) IsPrinted (λ _. digits_high) (λ high. one_more x [] (ltb-false x 32 high) refl))

escapes_printed : (text : List ℕ) → IsPrinted (flat_map escape_byte text)
escapes_printed [] = refl
escapes_printed (x ∷ xs) = joined (escape_byte x) (flat_map escape_byte xs) (escape_printed x) (escapes_printed xs)

quoted_printed : (text : List ℕ) → IsPrinted (quoted text)
quoted_printed text = one_more 34 (flat_map escape_byte text ++ 34 ∷ []) (omega arith) (joined (flat_map escape_byte text) (34 ∷ []) (escapes_printed text) refl)

-- ---- values

comma_printed : (later : Bool) → IsPrinted (comma_if later)
comma_printed true = refl
comma_printed false = refl

mutual
  value_printed : (d : Data) → IsPrinted (compact_text d)
  value_printed null = refl
  value_printed (boolean true) = refl
  value_printed (boolean false) = refl
  value_printed (number n) = number_printed n
  value_printed (string s) = quoted_printed s
  value_printed (array ds) = one_more 91 (items_text false ds) (omega arith) (items_printed false ds)
  value_printed (object ms) = one_more 123 (members_text false ms) (omega arith) (members_printed false ms)

  items_printed : (later : Bool) (ds : Items) → IsPrinted (items_text later ds)
  items_printed later no_items = refl
  items_printed later (item d ds) =
      joined (comma_if later) (compact_text d ++ items_text true ds) (comma_printed later)
      (joined (compact_text d) (items_text true ds) (value_printed d) (items_printed true ds))

  members_printed : (later : Bool) (ms : Members) → IsPrinted (members_text later ms)
  members_printed later no_members = refl
  members_printed later (member k d ms) =
      joined (comma_if later) (quoted k ++ 58 ∷ (compact_text d ++ members_text true ms)) (comma_printed later)
      (joined (quoted k) (58 ∷ (compact_text d ++ members_text true ms)) (quoted_printed k)
      (one_more 58 (compact_text d ++ members_text true ms) (omega arith)
      (joined (compact_text d) (members_text true ms) (value_printed d) (members_printed true ms))))

-- a value and a line feed are one line
pub one_line : (d : Data) (octets : List ℕ) → octets ≡ compact_text d ++ codes "\n" → IsOneLine octets
one_line d octets e = (compact_text d, e, value_printed d)
