-- A text that is shown character by character.
use Rattle.std.proofs.Common.{◌≡◌, ℕ, Bool, true, false, refl, List, [], ◌∷◌, ◌++◌, length, encode_utf8_all, sym, ap, ◌∙◌, append_assoc, append-nil}
use Rattle.std.specs.Prelude.{encode_utf8}
use Rattle.std.specs.Str.{IsUtf8, is_utf8, chars}
use Rattle.std.proofs.lemmas.List.{flat_map_more, nil_from_length}
use Rattle.std.proofs.lemmas.Str.{encodes-append, chars_from_encodes, IsUtf8-from_is_utf8, is_utf8-from_IsUtf8}
use Rattle.oftp_telling.specs.Shown.{shown_char, shown_chars}

-- one more character is taken from the text
pub taken_more : (cs : List ℕ) (c : ℕ) (rest next text : List ℕ) → rest ≡ encode_utf8 c ++ next → encode_utf8_all cs ++ rest ≡ text → encode_utf8_all (cs ++ c ∷ []) ++ next ≡ text
taken_more cs c rest next text step so_far =
    ap (λ (x : List ℕ). x ++ next) (encodes-append cs (c ∷ []) ∙ ap (λ (x : List ℕ). encode_utf8_all cs ++ x) (append-nil (encode_utf8 c)))
    ∙ append_assoc (encode_utf8_all cs) (encode_utf8 c) next
    ∙ ap (λ (x : List ℕ). encode_utf8_all cs ++ x) (sym step)
    ∙ so_far

-- one more character is shown
pub shown_more : (cs : List ℕ) (c : ℕ) → shown_chars cs ++ shown_char c ≡ shown_chars (cs ++ c ∷ [])
shown_more cs c = flat_map_more shown_char [] cs c

-- all characters are shown
pub shown_all : (cs rest text : List ℕ) → IsUtf8 text → length rest ≡ 0 → encode_utf8_all cs ++ rest ≡ text → shown_chars cs ≡ shown_chars (chars text)
shown_all cs rest text utf8 none so_far =
    let read : encode_utf8_all cs ≡ text = sym (append-nil (encode_utf8_all cs)) ∙ ap (λ (x : List ℕ). encode_utf8_all cs ++ x) (sym (nil_from_length rest none)) ∙ so_far in
    ap shown_chars (chars_from_encodes cs text utf8 read)

-- by the result of the test
not_by : (w : List ℕ) (b : Bool) → is_utf8 w ≡ b → (IsUtf8 w → ⊥) → is_utf8 w ≡ false
not_by w true e h = absurd (h (IsUtf8-from_is_utf8 w e))
not_by w false e h = e

-- the test fails if octets aren't UTF-8
pub not_utf8 : (w : List ℕ) → (IsUtf8 w → ⊥) → is_utf8 w ≡ false
not_utf8 w h = not_by w (is_utf8 w) refl h

-- the result of the test, either way
pub ruleset utf8_test = (is_utf8-from_IsUtf8, not_utf8)
