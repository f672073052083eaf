-- A text that is printed character by character.
use Rattle.std.proofs.Common.{◌≡◌, ℕ, List, [], ◌∷◌, ◌++◌, length, encode_utf8_all, sym, ap, ◌∙◌, append_assoc, append-nil}
use Rattle.std.specs.Prelude.{encode_utf8}
use Rattle.std.specs.List.{flat_map}
use Rattle.std.specs.Str.{IsUtf8}
use Rattle.std.proofs.lemmas.List.{flat_map_more, nil_from_length}
use Rattle.std.proofs.lemmas.Str.{encodes-append, chars_from_encodes}
use Rattle.oftp_wire.specs.Messages.{printable, shown_text}

-- the characters so far as they are printed
abbrev pub printed : List ℕ → List ℕ
printed cs = flat_map (λ c. encode_utf8 (printable c)) cs

-- one more character is taken from the text
pub taken_more : (cs : List ℕ) (c : ℕ) (rest next text : List ℕ) → rest ≡ encode_utf8 c ++ next → encode_utf8_all cs ++ rest ≡ text → encode_utf8_all (cs ++ c ∷ []) ++ next ≡ text
taken_more cs c rest next text step so_far =
    ap (λ (x : List ℕ). x ++ next) (encodes-append cs (c ∷ []) ∙ ap (λ (x : List ℕ). encode_utf8_all cs ++ x) (append-nil (encode_utf8 c)))
    ∙ append_assoc (encode_utf8_all cs) (encode_utf8 c) next
    ∙ ap (λ (x : List ℕ). encode_utf8_all cs ++ x) (sym step)
    ∙ so_far

-- one more character is printed
pub printed_more : (cs : List ℕ) (c d : ℕ) → d ≡ printable c → printed cs ++ encode_utf8 d ≡ printed (cs ++ c ∷ [])
printed_more cs c d e = ap (λ (x : ℕ). printed cs ++ encode_utf8 x) e ∙ flat_map_more (λ x. encode_utf8 (printable x)) [] cs c

-- all characters are printed
pub printed_all : (cs rest text : List ℕ) → IsUtf8 text → length rest ≡ 0 → encode_utf8_all cs ++ rest ≡ text → printed cs ≡ shown_text text
printed_all cs rest text utf8 none so_far =
    let read : encode_utf8_all cs ≡ text = sym (append-nil (encode_utf8_all cs)) ∙ ap (λ (x : List ℕ). encode_utf8_all cs ++ x) (sym (nil_from_length rest none)) ∙ so_far in
    ap printed (chars_from_encodes cs text utf8 read)
