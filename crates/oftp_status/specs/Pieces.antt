-- Texts, appended piece by piece.
use Rattle.std.specs.Prelude.{ℕ, List, ◌++◌, decimal, fold}
use Rattle.serde_json.specs.Data.{string}
use Rattle.serde_json.specs.Written.{compact_text}
use Rattle.oftp_status.specs.declared.pieces.Piece.{Piece}
use Rattle.oftp_status.specs.declared.pieces.Piece.TheVariants.{Text, Number, Quoted, Age}
use Rattle.oftp_status.specs.Ages.{age_text}

-- a text as JSON
abbrev pub quoted : List ℕ → List ℕ
quoted text = compact_text (string text)

-- a text with these texts behind it
abbrev pub with_texts : List ℕ → List (List ℕ) → List ℕ
with_texts text pieces = fold (λ front piece. front ++ piece) text pieces

-- a text with one more piece
abbrev pub with_piece : List ℕ → Piece → List ℕ
with_piece text (Text plain) = text ++ plain.now
with_piece text (Number n) = text ++ decimal n
with_piece text (Quoted plain) = text ++ quoted plain.now
with_piece text (Age seconds) = text ++ age_text seconds
