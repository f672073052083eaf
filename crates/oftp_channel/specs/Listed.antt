-- A file in a list, and the words that stand for it.
use Rattle.std.specs.Prelude.{List, ℕ, [], ◌∷◌}
use Rattle.std.specs.Str.{IsUtf8}
use Rattle.oftp_channel.specs.Asked.{number_word}
use Rattle.oftp_channel.specs.declared.listed.ListedFile.{ListedFile}

-- the words of a file in a list
abbrev pub entry_words : ListedFile → List (List ℕ)
entry_words file = number_word file.no ∷ file.dataset.now ∷ file.date.now ∷ file.time.now ∷ file.code.now ∷ []

-- the texts of a file in a list are UTF-8
pub record IsListable (file : ListedFile) : Type 0 where
  pub dataset : IsUtf8 file.dataset.now
  pub date : IsUtf8 file.date.now
  pub time : IsUtf8 file.time.now
  pub code : IsUtf8 file.code.now
