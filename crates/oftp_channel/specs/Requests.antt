-- Requests, and their one encoding.
use Rattle.std.specs.Prelude.{◌≡◌, ℕ, ◌+◌, ◌≤◌, List, [], ◌∷◌, ◌++◌, length}
use Rattle.std.specs.List.{flat_map}
use Rattle.std.specs.Int.{w32, to_be_bytes}
use Rattle.oftp_channel.specs.declared.request.TheConstants.{LARGEST_REQUEST, MOST_WORDS}

-- the length of a word, in four octets with the most significant first, and then the word
abbrev pub spelled_word : List ℕ → List ℕ
spelled_word word = to_be_bytes w32 (length word) ++ word

-- the number of words, in four octets, and then each word
abbrev pub spelled_request : List (List ℕ) → List ℕ
spelled_request words = to_be_bytes w32 (length words) ++ flat_map spelled_word words

-- the number of octets of all words together
abbrev pub total : List (List ℕ) → ℕ
total [] = 0
total (word ∷ words) = length word + total words

-- the words of a request
pub record IsRequest (words : List (List ℕ)) : Type 0 where
  pub few : length words ≤ MOST_WORDS
  pub small : total words ≤ LARGEST_REQUEST

-- no request begins with these octets, whatever follows them
abbrev pub BeginsNoRequest : List ℕ → Type 0
BeginsNoRequest heard = (more rest : List ℕ) (words : List (List ℕ)) → IsRequest words → heard ++ more ≡ spelled_request words ++ rest → ⊥

-- these octets begin with a request
pub record BeginsRequest (heard : List ℕ) : Type 0 where
  pub words : List (List ℕ)
  pub rest : List ℕ
  pub request : IsRequest words
  pub spelled : heard ≡ spelled_request words ++ rest

-- as many more octets complete a request, and fewer complete none
pub record Lacks (heard : List ℕ) (count : ℕ) : Type 0 where
  pub more : List ℕ
  pub many : length more ≡ count
  pub enough : BeginsRequest (heard ++ more)
  pub least : (fewer : List ℕ) → BeginsRequest (heard ++ fewer) → count ≤ length fewer
