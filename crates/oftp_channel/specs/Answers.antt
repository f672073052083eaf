-- The parts of an answer, and the one encoding of each.
use Rattle.std.specs.Prelude.{◌≡◌, ℕ, ◌≤◌, List, ◌∷◌, ◌++◌, length}
use Rattle.oftp_channel.specs.Endings.{IsEnding, spelled_ending}
use Rattle.oftp_channel.specs.Requests.{spelled_word}
use Rattle.oftp_channel.specs.declared.answer.TheConstants.{LONGEST_PIECE}
use Rattle.oftp_channel.specs.declared.answer.AnswerPart.{AnswerPart}
use Rattle.oftp_channel.specs.declared.answer.AnswerPart.TheVariants as parts
use Rattle.oftp_channel.specs.declared.answer.Outlet.{Outlet}
use Rattle.oftp_channel.specs.declared.answer.Outlet.TheVariants as outlets
use Rattle.oftp_channel.specs.declared.ending.Ending.{Ending}

-- a part of an answer, as plain values
pub data Part : Type 0 where
  piece : Outlet → List ℕ → Part
  end : Ending → Part

-- the plain value of a part that was read
abbrev pub part_of : AnswerPart → Part
part_of (parts.Piece outlet octets) = piece outlet octets.items
part_of (parts.End ending) = end ending

-- the octet that encodes an outlet; 0 encodes the end
abbrev pub outlet_code : Outlet → ℕ
outlet_code outlets.Output = 1
outlet_code outlets.Content = 2

-- an outlet, and then a word
abbrev pub spelled_piece : Outlet → List ℕ → List ℕ
spelled_piece outlet octets = outlet_code outlet ∷ spelled_word octets

-- the end, and then how the request ended
abbrev pub spelled_end : Ending → List ℕ
spelled_end ending = 0 ∷ spelled_ending ending

abbrev pub spelled_part : Part → List ℕ
spelled_part (piece outlet octets) = spelled_piece outlet octets
spelled_part (end ending) = spelled_end ending

-- a part that may be written: no piece is too long, and the numbers of an ending are in their ranges
abbrev pub IsPart : Part → Type 0
IsPart (piece _ octets) = length octets ≤ LONGEST_PIECE
IsPart (end ending) = IsEnding ending

-- no part of an answer begins with these octets, whatever follows them
abbrev pub BeginsNoPart : List ℕ → Type 0
BeginsNoPart heard = (more rest : List ℕ) (part : Part) → IsPart part → heard ++ more ≡ spelled_part part ++ rest → ⊥
