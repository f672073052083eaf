-- The fields of a content, and their one encoding.
use Rattle.std.specs.Prelude.{ℕ, ◌+◌, ◌^◌, ◌<◌, List, ◌∷◌, ◌++◌, length}
use Rattle.std.specs.Int.{w32, w64, to_be_bytes}
use Rattle.oftp_contents.specs.declared.fields.ContentFields.{ContentFields}
use Rattle.oftp_contents.specs.declared.fields.TheConstants.{FIXED}

-- the fields of a content
pub record Laid : Type 0 where
  pub number : ℕ
  pub code : ℕ
  pub first : List ℕ
  pub second : List ℕ
  pub rest : List ℕ

-- those of one whose texts and octets are borrowed
abbrev pub laid : ContentFields → Laid
laid fields = record { number = fields.number; code = fields.code; first = fields.first.now; second = fields.second.now; rest = fields.rest.now }

-- fields that can be written
pub record IsLaid (fields : Laid) : Type 0 where
  pub number : fields.number < 2 ^ 64
  pub first : length fields.first < 2 ^ 32
  pub second : length fields.second < 2 ^ 32

-- the length of a text, in four octets with the most significant first, and then the text
abbrev pub spelled_text : List ℕ → List ℕ
spelled_text text = to_be_bytes w32 (length text) ++ text

-- the octets of fields
abbrev pub fields_octets : Laid → List ℕ
fields_octets fields = to_be_bytes w64 fields.number ++ (fields.code ∷ (spelled_text fields.first ++ (spelled_text fields.second ++ fields.rest)))

-- how many they are
abbrev pub laid_length : Laid → ℕ
laid_length fields = FIXED + length fields.first + length fields.second + length fields.rest
