-- Inside: a member behind others, for the functions of src/members.rt.
use Rattle.std.specs.Prelude.{ℕ, List, [], ◌++◌, Option, None, Some, codes, map}
use Rattle.std.specs.Borrow.{Bor}
use Rattle.serde_json.specs.Data.{Data, string}
use Rattle.serde_json.specs.Written.{compact_text}
use Rattle.oftp_events.specs.Lines.{number_data, text_data}
use Rattle.oftp_events.specs.declared.members.Field.{Field}
use Rattle.oftp_events.specs.declared.members.Field.TheVariants.{Text, Number}

-- what a key has as a value, if it has something
abbrev pub field_data : Field → Option Data
field_data (Text text) = text_data text
field_data (Number n) = number_data n

-- each key with its value
abbrev pub key_values : List (Bor (List ℕ) × Field) → List (List ℕ × Option Data)
key_values members = map (λ (m : Bor (List ℕ) × Field). (m.0.now, field_data m.1)) members

-- a comma, a key and a colon
abbrev pub key_text : List ℕ → List ℕ
key_text key = codes "," ++ (compact_text (string key) ++ codes ":")

-- a member behind others, if its key has a value
abbrev pub member_text : List ℕ → Option Data → List ℕ
member_text key None = []
member_text key (Some value) = key_text key ++ compact_text value

-- the text with one more member
abbrev pub with_member : List ℕ → Bor (List ℕ) × Field → List ℕ
with_member text m = text ++ member_text m.0.now (field_data m.1)
