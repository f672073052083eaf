-- The value of an event's line.
use Rattle.std.proofs.Common.{◌≡◌, Some, refl}
use Rattle.serde_json.specs.Data.{Data}
use Rattle.serde_json.specs.Read.{read}
use Rattle.oftp_history.specs.Past.{Past, past_value}

-- the value of an event is the one that its line reads as
pub value_is : (p : Past) (value : Data) → read p.text ≡ Some value → past_value p ≡ value
value_is p value is = rw is refl
