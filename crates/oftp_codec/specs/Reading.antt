-- Reading one field after the other: the value, or the fault. The readers of the kinds and `command_of` are made of these.
use Rattle.std.specs.Prelude.{ℕ, ◌+◌, ◌-◌, Bool, List, [], ◌∷◌, length, codes, Option, Some, None, Result, Ok, Err}
use Rattle.std.specs.Str.{bytes_eq}
use Rattle.oftp_wire.specs.declared.fault.WireFault.{WireFault}
use Rattle.oftp_wire.specs.declared.command.Mode.{Mode}
use Rattle.oftp_codec.specs.declared.format.Format.{Format}
use Rattle.oftp_codec.specs.declared.format.Format.TheVariants.{Fixed as FixedFormat, Variable as VariableFormat, Unstructured as UnstructuredFormat, Text as TextFormat}
use Rattle.oftp_wire.specs.declared.command.Layout.{Layout}
use Rattle.oftp_wire.specs.declared.command.Layout.TheVariants.{Fixed, Variable, Unstructured, Text}
use Rattle.oftp_wire.specs.Octets.{part, value_of, number}
use Rattle.oftp_codec.specs.Tables.{flag_words, mode_words, mode_of, format_words, format_of, has_records, zero16}
use Rattle.oftp_codec.specs.Form.{Form, Name, Digits, OneOf, DigitsIf, Any, Utf8, fault_of, end_fault}

-- what follows a value; after a fault nothing is read
infixl 10 ◌>>=◌
abbrev pub ◌>>=◌ : {A B : Type 0} → Result A WireFault → (A → Result B WireFault) → Result B WireFault
(Ok x) >>= f = f x
(Err e) >>= f = Err e

-- a value, unless there is a fault
abbrev pub unless : {A : Type 0} → Option WireFault → A → Result A WireFault
unless None x = Ok x
unless (Some e) x = Err e

-- ---- the forms with few values

-- Y or N
abbrev pub flag_form : Form
flag_form = OneOf 1 flag_words

-- S, R or B
abbrev pub mode_form : Form
mode_form = OneOf 1 mode_words

-- F, V, U or T
abbrev pub format_form : Form
format_form = OneOf 1 format_words

-- a hash length or a signature length, which is 0
abbrev pub zero16_form : Form
zero16_form = OneOf 2 (zero16 ∷ [])

-- the text of SSRM
abbrev pub ready_form : Form
ready_form = OneOf 17 (codes "ODETTE FTP READY " ∷ [])

-- ---- the fields

-- the value of a field X(n)
unfoldable pub name_at : ℕ → ℕ → List ℕ → Result (List ℕ) WireFault
name_at n at o = unless (fault_of (Name n) at o) (value_of (part at n o))

-- the digits of a field 9(n)
unfoldable pub digits_at : ℕ → ℕ → List ℕ → Result (List ℕ) WireFault
digits_at n at o = unless (fault_of (Digits n) at o) (part at n o)

-- the number of a field 9(n)
unfoldable pub count_at : ℕ → ℕ → List ℕ → Result ℕ WireFault
count_at n at o = unless (fault_of (Digits n) at o) (number (part at n o))

-- a text of n octets
unfoldable pub text_at : ℕ → ℕ → List ℕ → Result (List ℕ) WireFault
text_at n at o = unless (fault_of (Utf8 n) at o) (part at n o)

-- no octet follows the last field
unfoldable pub ends_at : ℕ → List ℕ → Result (Unit {0}) WireFault
ends_at at o = unless (end_fault at o) tt

-- a text after its length field, as the last field of a command
unfoldable pub last_text_at : ℕ → List ℕ → Result (List ℕ) WireFault
last_text_at at o = do
  n ← count_at 3 at o
  text ← text_at n (at + 3) o
  end ← ends_at (at + 3 + n) o
  Ok text

-- a field whose value isn't used
unfoldable pub skipped_at : Form → ℕ → List ℕ → Result (Unit {0}) WireFault
skipped_at form at o = unless (fault_of form at o) tt

-- whether a letter is Y
unfoldable pub flag_at : ℕ → List ℕ → Result Bool WireFault
flag_at at o = unless (fault_of flag_form at o) (bytes_eq (part at 1 o) (codes "Y"))

-- the mode with a letter
unfoldable pub mode_at : ℕ → List ℕ → Result Mode WireFault
mode_at at o = unless (fault_of mode_form at o) (mode_of (part at 1 o))

-- the format with a letter
unfoldable pub format_at : ℕ → List ℕ → Result Format WireFault
format_at at o = unless (fault_of format_form at o) (format_of (part at 1 o))

-- the layout of a format and its longest record
abbrev pub layout_from : Format → ℕ → Layout
layout_from FixedFormat n = Fixed n
layout_from VariableFormat n = Variable n
layout_from UnstructuredFormat n = Unstructured
layout_from TextFormat n = Text

-- the longest record of a format; a format without records has none
unfoldable pub layout_at : Format → ℕ → List ℕ → Result Layout WireFault
layout_at format at o = unless (fault_of (DigitsIf (has_records format) 5) at o) (layout_from format (number (part at 5 o)))

-- the octets up to the end
unfoldable pub rest_at : ℕ → List ℕ → Result (List ℕ) WireFault
rest_at at o = unless (fault_of (Any (length o - at)) at o) (part at (length o - at) o)
