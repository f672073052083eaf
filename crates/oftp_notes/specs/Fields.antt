-- The fields of a command that `refused: 5 field` may be about.
use Rattle.std.specs.Prelude.{ℕ, ◌==◌, Bool, not, ◌&&◌, ◌||◌, nat_le, nat_lt, if◌then◌else◌, List, length, Option, None, Some, codes}
use Rattle.std.specs.List.{list_all}
use Rattle.oftp_wire.specs.Octets.{is_digit}
use Rattle.oftp_vfile.specs.declared.format.Format.{Format}
use Rattle.oftp_vfile.specs.declared.format.Format.TheVariants as format
use Rattle.oftp_partners.specs.Fields.{is_name}
use Rattle.oftp_notes.specs.declared.field.Field.{Field}
use Rattle.oftp_notes.specs.declared.field.Field.TheVariants.{Dataset, Date, Time, Longest, Description, Content, Reason, Text}
use Rattle.oftp_notes.specs.declared.field.Handed.{Handed}

-- how a command line spells a field
abbrev pub field_word : Field → List ℕ
field_word Dataset = codes "--dataset"
field_word Date = codes "--date"
field_word Time = codes "--time"
field_word Longest = codes "--longest"
field_word Description = codes "--description"
field_word Content = codes "FILE"
field_word Reason = codes "REASON"
field_word Text = codes "TEXT"

-- what a field may be
abbrev pub field_rule : Field → List ℕ
field_rule Dataset = codes "1 to 26 of 0-9 A-Z / - . & ( )"
field_rule Date = codes "a date CCYYMMDD, eight digits"
field_rule Time = codes "a time HHMMSScccc, ten digits"
field_rule Longest = codes "1 to 16384 in formats F and V, and 0 in U and T"
field_rule Description = codes "at most 999 octets of UTF-8"
field_rule Content = codes "whole records of --longest in F, records after five digits of their length in V"
field_rule Reason = codes "a reason of NERP (RFC 5024, section 5.3.14)"
field_rule Text = codes "at most 999 octets of UTF-8"

-- a text of exactly this many digits
abbrev pub are_digits : ℕ → List ℕ → Bool
are_digits count text = (length text == count) && list_all is_digit text

-- a format may have this longest record, in octets
abbrev pub is_longest : Format → ℕ → Bool
is_longest format.Fixed longest = nat_le 1 longest && nat_le longest 16384
is_longest format.Variable longest = nat_le 1 longest && nat_le longest 16384
is_longest format.Unstructured longest = longest == 0
is_longest format.Text longest = longest == 0

-- the first field of a file that is handed in that isn't allowed
abbrev pub first_field : Handed → Option Field
first_field h =
    if (length h.dataset.now == 0) || not (is_name 26 h.dataset.now) then Some Dataset
    else if not (is_longest h.format h.longest) then Some Longest
    else if not (are_digits 8 h.date.now) then Some Date
    else if not (are_digits 10 h.time.now) then Some Time
    else if nat_lt 999 (length h.description.now) then Some Description
    else None
