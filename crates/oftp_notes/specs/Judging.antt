-- What is wrong with the values of a partner book, key by key.
use Rattle.std.specs.Prelude.{ℕ, ℤ, pos, int_le, Bool, ◌&&◌, ◌||◌, if◌then◌else◌, List, Option, None, Some, codes, is_some}
use Rattle.std.specs.Str.{bytes_eq}
use Rattle.toml.specs.Data.{Data, as_array, as_bool, as_integer, as_str, as_table}
use Rattle.oftp_partners.specs.Fields.{is_address, is_code, is_name}
use Rattle.oftp_notes.specs.declared.finding.Key.{Key}
use Rattle.oftp_notes.specs.declared.finding.Key.TheVariants as key
use Rattle.oftp_notes.specs.declared.finding.Wrong.{Wrong}
use Rattle.oftp_notes.specs.declared.finding.Wrong.TheVariants as wrong
use Rattle.oftp_notes.specs.declared.judging.Rule.{Rule}
use Rattle.oftp_notes.specs.declared.judging.Rule.TheVariants as rule

-- what the value of a key has to be
abbrev pub rule_of : Key → Rule
rule_of key.Book = rule.Text
rule_of key.Station = rule.Table
rule_of key.Partner = rule.List
rule_of key.Code = rule.Text
rule_of key.Buffer = rule.Buffer
rule_of key.Credit = rule.Credit
rule_of key.Restart = rule.Flag
rule_of key.Expects = rule.Text
rule_of key.Sends = rule.Text
rule_of key.Mode = rule.Text
rule_of key.Address = rule.Text

-- what is wrong, unless the test holds
abbrev pub unless : Bool → Wrong → Option Wrong
unless right bad = if right then None else Some bad

-- a text is a mode
abbrev pub is_mode : List ℕ → Bool
is_mode text = (bytes_eq text (codes "S") || bytes_eq text (codes "R")) || bytes_eq text (codes "B")

-- what is wrong with the text of a key
abbrev pub text_wrong : List ℕ → Key → Option Wrong
text_wrong text key.Code = unless (is_code text) wrong.BadCode
text_wrong text key.Expects = unless (is_name 8 text) wrong.BadPassword
text_wrong text key.Sends = unless (is_name 8 text) wrong.BadPassword
text_wrong text key.Mode = unless (is_mode text) wrong.BadMode
text_wrong text key.Address = unless (is_address text) wrong.BadAddress
text_wrong text key.Book = None
text_wrong text key.Station = None
text_wrong text key.Partner = None
text_wrong text key.Buffer = None
text_wrong text key.Credit = None
text_wrong text key.Restart = None

-- what is wrong with a number that has to be within two bounds
abbrev pub number_wrong : Option ℤ → ℤ → ℤ → Wrong → Option Wrong
number_wrong None low high bad = Some wrong.NoNumber
number_wrong (Some number) low high bad = unless (int_le low number && int_le number high) bad

-- what is wrong with a text, or that there is none
abbrev pub text_or_none : Option (List ℕ) → Key → Option Wrong
text_or_none None k = Some wrong.NoText
text_or_none (Some text) k = text_wrong text k

-- what is wrong with a value by what it has to be
abbrev pub wrong_by : Rule → Data → Key → Option Wrong
wrong_by rule.Text value k = text_or_none (as_str value) k
wrong_by rule.Buffer value k = number_wrong (as_integer value) (pos 128) (pos 16384) wrong.BadBuffer
wrong_by rule.Credit value k = number_wrong (as_integer value) (pos 1) (pos 99) wrong.BadCredit
wrong_by rule.Flag value k = unless (is_some (as_bool value)) wrong.NoFlag
wrong_by rule.Table value k = unless (is_some (as_table value)) wrong.NoTable
wrong_by rule.List value k = unless (is_some (as_array value)) wrong.NoList

-- what is wrong with the value of a key that is there
abbrev pub wrong_in : Data → Key → Option Wrong
wrong_in value k = wrong_by (rule_of k) value k

-- what is wrong where the value of a key is missing: only the list of the partners may be
abbrev pub wrong_without : Key → Option Wrong
wrong_without key.Partner = None
wrong_without k = Some wrong.Missing

-- what is wrong with the value of a key
abbrev pub wrong_with : Option Data → Key → Option Wrong
wrong_with None k = wrong_without k
wrong_with (Some value) k = wrong_in value k
