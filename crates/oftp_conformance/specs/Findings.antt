-- Which rules the octets of one command break, and the octets of a stream header.
use Rattle.std.specs.Prelude.{ℕ, ◌+◌, ◌/◌, ◌%◌, Bool, false, ◌||◌, not, nat_lt, List, [], ◌∷◌, ◌++◌, ◌==◌, if◌then◌else◌, Option, Some, None, length}
use Rattle.std.specs.List.{flat_map}
use Rattle.oftp_codec.specs.Form.{size}
use Rattle.oftp_codec.specs.Header.{length_in}
use Rattle.oftp_codec.specs.declared.limits.TheConstants.{LONGEST_FRAME, SHORTEST_FRAME}
use Rattle.oftp_telling.specs.declared.kind.CommandKind.{CommandKind}
use Rattle.oftp_telling.specs.Names.{Entry, Sheet, sheet_of}
use Rattle.oftp_telling.specs.Lines.{kind_in}
use Rattle.oftp_conformance.specs.declared.form_rule.FormRule.{FormRule}
use Rattle.oftp_conformance.specs.declared.form_rule.FormRule.TheVariants as forms
use Rattle.oftp_conformance.specs.declared.frame_rule.FrameRule.{FrameRule}
use Rattle.oftp_conformance.specs.declared.frame_rule.FrameRule.TheVariants as frames
use Rattle.oftp_conformance.specs.declared.value_rule.ValueRule.{ValueRule}
use Rattle.oftp_conformance.specs.declared.rule.Rule.{Rule}
use Rattle.oftp_conformance.specs.declared.rule.Rule.TheVariants as rules
use Rattle.oftp_conformance.specs.Forms.{broken_form, is_long}
use Rattle.oftp_conformance.specs.Values.{broken_value}
use Rattle.oftp_conformance.specs.Places.{Found, Spot, AtHeader, AtBeginning, AtField, AtEnd}

-- ---- a command

-- the rule that a field breaks by its value, if it does; its form is right, or the command ended before it
abbrev pub value_rule : Option ValueRule → Option Rule
value_rule None = None
value_rule (Some r) = Some (rules.Value r)

-- the rule that a field breaks, if this is the rule on its form that it breaks. Of fields that aren't whole only the form is judged.
abbrev pub field_rule : List Entry → Entry → List ℕ → Option FormRule → Option Rule
field_rule es e o (Some r) = Some (rules.Form r)
field_rule es e o None = if nat_lt (length o) (e.at + size e.form) then None else value_rule (broken_value es e o)

-- a finding at a place, where a rule is broken
abbrev pub found_at : Spot → Option Rule → List Found
found_at spot None = []
found_at spot (Some r) = record { rule = r; spot = spot } ∷ []

-- what is found at a field of a command with these fields
abbrev pub field_findings : CommandKind → List Entry → List ℕ → Entry → List Found
field_findings k es o e = found_at (AtField k e) (field_rule es e o (broken_form k e o))

-- what is found behind the last field
abbrev pub end_findings : CommandKind → ℕ → List ℕ → List Found
end_findings k end o = if is_long k end o then record { rule = rules.Form forms.Long; spot = AtEnd k end } ∷ [] else []

-- what is found in the fields of a command, from left to right, and behind the last one
abbrev pub sheet_findings : CommandKind → Sheet → List ℕ → List Found
sheet_findings k s o = flat_map (field_findings k s.entries o) s.entries ++ end_findings k s.end o

-- what is found in a command of a kind; octets that begin as no command does have no fields
abbrev pub kind_findings : Option CommandKind → List ℕ → List Found
kind_findings None o = record { rule = rules.Form forms.Beginning; spot = AtBeginning } ∷ []
kind_findings (Some k) o = sheet_findings k (sheet_of k o) o

-- what is found in the octets of a frame, without its stream header
unfoldable pub findings_in : List ℕ → List Found
findings_in o = kind_findings (kind_in o) o

-- ---- a stream header (RFC 5024, section 8.2)

-- whether the three octets of a length say less or more than a frame may have
abbrev pub is_bad_length : List ℕ → Bool
is_bad_length (a ∷ b ∷ c ∷ rest) = nat_lt (length_in a b c) SHORTEST_FRAME || nat_lt LONGEST_FRAME (length_in a b c)
is_bad_length _ = false

-- the rule that a stream header breaks, if it does; there may be only a part of it
unfoldable pub broken_header : List ℕ → Option FrameRule
broken_header [] = None
broken_header (first ∷ rest) =
    if not (first / 16 == 1) then Some frames.Version else (
    if not (first % 16 == 0) then Some frames.Flags else (
    if is_bad_length rest then Some frames.Length else None))

-- what is found where this is the rule that a stream header breaks
abbrev pub header_found : Option FrameRule → Option Found
header_found None = None
header_found (Some r) = Some (record { rule = rules.Frame r; spot = AtHeader })

-- what is found in a stream header
abbrev pub header_finding : List ℕ → Option Found
header_finding o = header_found (broken_header o)
