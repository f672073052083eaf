-- What is told of the octets of one command.
use Rattle.std.specs.Prelude.{ℕ, ◌-◌, ◌+◌, Bool, true, false, nat_lt, List, [], ◌∷◌, ◌++◌, length, take, drop, codes, find, ◌==◌, if◌then◌else◌, Option, Some, None, Result, Ok, Err}
use Rattle.std.specs.List.{flat_map}
use Rattle.std.specs.Str.{bytes_eq}
use Rattle.std.specs.Fmt.{decimal}
use Rattle.oftp_wire.specs.Octets.{part, value_of}
use Rattle.oftp_wire.specs.Messages.{command_text, fault_text}
use Rattle.oftp_wire.specs.declared.fault.WireFault.{WireFault}
use Rattle.oftp_wire.specs.declared.fault.WireFault.TheVariants.{UnknownCommand, WrongLength, BadField, BadText, NoRoom}
use Rattle.oftp_wire.specs.declared.command.Command.{Command}
use Rattle.oftp_wire.specs.declared.command.Command.TheVariants as commands
use Rattle.oftp_codec.specs.Form.{Form, Name, Digits, OneOf, DigitsIf, Any, Reserved, Return, Utf8, size, complaint}
use Rattle.oftp_codec.specs.Kinds.{command_of}
use Rattle.oftp_telling.specs.declared.faults.TheConstants.{MOST_TOLD}
use Rattle.oftp_telling.specs.declared.kind.CommandKind.{CommandKind}
use Rattle.oftp_telling.specs.CommandKinds.{kind_of, kind_word, section_of}
use Rattle.oftp_telling.specs.Names.{Entry, Sheet, sheet_of}
use Rattle.oftp_telling.specs.Shown.{shown, quoted, hexadecimal_text}

-- ---- a field

-- what nobody may read
abbrev pub is_secret : List ℕ → Bool
is_secret name = bytes_eq name (codes "SSIDPSWD")

-- the octets of a field as they are told: names without their padding, numbers and letters as they are, and all others in quotes
unfoldable pub value_text : Form → List ℕ → List ℕ
value_text (Name n) w = shown (value_of w)
value_text (Digits n) w = shown w
value_text (DigitsIf b n) w = shown w
value_text (OneOf n ws) w = quoted w
value_text (Reserved n) w = quoted w
value_text Return w = quoted w
value_text (Any n) w = quoted w
value_text (Utf8 n) w = quoted w

-- what a field has in a command, but not the password
unfoldable pub told_value : Entry → List ℕ → List ℕ
told_value e o = if is_secret e.name then codes "****" else value_text e.form (part e.at (size e.form) o)

-- a field with what it has
unfoldable pub field_text : Entry → List ℕ → List ℕ
field_text e o = codes " " ++ (e.name ++ (codes "=" ++ told_value e o))

-- all fields
abbrev pub fields_text : List Entry → List ℕ → List ℕ
fields_text es o = flat_map (λ e. field_text e o) es

-- ---- a fault

-- whether a field complains of a bad content at an offset
abbrev pub is_complaint_at : ℕ → WireFault → Bool
is_complaint_at at (BadField found) = found == at
is_complaint_at at UnknownCommand = false
is_complaint_at at WrongLength = false
is_complaint_at at BadText = false
is_complaint_at at NoRoom = false

-- whether a field complains of a text
abbrev pub is_text_complaint : WireFault → Bool
is_text_complaint BadText = true
is_text_complaint (BadField found) = false
is_text_complaint UnknownCommand = false
is_text_complaint WrongLength = false
is_text_complaint NoRoom = false

-- whether a field is the one with this fault in octets of this number
abbrev pub is_at_fault : WireFault → ℕ → Entry → Bool
is_at_fault UnknownCommand n e = false
is_at_fault WrongLength n e = nat_lt n (e.at + size e.form)
is_at_fault (BadField at) n e = is_complaint_at at (complaint e.form e.at)
is_at_fault BadText n e = is_text_complaint (complaint e.form e.at)
is_at_fault NoRoom n e = false

-- the first field from the left with the fault; there is none where octets are left behind the last field
abbrev pub culprit : WireFault → ℕ → List Entry → Option Entry
culprit fault n es = find (λ e. is_at_fault fault n e) es

-- how many octets are told no more
unfoldable pub rest_text : ℕ → List ℕ
rest_text n = if n == 0 then [] else codes " and " ++ (decimal n ++ codes " octets more")

-- the first octets, so many at most, as text and in hexadecimal
unfoldable pub evidence_within : ℕ → List ℕ → List ℕ
evidence_within most w = quoted (take most w) ++ (hexadecimal_text (take most w) ++ rest_text (length w - most))

-- octets as text and in hexadecimal
unfoldable pub evidence_text : List ℕ → List ℕ
evidence_text w = evidence_within MOST_TOLD w

-- what a field has that is at fault, but not the password
unfoldable pub field_evidence : Entry → List ℕ → List ℕ
field_evidence e o = if is_secret e.name then codes "****" else evidence_text (part e.at (size e.form) o)

-- one of these words, in quotes
abbrev pub words_text : List (List ℕ) → List ℕ
words_text [] = []
words_text (w ∷ []) = quoted w
words_text (w ∷ v ∷ ws) = quoted w ++ (codes " or " ++ words_text (v ∷ ws))

-- which octets a field may have
unfoldable pub rule_text : Form → List ℕ
rule_text (Name n) = codes "0 to " ++ (decimal n ++ codes " of 0-9 A-Z / - . & ( ), then spaces")
rule_text (Digits n) = decimal n ++ codes " digits"
rule_text (OneOf n ws) = words_text ws
rule_text (DigitsIf recorded n) = decimal n ++ (if recorded then codes " digits" else codes " digits 0, since the format has no records")
rule_text (Reserved n) = codes "any " ++ (decimal n ++ codes " octets")
rule_text Return = codes "a carriage return, hexadecimal 0d or 8d"
rule_text (Any n) = codes "any " ++ (decimal n ++ codes " octets")
rule_text (Utf8 n) = decimal n ++ codes " octets of UTF-8"

-- the section that says so
unfoldable pub section_text : CommandKind → List ℕ
section_text k = codes " (RFC 5024, section " ++ (section_of k ++ codes ")")

-- where in a command something is
unfoldable pub spot_text : CommandKind → List ℕ → ℕ → List ℕ
spot_text k what at = kind_word k ++ (codes ", " ++ (what ++ (codes " at offset " ++ (decimal at ++ codes ": "))))

-- a field that is at fault: its place, what it has, and what it may have
unfoldable pub at_text : CommandKind → Entry → List ℕ → List ℕ
at_text k e o = spot_text k (codes "field " ++ e.name) e.at ++ (field_evidence e o ++ (codes ", allowed: " ++ (rule_text e.form ++ section_text k)))

-- octets that are left behind the last field
unfoldable pub behind_text : CommandKind → ℕ → List ℕ → List ℕ
behind_text k end o = spot_text k (codes "behind its last field") end ++ (evidence_text (drop end o) ++ (codes ", allowed: nothing" ++ section_text k))

-- the place of a fault
abbrev pub place_text : CommandKind → ℕ → Option Entry → List ℕ → List ℕ
place_text k end None o = behind_text k end o
place_text k end (Some e) o = at_text k e o

-- a fault in octets of a kind
abbrev pub fault_line : CommandKind → Sheet → List ℕ → WireFault → List ℕ
fault_line k s o fault = fault_text fault ++ (codes ": " ++ place_text k s.end (culprit fault (length o) s.entries) o)

-- octets with which no command begins
unfoldable pub unknown_text : List ℕ → List ℕ
unknown_text w = fault_text UnknownCommand ++ (codes ": " ++ (evidence_text w ++ codes ", allowed: one of I X H 2 3 D C T 4 5 F R E N P (RFC 5024, section 5.3)"))

-- octets that begin as no command does: the first one
unfoldable pub unknown_line : List ℕ → List ℕ
unknown_line o = unknown_text (take 1 o)

-- ---- a command

-- the command without its text, which a field of its own tells
abbrev pub untexted : Command → Command
untexted (commands.Sfna s) = commands.Sfna (record s { text = [] })
untexted (commands.Efna s) = commands.Efna (record s { text = [] })
untexted (commands.Esid s) = commands.Esid (record s { text = [] })
untexted (commands.Nerp s) = commands.Nerp (record s { text = [] })
untexted c = c

-- a command: what it says in words, and each field
abbrev pub command_line : Command → Sheet → List ℕ → List ℕ
command_line c s o = command_text (untexted c) ++ (codes ":" ++ fields_text s.entries o)

-- ---- what is told

-- what is told of octets: a command, so many octets of a file, or a fault
pub data Told : Type 0 where
  ToldCommand : List ℕ → Told
  ToldData : ℕ → Told
  ToldFault : List ℕ → Told

-- of octets that begin as a kind does
abbrev pub told_by : CommandKind → List ℕ → Result Command WireFault → Told
told_by k o (Ok (commands.Data s)) = ToldData (length s)
told_by k o (Ok c) = ToldCommand (command_line c (sheet_of k o) o)
told_by k o (Err fault) = ToldFault (fault_line k (sheet_of k o) o fault)

-- of octets by the kind of their first one
abbrev pub told_as_kind : Option CommandKind → List ℕ → Told
told_as_kind None o = ToldFault (unknown_line o)
told_as_kind (Some k) o = told_by k o (command_of o)

-- the kind that octets begin as
abbrev pub kind_in : List ℕ → Option CommandKind
kind_in [] = None
kind_in (c ∷ cs) = kind_of c

-- what is told of the octets of a frame
unfoldable pub told : List ℕ → Told
told o = told_as_kind (kind_in o) o
