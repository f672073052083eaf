-- The table of each kind: its fields from left to right, with offsets and lengths (RFC 5024, section 5.3).
use Rattle.std.specs.Prelude.{ℕ, ◌+◌, Bool, true, false, List, [], ◌∷◌, length, codes, if◌then◌else◌}
use Rattle.std.specs.Str.{bytes_eq}
use Rattle.oftp_wire.specs.declared.command.Esid.{Esid}
use Rattle.oftp_wire.specs.declared.command.Sfpa.{Sfpa}
use Rattle.oftp_wire.specs.declared.command.Eerp.{Eerp}
use Rattle.oftp_wire.specs.declared.command.Ssid.{Ssid}
use Rattle.oftp_wire.specs.declared.command.Sfid.{Sfid}
use Rattle.oftp_wire.specs.declared.command.Nerp.{Nerp}
use Rattle.oftp_wire.specs.declared.command.Sfna.{Sfna}
use Rattle.oftp_wire.specs.declared.command.Efid.{Efid}
use Rattle.oftp_wire.specs.declared.command.Efpa.{Efpa}
use Rattle.oftp_wire.specs.declared.command.Efna.{Efna}
use Rattle.oftp_wire.specs.declared.command.Mode.{Mode}
use Rattle.oftp_wire.specs.declared.command.Mode.TheVariants.{Send, Receive, Both}
use Rattle.oftp_codec.specs.declared.format.Format.{Format}
use Rattle.oftp_codec.specs.declared.format.Format.TheVariants.{Fixed as FixedFormat, Variable as VariableFormat, Unstructured as UnstructuredFormat, Text as TextFormat}
use Rattle.oftp_wire.specs.declared.command.Layout.{Layout}
use Rattle.oftp_wire.specs.declared.command.Layout.TheVariants.{Fixed, Variable, Unstructured, Text}
use Rattle.oftp_codec.specs.Row.{word, name, digits, count, choice, longest, reserved, return, payload, text, Table}

-- ---- the values of fields that have few

-- Y or N
abbrev pub flag_words : List (List ℕ)
flag_words = codes "Y" ∷ codes "N" ∷ []

-- the letter of a flag
abbrev pub flag_octets : Bool → List ℕ
flag_octets true = codes "Y"
flag_octets false = codes "N"

-- S, R or B
abbrev pub mode_words : List (List ℕ)
mode_words = codes "S" ∷ codes "R" ∷ codes "B" ∷ []

-- the letter of a mode
abbrev pub mode_octets : Mode → List ℕ
mode_octets Send = codes "S"
mode_octets Receive = codes "R"
mode_octets Both = codes "B"

-- the mode of a letter
abbrev pub mode_of : List ℕ → Mode
mode_of w = if bytes_eq w (codes "S") then Send else (if bytes_eq w (codes "R") then Receive else Both)

-- F, V, U or T
abbrev pub format_words : List (List ℕ)
format_words = codes "F" ∷ codes "V" ∷ codes "U" ∷ codes "T" ∷ []

-- the letter of a layout
abbrev pub format_octets : Layout → List ℕ
format_octets (Fixed n) = codes "F"
format_octets (Variable n) = codes "V"
format_octets Unstructured = codes "U"
format_octets Text = codes "T"

-- the format of a letter
abbrev pub format_of : List ℕ → Format
format_of w = if bytes_eq w (codes "F") then FixedFormat else (if bytes_eq w (codes "V") then VariableFormat else (if bytes_eq w (codes "U") then UnstructuredFormat else TextFormat))

-- whether a file of the format has records
abbrev pub has_records : Format → Bool
has_records FixedFormat = true
has_records VariableFormat = true
has_records UnstructuredFormat = false
has_records TextFormat = false

-- whether a file of the layout has records
abbrev pub is_recorded : Layout → Bool
is_recorded (Fixed n) = true
is_recorded (Variable n) = true
is_recorded Unstructured = false
is_recorded Text = false

-- the longest record of a layout, 0 where it has no records
abbrev pub longest_of : Layout → ℕ
longest_of (Fixed n) = n
longest_of (Variable n) = n
longest_of Unstructured = 0
longest_of Text = 0

-- a hash length or a signature length of 0
abbrev pub zero16 : List ℕ
zero16 = 0 ∷ 0 ∷ []

-- ---- the tables

-- SSRM (RFC 5024, section 5.3.1)
abbrev pub ssrm_table : Table (Unit {0})
ssrm_table = record {
  rows = word 0 (codes "I") ∷ word 1 (codes "ODETTE FTP READY ") ∷ return 18 ∷ [];
  end = 19;
}

-- SSID (RFC 5024, section 5.3.2)
abbrev pub ssid_table : Table Ssid
ssid_table = record {
  rows = word 0 (codes "X")
      ∷ count 1 1 (λ s. s.level)
      ∷ name 2 25 (λ s. s.code)
      ∷ name 27 8 (λ s. s.password)
      ∷ count 35 5 (λ s. s.buffer)
      ∷ choice 40 1 mode_words (λ s. mode_octets s.mode)
      ∷ choice 41 1 flag_words (λ s. flag_octets s.compression)
      ∷ choice 42 1 flag_words (λ s. flag_octets s.restart)
      ∷ choice 43 1 flag_words (λ s. flag_octets s.special_logic)
      ∷ count 44 3 (λ s. s.credit)
      ∷ choice 47 1 flag_words (λ s. flag_octets s.authentication)
      ∷ reserved 48 4
      ∷ name 52 8 (λ s. s.user)
      ∷ return 60
      ∷ [];
  end = 61;
}

-- SFID, with or without records, and with n octets of description (RFC 5024, section 5.3.3)
abbrev pub sfid_table : Bool → ℕ → Table Sfid
sfid_table recorded n = record {
  rows = word 0 (codes "H")
      ∷ name 1 26 (λ s. s.dataset)
      ∷ reserved 27 3
      ∷ digits 30 8 (λ s. s.date)
      ∷ digits 38 10 (λ s. s.time)
      ∷ name 48 8 (λ s. s.user)
      ∷ name 56 25 (λ s. s.destination)
      ∷ name 81 25 (λ s. s.originator)
      ∷ choice 106 1 format_words (λ s. format_octets s.layout)
      ∷ longest 107 recorded 5 (λ s. longest_of s.layout)
      ∷ count 112 13 (λ s. s.size)
      ∷ count 125 13 (λ s. s.original_size)
      ∷ count 138 17 (λ s. s.restart)
      ∷ count 155 2 (λ s. s.security)
      ∷ count 157 2 (λ s. s.cipher)
      ∷ count 159 1 (λ s. s.compression)
      ∷ count 160 1 (λ s. s.enveloping)
      ∷ choice 161 1 flag_words (λ s. flag_octets s.signed_response)
      ∷ count 162 3 (λ s. length s.description)
      ∷ text 165 n (λ s. s.description)
      ∷ [];
  end = 165 + n;
}

-- the table of an SFID
abbrev pub sfid_table_of : Sfid → Table Sfid
sfid_table_of s = sfid_table (is_recorded s.layout) (length s.description)

-- SFPA (RFC 5024, section 5.3.4)
abbrev pub sfpa_table : Table Sfpa
sfpa_table = record {
  rows = word 0 (codes "2") ∷ count 1 17 (λ s. s.restart) ∷ [];
  end = 18;
}

-- SFNA with n octets of text (RFC 5024, section 5.3.5)
abbrev pub sfna_table : ℕ → Table Sfna
sfna_table n = record {
  rows = word 0 (codes "3")
      ∷ count 1 2 (λ s. s.reason)
      ∷ choice 3 1 flag_words (λ s. flag_octets s.retry)
      ∷ count 4 3 (λ s. length s.text)
      ∷ text 7 n (λ s. s.text)
      ∷ [];
  end = 7 + n;
}

-- DATA with n octets of payload (RFC 5024, section 5.3.6)
abbrev pub data_table : ℕ → Table (List ℕ)
data_table n = record {
  rows = word 0 (codes "D") ∷ payload 1 n (λ s. s) ∷ [];
  end = 1 + n;
}

-- CDT (RFC 5024, section 5.3.7)
abbrev pub cdt_table : Table (Unit {0})
cdt_table = record {
  rows = word 0 (codes "C") ∷ reserved 1 2 ∷ [];
  end = 3;
}

-- EFID (RFC 5024, section 5.3.8)
abbrev pub efid_table : Table Efid
efid_table = record {
  rows = word 0 (codes "T") ∷ count 1 17 (λ s. s.records) ∷ count 18 17 (λ s. s.units) ∷ [];
  end = 35;
}

-- EFPA (RFC 5024, section 5.3.9)
abbrev pub efpa_table : Table Efpa
efpa_table = record {
  rows = word 0 (codes "4") ∷ choice 1 1 flag_words (λ s. flag_octets s.change_direction) ∷ [];
  end = 2;
}

-- EFNA with n octets of text (RFC 5024, section 5.3.10)
abbrev pub efna_table : ℕ → Table Efna
efna_table n = record {
  rows = word 0 (codes "5")
      ∷ count 1 2 (λ s. s.reason)
      ∷ count 3 3 (λ s. length s.text)
      ∷ text 6 n (λ s. s.text)
      ∷ [];
  end = 6 + n;
}

-- ESID with n octets of text (RFC 5024, section 5.3.11)
abbrev pub esid_table : ℕ → Table Esid
esid_table n = record {
  rows = word 0 (codes "F") ∷ count 1 2 (λ s. s.reason) ∷ count 3 3 (λ s. length s.text) ∷ text 6 n (λ s. s.text) ∷ return (6 + n) ∷ [];
  end = 6 + n + 1;
}

-- only a letter: CD and RTR (RFC 5024, sections 5.3.12 and 5.3.15)
abbrev pub single_table : List ℕ → Table (Unit {0})
single_table w = record {
  rows = word 0 w ∷ [];
  end = length w;
}

-- EERP (RFC 5024, section 5.3.13)
abbrev pub eerp_table : Table Eerp
eerp_table = record {
  rows = word 0 (codes "E")
      ∷ name 1 26 (λ s. s.dataset)
      ∷ reserved 27 3
      ∷ digits 30 8 (λ s. s.date)
      ∷ digits 38 10 (λ s. s.time)
      ∷ name 48 8 (λ s. s.user)
      ∷ name 56 25 (λ s. s.destination)
      ∷ name 81 25 (λ s. s.originator)
      ∷ word 106 zero16
      ∷ word 108 zero16
      ∷ [];
  end = 110;
}

-- NERP with n octets of text (RFC 5024, section 5.3.14)
abbrev pub nerp_table : ℕ → Table Nerp
nerp_table n = record {
  rows = word 0 (codes "N")
      ∷ name 1 26 (λ s. s.dataset)
      ∷ reserved 27 6
      ∷ digits 33 8 (λ s. s.date)
      ∷ digits 41 10 (λ s. s.time)
      ∷ name 51 25 (λ s. s.destination)
      ∷ name 76 25 (λ s. s.originator)
      ∷ name 101 25 (λ s. s.creator)
      ∷ count 126 2 (λ s. s.reason)
      ∷ count 128 3 (λ s. length s.text)
      ∷ text 131 n (λ s. s.text)
      ∷ word (131 + n) zero16
      ∷ word (131 + n + 2) zero16
      ∷ [];
  end = 131 + n + 4;
}
