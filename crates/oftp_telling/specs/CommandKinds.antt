-- The kinds of commands: their letters, their words and the sections that define them (RFC 5024, section 5.3).
use Rattle.std.specs.Prelude.{ℕ, List, codes, ◌==◌, if◌then◌else◌, Option, Some, None}
use Rattle.oftp_wire.specs.Octets.{letter}
use Rattle.oftp_telling.specs.declared.kind.CommandKind.{CommandKind}
use Rattle.oftp_telling.specs.declared.kind.CommandKind.TheVariants.{Ssrm, Ssid, Sfid, Sfpa, Sfna, Data, Cdt, Efid, Efpa, Efna, Esid, Cd, Eerp, Nerp, Rtr}

-- the kind of the commands that begin with a letter
abbrev pub kind_of : ℕ → Option CommandKind
kind_of c =
    if c == letter (codes "I") then Some Ssrm else (
    if c == letter (codes "X") then Some Ssid else (
    if c == letter (codes "H") then Some Sfid else (
    if c == letter (codes "2") then Some Sfpa else (
    if c == letter (codes "3") then Some Sfna else (
    if c == letter (codes "D") then Some Data else (
    if c == letter (codes "C") then Some Cdt else (
    if c == letter (codes "T") then Some Efid else (
    if c == letter (codes "4") then Some Efpa else (
    if c == letter (codes "5") then Some Efna else (
    if c == letter (codes "F") then Some Esid else (
    if c == letter (codes "R") then Some Cd else (
    if c == letter (codes "E") then Some Eerp else (
    if c == letter (codes "N") then Some Nerp else (
    if c == letter (codes "P") then Some Rtr else None))))))))))))))

-- what RFC 5024 calls a kind
abbrev pub kind_word : CommandKind → List ℕ
kind_word Ssrm = codes "SSRM"
kind_word Ssid = codes "SSID"
kind_word Sfid = codes "SFID"
kind_word Sfpa = codes "SFPA"
kind_word Sfna = codes "SFNA"
kind_word Data = codes "DATA"
kind_word Cdt = codes "CDT"
kind_word Efid = codes "EFID"
kind_word Efpa = codes "EFPA"
kind_word Efna = codes "EFNA"
kind_word Esid = codes "ESID"
kind_word Cd = codes "CD"
kind_word Eerp = codes "EERP"
kind_word Nerp = codes "NERP"
kind_word Rtr = codes "RTR"

-- the section of RFC 5024 that defines a kind
abbrev pub section_of : CommandKind → List ℕ
section_of Ssrm = codes "5.3.1"
section_of Ssid = codes "5.3.2"
section_of Sfid = codes "5.3.3"
section_of Sfpa = codes "5.3.4"
section_of Sfna = codes "5.3.5"
section_of Data = codes "5.3.6"
section_of Cdt = codes "5.3.7"
section_of Efid = codes "5.3.8"
section_of Efpa = codes "5.3.9"
section_of Efna = codes "5.3.10"
section_of Esid = codes "5.3.11"
section_of Cd = codes "5.3.12"
section_of Eerp = codes "5.3.13"
section_of Nerp = codes "5.3.14"
section_of Rtr = codes "5.3.15"
