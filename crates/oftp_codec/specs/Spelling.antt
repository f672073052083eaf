-- Spelling: which octets encode which command, which of them are canonical, and what is wrong with others (RFC 5024, section 5.3).
use Rattle.std.specs.Prelude.{◌≡◌, ℕ, Bool, true, false, ◌-◌, ◌<◌, drop, ◌++◌, Result, Ok, Err, ◌==◌, if◌then◌else◌, List, [], ◌∷◌, length, codes, Option, Some}
use Rattle.oftp_wire.specs.declared.fault.WireFault.{WireFault}
use Rattle.oftp_wire.specs.declared.fault.WireFault.TheVariants.{UnknownCommand, NoRoom}
use Rattle.oftp_wire.specs.declared.command.Ssid.{Ssid}
use Rattle.oftp_wire.specs.declared.command.Sfid.{Sfid}
use Rattle.oftp_wire.specs.declared.command.Sfpa.{Sfpa}
use Rattle.oftp_wire.specs.declared.command.Sfna.{Sfna}
use Rattle.oftp_wire.specs.declared.command.Efid.{Efid}
use Rattle.oftp_wire.specs.declared.command.Efpa.{Efpa}
use Rattle.oftp_wire.specs.declared.command.Efna.{Efna}
use Rattle.oftp_wire.specs.declared.command.Esid.{Esid}
use Rattle.oftp_wire.specs.declared.command.Eerp.{Eerp}
use Rattle.oftp_wire.specs.declared.command.Nerp.{Nerp}
use Rattle.oftp_wire.specs.declared.command.Command.{Command}
use Rattle.oftp_wire.specs.declared.command.Command.TheVariants as commands
use Rattle.oftp_wire.specs.Octets.{letter, part, number}
use Rattle.oftp_codec.specs.Row.{Table, IsSpelled, EachFits, canon_of, fault_in}
use Rattle.oftp_codec.specs.Tables.{ssrm_table, ssid_table, sfid_table, sfpa_table, sfna_table, data_table, cdt_table, efid_table, efpa_table, efna_table, esid_table, eerp_table, nerp_table, single_table, sfid_table_of, format_of, has_records}

-- `say` of the table of a command's kind and of the command's fields; a text has the length that the command has
abbrev pub of_table {ℓ} : {R : Type ℓ} → Command → ((S : Type 0) → Table S → S → R) → R
of_table commands.Ssrm say = say (Unit {0}) ssrm_table tt
of_table (commands.Ssid s) say = say Ssid ssid_table s
of_table (commands.Sfid s) say = say Sfid (sfid_table_of s) s
of_table (commands.Sfpa s) say = say Sfpa sfpa_table s
of_table (commands.Sfna s) say = say Sfna (sfna_table (length s.text)) s
of_table (commands.Data s) say = say (List ℕ) (data_table (length s)) s
of_table commands.Cdt say = say (Unit {0}) cdt_table tt
of_table (commands.Efid s) say = say Efid efid_table s
of_table (commands.Efpa s) say = say Efpa efpa_table s
of_table (commands.Efna s) say = say Efna (efna_table (length s.text)) s
of_table (commands.Esid s) say = say Esid (esid_table (length s.text)) s
of_table commands.Cd say = say (Unit {0}) (single_table (codes "R")) tt
of_table (commands.Eerp s) say = say Eerp eerp_table s
of_table (commands.Nerp s) say = say Nerp (nerp_table (length s.text)) s
of_table commands.Rtr say = say (Unit {0}) (single_table (codes "P")) tt

-- the octets encode the command: each field is the slice at its offset, and there are no more octets than the kind has
abbrev pub Spells : Command → List ℕ → Type 0
Spells c o = of_table c (λ S t s. IsSpelled t s o)

-- each field of the command is in its range
abbrev pub IsFit : Command → Type 0
IsFit c = of_table c (λ S t s. EachFits t.rows s)

-- the canonical encoding: values padded with spaces, leading zeros, reserved fields as spaces, carriage return as 0D
abbrev pub Canon : Command → List ℕ
Canon c = of_table c (λ S t s. canon_of t.rows s)

-- the first fault of octets whose first one is c
unfoldable pub fault_by : ℕ → List ℕ → Option WireFault
fault_by c o =
    if c == letter (codes "I") then fault_in ssrm_table o else (
    if c == letter (codes "X") then fault_in ssid_table o else (
    if c == letter (codes "H") then fault_in (sfid_table (has_records (format_of (part 106 1 o))) (number (part 162 3 o))) o else (
    if c == letter (codes "2") then fault_in sfpa_table o else (
    if c == letter (codes "3") then fault_in (sfna_table (number (part 4 3 o))) o else (
    if c == letter (codes "D") then fault_in (data_table (length o - 1)) o else (
    if c == letter (codes "C") then fault_in cdt_table o else (
    if c == letter (codes "T") then fault_in efid_table o else (
    if c == letter (codes "4") then fault_in efpa_table o else (
    if c == letter (codes "5") then fault_in (efna_table (number (part 3 3 o))) o else (
    if c == letter (codes "F") then fault_in (esid_table (number (part 3 3 o))) o else (
    if c == letter (codes "R") then fault_in (single_table (codes "R")) o else (
    if c == letter (codes "E") then fault_in eerp_table o else (
    if c == letter (codes "N") then fault_in (nerp_table (number (part 128 3 o))) o else (
    if c == letter (codes "P") then fault_in (single_table (codes "P")) o else (
    Some UnknownCommand)))))))))))))))

-- the first fault of octets from the left, if there is one; a text has the length that the length field before it says
unfoldable pub Fault : List ℕ → Option WireFault
Fault [] = Some UnknownCommand
Fault (c ∷ cs) = fault_by c (c ∷ cs)

-- the octets are written at the beginning and the rest is unchanged, or there is no room and nothing changed
abbrev pub IsWritten : Result ℕ WireFault → List ℕ → List ℕ → List ℕ → Type 0
IsWritten (Ok n) w old new = (n ≡ length w) × (new ≡ w ++ drop n old)
IsWritten (Err e) w old new = (e ≡ NoRoom) × (length old < length w) × (new ≡ old)

-- whether a command carries a payload
abbrev pub is_data : Command → Bool
is_data (commands.Data s) = true
is_data _ = false
