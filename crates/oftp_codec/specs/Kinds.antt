-- Each kind of command, read from left to right. `command_of` is the result of `parse`; by the theorem `one_spelling` it reads what octets
-- encode, and refuses all others with their first fault.
use Rattle.std.specs.Prelude.{ℕ, ◌+◌, List, [], ◌∷◌, codes, Result, Ok, Err, ◌==◌, if◌then◌else◌}
use Rattle.oftp_wire.specs.declared.fault.WireFault.{WireFault}
use Rattle.oftp_wire.specs.declared.command.Esid.{Esid}
use Rattle.oftp_wire.specs.declared.command.Sfpa.{Sfpa}
use Rattle.oftp_wire.specs.declared.command.Eerp.{Eerp}
use Rattle.oftp_wire.specs.declared.command.Ssid.{Ssid}
use Rattle.oftp_wire.specs.declared.command.Sfid.{Sfid}
use Rattle.oftp_wire.specs.declared.command.Nerp.{Nerp}
use Rattle.oftp_wire.specs.declared.command.Sfna.{Sfna}
use Rattle.oftp_wire.specs.declared.command.Efid.{Efid}
use Rattle.oftp_wire.specs.declared.command.Efpa.{Efpa}
use Rattle.oftp_wire.specs.declared.command.Efna.{Efna}
use Rattle.oftp_wire.specs.declared.command.Command.{Command}
use Rattle.oftp_wire.specs.declared.command.Command.TheVariants as commands
use Rattle.oftp_wire.specs.declared.fault.WireFault.TheVariants.{UnknownCommand}
use Rattle.oftp_wire.specs.Octets.{letter}
use Rattle.oftp_codec.specs.Form.{Reserved, Return}
use Rattle.oftp_codec.specs.Reading.{◌>>=◌, name_at, digits_at, count_at, text_at, last_text_at, skipped_at, ends_at, flag_at, mode_at, format_at, layout_at, rest_at, zero16_form, ready_form}

-- SSRM
unfoldable pub ssrm_of : List ℕ → Result (Unit {0}) WireFault
ssrm_of o = do
  text ← skipped_at ready_form 1 o
  cr ← skipped_at Return 18 o
  end ← ends_at 19 o
  Ok tt

-- SSID
unfoldable pub ssid_of : List ℕ → Result Ssid WireFault
ssid_of o = do
  level ← count_at 1 1 o
  code ← name_at 25 2 o
  password ← name_at 8 27 o
  buffer ← count_at 5 35 o
  mode ← mode_at 40 o
  compression ← flag_at 41 o
  restart ← flag_at 42 o
  special_logic ← flag_at 43 o
  credit ← count_at 3 44 o
  authentication ← flag_at 47 o
  reserved ← skipped_at (Reserved 4) 48 o
  user ← name_at 8 52 o
  cr ← skipped_at Return 60 o
  end ← ends_at 61 o
  Ok (record {
    level = level;
    code = code;
    password = password;
    buffer = buffer;
    mode = mode;
    compression = compression;
    restart = restart;
    special_logic = special_logic;
    credit = credit;
    authentication = authentication;
    user = user;
  })

-- SFID
unfoldable pub sfid_of : List ℕ → Result Sfid WireFault
sfid_of o = do
  dataset ← name_at 26 1 o
  reserved ← skipped_at (Reserved 3) 27 o
  date ← digits_at 8 30 o
  time ← digits_at 10 38 o
  user ← name_at 8 48 o
  destination ← name_at 25 56 o
  originator ← name_at 25 81 o
  format ← format_at 106 o
  layout ← layout_at format 107 o
  size ← count_at 13 112 o
  original_size ← count_at 13 125 o
  restart ← count_at 17 138 o
  security ← count_at 2 155 o
  cipher ← count_at 2 157 o
  compression ← count_at 1 159 o
  enveloping ← count_at 1 160 o
  signed_response ← flag_at 161 o
  description ← last_text_at 162 o
  Ok (record {
    dataset = dataset;
    date = date;
    time = time;
    user = user;
    destination = destination;
    originator = originator;
    layout = layout;
    size = size;
    original_size = original_size;
    restart = restart;
    security = security;
    cipher = cipher;
    compression = compression;
    enveloping = enveloping;
    signed_response = signed_response;
    description = description;
  })

-- SFPA
unfoldable pub sfpa_of : List ℕ → Result Sfpa WireFault
sfpa_of o = do
  restart ← count_at 17 1 o
  end ← ends_at 18 o
  Ok (record { restart = restart })

-- SFNA
unfoldable pub sfna_of : List ℕ → Result Sfna WireFault
sfna_of o = do
  reason ← count_at 2 1 o
  retry ← flag_at 3 o
  text ← last_text_at 4 o
  Ok (record { reason = reason; retry = retry; text = text })

-- DATA
unfoldable pub data_of : List ℕ → Result (List ℕ) WireFault
data_of o = do
  octets ← rest_at 1 o
  Ok octets

-- CDT
unfoldable pub cdt_of : List ℕ → Result (Unit {0}) WireFault
cdt_of o = do
  reserved ← skipped_at (Reserved 2) 1 o
  end ← ends_at 3 o
  Ok tt

-- EFID
unfoldable pub efid_of : List ℕ → Result Efid WireFault
efid_of o = do
  records ← count_at 17 1 o
  units ← count_at 17 18 o
  end ← ends_at 35 o
  Ok (record { records = records; units = units })

-- EFPA
unfoldable pub efpa_of : List ℕ → Result Efpa WireFault
efpa_of o = do
  change_direction ← flag_at 1 o
  end ← ends_at 2 o
  Ok (record { change_direction = change_direction })

-- EFNA
unfoldable pub efna_of : List ℕ → Result Efna WireFault
efna_of o = do
  reason ← count_at 2 1 o
  text ← last_text_at 3 o
  Ok (record { reason = reason; text = text })

-- ESID
unfoldable pub esid_of : List ℕ → Result Esid WireFault
esid_of o = do
  reason ← count_at 2 1 o
  n ← count_at 3 3 o
  text ← text_at n 6 o
  cr ← skipped_at Return (6 + n) o
  end ← ends_at (6 + n + 1) o
  Ok (record { reason = reason; text = text })

-- CD or RTR
unfoldable pub single_of : List ℕ → Result (Unit {0}) WireFault
single_of o = do
  end ← ends_at 1 o
  Ok tt

-- EERP
unfoldable pub eerp_of : List ℕ → Result Eerp WireFault
eerp_of o = do
  dataset ← name_at 26 1 o
  reserved ← skipped_at (Reserved 3) 27 o
  date ← digits_at 8 30 o
  time ← digits_at 10 38 o
  user ← name_at 8 48 o
  destination ← name_at 25 56 o
  originator ← name_at 25 81 o
  hash ← skipped_at zero16_form 106 o
  signature ← skipped_at zero16_form 108 o
  end ← ends_at 110 o
  Ok (record { dataset = dataset; date = date; time = time; user = user; destination = destination; originator = originator })

-- NERP
unfoldable pub nerp_of : List ℕ → Result Nerp WireFault
nerp_of o = do
  dataset ← name_at 26 1 o
  reserved ← skipped_at (Reserved 6) 27 o
  date ← digits_at 8 33 o
  time ← digits_at 10 41 o
  destination ← name_at 25 51 o
  originator ← name_at 25 76 o
  creator ← name_at 25 101 o
  reason ← count_at 2 126 o
  n ← count_at 3 128 o
  text ← text_at n 131 o
  hash ← skipped_at zero16_form (131 + n) o
  signature ← skipped_at zero16_form (131 + n + 2) o
  end ← ends_at (131 + n + 4) o
  Ok (record { dataset = dataset; date = date; time = time; destination = destination; originator = originator; creator = creator; reason = reason; text = text })

-- a command of a kind, from its fields
abbrev pub as_command : {S : Type 0} → (S → Command) → Result S WireFault → Result Command WireFault
as_command make r = r >>= λ x. Ok (make x)

-- the command of the kind with this letter
unfoldable pub by_letter : ℕ → List ℕ → Result Command WireFault
by_letter c o =
    if c == letter (codes "I") then (ssrm_of o >>= λ x. Ok commands.Ssrm) else (
    if c == letter (codes "X") then (ssid_of o >>= λ x. Ok (commands.Ssid x)) else (
    if c == letter (codes "H") then (sfid_of o >>= λ x. Ok (commands.Sfid x)) else (
    if c == letter (codes "2") then (sfpa_of o >>= λ x. Ok (commands.Sfpa x)) else (
    if c == letter (codes "3") then (sfna_of o >>= λ x. Ok (commands.Sfna x)) else (
    if c == letter (codes "D") then (data_of o >>= λ x. Ok (commands.Data x)) else (
    if c == letter (codes "C") then (cdt_of o >>= λ x. Ok commands.Cdt) else (
    if c == letter (codes "T") then (efid_of o >>= λ x. Ok (commands.Efid x)) else (
    if c == letter (codes "4") then (efpa_of o >>= λ x. Ok (commands.Efpa x)) else (
    if c == letter (codes "5") then (efna_of o >>= λ x. Ok (commands.Efna x)) else (
    if c == letter (codes "F") then (esid_of o >>= λ x. Ok (commands.Esid x)) else (
    if c == letter (codes "R") then (single_of o >>= λ x. Ok commands.Cd) else (
    if c == letter (codes "E") then (eerp_of o >>= λ x. Ok (commands.Eerp x)) else (
    if c == letter (codes "N") then (nerp_of o >>= λ x. Ok (commands.Nerp x)) else (
    if c == letter (codes "P") then (single_of o >>= λ x. Ok commands.Rtr) else (
    Err UnknownCommand)))))))))))))))

-- the command in these octets
unfoldable pub command_of : List ℕ → Result Command WireFault
command_of [] = Err UnknownCommand
command_of (c ∷ cs) = by_letter c (c ∷ cs)
