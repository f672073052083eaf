-- The texts that an operator reads.
use Rattle.std.specs.Prelude.{ℕ, Bool, List, [], ◌∷◌, ◌++◌, length, codes, encode_utf8, if◌then◌else◌}
use Rattle.std.specs.List.{flat_map}
use Rattle.std.specs.Char.{is_control}
use Rattle.std.specs.Str.{chars}
use Rattle.std.specs.Fmt.{decimal}
use Rattle.oftp_wire.specs.declared.fault.WireFault.{WireFault}
use Rattle.oftp_wire.specs.declared.fault.WireFault.TheVariants.{UnknownCommand, WrongLength, BadField, BadText, NoRoom}
use Rattle.oftp_wire.specs.declared.command.Mode.{Mode}
use Rattle.oftp_wire.specs.declared.command.Mode.TheVariants as modes
use Rattle.oftp_wire.specs.declared.command.Ssid.{Ssid}
use Rattle.oftp_wire.specs.declared.command.Sfid.{Sfid}
use Rattle.oftp_wire.specs.declared.command.Sfna.{Sfna}
use Rattle.oftp_wire.specs.declared.command.Eerp.{Eerp}
use Rattle.oftp_wire.specs.declared.command.Nerp.{Nerp}
use Rattle.oftp_wire.specs.declared.command.Command.{Command}
use Rattle.oftp_wire.specs.declared.command.Command.TheVariants as commands
use Rattle.oftp_wire.specs.Reasons.{start_text, end_text, session_text, negative_text}

-- the text of a fault
abbrev pub fault_text : WireFault → List ℕ
fault_text UnknownCommand = codes "no command begins so"
fault_text WrongLength = codes "the command has the wrong length"
fault_text (BadField at) = codes "the field at offset " ++ decimal at ++ codes " has a bad content"
fault_text BadText = codes "a text isn't UTF-8"
fault_text NoRoom = codes "there is no room for the command"

-- a character, or `?` for a control character
abbrev pub printable : ℕ → ℕ
printable c = if is_control c then 63 else c

-- a partner's text, with no control character
abbrev pub shown_text : List ℕ → List ℕ
shown_text bs = flat_map (λ c. encode_utf8 (printable c)) (chars bs)

-- a text after a colon, or nothing for the empty text
abbrev pub text_after_colon : List ℕ → List ℕ
text_after_colon [] = []
text_after_colon (b ∷ bs) = codes ": " ++ shown_text (b ∷ bs)

-- the name of a mode
abbrev pub mode_text : Mode → List ℕ
mode_text modes.Send = codes "Send"
mode_text modes.Receive = codes "Receive"
mode_text modes.Both = codes "Both"

-- a flag
abbrev pub flag_text : Bool → List ℕ
flag_text flag = if flag then codes "true" else codes "false"

-- what an SSID negotiates: the buffer, the mode, compression, restart, special logic and the credit
abbrev pub offer_text : Ssid → List ℕ
offer_text s =
    codes ", buffer: " ++ (decimal s.buffer ++ (codes ", mode: " ++ (mode_text s.mode ++ (codes ", compression: " ++ (flag_text s.compression
    ++ (codes ", restart: " ++ (flag_text s.restart ++ (codes ", special_logic: " ++ (flag_text s.special_logic ++ (codes ", credit: " ++ decimal s.credit))))))))))

-- each field of an SSID but the password
abbrev pub ssid_text : Ssid → List ℕ
ssid_text s =
    codes "Ssid { level: " ++ (decimal s.level ++ (codes ", code: " ++ (s.code ++ (offer_text s
    ++ (codes ", authentication: " ++ (flag_text s.authentication ++ (codes ", user: " ++ (s.user ++ codes ", .. }"))))))))

-- a virtual file by its dataset name, date and time
abbrev pub file_text : List ℕ → List ℕ → List ℕ → List ℕ
file_text dataset date time = dataset ++ (codes " " ++ (date ++ (codes " " ++ time)))

-- SFID: the file, and between which stations it goes
abbrev pub sfid_text : Sfid → List ℕ
sfid_text s = codes "SFID " ++ (file_text s.dataset s.date s.time ++ (codes " from " ++ (s.originator ++ (codes " to " ++ s.destination))))

-- SFNA: the reason, whether the file may be offered again, and the text
abbrev pub sfna_text : Sfna → List ℕ
sfna_text s = codes "SFNA " ++ (start_text s.reason ++ ((if s.retry then codes ", retry" else []) ++ text_after_colon s.text))

-- EERP: the file, and the station that the response is for
abbrev pub eerp_text : Eerp → List ℕ
eerp_text s = codes "EERP " ++ (file_text s.dataset s.date s.time ++ (codes " to " ++ s.destination))

-- NERP: the file, the station that the response is for, the reason and the text
abbrev pub nerp_text : Nerp → List ℕ
nerp_text s = codes "NERP " ++ (file_text s.dataset s.date s.time ++ (codes " to " ++ (s.destination ++ (codes ", " ++ (negative_text s.reason ++ text_after_colon s.text)))))

-- a command: its kind, and the fields that distinguish it from others of the kind, but never the password
abbrev pub command_text : Command → List ℕ
command_text commands.Ssrm = codes "SSRM"
command_text (commands.Ssid s) = codes "SSID from " ++ s.code
command_text (commands.Sfid s) = sfid_text s
command_text (commands.Sfpa s) = codes "SFPA from position " ++ decimal s.restart
command_text (commands.Sfna s) = sfna_text s
command_text (commands.Data s) = codes "DATA of " ++ (decimal (length s) ++ codes " octets")
command_text commands.Cdt = codes "CDT"
command_text (commands.Efid s) = codes "EFID of " ++ (decimal s.records ++ (codes " records and " ++ (decimal s.units ++ codes " octets")))
command_text (commands.Efpa s) = if s.change_direction then codes "EFPA, change of direction" else codes "EFPA"
command_text (commands.Efna s) = codes "EFNA " ++ (end_text s.reason ++ text_after_colon s.text)
command_text (commands.Esid s) = codes "ESID " ++ (session_text s.reason ++ text_after_colon s.text)
command_text commands.Cd = codes "CD"
command_text (commands.Eerp s) = eerp_text s
command_text (commands.Nerp s) = nerp_text s
command_text commands.Rtr = codes "RTR"
