-- A frame can hold each command that a session sends, and each command that is read is in its ranges.
use Rattle.std.proofs.Common.{◌≡◌, ℕ, ◌<◌, ◌≤◌, ◌^◌, Bool, true, false, List, [], ◌∷◌, length, refl, ap, arith}
use Rattle.std.proofs.lemmas.Str.{IsUtf8-nil}
use Rattle.std.specs.Prelude.{codes}
use Rattle.oftp_wire.specs.declared.command.Command.{Command}
use Rattle.oftp_wire.specs.declared.command.Command.TheVariants as command
use Rattle.oftp_wire.specs.declared.command.Mode.{Mode}
use Rattle.oftp_wire.specs.declared.command.Mode.TheVariants.{Send, Receive, Both}
use Rattle.oftp_wire.specs.declared.reason.EndReason.{EndReason}
use Rattle.oftp_wire.specs.declared.reason.EndReason.TheVariants.{InvalidByteCount, InvalidRecordCount}
use Rattle.oftp_wire.specs.declared.reason.SessionReason.{SessionReason}
use Rattle.oftp_wire.specs.declared.reason.SessionReason.TheVariants as session
use Rattle.oftp_wire.specs.declared.reason.StartReason.{StartReason}
use Rattle.oftp_wire.specs.declared.reason.StartReason.TheVariants as start
use Rattle.oftp_wire.specs.Octets.{IsName}
use Rattle.oftp_wire.specs.Reasons.{end_number, session_number, start_number}
use Rattle.oftp_codec.specs.Row.{EachFits, EachSays, IsSpelled, IsWord, Row, Table}
use Rattle.oftp_codec.specs.Spelling.{Canon, IsFit, Spells, is_data}
use Rattle.oftp_codec.specs.Tables.{cdt_table, data_table, eerp_table, efid_table, efna_table, efpa_table, esid_table, nerp_table, sfid_table_of, sfna_table, sfpa_table, single_table, ssid_table, ssrm_table}
use Rattle.oftp_codec.specs.Tables.{flag_octets, flag_words, format_octets, format_words, is_recorded, longest_of, mode_octets, mode_words}
use Rattle.oftp_codec.proofs.Room.{canon-data, canon_short}
use Rattle.oftp_vfile.specs.declared.format.Format.{Format}
use Rattle.oftp_vfile.specs.declared.format.Format.TheVariants.{Fixed, Variable, Unstructured, Text}
use Rattle.oftp_vfile.specs.declared.format.TheConstants.{MOST_ROWS}
use Rattle.oftp_vfile.specs.VirtualFile.{IsLongest, records_in, units_in}
use Rattle.oftp_partners.specs.Book.{BookData, IsPartner, IsStation}
use Rattle.oftp_partners.specs.declared.partner.Partner.{Partner}
use Rattle.oftp_register.specs.declared.entry.Identity.{Identity}
use Rattle.oftp_register.specs.declared.fit.TheConstants.{MOST_UNITS}
use Rattle.oftp_register.specs.Register.{Outgoing}
use Rattle.oftp_register.specs.Soundness.{IsSoundOutgoing}
use Rattle.oftp_register.proofs.UnitLemmas.{outgoing_units}
use Rattle.oftp_session.specs.Opening.{ssid_with}
use Rattle.oftp_session.specs.Phases.{esid_of}
use Rattle.oftp_session.specs.Receiving.{efna_of, efpa_of}
use Rattle.oftp_session.specs.Listener.{sfna_of, sfpa_of}
use Rattle.oftp_session.specs.Sending.{efid_of}
use Rattle.oftp_session.specs.Speaker.{blocks, eerp_of, layout_of, nerp_of, sfid_of}
use Rattle.oftp_engine.specs.Queues.{IsSayable}
use Rattle.oftp_engine.specs.Ranges.{AreWords, IsIdentity, IsSpellableOutgoing}

-- a command without a payload is short
sayable : (c : Command) → IsFit c → is_data c ≡ false → IsSayable c
sayable c fit none = let short = canon_short c fit none in (fit, omega (arith, short))

empty_name : (n : ℕ) → IsName n []
empty_name n = (omega arith, refl)

flag_fits : (b : Bool) → IsWord 1 flag_words (flag_octets b)
flag_fits true = (refl, refl)
flag_fits false = (refl, refl)

mode_fits : (mode : Mode) → IsWord 1 mode_words (mode_octets mode)
mode_fits Send = (refl, refl)
mode_fits Receive = (refl, refl)
mode_fits Both = (refl, refl)

-- only letters

pub ssrm_sayable : IsSayable command.Ssrm
ssrm_sayable = sayable command.Ssrm (tt, (tt, (tt, tt))) refl

pub cdt_sayable : IsSayable command.Cdt
cdt_sayable = sayable command.Cdt (tt, (tt, tt)) refl

pub cd_sayable : IsSayable command.Cd
cd_sayable = sayable command.Cd (tt, tt) refl

pub rtr_sayable : IsSayable command.Rtr
rtr_sayable = sayable command.Rtr (tt, tt) refl

-- reasons

session_short : (reason : SessionReason) → session_number reason < 100
session_short session.Normal = omega arith
session_short session.CommandNotRecognised = omega arith
session_short session.ProtocolViolation = omega arith
session_short session.UserCodeNotKnown = omega arith
session_short session.InvalidPassword = omega arith
session_short session.InvalidData = omega arith
session_short session.BufferSizeError = omega arith
session_short session.ResourcesNotAvailable = omega arith
session_short session.ModeIncompatible = omega arith
session_short session.AuthenticationIncompatible = omega arith

start_short : (reason : StartReason) → start_number reason < 100
start_short start.InvalidFilename = omega arith
start_short start.InvalidDestination = omega arith
start_short start.InvalidOrigin = omega arith
start_short start.MaximumRecordLengthNotSupported = omega arith
start_short start.FileSizeTooBig = omega arith
start_short start.DuplicateFile = omega arith
start_short start.FileDirectionRefused = omega arith
start_short start.Unspecified = omega arith

end_short : (reason : EndReason) → end_number reason < 100
end_short InvalidRecordCount = omega arith
end_short InvalidByteCount = omega arith

pub esid_sayable : (reason : SessionReason) → IsSayable (esid_of reason)
esid_sayable reason =
    let n = session_short reason in
    sayable (esid_of reason) (tt, (omega (arith, n), (omega arith, ((refl, omega arith, IsUtf8-nil), (tt, tt))))) refl

-- answers

pub sfpa_sayable : (count : ℕ) → count ≤ MOST_ROWS → IsSayable (sfpa_of count)
sfpa_sayable count few = sayable (sfpa_of count) (tt, (omega (arith, few), tt)) refl

pub sfna_sayable : (reason : StartReason) (retry : Bool) → IsSayable (sfna_of reason retry)
sfna_sayable reason retry =
    let n = start_short reason in
    sayable (sfna_of reason retry) (tt, (omega (arith, n), (flag_fits retry, (omega arith, ((refl, omega arith, IsUtf8-nil), tt))))) refl

pub efpa_sayable : (speaks : Bool) → IsSayable (efpa_of speaks)
efpa_sayable speaks = sayable (efpa_of speaks) (tt, (flag_fits speaks, tt)) refl

pub efna_sayable : (reason : EndReason) → IsSayable (efna_of reason)
efna_sayable reason =
    let n = end_short reason in
    sayable (efna_of reason) (tt, (omega (arith, n), (omega arith, ((refl, omega arith, IsUtf8-nil), tt)))) refl

-- SSID

pub ssid_sayable : (book : BookData) (partner : Partner) (buffer credit : ℕ) (restart : Bool) (mode : Mode) → IsStation book.station → IsPartner partner
    → buffer ≤ 16384 → credit ≤ 99 → IsSayable (command.Ssid (ssid_with book partner buffer credit restart mode))
ssid_sayable book partner buffer credit restart mode station of small few =
    let no = flag_fits false in
    let size : buffer < 10 ^ 5 = omega (arith, small) in
    let window : credit < 10 ^ 3 = omega (arith, few) in
    let user = empty_name 8 in
    sayable (command.Ssid (ssid_with book partner buffer credit restart mode))
    (tt, (omega arith, (station.code.1, (of.sends, (size, (mode_fits mode, (no, (flag_fits restart, (no, (window, (no, (tt, (user, (tt, tt)))))))))))))) refl

-- SFID, DATA and EFID

layout_fits : (format : Format) (longest : ℕ) → IsWord 1 format_words (format_octets (layout_of format longest))
layout_fits Fixed longest = (refl, refl)
layout_fits Variable longest = (refl, refl)
layout_fits Unstructured longest = (refl, refl)
layout_fits Text longest = (refl, refl)

record_fits : (format : Format) (longest : ℕ) → IsLongest format longest
    → (longest_of (layout_of format longest) < 10 ^ 5) × (is_recorded (layout_of format longest) ≡ false → longest_of (layout_of format longest) ≡ 0)
record_fits Fixed longest h = (omega (arith, h.1), λ e. absurd (cc))
record_fits Variable longest h = (omega (arith, h.1), λ e. absurd (cc))
record_fits Unstructured longest h = (omega arith, λ e. refl)
record_fits Text longest h = (omega arith, λ e. refl)

size_fits : (units : ℕ) → units ≤ MOST_UNITS → blocks units < 10 ^ 13
size_fits units few = omega (arith, few)

pub sfid_sayable : (file : Outgoing) (from : ℕ) → IsSoundOutgoing file → IsSpellableOutgoing file → from ≤ length file.rows → IsSayable (sfid_of file from)
sfid_sayable file from sound it within =
    let n = it.identity in
    let user = empty_name 8 in
    let format = layout_fits file.format file.longest in
    let size' = record_fits file.format file.longest sound.longest in
    let size = size_fits (units_in file.rows) (outgoing_units file sound) in
    let row : from < 10 ^ 17 = omega (arith, within, sound.few) in
    let two : 0 < 10 ^ 2 = omega arith in
    let one : 0 < 10 ^ 1 = omega arith in
    let no = flag_fits false in
    let count : length file.description < 10 ^ 3 = omega (arith, it.description.0) in
    let w = it.description in
    let fit : IsFit (sfid_of file from) =
    (tt, (n.dataset, (tt, (n.date, (n.time, (user, (n.destination, (n.originator, (format, (size', (size, (size, (row, (two, (two, (one, (one, (no, (count, ((refl, w.0, w.1), tt)))))))))))))))))))) in
    sayable (sfid_of file from) fit refl

pub data_sayable : (payload : List ℕ) → length payload ≤ 99998 → IsSayable (command.Data payload)
data_sayable payload small = (let e : length (Canon (command.Data payload)) ≡ length (68 ∷ payload) = ap length (canon-data payload) in ((tt, (refl, tt)), omega (arith, e, small)))

records_fit : (format : Format) (rows : List (List ℕ)) → length rows ≤ MOST_ROWS → records_in format rows < 10 ^ 17
records_fit Fixed rows few = omega (arith, few)
records_fit Variable rows few = omega (arith, few)
records_fit Unstructured rows few = omega arith
records_fit Text rows few = omega arith

pub efid_sayable : (file : Outgoing) → IsSoundOutgoing file → IsSayable (efid_of file)
efid_sayable file sound =
    let units = outgoing_units file sound in
    sayable (efid_of file) (tt, (records_fit file.format file.rows sound.few, (omega (arith, units), tt))) refl

-- EERP and NERP

pub eerp_sayable : (file : Identity) → IsIdentity file → IsSayable (eerp_of file)
eerp_sayable file name =
    sayable (eerp_of file) (tt, (name.dataset, (tt, (name.date, (name.time, (empty_name 8, (name.originator, (name.destination, (tt, (tt, tt)))))))))) refl

pub nerp_sayable : (station : List ℕ) (file : Identity) (reason : ℕ) (text : List ℕ) → IsName 25 station → IsIdentity file → reason < 100 → AreWords text
    → IsSayable (nerp_of station file reason text)
nerp_sayable station file reason text code name short words =
    let number : reason < 10 ^ 2 = omega (arith, short) in
    let count : length text < 10 ^ 3 = omega (arith, words.0) in
    sayable (nerp_of station file reason text)
    (tt, (name.dataset, (tt, (name.date, (name.time, (name.originator, (name.destination, (code, (number, (count, ((refl, words.0, words.1), (tt, (tt, tt))))))))))))) refl

-- what is read is in its ranges

says_fit : {S : Type 0} (rows : List (Row S)) (s : S) (o : List ℕ) → EachSays rows s o → EachFits rows s
says_fit [] s o h = tt
says_fit (row ∷ rows) s o h = (h.0.0, says_fit rows s o h.1)

table_fits : {S : Type 0} (t : Table S) (s : S) (o : List ℕ) → IsSpelled t s o → EachFits t.rows s
table_fits t s o h = says_fit t.rows s o h.fields

pub spelled_fits : (c : Command) (o : List ℕ) → Spells c o → IsFit c
spelled_fits command.Ssrm o h = table_fits ssrm_table tt o h
spelled_fits (command.Ssid s) o h = table_fits ssid_table s o h
spelled_fits (command.Sfid s) o h = table_fits (sfid_table_of s) s o h
spelled_fits (command.Sfpa s) o h = table_fits sfpa_table s o h
spelled_fits (command.Sfna s) o h = table_fits (sfna_table (length s.text)) s o h
spelled_fits (command.Data s) o h = table_fits (data_table (length s)) s o h
spelled_fits command.Cdt o h = table_fits cdt_table tt o h
spelled_fits (command.Efid s) o h = table_fits efid_table s o h
spelled_fits (command.Efpa s) o h = table_fits efpa_table s o h
spelled_fits (command.Efna s) o h = table_fits (efna_table (length s.text)) s o h
spelled_fits (command.Esid s) o h = table_fits (esid_table (length s.text)) s o h
spelled_fits command.Cd o h = table_fits (single_table (codes "R")) tt o h
spelled_fits (command.Eerp s) o h = table_fits eerp_table s o h
spelled_fits (command.Nerp s) o h = table_fits (nerp_table (length s.text)) s o h
spelled_fits command.Rtr o h = table_fits (single_table (codes "P")) tt o h
