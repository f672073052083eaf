-- Whether a listener accepts a file.
use Rattle.std.specs.Prelude.{ℕ, ◌/◌, ◌==◌, ◌&&◌, not, Bool, true, false, nat_le, nat_lt, min, if◌then◌else◌, List, [], ◌∷◌, Option, None, Some, is_none}
use Rattle.std.specs.Str.{bytes_eq}
use Rattle.oftp_vfile.specs.declared.format.Format.{Format}
use Rattle.oftp_vfile.specs.declared.format.Format.TheVariants.{Fixed, Variable, Unstructured, Text}
use Rattle.oftp_wire.specs.declared.command.Efid.{Efid}
use Rattle.oftp_wire.specs.declared.command.Sfid.{Sfid}
use Rattle.oftp_wire.specs.declared.command.Layout.{Layout}
use Rattle.oftp_wire.specs.declared.command.Layout.TheVariants as layout
use Rattle.oftp_wire.specs.declared.reason.StartReason.TheVariants.{InvalidFilename, InvalidDestination, InvalidOrigin, MaximumRecordLengthNotSupported, FileSizeTooBig, DuplicateFile, FileDirectionRefused, Unspecified}
use Rattle.oftp_wire.specs.declared.reason.EndReason.TheVariants.{InvalidRecordCount, InvalidByteCount}
use Rattle.oftp_register.specs.declared.entry.Identity.{Identity}
use Rattle.oftp_register.specs.declared.entry.IncomingState.{IncomingState}
use Rattle.oftp_register.specs.declared.entry.IncomingState.TheVariants.{Open, Whole}
use Rattle.oftp_register.specs.declared.entries.IncomingEntry.{IncomingEntry}
use Rattle.oftp_register.specs.declared.verdicts.TheConstants.{SIZE_UNIT}
use Rattle.oftp_register.specs.declared.verdicts.Terms.{Terms}
use Rattle.oftp_register.specs.declared.verdicts.StartVerdict.{StartVerdict}
use Rattle.oftp_register.specs.declared.verdicts.StartVerdict.TheVariants as start
use Rattle.oftp_register.specs.declared.verdicts.EndVerdict.{EndVerdict}
use Rattle.oftp_register.specs.declared.verdicts.EndVerdict.TheVariants as «end»
use Rattle.oftp_vfile.specs.declared.format.TheConstants.{LONGEST_RECORD}

-- the identity of an offered file
abbrev pub offered_identity : Sfid → Identity
offered_identity sfid = record { dataset = sfid.dataset; date = sfid.date; time = sfid.time; originator = sfid.originator; destination = sfid.destination }

-- its format
abbrev pub format_of : Layout → Format
format_of (layout.Fixed longest) = Fixed
format_of (layout.Variable longest) = Variable
format_of layout.Unstructured = Unstructured
format_of layout.Text = Text

-- its longest record
abbrev pub longest_of : Layout → ℕ
longest_of (layout.Fixed longest) = longest
longest_of (layout.Variable longest) = longest
longest_of layout.Unstructured = 0
longest_of layout.Text = 0

-- both are one format
abbrev pub same_format : Format → Format → Bool
same_format Fixed Fixed = true
same_format Variable Variable = true
same_format Unstructured Unstructured = true
same_format Text Text = true
same_format a b = false

-- its longest record is 1 to 16,384 octets in F and V
abbrev pub has_length : Layout → Bool
has_length (layout.Fixed longest) = nat_lt 0 longest && nat_le longest LONGEST_RECORD
has_length (layout.Variable longest) = nat_lt 0 longest && nat_le longest LONGEST_RECORD
has_length layout.Unstructured = true
has_length layout.Text = true

-- the security level is 00, nothing is encrypted, compressed or enveloped, and no signed response is asked for
abbrev pub is_plain : Sfid → Bool
is_plain sfid = sfid.security == 0 && (sfid.cipher == 0 && (sfid.compression == 0 && (sfid.enveloping == 0 && not sfid.signed_response)))

-- The row from which a file goes on: at most the one from which it is offered. It is the first row if the file is new, or if restart
-- isn't agreed. So it is if the file is kept in another format or with another longest record.
abbrev pub restart_position : Sfid → Option IncomingEntry → Bool → ℕ
restart_position sfid None restart = 0
restart_position sfid (Some entry) restart =
    if restart && (same_format entry.format (format_of sfid.layout) && entry.longest == longest_of sfid.layout) then min sfid.restart entry.rows else 0

-- it has all its rows
abbrev pub is_whole : IncomingState → Bool
is_whole Open = false
is_whole Whole = true

-- the file was received before
abbrev pub is_received : Option IncomingEntry → Bool
is_received None = false
is_received (Some entry) = is_whole entry.state

-- no octet
abbrev pub is_empty : List ℕ → Bool
is_empty [] = true
is_empty (x ∷ xs) = false

-- The answer to SFID (RFC 5024, sections 5.3.3 to 5.3.5). The first test that applies decides.
abbrev pub start_verdict : Sfid → Option IncomingEntry → Bool → Terms → StartVerdict
start_verdict sfid found is_full terms =
    if not terms.receives then start.Refuse FileDirectionRefused false
    else (if not (is_plain sfid) then start.Refuse Unspecified false
    else (if is_empty sfid.dataset then start.Refuse InvalidFilename false
    else (if not (bytes_eq sfid.destination terms.station) then start.Refuse InvalidDestination false
    else (if not (bytes_eq sfid.originator terms.partner) then start.Refuse InvalidOrigin false
    else (if not (has_length sfid.layout) then start.Refuse MaximumRecordLengthNotSupported false
    else (if nat_lt (terms.limits.octets / SIZE_UNIT) sfid.size then start.Refuse FileSizeTooBig false
    else (if is_received found then start.Refuse DuplicateFile false
    else (if is_none found && is_full then start.Refuse Unspecified true
    else start.Accept (restart_position sfid found terms.restart)))))))))

-- the answer to EFID, by the counts of the whole file (RFC 5024, sections 5.3.8 to 5.3.10)
abbrev pub end_verdict : Efid → ℕ → ℕ → EndVerdict
end_verdict efid records units =
    if not (efid.records == records) then «end».Refuse InvalidRecordCount
    else (if not (efid.units == units) then «end».Refuse InvalidByteCount
    else «end».Accept)
