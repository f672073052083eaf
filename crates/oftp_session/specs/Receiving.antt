-- How a listener receives a file: DATA to EFPA (RFC 5024, sections 5.3.6 to 5.3.10).
use Rattle.std.specs.Prelude.{ℕ, ◌+◌, ◌-◌, ◌%◌, ◌==◌, Bool, false, nat_lt, max, if◌then◌else◌, List, [], ◌∷◌, ◌++◌, length, drop, Option, None, Some, is_some, unwrap_or, Result, Ok, Err}
use Rattle.oftp_wire.specs.declared.command.Command.{Command}
use Rattle.oftp_wire.specs.declared.command.Command.TheVariants as command
use Rattle.oftp_wire.specs.declared.command.Efid.{Efid}
use Rattle.oftp_wire.specs.declared.reason.SessionReason.{SessionReason}
use Rattle.oftp_wire.specs.declared.reason.SessionReason.TheVariants.{ProtocolViolation, InvalidData, BufferSizeError}
use Rattle.oftp_wire.specs.declared.reason.EndReason.{EndReason}
use Rattle.oftp_wire.specs.Reasons.{end_number}
use Rattle.oftp_vfile.specs.declared.fault.TakeFault.{TakeFault}
use Rattle.oftp_vfile.specs.declared.fault.TakeFault.TheVariants.{Cut, Compressed, RecordSize, AfterEnd, TooBig, Memory}
use Rattle.oftp_vfile.specs.VirtualFile.{closed}
use Rattle.oftp_vfile.specs.Carries.{is_open}
use Rattle.oftp_vfile.specs.Taking.{Taking, new_taking, counts_of}
use Rattle.oftp_vfile.specs.Reading.{taken, taken_all}
use Rattle.oftp_register.specs.declared.change.Change.{Change}
use Rattle.oftp_register.specs.declared.change.Change.TheVariants.{Keep, Close, GiveUp}
use Rattle.oftp_register.specs.declared.verdicts.EndVerdict.{EndVerdict}
use Rattle.oftp_register.specs.declared.verdicts.EndVerdict.TheVariants as «end»
use Rattle.oftp_register.specs.Register.{Register}
use Rattle.oftp_register.specs.LookUps.{next_item}
use Rattle.oftp_register.specs.Verdicts.{end_verdict}
use Rattle.oftp_session.specs.declared.state.Contact.{Contact}
use Rattle.oftp_session.specs.Phases.{Receipt, ListenerIdle, Receiving, Step, quiet, answers, fails, unexpected}

-- DATA and CDT (RFC 5024, sections 5.3.6, 5.3.7 and 7)

-- the taker of a file that is received from a row on
abbrev pub taker_of : Receipt → Taking
taker_of f = new_taking f.file.format f.file.longest f.from f.units f.limit

-- what all payloads since SFPA carry
abbrev pub carried_by : Receipt → Taking
carried_by f = taken_all (taker_of f) f.payloads

-- how many of the received rows are stored
abbrev pub kept_of : Receipt → ℕ
kept_of f = length f.file.rows - f.from

-- the rows that these payloads carry, without those that are stored
abbrev pub rows_to_keep : Receipt → Taking → List (List ℕ)
rows_to_keep f t = drop (kept_of f) t.rows

-- the rows are stored, if there are any
abbrev pub keeping : ℕ → List (List ℕ) → Option Change
keeping number [] = None
keeping number (row ∷ rows) = Some (Keep number (row ∷ rows))

-- the reason of the ESID that answers a faulty payload (RFC 5024, section 5.3.11); out of memory has none
abbrev pub reason_of : TakeFault → Option SessionReason
reason_of Cut = Some InvalidData
reason_of Compressed = Some ProtocolViolation
reason_of RecordSize = Some InvalidData
reason_of AfterEnd = Some ProtocolViolation
reason_of TooBig = Some InvalidData
reason_of Memory = None

-- A faulty payload ends the session. A fault without a reason doesn't occur: `taken` refuses no payload for memory.
abbrev pub ends_at : TakeFault → Step
ends_at fault = fails (unwrap_or (reason_of fault) ProtocolViolation)

-- one more payload was received
abbrev pub with_payload : Receipt → List ℕ → Receipt
with_payload f payload = record f { payloads = f.payloads ++ payload ∷ [] }

-- rows of the file are stored
abbrev pub with_rows : Receipt → List (List ℕ) → Receipt
with_rows f rows = record f { file = record f.file { rows = f.file.rows ++ rows } }

-- how many DATA the partner may send before CDT: the agreed number, which is at least 1
abbrev pub window : Contact → ℕ
window contact = max 1 contact.link.credit

-- the number of payloads is a multiple of the window: the partner waits for CDT
abbrev pub is_window_full : Contact → Receipt → Bool
is_window_full contact f = length f.payloads % window contact == 0

-- the step after a payload, with CDT if the credit is used up
abbrev pub window_step : Contact → Receipt → List (List ℕ) → Step
window_step contact f rows = if is_window_full contact f
    then answers (Receiving contact (with_rows f rows)) (keeping f.number rows) command.Cdt
    else quiet (Receiving contact f)

abbrev pub on_taken : Contact → Receipt → List ℕ → Result Taking TakeFault → Step
on_taken contact f payload (Ok t) = window_step contact (with_payload f payload) (rows_to_keep f t)
on_taken contact f payload (Err fault) = ends_at fault

-- the command octet counts
unfoldable pub data_step : Contact → Receipt → List ℕ → Step
data_step contact f payload = if nat_lt contact.link.buffer (length payload + 1)
    then fails BufferSizeError
    else on_taken contact f payload (taken (carried_by f) payload)

-- EFID (RFC 5024, sections 5.3.8 to 5.3.10)

-- there is a response to this partner that wasn't tried: the station asks to speak
abbrev pub asks_to_speak : Contact → Register → Bool
asks_to_speak contact r = is_some (next_item r contact.code contact.tried false)

-- the answers to EFID
abbrev pub efpa_of : Bool → Command
efpa_of speaks = command.Efpa (record { change_direction = speaks })

abbrev pub efna_of : EndReason → Command
efna_of reason = command.Efna (record { reason = end_number reason; text = [] })

abbrev pub on_end_verdict : Contact → Register → Receipt → Taking → EndVerdict → Step
on_end_verdict contact r f t «end».Accept =
    answers (ListenerIdle contact) (Some (Close f.number (closed (rows_to_keep f t) t.tail))) (efpa_of (asks_to_speak contact r))
on_end_verdict contact r f t («end».Refuse reason) = answers (ListenerIdle contact) (Some (GiveUp f.number)) (efna_of reason)

abbrev pub on_end : Contact → Register → Receipt → Efid → Taking → Step
on_end contact r f efid t = if is_open t.stage
    then fails ProtocolViolation
    else on_end_verdict contact r f t (end_verdict efid (counts_of t).0 (counts_of t).1)

unfoldable pub end_step : Contact → Register → Receipt → Efid → Step
end_step contact r f efid = on_end contact r f efid (carried_by f)

-- a command that arrives while a file is received
unfoldable pub came_receiving : Contact → Register → Receipt → Command → Step
came_receiving contact r f (command.Data payload) = data_step contact f payload
came_receiving contact r f (command.Efid efid) = end_step contact r f efid
came_receiving contact r f other = unexpected other
