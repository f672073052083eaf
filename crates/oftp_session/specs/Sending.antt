-- How a speaker sends a file: the answer to SFID, DATA, EFID and its answer (RFC 5024, sections 5.3.4 to 5.3.10).
use Rattle.std.specs.Prelude.{ℕ, ◌+◌, ◌-◌, ◌*◌, ◌==◌, ◌&&◌, Bool, true, false, nat_le, nat_lt, if◌then◌else◌, List, drop, Option, None, Some, slice_get}
use Rattle.oftp_wire.specs.declared.command.Command.{Command}
use Rattle.oftp_wire.specs.declared.command.Command.TheVariants as command
use Rattle.oftp_wire.specs.declared.command.Sfna.{Sfna}
use Rattle.oftp_wire.specs.declared.reason.StartReason.TheVariants.{DuplicateFile}
use Rattle.oftp_wire.specs.declared.reason.SessionReason.TheVariants.{ProtocolViolation}
use Rattle.oftp_wire.specs.Reasons.{start_number}
use Rattle.oftp_vfile.specs.VirtualFile.{records_in, units_in}
use Rattle.oftp_vfile.specs.Fill.{payloads_of, wholly_sent}
use Rattle.oftp_register.specs.declared.change.Change.{Change}
use Rattle.oftp_register.specs.declared.change.Change.TheVariants.{Mark, BeginClosing, HandOver, Refuse, Reopen}
use Rattle.oftp_register.specs.declared.entry.OutgoingState.TheVariants.{Waiting, Closing}
use Rattle.oftp_register.specs.Register.{Outgoing}
use Rattle.oftp_register.specs.Changes.{is_closing}
use Rattle.oftp_session.specs.declared.link.WhenDone.TheVariants.{ChangeDirection}
use Rattle.oftp_session.specs.declared.state.Contact.{Contact}
use Rattle.oftp_session.specs.Receiving.{window}
use Rattle.oftp_session.specs.Phases.{Phase, Offer, Transfer, SpeakerIdle, GivingWay, Sending, AwaitingEnd, Step, quiet, changes, answers, says, fails, unexpected}

-- the answer to SFID (RFC 5024, sections 5.3.4 and 5.3.5)

-- a file whose end was sent, and that the partner accepts again, is reopened
abbrev pub reopening : Offer → Option Change
reopening offer = if is_closing offer.file.state then Some (Reopen offer.number) else None

abbrev pub reopened_file : Outgoing → Outgoing
reopened_file file = if is_closing file.state then record file { state = Waiting; mark = 0 } else file

-- the file is sent from this row on
abbrev pub transfer_of : Offer → ℕ → Transfer
transfer_of offer from = record { number = offer.number; file = reopened_file offer.file; from = from; sent = 0; credits = 0 }

-- The file isn't accepted. A duplicate whose end was sent is handed over. Another file is refused, unless it may be offered again.
abbrev pub refusal : Offer → Sfna → Option Change
refusal offer sfna = if sfna.reason == start_number DuplicateFile && is_closing offer.file.state
    then Some (HandOver offer.number)
    else (if sfna.retry then None else Some (Refuse offer.number sfna.reason))

-- the file is sent from a row on that isn't above the offered one
abbrev pub start_step : Contact → Offer → ℕ → Step
start_step contact offer from = if nat_le from offer.from
    then changes (Sending contact (transfer_of offer from)) (reopening offer)
    else fails ProtocolViolation

unfoldable pub came_awaiting_start : Contact → Offer → Command → Step
came_awaiting_start contact offer (command.Sfpa sfpa) = start_step contact offer sfpa.restart
came_awaiting_start contact offer (command.Sfna sfna) = changes (SpeakerIdle contact ChangeDirection) (refusal offer sfna)
came_awaiting_start contact offer other = unexpected other

-- DATA and CDT (RFC 5024, sections 5.3.6 and 5.3.7)

-- the rows that are sent
abbrev pub rows_from : Transfer → List (List ℕ)
rows_from t = drop t.from t.file.rows

-- the greatest payload in octets: a DATA is its command octet and a payload
abbrev pub payload_size : Contact → ℕ
payload_size contact = contact.link.buffer - 1

-- the payloads of these rows
abbrev pub payloads_in : Contact → Transfer → List (List ℕ)
payloads_in contact t = payloads_of t.file.format (payload_size contact) (rows_from t)

-- how many commands may be sent before the next CDT
abbrev pub credit_left : Contact → Transfer → ℕ
credit_left contact t = (t.credits + 1) * window contact - t.sent

-- how many rows were wholly sent, from the file's first one on (RFC 5024, section 1.5.4)
abbrev pub new_mark : Contact → Transfer → ℕ
new_mark contact t = t.from + wholly_sent t.file.format (payload_size contact) (rows_from t) t.sent

abbrev pub marking : Transfer → ℕ → Option Change
marking t mark = if mark == t.file.mark then None else Some (Mark t.number mark)

-- the credit is full again, and the rows that were wholly sent are marked
abbrev pub credited_transfer : Transfer → ℕ → Transfer
credited_transfer t mark = record t { file = record t.file { mark = mark }; credits = t.credits + 1 }

abbrev pub credited : Contact → Transfer → ℕ → Step
credited contact t mark = changes (Sending contact (credited_transfer t mark)) (marking t mark)

unfoldable pub came_sending : Contact → Transfer → Command → Step
came_sending contact t command.Cdt = if nat_lt 0 (credit_left contact t)
    then fails ProtocolViolation
    else credited contact t (new_mark contact t)
came_sending contact t other = unexpected other

-- the counts of the whole file (RFC 5024, section 5.3.8)
abbrev pub efid_of : Outgoing → Command
efid_of file = command.Efid (record { records = records_in file.format file.rows; units = units_in file.rows })

-- one more payload was sent
abbrev pub with_sent : Transfer → Transfer
with_sent t = record t { sent = t.sent + 1 }

-- the end of the file was sent
abbrev pub closing_transfer : Transfer → Transfer
closing_transfer t = record t { file = record t.file { state = Closing } }

-- the next DATA or EFID
abbrev pub sends_next : Contact → Transfer → Option (List ℕ) → Step
sends_next contact t (Some payload) = says (Sending contact (with_sent t)) (command.Data payload)
sends_next contact t None = answers (AwaitingEnd contact (closing_transfer t)) (Some (BeginClosing t.number)) (efid_of t.file)

-- DATA and EFID are sent only while credit is left
unfoldable pub turned_sending : Contact → Transfer → Step
turned_sending contact t = if nat_lt 0 (credit_left contact t)
    then sends_next contact t (slice_get (payloads_in contact t) t.sent)
    else quiet (Sending contact t)

-- the answer to EFID (RFC 5024, sections 5.3.9 and 5.3.10)

-- the partner asks to speak, or not
abbrev pub after_file : Contact → Bool → Phase
after_file contact true = GivingWay contact
after_file contact false = SpeakerIdle contact ChangeDirection

unfoldable pub came_awaiting_end : Contact → Transfer → Command → Step
came_awaiting_end contact t (command.Efpa efpa) = changes (after_file contact efpa.change_direction) (Some (HandOver t.number))
came_awaiting_end contact t (command.Efna efna) = changes (SpeakerIdle contact ChangeDirection) (Some (Reopen t.number))
came_awaiting_end contact t other = unexpected other
