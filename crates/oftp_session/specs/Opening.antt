-- How a session opens (RFC 5024, sections 4.2, 5.3.1 and 5.3.2).
use Rattle.std.specs.Prelude.{ℕ, Bool, true, false, ◌&&◌, ◌||◌, not, ◌==◌, nat_lt, min, if◌then◌else◌, List, [], Option, None, Some, is_some, Result, Ok, Err}
use Rattle.std.specs.Str.{bytes_eq}
use Rattle.oftp_wire.specs.declared.command.Ssid.{Ssid}
use Rattle.oftp_wire.specs.declared.command.Mode.{Mode}
use Rattle.oftp_wire.specs.declared.command.Mode.TheVariants.{Send, Receive, Both}
use Rattle.oftp_wire.specs.declared.command.Command.{Command}
use Rattle.oftp_wire.specs.declared.command.Command.TheVariants as command
use Rattle.oftp_wire.specs.declared.reason.SessionReason.{SessionReason}
use Rattle.oftp_wire.specs.declared.reason.SessionReason.TheVariants.{ProtocolViolation, UserCodeNotKnown, InvalidPassword, InvalidData, ModeIncompatible, AuthenticationIncompatible}
use Rattle.oftp_partners.specs.Book.{BookData, partner_at}
use Rattle.oftp_partners.specs.declared.partner.Partner.{Partner}
use Rattle.oftp_session.specs.Links.{LinkData}
use Rattle.oftp_session.specs.declared.link.WhenDone.TheVariants.{ChangeDirection}
use Rattle.oftp_session.specs.declared.state.Contact.{Contact}
use Rattle.oftp_session.specs.Settings.{Setting}
use Rattle.oftp_session.specs.Phases.{AwaitingSsid, ListenerIdle, SpeakerIdle, Step, quiet, says, fails, unexpected}

-- whether a station in this mode sends files, and whether it receives files
abbrev pub may_send : Mode → Bool
may_send Send = true
may_send Receive = false
may_send Both = true

abbrev pub may_receive : Mode → Bool
may_receive Send = false
may_receive Receive = true
may_receive Both = true

-- whether a station in one mode sends what the other receives
abbrev pub flows : Mode → Mode → Bool
flows from to = may_send from && may_receive to

-- two stations that both only send, or both only receive: no file can go either way
abbrev pub is_opposed : Mode → Mode → Bool
is_opposed own letter = not (flows own letter) && not (flows letter own)

-- what two stations agree: the smaller buffer and credit, restart if both want it, and who sends files
abbrev pub agreed : BookData → Partner → Ssid → LinkData
agreed book partner ssid = record {
  buffer = min book.station.buffer ssid.buffer;
  credit = min book.station.credit ssid.credit;
  restart = book.station.restart && ssid.restart;
  sends = flows partner.mode ssid.mode;
  receives = flows ssid.mode partner.mode;
}

-- the partner with a code: for an initiator only the one that it called, for a responder any partner of the book
abbrev pub called_as : List ℕ → List Partner → Option Partner → Option Partner
called_as code partners None = partner_at code partners
called_as code partners (Some partner) = if bytes_eq code partner.code then Some partner else None

abbrev pub partner_for : Setting → List ℕ → Option Partner
partner_for setting code = called_as code setting.book.partners setting.called

abbrev pub is_initiator : Setting → Bool
is_initiator setting = is_some setting.called

-- the partner of a session and what is agreed with it
pub record Agreement : Type 0 where
  pub partner : Partner
  pub link : LinkData

-- what is agreed once the code is looked up: the tests after the code, in their order
abbrev pub agreement : Setting → Ssid → Option Partner → Result Agreement SessionReason
agreement setting ssid None = Err UserCodeNotKnown
agreement setting ssid (Some partner) =
    if not (bytes_eq ssid.password partner.expects) then Err InvalidPassword else (
    if is_initiator setting && (ssid.compression || ssid.special_logic) then Err ModeIncompatible else (
    if is_opposed partner.mode ssid.mode then Err ModeIncompatible else (
    if ssid.authentication then Err AuthenticationIncompatible else
    Ok (record { partner = partner; link = agreed setting.book partner ssid }))))

-- What is agreed with a partner that sends this SSID, or the reason to end the session. That is the reason of the first test that fails.
unfoldable pub ssid_verdict : Setting → Ssid → Result Agreement SessionReason
ssid_verdict setting ssid =
    if not (ssid.level == 5) then Err ModeIncompatible else (
    if nat_lt ssid.buffer 128 || ssid.credit == 0 then Err InvalidData else
    agreement setting ssid (partner_for setting ssid.code))

-- the mode that answers the partner's: if one sends, the other receives
abbrev pub answered_mode : Mode → Mode → Mode
answered_mode own Send = Receive
answered_mode own Receive = Send
answered_mode own Both = own

-- an SSID of the station; options that it doesn't support are N
abbrev pub ssid_with : BookData → Partner → ℕ → ℕ → Bool → Mode → Ssid
ssid_with book partner buffer credit restart mode = record {
  level = 5;
  code = book.station.code;
  password = partner.sends;
  buffer = buffer;
  mode = mode;
  compression = false;
  restart = restart;
  special_logic = false;
  credit = credit;
  authentication = false;
  user = [];
}

-- the responder's SSID: what was agreed
abbrev pub answering_ssid : BookData → Mode → Agreement → Ssid
answering_ssid book letter a =
    ssid_with book a.partner a.link.buffer a.link.credit a.link.restart (answered_mode a.partner.mode letter)

-- the initiator's SSID: its own offers
abbrev pub calling_ssid : BookData → Partner → Ssid
calling_ssid book partner =
    ssid_with book partner book.station.buffer book.station.credit book.station.restart partner.mode

-- an open session that has tried nothing yet
abbrev pub contact_of : Agreement → Contact
contact_of a = record { code = a.partner.code; link = a.link; tried = record { response = 0; file = 0 } }

-- a responder answers and listens; an initiator speaks
abbrev pub open_step : Setting → Mode → Agreement → Option Partner → Step
open_step setting letter a None = says (ListenerIdle (contact_of a)) (command.Ssid (answering_ssid setting.book letter a))
open_step setting letter a (Some partner) = quiet (SpeakerIdle (contact_of a) ChangeDirection)

abbrev pub opened_step : Setting → Mode → Result Agreement SessionReason → Step
opened_step setting letter (Ok a) = open_step setting letter a setting.called
opened_step setting letter (Err reason) = fails reason

-- an initiator sends its SSID to the partner that it calls; one without a partner doesn't occur, since it begins as a responder
abbrev pub calling_step : Setting → Option Partner → Step
calling_step setting (Some partner) = says AwaitingSsid (command.Ssid (calling_ssid setting.book partner))
calling_step setting None = fails ProtocolViolation

-- a command that arrives while an initiator waits for SSRM
unfoldable pub came_initiator_opening : Setting → Command → Step
came_initiator_opening setting command.Ssrm = calling_step setting setting.called
came_initiator_opening setting other = unexpected other

-- a command that arrives while the partner's SSID is missing
unfoldable pub came_awaiting_ssid : Setting → Command → Step
came_awaiting_ssid setting (command.Ssid ssid) = opened_step setting ssid.mode (ssid_verdict setting ssid)
came_awaiting_ssid setting other = unexpected other
