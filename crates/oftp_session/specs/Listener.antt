-- The station as a listener, while no file is received (RFC 5024, sections 5.3.3 to 5.3.5 and 5.3.12 to 5.3.14).
use Rattle.std.specs.Prelude.{ℕ, Bool, if◌then◌else◌, [], Option, None, Some, ◌&&◌}
use Rattle.std.specs.Str.{bytes_eq}
use Rattle.oftp_wire.specs.declared.command.Command.{Command}
use Rattle.oftp_wire.specs.declared.command.Command.TheVariants as command
use Rattle.oftp_wire.specs.declared.command.Sfid.{Sfid}
use Rattle.oftp_wire.specs.declared.reason.SessionReason.TheVariants.{InvalidData}
use Rattle.oftp_wire.specs.declared.reason.StartReason.{StartReason}
use Rattle.oftp_wire.specs.Reasons.{start_number}
use Rattle.oftp_wire.specs.declared.command.Eerp.{Eerp}
use Rattle.oftp_wire.specs.declared.command.Nerp.{Nerp}
use Rattle.oftp_vfile.specs.declared.limits.Limits.{Limits}
use Rattle.oftp_vfile.specs.VirtualFile.{units_in}
use Rattle.oftp_register.specs.declared.change.Change.{Change}
use Rattle.oftp_register.specs.declared.change.Change.TheVariants.{Start, File}
use Rattle.oftp_register.specs.declared.entry.Identity.{Identity}
use Rattle.oftp_register.specs.declared.entries.Side.TheVariants as side
use Rattle.oftp_register.specs.declared.verdicts.Terms.{Terms}
use Rattle.oftp_register.specs.declared.verdicts.StartVerdict.{StartVerdict}
use Rattle.oftp_register.specs.declared.verdicts.StartVerdict.TheVariants as start
use Rattle.oftp_register.specs.Register.{Register, Incoming, Received, has_received}
use Rattle.oftp_register.specs.Changes.{new_incoming}
use Rattle.oftp_register.specs.ByIdentity.{number_of, started_file}
use Rattle.oftp_register.specs.LookUps.{look_in, files_full}
use Rattle.oftp_register.specs.Verdicts.{start_verdict, format_of, longest_of, offered_identity}
use Rattle.oftp_register.specs.declared.entry.ResponseKind.TheVariants.{EndResponse, NegativeEndResponse}
use Rattle.oftp_session.specs.declared.state.Contact.{Contact}
use Rattle.oftp_session.specs.Settings.{Setting}
use Rattle.oftp_session.specs.Phases.{Receipt, ListenerIdle, Receiving, Step, quiet, answers, says, fails, unexpected, SpeakerIdle}
use Rattle.oftp_session.specs.declared.link.WhenDone.TheVariants.{EndSession}

-- SFID and its answers (RFC 5024, sections 5.3.3 to 5.3.5)

-- the entry of an offered file, without rows
abbrev pub offered_file : Sfid → Incoming
offered_file sfid = new_incoming (offered_identity sfid) (format_of sfid.layout) (longest_of sfid.layout) sfid.description

-- the conditions on which a file is accepted by an office with these limits
abbrev pub terms_within : Setting → Contact → Limits → Terms
terms_within setting contact limits = record {
  station = setting.book.station.code;
  partner = contact.code;
  receives = contact.link.receives;
  restart = contact.link.restart;
  limits = limits;
}

-- whether the file is accepted, and from which row on
abbrev pub verdict_on : Setting → Contact → Register → Sfid → StartVerdict
verdict_on setting contact r sfid =
    start_verdict sfid (look_in r (offered_identity sfid)) (files_full r side.Incoming) (terms_within setting contact r.limits)

-- the file is started, or goes on after its first `count` rows
abbrev pub start_of : Sfid → ℕ → Change
start_of sfid count = Start (offered_identity sfid) (format_of sfid.layout) (longest_of sfid.layout) sfid.description count

-- the file as it is received from this row on
abbrev pub receipt_of : Register → Sfid → ℕ → Receipt
receipt_of r sfid count =
    let file = started_file r (offered_file sfid) count in
    record {
      number = number_of r (offered_identity sfid);
      file = file;
      from = count;
      units = units_in file.rows;
      limit = r.limits.octets;
      payloads = [];
    }

-- the answers to SFID
abbrev pub sfpa_of : ℕ → Command
sfpa_of count = command.Sfpa (record { restart = count })

abbrev pub sfna_of : StartReason → Bool → Command
sfna_of reason retry = command.Sfna (record { reason = start_number reason; retry = retry; text = [] })

abbrev pub on_start_verdict : Contact → Register → Sfid → StartVerdict → Step
on_start_verdict contact r sfid (start.Accept count) =
    answers (Receiving contact (receipt_of r sfid count)) (Some (start_of sfid count)) (sfpa_of count)
on_start_verdict contact r sfid (start.Refuse reason retry) = says (ListenerIdle contact) (sfna_of reason retry)

unfoldable pub offer_step : Setting → Contact → Register → Sfid → Step
offer_step setting contact r sfid = on_start_verdict contact r sfid (verdict_on setting contact r sfid)

-- EERP and NERP (RFC 5024, sections 5.3.13 and 5.3.14)

-- The End-to-End Response of an EERP. It answers a file that went from the response's destination to its originator.
abbrev pub end_response : Eerp → Received
end_response eerp = record {
  kind = EndResponse;
  identity = record { dataset = eerp.dataset; date = eerp.date; time = eerp.time; originator = eerp.destination; destination = eerp.originator };
  reason = 0;
  creator = [];
  text = [];
}

-- the Negative End Response of a NERP, with its reason, creator and text
abbrev pub negative_end_response : Nerp → Received
negative_end_response nerp = record {
  kind = NegativeEndResponse;
  identity = record { dataset = nerp.dataset; date = nerp.date; time = nerp.time; originator = nerp.destination; destination = nerp.originator };
  reason = nerp.reason;
  creator = nerp.creator;
  text = nerp.text;
}

-- the change that adds a received response
abbrev pub file_of : Received → Change
file_of r = File r.kind r.identity r.reason r.creator r.text

-- the answered file went from the station to the partner
abbrev pub is_between : Setting → Contact → Identity → Bool
is_between setting contact file = bytes_eq file.originator setting.book.station.code && bytes_eq file.destination contact.code

-- a received response is added if it is new
abbrev pub filing : Register → Received → Option Change
filing r response = if has_received r response.kind response.identity then None else Some (file_of response)

-- a received response is added, if it is new, and answered
unfoldable pub response_step : Setting → Contact → Register → Received → Step
response_step setting contact r response = if is_between setting contact response.identity
    then answers (ListenerIdle contact) (filing r response) command.Rtr
    else fails InvalidData

-- a command that arrives while no file is received
unfoldable pub came_listener_idle : Setting → Contact → Register → Command → Step
came_listener_idle setting contact r (command.Sfid sfid) = offer_step setting contact r sfid
came_listener_idle setting contact r (command.Eerp eerp) = response_step setting contact r (end_response eerp)
came_listener_idle setting contact r (command.Nerp nerp) = response_step setting contact r (negative_end_response nerp)
came_listener_idle setting contact r command.Cd = quiet (SpeakerIdle contact EndSession)
came_listener_idle setting contact r other = unexpected other
