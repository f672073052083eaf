-- The station as a speaker, between files (RFC 5024, sections 5.3.3 and 5.3.11 to 5.3.15).
use Rattle.std.specs.Prelude.{ℕ, ◌+◌, ◌/◌, false, if◌then◌else◌, List, [], Option, None, Some}
use Rattle.oftp_wire.specs.declared.command.Command.{Command}
use Rattle.oftp_wire.specs.declared.command.Command.TheVariants as command
use Rattle.oftp_wire.specs.declared.command.Layout.{Layout}
use Rattle.oftp_wire.specs.declared.command.Layout.TheVariants as layout
use Rattle.oftp_wire.specs.declared.reason.SessionReason.TheVariants.{Normal}
use Rattle.oftp_vfile.specs.declared.format.Format.{Format}
use Rattle.oftp_vfile.specs.declared.format.Format.TheVariants.{Fixed, Variable, Unstructured, Text}
use Rattle.oftp_vfile.specs.declared.format.TheConstants.{BLOCK}
use Rattle.oftp_vfile.specs.VirtualFile.{units_in}
use Rattle.oftp_register.specs.declared.change.Change.TheVariants.{Send}
use Rattle.oftp_register.specs.declared.entry.Identity.{Identity}
use Rattle.oftp_register.specs.declared.entry.ResponseKind.{ResponseKind}
use Rattle.oftp_register.specs.declared.entry.ResponseKind.TheVariants.{EndResponse, NegativeEndResponse}
use Rattle.oftp_register.specs.declared.entries.IssuedEntry.{IssuedEntry}
use Rattle.oftp_register.specs.declared.entries.Item.{Item}
use Rattle.oftp_register.specs.declared.entries.Item.TheVariants as item
use Rattle.oftp_register.specs.Register.{Register, Outgoing}
use Rattle.oftp_register.specs.LookUps.{entry_at, next_item}
use Rattle.oftp_session.specs.declared.link.WhenDone.{WhenDone}
use Rattle.oftp_session.specs.declared.link.WhenDone.TheVariants.{ChangeDirection, EndSession}
use Rattle.oftp_session.specs.declared.state.Contact.{Contact}
use Rattle.oftp_session.specs.Settings.{Setting}
use Rattle.oftp_session.specs.Phases.{ListenerIdle, SpeakerIdle, AwaitingRtr, AwaitingStart, Offer, Step, changes, says, fails, unexpected}

-- nothing is left to send: the partner speaks, or the session ends
abbrev pub nothing_next : Contact → WhenDone → Step
nothing_next contact ChangeDirection = says (ListenerIdle contact) command.Cd
nothing_next contact EndSession = fails Normal

-- A response is next (RFC 5024, sections 5.3.13 to 5.3.15). It goes to the file's originator, and comes from its destination.

abbrev pub eerp_of : Identity → Command
eerp_of file = command.Eerp (record {
  dataset = file.dataset;
  date = file.date;
  time = file.time;
  user = [];
  destination = file.originator;
  originator = file.destination;
})

-- the station itself is the creator
abbrev pub nerp_of : List ℕ → Identity → ℕ → List ℕ → Command
nerp_of station file reason text = command.Nerp (record {
  dataset = file.dataset;
  date = file.date;
  time = file.time;
  destination = file.originator;
  originator = file.destination;
  creator = station;
  reason = reason;
  text = text;
})

abbrev pub response_of : List ℕ → IssuedEntry → ResponseKind → Command
response_of station e EndResponse = eerp_of e.identity
response_of station e NegativeEndResponse = nerp_of station e.identity e.response.reason e.response.text

-- responses up to this number were tried, and files up to this one
abbrev pub having_tried_response : Contact → ℕ → Contact
having_tried_response contact number = record contact { tried = record contact.tried { response = number } }

abbrev pub having_tried_file : Contact → ℕ → Contact
having_tried_file contact number = record contact { tried = record contact.tried { file = number } }

abbrev pub responds : Setting → Contact → IssuedEntry → Step
responds setting contact e =
    says (AwaitingRtr (having_tried_response contact e.no) e.no) (response_of setting.book.station.code e e.response.kind)

-- RTR after a response: the response was sent
unfoldable pub came_awaiting_rtr : Contact → ℕ → Command → Step
came_awaiting_rtr contact number command.Rtr = changes (SpeakerIdle contact ChangeDirection) (Some (Send number))
came_awaiting_rtr contact number other = unexpected other

-- A file is next (RFC 5024, section 5.3.3).

abbrev pub layout_of : Format → ℕ → Layout
layout_of Fixed longest = layout.Fixed longest
layout_of Variable longest = layout.Variable longest
layout_of Unstructured longest = layout.Unstructured
layout_of Text longest = layout.Text

-- a number of octets in blocks of 1024, rounded up
abbrev pub blocks : ℕ → ℕ
blocks octets = (octets + 1023) / BLOCK

-- SFID of a file; options that the station doesn't support are 0 or N
abbrev pub sfid_of : Outgoing → ℕ → Command
sfid_of file from = command.Sfid (record {
  dataset = file.identity.dataset;
  date = file.identity.date;
  time = file.identity.time;
  user = [];
  destination = file.identity.destination;
  originator = file.identity.originator;
  layout = layout_of file.format file.longest;
  size = blocks (units_in file.rows);
  original_size = blocks (units_in file.rows);
  restart = from;
  security = 0;
  cipher = 0;
  compression = 0;
  enveloping = 0;
  signed_response = false;
  description = file.description;
})

-- the row from which a file is offered: its mark, if restart is agreed, and else 0
abbrev pub offered_from : Contact → Outgoing → ℕ
offered_from contact file = if contact.link.restart then file.mark else 0

abbrev pub offer_of : Contact → ℕ → Outgoing → Offer
offer_of contact number file = record { number = number; file = file; from = offered_from contact file }

-- the file with a number is offered; one without an entry doesn't occur, since the next item is one of the register's
abbrev pub offers : Contact → WhenDone → ℕ → Option Outgoing → Step
offers contact done number (Some file) =
    says (AwaitingStart (having_tried_file contact number) (offer_of contact number file)) (sfid_of file (offered_from contact file))
offers contact done number None = nothing_next contact done

-- what is next
abbrev pub on_item : Setting → Contact → WhenDone → Register → Option Item → Step
on_item setting contact done r (Some (item.Response e)) = responds setting contact e
on_item setting contact done r (Some (item.File e)) = offers contact done e.no (entry_at e.no r.outgoing)
on_item setting contact done r None = nothing_next contact done

-- a response that is due goes first, then a file if the station sends files; each is tried once in a session
unfoldable pub speaks : Setting → Contact → WhenDone → Register → Step
speaks setting contact done r = on_item setting contact done r (next_item r contact.code contact.tried contact.link.sends)
