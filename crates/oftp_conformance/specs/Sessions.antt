-- How far a session is, by what both sides have said (RFC 5024, section 9).
use Rattle.std.specs.Prelude.{ℕ, ◌-◌, min, Bool, true, false, List, [], Option, Some, None, ◌==◌, if◌then◌else◌}
use Rattle.oftp_wire.specs.declared.command.Command.{Command}
use Rattle.oftp_wire.specs.declared.command.Command.TheVariants as commands
use Rattle.oftp_wire.specs.declared.command.Layout.{Layout}
use Rattle.oftp_wire.specs.declared.command.Layout.TheVariants as layouts
use Rattle.oftp_wire.specs.declared.command.Sfid.{Sfid}
use Rattle.oftp_wire.specs.declared.command.Ssid.{Ssid}
use Rattle.oftp_telling.specs.declared.kind.CommandKind.{CommandKind}
use Rattle.oftp_telling.specs.declared.kind.CommandKind.TheVariants as kinds
use Rattle.oftp_telling.specs.declared.counting.Sender.{Sender}
use Rattle.oftp_telling.specs.declared.counting.Sender.TheVariants.{Partner, Station}
use Rattle.oftp_telling.specs.Counting.{is_same}
use Rattle.oftp_conformance.specs.declared.session.Phase.{Phase}
use Rattle.oftp_conformance.specs.declared.session.Phase.TheVariants.{Greeting, Starting, Answering, Speaking, Offered, Sending, Refilling, Closing, Turning, Responding, Over}
use Rattle.oftp_conformance.specs.declared.session.Turn.{Turn}
use Rattle.oftp_conformance.specs.declared.session.Turn.TheVariants.{Kept, Given}
use Rattle.oftp_conformance.specs.declared.session.Making.{Making}
use Rattle.oftp_conformance.specs.declared.session.Making.TheVariants.{Records, Stream}
use Rattle.oftp_conformance.specs.declared.session.Session.{Session}
use Rattle.oftp_conformance.specs.declared.session.Start.{Start}
use Rattle.oftp_conformance.specs.declared.session.Transfer.{Transfer}
use Rattle.oftp_conformance.specs.Walks.{first_walk, walk_over}

-- what an SSID says
abbrev pub start_in : Ssid → Start
start_in s = record { code = s.code; buffer = s.buffer; credit = s.credit; compression = s.compression; special_logic = s.special_logic }

-- the other side
abbrev pub other : Sender → Sender
other Partner = Station
other Station = Partner

-- a session before its first command, which this side began
abbrev pub new_session : Sender → Session
new_session initiator = record {
  initiator = initiator;
  offer = None;
  answer = None;
  phase = Greeting;
  speaker = initiator;
  turn = Kept;
  credit = None;
  file = None;
}

-- a session before its first command, where the partner's first one begins as this kind does: SSRM comes from the side that was called
abbrev pub begun : Option CommandKind → Session
begun (Some kinds.Ssrm) = new_session Station
begun _ = new_session Partner

-- ---- what is agreed

-- the smaller one of two numbers, if both are known
abbrev pub smaller : (Start → ℕ) → Option Start → Option Start → Option ℕ
smaller f None b = None
smaller f (Some a) None = None
smaller f (Some a) (Some b) = Some (min (f a) (f b))

-- the Credit that both agreed on (RFC 5024, section 5.3.2)
abbrev pub agreed_credit : Session → Option ℕ
agreed_credit t = smaller (λ s. s.credit) t.offer t.answer

-- the size of the Data Exchange Buffer that both agreed on (RFC 5024, section 5.3.2)
abbrev pub agreed_buffer : Session → Option ℕ
agreed_buffer t = smaller (λ s. s.buffer) t.offer t.answer

-- the SSID of a side
abbrev pub start_of : Session → Sender → Option Start
start_of t who = if is_same who t.initiator then t.offer else t.answer

-- ---- whose command comes next, and which

-- the side whose command comes next in a phase, where these sides called and speak
abbrev pub owing_in : Phase → Sender → Sender → Sender
owing_in Greeting initiator speaker = other initiator
owing_in Starting initiator speaker = initiator
owing_in Answering initiator speaker = other initiator
owing_in Speaking initiator speaker = speaker
owing_in Offered initiator speaker = other speaker
owing_in Sending initiator speaker = speaker
owing_in Refilling initiator speaker = other speaker
owing_in Closing initiator speaker = other speaker
owing_in Turning initiator speaker = speaker
owing_in Responding initiator speaker = other speaker
owing_in Over initiator speaker = speaker

-- the side whose command comes next
abbrev pub owing : Session → Sender
owing t = owing_in t.phase t.initiator t.speaker

-- whether a phase takes commands of a kind, but for ESID, which may end each (RFC 5024, sections 9.8 to 9.11)
abbrev pub takes : Phase → CommandKind → Bool
takes Greeting kinds.Ssrm = true
takes Starting kinds.Ssid = true
takes Answering kinds.Ssid = true
takes Speaking kinds.Sfid = true
takes Speaking kinds.Eerp = true
takes Speaking kinds.Nerp = true
takes Speaking kinds.Cd = true
takes Offered kinds.Sfpa = true
takes Offered kinds.Sfna = true
takes Sending kinds.Data = true
takes Sending kinds.Efid = true
takes Refilling kinds.Cdt = true
takes Closing kinds.Efpa = true
takes Closing kinds.Efna = true
takes Turning kinds.Cd = true
takes Responding kinds.Rtr = true
takes _ _ = false

-- ---- what a command makes of a session

-- the SSID of a side in a session
abbrev pub started : Session → Sender → Option Start → Session
started t who s =
    if is_same who t.initiator then record t { offer = s; phase = Answering }
    else record t { answer = s; phase = Speaking; speaker = t.initiator; turn = Kept }

-- how a file is made
abbrev pub making_of : Layout → Making
making_of (layouts.Fixed n) = Records
making_of (layouts.Variable n) = Records
making_of layouts.Unstructured = Stream
making_of layouts.Text = Stream

-- the file that an SFID offers
abbrev pub transfer_of : Sfid → Transfer
transfer_of s = record { making = making_of s.layout; offered = s.restart; agreed = 0; walk = first_walk }

-- the file under way, from this position on if it is known
abbrev pub at_position : Option ℕ → Option Transfer → Option Transfer
at_position (Some n) (Some f) = Some (record f { agreed = n })
at_position _ _ = None

-- the speaker's turn comes again, after an answer of the other side
abbrev pub answered : Session → Sender → Session
answered t who = record t { phase = Speaking; speaker = other who; turn = Kept }

-- a file is accepted from a position on
abbrev pub accepted : Session → Sender → Option ℕ → Session
accepted t who position = record t { phase = Sending; speaker = other who; credit = agreed_credit t; file = at_position position t.file }

-- the file under way after one more buffer
abbrev pub grown : List ℕ → Option Transfer → Option Transfer
grown payload None = None
grown payload (Some f) = Some (record f { walk = walk_over f.walk payload })

-- how many DATA may come after one more
abbrev pub spent : Option ℕ → Option ℕ
spent None = None
spent (Some n) = Some (n - 1)

-- what comes after DATA, where so many may come
abbrev pub phase_after : Option ℕ → Phase
phase_after None = Sending
phase_after (Some n) = if n == 0 then Refilling else Sending

-- after DATA
abbrev pub carried : Session → Sender → List ℕ → Session
carried t who payload = record t { phase = phase_after (spent t.credit); speaker = who; credit = spent t.credit; file = grown payload t.file }

-- how the other side gets the turn by a CD in this phase
abbrev pub turn_by : Phase → Turn
turn_by Turning = Kept
turn_by _ = Given

-- after a command that could be read
abbrev pub after_command : Session → Sender → Command → Session
after_command t who commands.Ssrm = record t { phase = Starting; initiator = other who }
after_command t who (commands.Ssid s) = started t who (Some (start_in s))
after_command t who (commands.Sfid s) = record t { phase = Offered; speaker = who; file = Some (transfer_of s) }
after_command t who (commands.Sfpa s) = accepted t who (Some s.restart)
after_command t who (commands.Sfna s) = answered t who
after_command t who (commands.Data s) = carried t who s
after_command t who commands.Cdt = record t { phase = Sending; speaker = other who; credit = agreed_credit t }
after_command t who (commands.Efid s) = record t { phase = Closing; speaker = who }
after_command t who (commands.Efpa s) = if s.change_direction then record t { phase = Turning; speaker = other who } else answered t who
after_command t who (commands.Efna s) = answered t who
after_command t who (commands.Esid s) = record t { phase = Over }
after_command t who commands.Cd = record t { phase = Speaking; speaker = other who; turn = turn_by t.phase }
after_command t who (commands.Eerp s) = record t { phase = Responding; speaker = who }
after_command t who (commands.Nerp s) = record t { phase = Responding; speaker = who }
after_command t who commands.Rtr = answered t who

-- after a command of which only the kind could be read
abbrev pub after_kind : Session → Sender → CommandKind → Session
after_kind t who kinds.Ssrm = record t { phase = Starting; initiator = other who }
after_kind t who kinds.Ssid = started t who None
after_kind t who kinds.Sfid = record t { phase = Offered; speaker = who; file = None }
after_kind t who kinds.Sfpa = accepted t who None
after_kind t who kinds.Sfna = answered t who
after_kind t who kinds.Data = carried t who []
after_kind t who kinds.Cdt = record t { phase = Sending; speaker = other who; credit = agreed_credit t }
after_kind t who kinds.Efid = record t { phase = Closing; speaker = who }
after_kind t who kinds.Efpa = answered t who
after_kind t who kinds.Efna = answered t who
after_kind t who kinds.Esid = record t { phase = Over }
after_kind t who kinds.Cd = record t { phase = Speaking; speaker = other who; turn = turn_by t.phase }
after_kind t who kinds.Eerp = record t { phase = Responding; speaker = who }
after_kind t who kinds.Nerp = record t { phase = Responding; speaker = who }
after_kind t who kinds.Rtr = answered t who
