-- Which rules a command breaks by its place in a session, and by what the other side has said (RFC 5024, sections 5.3 and 9).
use Rattle.std.specs.Prelude.{ℕ, ◌+◌, Bool, true, false, ◌&&◌, not, nat_lt, List, [], ◌∷◌, length, codes, ◌==◌, if◌then◌else◌, Option, Some, None}
use Rattle.std.specs.Str.{bytes_eq}
use Rattle.oftp_vfile.specs.declared.taking.Stage.{Stage}
use Rattle.oftp_vfile.specs.declared.taking.Stage.TheVariants as stages
use Rattle.oftp_wire.specs.declared.command.Command.{Command}
use Rattle.oftp_wire.specs.declared.command.Command.TheVariants as commands
use Rattle.oftp_wire.specs.declared.command.Efid.{Efid}
use Rattle.oftp_wire.specs.declared.command.Sfid.{Sfid}
use Rattle.oftp_wire.specs.declared.command.Ssid.{Ssid}
use Rattle.oftp_telling.specs.declared.kind.CommandKind.{CommandKind}
use Rattle.oftp_telling.specs.declared.kind.CommandKind.TheVariants as kinds
use Rattle.oftp_telling.specs.declared.counting.Sender.{Sender}
use Rattle.oftp_telling.specs.Counting.{is_same}
use Rattle.oftp_conformance.specs.declared.order_rule.OrderRule.{OrderRule}
use Rattle.oftp_conformance.specs.declared.order_rule.OrderRule.TheVariants as rules
use Rattle.oftp_conformance.specs.declared.session.Making.{Making}
use Rattle.oftp_conformance.specs.declared.session.Making.TheVariants as makings
use Rattle.oftp_conformance.specs.declared.session.Phase.{Phase}
use Rattle.oftp_conformance.specs.declared.session.Phase.TheVariants as phases
use Rattle.oftp_conformance.specs.declared.session.Session.{Session}
use Rattle.oftp_conformance.specs.declared.session.Start.{Start}
use Rattle.oftp_conformance.specs.declared.session.Transfer.{Transfer}
use Rattle.oftp_conformance.specs.declared.session.Turn.{Turn}
use Rattle.oftp_conformance.specs.declared.session.Turn.TheVariants.{Kept, Given}
use Rattle.oftp_conformance.specs.Sessions.{other, owing, takes, start_of, agreed_buffer}
use Rattle.oftp_conformance.specs.declared.walk.Walk.{Walk}
use Rattle.oftp_conformance.specs.Walks.{capped, walk_over}

-- a rule, if it is broken
abbrev pub rule_if : Bool → OrderRule → Option OrderRule
rule_if true r = Some r
rule_if false r = None

-- ---- the place

-- whether it is the speaker's turn
abbrev pub is_speaking : Phase → Bool
is_speaking phases.Speaking = true
is_speaking _ = false

-- whether the speaker got its turn by a CD that it hadn't asked for
abbrev pub is_given : Turn → Bool
is_given Kept = false
is_given Given = true

-- whether the speaker got its turn by a CD that it hadn't asked for, and has sent nothing since
abbrev pub is_fresh : Session → Bool
is_fresh t = is_speaking t.phase && is_given t.turn

-- the rule that an ESID breaks: only one of the speaker, after such a CD, may have the reason 00 (RFC 5024, section 3.4.1)
abbrev pub end_rule : Session → Sender → Option Command → Option OrderRule
end_rule t who (Some (commands.Esid s)) = rule_if (s.reason == 0 && not (is_same who t.speaker && is_fresh t)) rules.EarlyEnd
end_rule t who _ = None

-- the rule that a command breaks which a phase doesn't take, or not from this side
abbrev pub misplaced : Phase → CommandKind → OrderRule
misplaced phases.Refilling kinds.Data = rules.MissingCredit
misplaced phases.Refilling kinds.Efid = rules.MissingCredit
misplaced phases.Responding kind = rules.BeforeReady
misplaced phases.Turning kind = rules.NoTurn
misplaced phase kinds.Cdt = rules.EarlyCredit
misplaced phase kind = rules.OutOfPlace

-- the rule that a command breaks in its place: a CD right after one that wasn't asked for (RFC 5024, section 3.3.4.2)
abbrev pub due_rule : Session → CommandKind → Option OrderRule
due_rule t kinds.Cd = rule_if (is_fresh t) rules.SecondTurn
due_rule t _ = None

-- the rule that a command breaks by its place
abbrev pub place_rule : Session → Sender → CommandKind → Option Command → Option OrderRule
place_rule t who kinds.Esid c = end_rule t who c
place_rule t who kind c = if is_same who (owing t) && takes t.phase kind then due_rule t kind else Some (misplaced t.phase kind)

-- ---- what it says

-- none of three rules
abbrev pub no_rules : List (Option OrderRule)
no_rules = None ∷ None ∷ None ∷ []

-- the rules that an answer breaks, where this was offered (RFC 5024, section 5.3.2)
abbrev pub answer_rules : Option Start → Ssid → List (Option OrderRule)
answer_rules None s = no_rules
answer_rules (Some o) s =
    rule_if (nat_lt o.credit s.credit) rules.CreditRaised
    ∷ rule_if (s.compression && not o.compression) rules.CompressionAnswered
    ∷ rule_if (s.special_logic && not o.special_logic) rules.LogicAnswered
    ∷ []

-- the rules that an SSID breaks, which is an answer if this side was called
abbrev pub start_rules : Session → Sender → Ssid → List (Option OrderRule)
start_rules t who s = if is_same who t.initiator then no_rules else answer_rules t.offer s

-- whether a code isn't that of a side whose SSID is known
abbrev pub is_other_code : Option Start → List ℕ → Bool
is_other_code None code = false
is_other_code (Some s) code = not (bytes_eq s.code code)

-- the rules that an SFID breaks
abbrev pub file_rules : Session → Sender → Sfid → List (Option OrderRule)
file_rules t who s =
    rule_if (is_other_code (start_of t who) s.originator) rules.OtherOriginator
    ∷ rule_if (is_other_code (start_of t (other who)) s.destination) rules.OtherDestination
    ∷ None ∷ []

-- the rules that an SFPA with this position breaks (RFC 5024, section 5.3.4)
abbrev pub position_rules : Option Transfer → ℕ → List (Option OrderRule)
position_rules None n = no_rules
position_rules (Some f) n = rule_if (nat_lt f.offered n) rules.PositionRaised ∷ None ∷ None ∷ []

-- whether DATA with so many octets of a file are longer than the buffer
abbrev pub is_too_long : Option ℕ → ℕ → Bool
is_too_long None n = false
is_too_long (Some most) n = nat_lt most (n + 1)

-- a walk over the next buffer of a stream, if this file is one
abbrev pub stream_walk : Making → Walk → List ℕ → Option Walk
stream_walk makings.Records w payload = None
stream_walk makings.Stream w payload = Some (walk_over w payload)

-- a walk over the next buffer of a file that is known
abbrev pub file_walk : Option Transfer → List ℕ → Option Walk
file_walk None payload = None
file_walk (Some f) payload = stream_walk f.making f.walk payload

-- whether subrecords that say something are behind the end of a stream (RFC 5024, section 7.2)
abbrev pub goes_beyond : Option Walk → Bool
goes_beyond None = false
goes_beyond (Some w) = w.beyond

-- whether empty subrecords are behind the end of a stream (RFC 5024, section 7.3)
abbrev pub is_hollow : Option Walk → Bool
is_hollow None = false
is_hollow (Some w) = w.hollow

-- the rules that DATA break
abbrev pub data_rules : Session → List ℕ → List (Option OrderRule)
data_rules t payload =
    rule_if (is_too_long (agreed_buffer t) (length payload)) rules.TooLong
    ∷ rule_if (goes_beyond (file_walk t.file payload)) rules.BehindEnd
    ∷ rule_if (is_hollow (file_walk t.file payload)) rules.EmptyBehind
    ∷ []

-- whether a record, or a stream, was begun and not ended
abbrev pub is_open : Stage → Bool
is_open stages.Fresh = false
is_open stages.Open = true
is_open stages.Ended = false

-- the rule that a record count breaks, where so many records came: the count is of the whole file (RFC 5024, section 5.3.8)
abbrev pub record_rule : Making → ℕ → ℕ → Option OrderRule
record_rule makings.Stream came n = rule_if (not (n == 0)) rules.StreamRecords
record_rule makings.Records came n = rule_if (not (n == came)) (rules.Records came)

-- the rule that a unit count breaks, where so many octets came; after a restart it isn't known how many came before
abbrev pub unit_rule : ℕ → ℕ → ℕ → Option OrderRule
unit_rule agreed came n = rule_if (agreed == 0 && not (n == came)) (rules.Units came)

-- the rules that an EFID breaks
abbrev pub count_rules : Option Transfer → Efid → List (Option OrderRule)
count_rules None s = no_rules
count_rules (Some f) s =
    rule_if (is_open f.walk.stage) rules.NoEnd
    ∷ record_rule f.making (capped f.agreed f.walk.ends) s.records
    ∷ unit_rule f.agreed f.walk.units s.units
    ∷ []

-- whether the codes of a response are these
abbrev pub are_codes : List ℕ → List ℕ → List ℕ → List ℕ → Bool
are_codes destination originator receiver sender = bytes_eq destination receiver && bytes_eq originator sender

-- the rule that the codes of a response break, where these are those of its sender and of the other side (RFC 5024, section 5.3.13)
abbrev pub code_rule : Option Start → Option Start → List ℕ → List ℕ → Option OrderRule
code_rule (Some a) (Some b) destination originator =
    if are_codes destination originator b.code a.code then None else (
    if are_codes destination originator a.code b.code then Some rules.SwappedCodes else Some rules.OtherCodes)
code_rule _ _ destination originator = None

-- the rules that a response with these codes breaks
abbrev pub response_rules : Session → Sender → List ℕ → List ℕ → List (Option OrderRule)
response_rules t who destination originator = code_rule (start_of t who) (start_of t (other who)) destination originator ∷ None ∷ None ∷ []

-- the rules that a command breaks by what it says
abbrev pub command_rules : Session → Sender → Command → List (Option OrderRule)
command_rules t who (commands.Ssid s) = start_rules t who s
command_rules t who (commands.Sfid s) = file_rules t who s
command_rules t who (commands.Sfpa s) = position_rules t.file s.restart
command_rules t who (commands.Data s) = data_rules t s
command_rules t who (commands.Efid s) = count_rules t.file s
command_rules t who (commands.Eerp s) = response_rules t who s.destination s.originator
command_rules t who (commands.Nerp s) = response_rules t who s.destination s.originator
command_rules t who _ = no_rules

-- the rules that a command breaks, if it could be read
abbrev pub said_rules : Session → Sender → Option Command → List (Option OrderRule)
said_rules t who None = no_rules
said_rules t who (Some c) = command_rules t who c

-- the rules that a command of a kind breaks, by its place and by what it says
abbrev pub order_rules : Session → Sender → CommandKind → Option Command → List (Option OrderRule)
order_rules t who kind c = place_rule t who kind c ∷ said_rules t who c

-- ---- the field

-- the field with a code that a response shows, by its kind
abbrev pub code_field : CommandKind → List ℕ
code_field kinds.Nerp = codes "NERPDEST"
code_field _ = codes "EERPDEST"

-- the field that a rule is about in a command of a kind; a rule on its place is about none
abbrev pub order_field : CommandKind → OrderRule → List ℕ
order_field kind rules.EarlyEnd = codes "ESIDREAS"
order_field kind rules.CreditRaised = codes "SSIDCRED"
order_field kind rules.CompressionAnswered = codes "SSIDCMPR"
order_field kind rules.LogicAnswered = codes "SSIDSPEC"
order_field kind rules.OtherOriginator = codes "SFIDORIG"
order_field kind rules.OtherDestination = codes "SFIDDEST"
order_field kind rules.PositionRaised = codes "SFPAACNT"
order_field kind rules.TooLong = codes "DATABUF"
order_field kind rules.BehindEnd = codes "DATABUF"
order_field kind rules.EmptyBehind = codes "DATABUF"
order_field kind rules.StreamRecords = codes "EFIDRCNT"
order_field kind (rules.Records n) = codes "EFIDRCNT"
order_field kind (rules.Units n) = codes "EFIDUCNT"
order_field kind rules.SwappedCodes = code_field kind
order_field kind rules.OtherCodes = code_field kind
order_field kind _ = []
