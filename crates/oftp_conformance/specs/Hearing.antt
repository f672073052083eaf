-- What is found in each command of a session, and whose command is heard next.
use Rattle.std.specs.Prelude.{ℕ, Bool, true, false, List, [], ◌∷◌, ◌++◌, if◌then◌else◌, Option, Some, None, Result, Ok, Err}
use Rattle.std.specs.List.{flat_map}
use Rattle.std.specs.Str.{bytes_eq}
use Rattle.oftp_wire.specs.declared.command.Command.{Command}
use Rattle.oftp_wire.specs.declared.fault.WireFault.{WireFault}
use Rattle.oftp_codec.specs.Kinds.{command_of}
use Rattle.oftp_telling.specs.declared.kind.CommandKind.{CommandKind}
use Rattle.oftp_telling.specs.declared.kind.CommandKind.TheVariants as kinds
use Rattle.oftp_telling.specs.declared.counting.Sender.{Sender}
use Rattle.oftp_telling.specs.Lines.{kind_in}
use Rattle.oftp_telling.specs.Names.{Entry, sheet_of}
use Rattle.oftp_conformance.specs.declared.order_rule.OrderRule.{OrderRule}
use Rattle.oftp_conformance.specs.declared.rule.Rule.TheVariants as rules
use Rattle.oftp_conformance.specs.declared.session.Phase.{Phase}
use Rattle.oftp_conformance.specs.declared.session.Session.{Session}
use Rattle.oftp_conformance.specs.Findings.{findings_in}
use Rattle.oftp_conformance.specs.Orders.{order_field, order_rules}
use Rattle.oftp_conformance.specs.Places.{Found, Spot, AtField, AtCommand}
use Rattle.oftp_conformance.specs.Sessions.{after_command, after_kind, other, owing, takes}

-- ---- what is found

-- the field of a command with this name, or the command as a whole if it has none
abbrev pub spot_named : CommandKind → List Entry → List ℕ → Spot
spot_named k [] name = AtCommand k
spot_named k (e ∷ es) name = if bytes_eq e.name name then AtField k e else spot_named k es name

-- what is found by a rule on the order of commands
abbrev pub order_found : CommandKind → List Entry → Option OrderRule → List Found
order_found k es None = []
order_found k es (Some r) = record { rule = rules.Order r; spot = spot_named k es (order_field k r) } ∷ []

-- the command, if it could be read
abbrev pub read : Result Command WireFault → Option Command
read (Ok c) = Some c
read (Err fault) = None

-- what is found of a command of a kind by its order
abbrev pub order_findings : Session → Sender → CommandKind → List ℕ → List Found
order_findings t who k o = flat_map (order_found k (sheet_of k o).entries) (order_rules t who k (read (command_of o)))

-- the same of octets that may begin as no command does
abbrev pub findings_by : Session → Sender → Option CommandKind → List ℕ → List Found
findings_by t who None o = []
findings_by t who (Some k) o = order_findings t who k o

-- what is found in the octets of a frame of a side: by its fields, and by its order
unfoldable pub heard_findings : Session → Sender → List ℕ → List Found
heard_findings t who o = findings_in o ++ findings_by t who (kind_in o) o

-- ---- what becomes of the session

-- after a command of a kind
abbrev pub after_read : Session → Sender → CommandKind → Result Command WireFault → Session
after_read t who k (Ok c) = after_command t who c
after_read t who k (Err fault) = after_kind t who k

-- after octets that begin as a command of this kind does, or as none
abbrev pub after_octets : Session → Sender → Option CommandKind → List ℕ → Session
after_octets t who None o = t
after_octets t who (Some k) o = after_read t who k (command_of o)

-- after the octets of a frame of a side
unfoldable pub after_frame : Session → Sender → List ℕ → Session
after_frame t who o = after_octets t who (kind_in o) o

-- ---- whose command is heard next, where no order between both sides is known

-- whether it may be heard now from the side that owes one
abbrev pub may_come : Phase → CommandKind → Bool
may_come phase kinds.Esid = true
may_come phase kind = takes phase kind

-- whether the next command of the side that owes one may be heard now
abbrev pub is_next : Phase → Option CommandKind → Bool
is_next phase None = false
is_next phase (Some kind) = may_come phase kind

-- The side whose command is heard next. These are the octets of the next command of the side that owes one, and of the other side. It is
-- the side that owes one, if its command may come now; else the other side, if that has one.
abbrev pub next_side : Session → Option (List ℕ) → Option (List ℕ) → Sender
next_side t own None = owing t
next_side t None (Some o) = other (owing t)
next_side t (Some o) (Some p) = if is_next t.phase (kind_in o) then owing t else other (owing t)
