-- The line of an event, key by key.
use Rattle.std.specs.Prelude.{◌≡◌, ℕ, true, List, [], ◌∷◌, ◌++◌, Option, None, Some, codes, nat_le}
use Rattle.std.specs.Borrow.{Bor}
use Rattle.std.specs.List.{list_all}
use Rattle.serde_json.specs.Data.{Data, number, object, string, unsigned, Members, member, no_members}
use Rattle.serde_json.specs.Written.{compact_text}
use Rattle.oftp_events.specs.Events.{direction_text, event_text}
use Rattle.oftp_events.specs.declared.direction.Direction.{Direction}
use Rattle.oftp_events.specs.declared.event.Event.{Event}
use Rattle.oftp_events.specs.declared.line.EventLine.{EventLine}

-- an event of which only the time is told
abbrev pub plain_line : Bor (List ℕ) → Event → EventLine
plain_line at event = record {
  at = at;
  event = event;
  session = None;
  partner = None;
  way = None;
  peer = None;
  no = None;
  dataset = None;
  date = None;
  time = None;
  originator = None;
  destination = None;
  format = None;
  rows = None;
  units = None;
  kind = None;
  reason = None;
  words = None;
  text = None;
  sent = None;
  received = None;
  octets_in = None;
  octets_out = None;
  seconds = None;
  uid = None;
  end = None;
}

-- a text as a value, if there is one
abbrev pub text_data : Option (Bor (List ℕ)) → Option Data
text_data None = None
text_data (Some text) = Some (string text.now)

-- a number as a value, if there is one
abbrev pub number_data : Option ℕ → Option Data
number_data None = None
number_data (Some n) = Some (number (unsigned n))

-- a direction as a value, if there is one
abbrev pub direction_data : Option Direction → Option Data
direction_data None = None
direction_data (Some direction) = Some (string (direction_text direction))

-- each key with its value, in their order
abbrev pub line_members : EventLine → List (List ℕ × Option Data)
line_members e =
    (codes "at", Some (string e.at.now))
    ∷ (codes "event", Some (string (event_text e.event)))
    ∷ (codes "session", number_data e.session)
    ∷ (codes "partner", text_data e.partner)
    ∷ (codes "way", direction_data e.way)
    ∷ (codes "peer", text_data e.peer)
    ∷ (codes "no", number_data e.no)
    ∷ (codes "dataset", text_data e.dataset)
    ∷ (codes "date", text_data e.date)
    ∷ (codes "time", text_data e.time)
    ∷ (codes "originator", text_data e.originator)
    ∷ (codes "destination", text_data e.destination)
    ∷ (codes "format", text_data e.format)
    ∷ (codes "rows", number_data e.rows)
    ∷ (codes "units", number_data e.units)
    ∷ (codes "kind", text_data e.kind)
    ∷ (codes "reason", text_data e.reason)
    ∷ (codes "words", text_data e.words)
    ∷ (codes "text", text_data e.text)
    ∷ (codes "sent", number_data e.sent)
    ∷ (codes "received", number_data e.received)
    ∷ (codes "octets_in", number_data e.octets_in)
    ∷ (codes "octets_out", number_data e.octets_out)
    ∷ (codes "seconds", number_data e.seconds)
    ∷ (codes "uid", number_data e.uid)
    ∷ (codes "end", text_data e.end)
    ∷ []

-- a key before these members, if it has a value
abbrev pub member_if : List ℕ → Option Data → Members → Members
member_if key None ms = ms
member_if key (Some value) ms = member key value ms

-- the members whose keys have a value
abbrev pub present_members : List (List ℕ × Option Data) → Members
present_members [] = no_members
present_members (m ∷ ms) = member_if m.0 m.1 (present_members ms)

-- the line: the object of the keys that have a value, without a space, and a line feed
abbrev pub line_text : EventLine → List ℕ
line_text e = compact_text (object (present_members (line_members e))) ++ codes "\n"

-- octets of which none is below 32, as ASCII's control characters are, and a line feed behind them
abbrev pub IsOneLine : List ℕ → Type 0
IsOneLine octets = (text : List ℕ) × (octets ≡ text ++ codes "\n") × (list_all (nat_le 32) text ≡ true)
