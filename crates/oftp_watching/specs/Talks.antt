-- A session of a station, as its events tell it.
use Rattle.std.specs.Prelude.{ℕ, ◌+◌, ◌-◌, ◌^◌, min, List, [], ◌∷◌, Option, None, Some, codes, option_map, string_bytes}
use Rattle.serde_json.specs.Data.{Data, number, string, unsigned}
use Rattle.oftp_events.specs.Events.{direction_text, event_text}
use Rattle.oftp_events.specs.declared.event.Event.{Event}
use Rattle.oftp_events.specs.declared.event.Event.TheVariants as event
use Rattle.oftp_watching.specs.Accounts.{text_value}
use Rattle.oftp_watching.specs.declared.talk.Farewell.{Farewell}
use Rattle.oftp_watching.specs.declared.talk.Talk.{Talk}

-- one more, as far as numbers go
abbrev pub one_more : ℕ → ℕ
one_more n = min (n + 1) (2 ^ 64 - 1)

-- the session after an event: a file is through with EFPA, a response with RTR (RFC 5024, sections 5.3.9 and 5.3.15)
abbrev pub counted : Event → Talk → Talk
counted event.HandedOver t = record t { sent = one_more t.sent }
counted event.ResponseSent t = record t { sent = one_more t.sent }
counted event.Came t = record t { received = one_more t.received }
counted event.ResponseReceived t = record t { received = one_more t.received }
counted _ t = t

-- each key of an event of a session with its value, in their order, but for what its end says; those without one aren't written
abbrev pub talk_members : Event → List ℕ → Talk → List (List ℕ × Option Data) → List (List ℕ × Option Data)
talk_members what at t rest =
    (codes "at", Some (string at))
    ∷ (codes "event", Some (string (event_text what)))
    ∷ (codes "session", Some (number (unsigned t.number)))
    ∷ (codes "partner", text_value (option_map string_bytes t.partner))
    ∷ (codes "way", Some (string (direction_text t.way)))
    ∷ (codes "peer", text_value (option_map string_bytes t.peer))
    ∷ (codes "no", None)
    ∷ (codes "dataset", None)
    ∷ (codes "date", None)
    ∷ (codes "time", None)
    ∷ (codes "originator", None)
    ∷ (codes "destination", None)
    ∷ (codes "format", None)
    ∷ (codes "rows", None)
    ∷ (codes "units", None)
    ∷ (codes "kind", None)
    ∷ (codes "reason", None)
    ∷ (codes "words", None)
    ∷ (codes "text", None)
    ∷ rest

-- the members of its beginning
abbrev pub begun_members : List ℕ → Talk → List (List ℕ × Option Data)
begun_members at t =
    talk_members event.SessionBegun at t (
    (codes "sent", None)
    ∷ (codes "received", None)
    ∷ (codes "octets_in", None)
    ∷ (codes "octets_out", None)
    ∷ (codes "seconds", None)
    ∷ (codes "uid", None)
    ∷ (codes "end", None)
    ∷ [])

-- the members of its end
abbrev pub ended_members : List ℕ → Farewell → Talk → List (List ℕ × Option Data)
ended_members at f t =
    talk_members event.SessionEnded at t (
    (codes "sent", Some (number (unsigned t.sent)))
    ∷ (codes "received", Some (number (unsigned t.received)))
    ∷ (codes "octets_in", Some (number (unsigned f.octets_in)))
    ∷ (codes "octets_out", Some (number (unsigned f.octets_out)))
    ∷ (codes "seconds", Some (number (unsigned f.seconds)))
    ∷ (codes "uid", None)
    ∷ (codes "end", Some (string f.end.now))
    ∷ [])
