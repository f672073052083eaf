-- The line of what happened to a file.
use Rattle.std.specs.Prelude.{ℕ, Bool, true, false, cond, List, [], ◌∷◌, ◌++◌, Option, None, Some, codes, option_map, option_and_then}
use Rattle.serde_json.specs.Data.{Data, object, string}
use Rattle.serde_json.specs.Written.{compact_text}
use Rattle.oftp_vfile.specs.declared.format.Format.{Format}
use Rattle.oftp_vfile.specs.declared.format.Format.TheVariants as format
use Rattle.oftp_wire.specs.Reasons.{two_digits}
use Rattle.oftp_register.specs.declared.entries.IssuedResponse.{IssuedResponse}
use Rattle.oftp_register.specs.declared.entries.Side.{Side}
use Rattle.oftp_register.specs.declared.entries.Side.TheVariants as side
use Rattle.oftp_register.specs.declared.entry.Identity.{Identity}
use Rattle.oftp_register.specs.declared.entry.IncomingState.{IncomingState}
use Rattle.oftp_register.specs.declared.entry.IncomingState.TheVariants.{Open, Whole}
use Rattle.oftp_events.specs.Events.{direction_text, event_text}
use Rattle.oftp_events.specs.Lines.{number_data, present_members}
use Rattle.oftp_events.specs.declared.direction.Direction.{Direction}
use Rattle.oftp_events.specs.declared.direction.Direction.TheVariants.{In, Out}
use Rattle.oftp_events.specs.declared.event.Event.{Event}
use Rattle.oftp_events.specs.declared.event.Event.TheVariants as event
use Rattle.oftp_watching.specs.Answers.{answer_reason, answer_text, answer_words, kind_text, response_answer}
use Rattle.oftp_watching.specs.Occasions.{session_of, user_of}
use Rattle.oftp_watching.specs.declared.account.Account.{Account}
use Rattle.oftp_watching.specs.declared.answer.Answer.{Answer}
use Rattle.oftp_watching.specs.declared.known.Known.{Known}
use Rattle.oftp_watching.specs.declared.known.Known.TheVariants as known
use Rattle.oftp_watching.specs.declared.moment.Moment.{Moment}
use Rattle.oftp_watching.specs.declared.moment.Subject.{Subject}
use Rattle.oftp_watching.specs.declared.moment.Subject.TheVariants.{Numbered, Named, Offered}
use Rattle.oftp_watching.specs.declared.occasion.Occasion.{Occasion}

-- ---- what is known of the file

abbrev pub side_of : Subject → Side
side_of (Numbered which n) = which
side_of (Named which identity) = which
side_of (Offered identity) = side.Incoming

-- its number: the register's, or the one that was noted
abbrev pub number_known : Subject → Option Known → Option ℕ
number_known subject (Some (known.Incoming e)) = Some e.no
number_known subject (Some (known.Outgoing e)) = Some e.no
number_known (Numbered which n) None = Some n
number_known (Named which identity) None = None
number_known (Offered identity) None = None

-- its identity: the register's, or the one that was noted
abbrev pub identity_known : Subject → Option Known → Option Identity
identity_known subject (Some (known.Incoming e)) = Some e.identity
identity_known subject (Some (known.Outgoing e)) = Some e.identity
identity_known (Numbered which n) None = None
identity_known (Named which identity) None = Some identity
identity_known (Offered identity) None = Some identity

-- an incoming file stays as it is
abbrev pub is_final : IncomingState → Bool
is_final Whole = true
is_final Open = false

-- its format: the one that was noted, or the register's of a file that stays as it is
abbrev pub format_known : Option Format → Option Known → Option Format
format_known (Some noted) found = Some noted
format_known None (Some (known.Incoming e)) = cond (is_final e.state) (Some e.format) None
format_known None (Some (known.Outgoing e)) = Some e.format
format_known None None = None

-- its rows: those that were noted, or the register's of a file that stays as it is
abbrev pub rows_known : Option ℕ → Option Known → Option ℕ
rows_known (Some noted) found = Some noted
rows_known None (Some (known.Incoming e)) = cond (is_final e.state) (Some e.rows) None
rows_known None (Some (known.Outgoing e)) = Some e.rows
rows_known None None = None

-- the response to a file, or else what was noted
abbrev pub response_or : Option Answer → Option IssuedResponse → Option Answer
response_or noted None = noted
response_or noted (Some response) = Some (response_answer response)

-- the answer that an event is about: the one that was noted, or the response that was sent
abbrev pub answer_known : Event → Option Answer → Option Known → Option Answer
answer_known event.ResponseSent noted (Some (known.Incoming e)) = response_or noted e.response
answer_known _ noted _ = noted

-- what was noted on an occasion, of a file of which the register has so much
abbrev pub account_of : Occasion → Moment → Option Known → Option ℕ → Account
account_of occasion moment found units = record {
  occasion = occasion;
  event = moment.event;
  side = side_of moment.subject;
  no = number_known moment.subject found;
  identity = identity_known moment.subject found;
  format = format_known moment.format found;
  rows = rows_known moment.rows found;
  units = units;
  answer = answer_known moment.event moment.answer found;
}

-- ---- what is told of it

abbrev pub format_letter : Format → List ℕ
format_letter format.Fixed = codes "F"
format_letter format.Variable = codes "V"
format_letter format.Unstructured = codes "U"
format_letter format.Text = codes "T"

abbrev pub way_of : Side → Direction
way_of side.Incoming = In
way_of side.Outgoing = Out

-- the partner's end: incoming files come from it, outgoing files go to it
abbrev pub far_end : Side → Identity → List ℕ
far_end side.Incoming identity = identity.originator
far_end side.Outgoing identity = identity.destination

abbrev pub partner_told : Account → Option (List ℕ)
partner_told a = option_map (far_end a.side) a.identity

-- a text as a value, if there is one
abbrev pub text_value : Option (List ℕ) → Option Data
text_value None = None
text_value (Some text) = Some (string text)

-- each key with its value, in their order; those without one aren't written
abbrev pub account_members : List ℕ → Option (List ℕ) → Account → List (List ℕ × Option Data)
account_members at reason a =
    (codes "at", Some (string at))
    ∷ (codes "event", Some (string (event_text a.event)))
    ∷ (codes "session", number_data (session_of a.occasion))
    ∷ (codes "partner", text_value (partner_told a))
    ∷ (codes "way", Some (string (direction_text (way_of a.side))))
    ∷ (codes "peer", None)
    ∷ (codes "no", number_data a.no)
    ∷ (codes "dataset", text_value (option_map (λ i. i.dataset) a.identity))
    ∷ (codes "date", text_value (option_map (λ i. i.date) a.identity))
    ∷ (codes "time", text_value (option_map (λ i. i.time) a.identity))
    ∷ (codes "originator", text_value (option_map (λ i. i.originator) a.identity))
    ∷ (codes "destination", text_value (option_map (λ i. i.destination) a.identity))
    ∷ (codes "format", text_value (option_map format_letter a.format))
    ∷ (codes "rows", number_data a.rows)
    ∷ (codes "units", number_data a.units)
    ∷ (codes "kind", text_value (option_and_then kind_text a.answer))
    ∷ (codes "reason", text_value reason)
    ∷ (codes "words", text_value (option_and_then answer_words a.answer))
    ∷ (codes "text", text_value (option_and_then answer_text a.answer))
    ∷ (codes "sent", None)
    ∷ (codes "received", None)
    ∷ (codes "octets_in", None)
    ∷ (codes "octets_out", None)
    ∷ (codes "seconds", None)
    ∷ (codes "uid", number_data (user_of a.occasion))
    ∷ (codes "end", None)
    ∷ []

-- its line
abbrev pub account_text : List ℕ → Account → List ℕ
account_text at a = compact_text (object (present_members (account_members at (option_map two_digits (option_and_then answer_reason a.answer)) a))) ++ codes "\n"
