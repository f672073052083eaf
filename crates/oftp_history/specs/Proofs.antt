-- How a file stands by its events, and what that proves.
use Rattle.std.specs.Prelude.{ℕ, ◌||◌, if◌then◌else◌, List, ◌++◌, Option, None, Some, codes, decimal, fold, unwrap_or}
use Rattle.std.specs.Str.{bytes_eq}
use Rattle.oftp_events.specs.Events.{direction_text, event_text}
use Rattle.oftp_events.specs.declared.direction.Direction.{Direction}
use Rattle.oftp_events.specs.declared.direction.Direction.TheVariants.{In, Out}
use Rattle.oftp_events.specs.declared.event.Event.TheVariants as event
use Rattle.oftp_status.specs.Subjects.{standing_text}
use Rattle.oftp_status.specs.declared.standing.Standing.{Standing}
use Rattle.oftp_status.specs.declared.standing.Standing.TheVariants.{Coming, Whole, Due, Answered, Waiting, Closing, Handed, Refused, Delivered, Returned}
use Rattle.oftp_history.specs.Past.{Past, past_value}
use Rattle.oftp_history.specs.Values.{text_at}

-- an incoming file after an event with these words; those that aren't listed leave it as it was
abbrev pub incoming_after : Option Standing → List ℕ → Option Standing
incoming_after before words =
    if bytes_eq words (event_text event.StartedToCome) || bytes_eq words (event_text event.GivenUp) then Some Coming else
    if bytes_eq words (event_text event.Came) then Some Whole else
    if bytes_eq words (event_text event.Released) || bytes_eq words (event_text event.RefusedHere) then Some Due else
    if bytes_eq words (event_text event.ResponseSent) then Some Answered else before

-- a file that a response of this kind answers
abbrev pub answered_by : List ℕ → Option Standing → Option Standing
answered_by kind before =
    if bytes_eq kind (codes "EERP") then Some Delivered else
    if bytes_eq kind (codes "NERP") then Some Returned else before

-- a file whose end was sent, or that was handed over, is answered; any other is unchanged
abbrev pub responded : List ℕ → Option Standing → Option Standing
responded kind (Some Closing) = answered_by kind (Some Closing)
responded kind (Some Handed) = answered_by kind (Some Handed)
responded kind before = before

-- an outgoing file after an event with these words, and this kind of a response
abbrev pub outgoing_after : List ℕ → Option Standing → List ℕ → Option Standing
outgoing_after kind before words =
    if bytes_eq words (event_text event.Submitted) || bytes_eq words (event_text event.Reopened) then Some Waiting else
    if bytes_eq words (event_text event.Sent) then Some Closing else
    if bytes_eq words (event_text event.HandedOver) then Some Handed else
    if bytes_eq words (event_text event.Refused) then Some Refused else
    if bytes_eq words (event_text event.ResponseReceived) then responded kind before else before

-- the text that an event has under a key, or none
abbrev pub said_at : List ℕ → Past → List ℕ
said_at key p = unwrap_or (text_at key (past_value p)) (codes "")

-- a file that goes this way after one more event
abbrev pub standing_after : Direction → Option Standing → Past → Option Standing
standing_after In before p = incoming_after before (said_at (codes "event") p)
standing_after Out before p = outgoing_after (said_at (codes "kind") p) before (said_at (codes "event") p)

-- how it stands after its events, if they say that
abbrev pub standing_by : Direction → List Past → Option Standing
standing_by way events = fold (standing_after way) None events

-- what a state proves, between two such stations
abbrev pub proof_text : Standing → List ℕ
proof_text Coming = codes "nothing yet: not all of the file is here"
proof_text Whole = codes "the file is here, whole; if it names the partner as its originator, it is one of the partner's, record by record"
proof_text Due = codes "the file is here, whole, and so is its response, which is still to be sent"
proof_text Answered = codes "the file is here, whole, and the partner has its response"
proof_text Waiting = codes "nothing of the partner"
proof_text Closing = codes "nothing yet: the file's end may have gone out, and the next session finds out"
proof_text Handed = codes "the file is whole at the partner, record by record, and stays so while the partner keeps its database"
proof_text Refused = codes "only that a refusal (SFNA) came; records may be there"
proof_text Delivered = codes "the file is whole at the partner, record by record; it was released there, and that receipt is kept there"
proof_text Returned = codes "the file is whole at the partner, record by record; it was refused there, and that response is kept there"

-- the line of how a file stands, by the word for it and what that proves
abbrev pub standing_text_line : Direction → ℕ → List ℕ → List ℕ → List ℕ
standing_text_line way n word proof = codes "by these events " ++ (direction_text way ++ (codes " " ++ (decimal n ++ (codes " is " ++ (word
    ++ (codes "; between two such stations this proves: " ++ (proof ++ codes "\n")))))))

-- the line of how a file stands
abbrev pub standing_line : Direction → ℕ → Option Standing → List ℕ
standing_line way n None = codes "no event says how " ++ (direction_text way ++ (codes " " ++ (decimal n ++ codes " stands\n")))
standing_line way n (Some s) = standing_text_line way n (standing_text s) (proof_text s)

-- the line of how many lines were no events
abbrev pub passed_line : ℕ → List ℕ
passed_line count = codes "passed over: " ++ (decimal count ++ codes " lines that are no events\n")
