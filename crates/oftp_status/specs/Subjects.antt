-- What is counted, how sessions end, and how files stand.
use Rattle.std.specs.Prelude.{ℕ, Bool, true, false, ◌&&◌, ◌==◌, List, ◌++◌, Option, None, Some, codes, string_bytes}
use Rattle.std.specs.Str.{bytes_eq}
use Rattle.oftp_wire.specs.Reasons.{session_number, session_reason, session_text, two_digits}
use Rattle.oftp_wire.specs.declared.reason.SessionReason.{SessionReason}
use Rattle.oftp_status.specs.declared.ending.Ending.{Ending}
use Rattle.oftp_status.specs.declared.ending.Ending.TheVariants.{Own, Partner, Input, Failed}
use Rattle.oftp_status.specs.declared.standing.Standing.{Standing}
use Rattle.oftp_status.specs.declared.standing.Standing.TheVariants.{Coming, Whole, Due, Answered, Waiting, Closing, Handed, Refused, Delivered, Returned}
use Rattle.oftp_status.specs.declared.way.Way.{Way}
use Rattle.oftp_status.specs.declared.way.Way.TheVariants.{In, Out}
use Rattle.oftp_status.specs.declared.subject.Subject.{Subject}
use Rattle.oftp_status.specs.declared.subject.Subject.TheVariants.{Session, NotLetIn, NotReached, File, EventLost, Backup}

-- both sessions ended like this
abbrev pub same_end : Ending → Ending → Bool
same_end (Own a) (Own b) = a == b
same_end (Partner a) (Partner b) = a == b
same_end Input Input = true
same_end Failed Failed = true
same_end _ _ = false

-- a session that ended in order: by an ESID with reason 00 [5.3.11]
abbrev pub is_good : Ending → Bool
is_good (Own reason) = reason == 0
is_good (Partner reason) = reason == 0
is_good Input = false
is_good Failed = false

-- how a session ended, as the program's line for it has it
abbrev pub end_text : Ending → List ℕ
end_text (Own reason) = codes "own " ++ two_digits reason
end_text (Partner reason) = codes "partner " ++ two_digits reason
end_text Input = codes "input"
end_text Failed = codes "failed"

-- the same, with what the reason is called, if this station knows it
abbrev pub named_end : List ℕ → ℕ → Option SessionReason → List ℕ
named_end side number (Some reason) = side ++ session_text (session_number reason)
named_end side number None = side ++ two_digits number

abbrev pub end_words : Ending → List ℕ
end_words (Own reason) = named_end (codes "own ") reason (session_reason reason)
end_words (Partner reason) = named_end (codes "partner ") reason (session_reason reason)
end_words Input = codes "input"
end_words Failed = codes "failed"

-- the word of a way
abbrev pub way_text : Way → List ℕ
way_text In = codes "in"
way_text Out = codes "out"

-- the way of a file that stands like this
abbrev pub way_of : Standing → Way
way_of Coming = In
way_of Whole = In
way_of Due = In
way_of Answered = In
way_of Waiting = Out
way_of Closing = Out
way_of Handed = Out
way_of Refused = Out
way_of Delivered = Out
way_of Returned = Out

-- the word for it
abbrev pub standing_text : Standing → List ℕ
standing_text Coming = codes "open"
standing_text Whole = codes "whole"
standing_text Due = codes "due"
standing_text Answered = codes "answered"
standing_text Waiting = codes "waiting"
standing_text Closing = codes "closing"
standing_text Handed = codes "handed"
standing_text Refused = codes "refused"
standing_text Delivered = codes "delivered"
standing_text Returned = codes "returned"

-- Something is still to be done. The rest of the file is to come, a response is to be issued, sent or received, or the file is to be sent.
abbrev pub is_open : Standing → Bool
is_open Coming = true
is_open Whole = true
is_open Due = true
is_open Answered = false
is_open Waiting = true
is_open Closing = true
is_open Handed = true
is_open Refused = false
is_open Delivered = false
is_open Returned = false

-- both have the same word
abbrev pub same_standing : Standing → Standing → Bool
same_standing a b = bytes_eq (standing_text a) (standing_text b)

abbrev pub same_way : Way → Way → Bool
same_way In In = true
same_way In Out = false
same_way Out In = false
same_way Out Out = true

-- both are counted as one
abbrev pub same_subject : Subject → Subject → Bool
same_subject (Session p w e) (Session q v f) = bytes_eq (string_bytes p) (string_bytes q) && (same_way w v && same_end e f)
same_subject (NotLetIn a) (NotLetIn b) = a == b
same_subject (NotReached p) (NotReached q) = bytes_eq (string_bytes p) (string_bytes q)
same_subject (File p a) (File q b) = bytes_eq (string_bytes p) (string_bytes q) && same_standing a b
same_subject EventLost EventLost = true
same_subject Backup Backup = true
same_subject _ _ = false
