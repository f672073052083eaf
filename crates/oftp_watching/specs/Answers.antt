-- What an event says of a response, or of a refusal by SFNA or EFNA.
use Rattle.std.specs.Prelude.{ℕ, List, [], ◌∷◌, Option, None, Some, codes}
use Rattle.oftp_wire.specs.Reasons.{end_phrase, negative_phrase, start_phrase}
use Rattle.oftp_register.specs.declared.change.Change.{Change}
use Rattle.oftp_register.specs.declared.change.Change.TheVariants as change
use Rattle.oftp_register.specs.declared.entries.IssuedResponse.{IssuedResponse}
use Rattle.oftp_register.specs.declared.entry.ResponseKind.{ResponseKind}
use Rattle.oftp_register.specs.declared.entry.ResponseKind.TheVariants.{EndResponse, NegativeEndResponse}
use Rattle.oftp_watching.specs.declared.answer.Answer.{Answer}
use Rattle.oftp_watching.specs.declared.answer.Answer.TheVariants.{Eerp, Nerp, Sfna, Efna}

-- the answer that a response is: EERP has neither reason nor text (RFC 5024, sections 5.3.13 and 5.3.14)
abbrev pub answer_in : ResponseKind → ℕ → List ℕ → Answer
answer_in EndResponse reason text = Eerp
answer_in NegativeEndResponse reason text = Nerp reason text

-- the answer that an issued response is
abbrev pub response_answer : IssuedResponse → Answer
response_answer r = answer_in r.kind r.reason r.text

-- the answer that a change is about
abbrev pub answer_of : Change → Option Answer
answer_of (change.Submit identity format longest description rows) = None
answer_of (change.Start identity format longest description count) = None
answer_of (change.Keep n rows) = None
answer_of (change.Close n rows) = None
answer_of (change.GiveUp n) = None
answer_of (change.File kind identity reason creator text) = Some (answer_in kind reason text)
answer_of (change.Issue n kind reason text) = Some (answer_in kind reason text)
answer_of (change.Mark n rows) = None
answer_of (change.BeginClosing n) = None
answer_of (change.HandOver n) = None
answer_of (change.Refuse n reason) = Some (Sfna reason)
answer_of (change.Reopen n) = None
answer_of (change.Send n) = None

-- a text, unless it is empty
abbrev pub said_if : List ℕ → Option (List ℕ)
said_if [] = None
said_if (b ∷ bs) = Some (b ∷ bs)

-- the kind of a response
abbrev pub kind_text : Answer → Option (List ℕ)
kind_text Eerp = Some (codes "EERP")
kind_text (Nerp reason text) = Some (codes "NERP")
kind_text (Sfna reason) = None
kind_text (Efna reason) = None

-- the number of a reason
abbrev pub answer_reason : Answer → Option ℕ
answer_reason Eerp = None
answer_reason (Nerp reason text) = Some reason
answer_reason (Sfna reason) = Some reason
answer_reason (Efna reason) = Some reason

-- what RFC 5024 calls a reason (sections 5.3.5, 5.3.10 and 5.3.14); nothing for a number that it doesn't list
abbrev pub answer_words : Answer → Option (List ℕ)
answer_words Eerp = None
answer_words (Nerp reason text) = said_if (negative_phrase reason)
answer_words (Sfna reason) = said_if (start_phrase reason)
answer_words (Efna reason) = said_if (end_phrase reason)

-- the text beside a reason
abbrev pub answer_text : Answer → Option (List ℕ)
answer_text Eerp = None
answer_text (Nerp reason text) = said_if text
answer_text (Sfna reason) = None
answer_text (Efna reason) = None
