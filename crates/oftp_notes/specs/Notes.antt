-- The notes that are told beside a line of a command.
use Rattle.std.specs.Prelude.{ℕ, List, ◌++◌, codes}
use Rattle.std.specs.Fmt.{decimal}
use Rattle.oftp_wire.specs.Reasons.{session_phrase, two_digits}
use Rattle.oftp_notes.specs.Causes.{address_cause_text, database_cause_text, path_cause_text, state_text}
use Rattle.oftp_notes.specs.Fields.{field_rule, field_word}
use Rattle.oftp_notes.specs.Findings.{finding_text}
use Rattle.oftp_notes.specs.declared.cause.FileState.{FileState}
use Rattle.oftp_notes.specs.declared.note.BookNote.{BookNote}
use Rattle.oftp_notes.specs.declared.note.BookNote.TheVariants as book
use Rattle.oftp_notes.specs.declared.note.Note.{Note}
use Rattle.oftp_notes.specs.declared.note.Note.TheVariants.{Memory, Output, Path, Book, Database, Called, Bound, Session, Refused, End}
use Rattle.oftp_notes.specs.declared.note.RefusalNote.{RefusalNote}
use Rattle.oftp_notes.specs.declared.note.RefusalNote.TheVariants as refused
use Rattle.oftp_notes.specs.declared.note.SessionEnd.{SessionEnd}
use Rattle.oftp_notes.specs.declared.note.SessionEnd.TheVariants as ends

-- how a session ended, with the words of RFC 5024 for the reason
abbrev pub end_text : SessionEnd → List ℕ
end_text (ends.Own number) = codes "own " ++ (two_digits number ++ (codes ": " ++ session_phrase number))
end_text (ends.Partner number) = codes "partner " ++ (two_digits number ++ (codes ": " ++ session_phrase number))
end_text ends.Input = codes "input: the connection ended during the session"

-- the word that begins a line about a book
abbrev pub book_word : BookNote → List ℕ
book_word (book.Error finding) = codes "note"
book_word (book.Warning finding) = codes "warning"
book_word (book.Ignored key nearest) = codes "warning"

-- what is found in a book, without a password
abbrev pub book_text : BookNote → List ℕ
book_text (book.Error finding) = finding_text finding
book_text (book.Warning finding) = finding_text finding
book_text (book.Ignored key nearest) = key.now ++ (codes ": is ignored; " ++ (nearest.now ++ codes " is the nearest"))

-- an incoming file, and its state
abbrev pub file_text : ℕ → FileState → List ℕ
file_text n state = decimal n ++ (codes ": this incoming file " ++ state_text state)

-- a file that was handed in already
abbrev pub duplicate_text : List ℕ → List ℕ → List ℕ → List ℕ → List ℕ
duplicate_text dataset date time to = dataset ++ (codes " " ++ (date ++ (codes " " ++ (time ++ (codes " to " ++ (to ++ codes ": was handed in already"))))))

-- why a command was refused
abbrev pub refusal_text : RefusalNote → List ℕ
refusal_text (refused.NoFile n) = decimal n ++ codes ": no incoming file has this number"
refusal_text (refused.NoOutgoing n) = decimal n ++ codes ": no outgoing file has this number"
refusal_text (refused.NoEvent n path) = decimal n ++ (codes ": no event of " ++ (path.now ++ codes " has this number"))
refusal_text (refused.Unsent n) = decimal n ++ codes ": this outgoing file isn't sent yet"
refusal_text (refused.NoPartner code path) = code.now ++ (codes ": no partner in " ++ (path.now ++ codes " has this code"))
refusal_text refused.NoneNamed = codes "--partner: an initiator needs it"
refusal_text (refused.State n state) = file_text n state
refusal_text (refused.Duplicate dataset date time to) = duplicate_text dataset.now date.now time.now to.now
refusal_text (refused.Field field value) = field_word field ++ (codes " " ++ (value.now ++ (codes ": " ++ field_rule field)))

-- the text of a note, before each of its characters can be seen
abbrev pub note_text : Note → List ℕ
note_text Memory = codes "note: memory: this process gets no more"
note_text Output = codes "note: output: nobody takes it, or its disk is full"
note_text (Path path cause) = codes "note: " ++ (path.now ++ (codes ": " ++ path_cause_text cause))
note_text (Book path line note) = book_word note ++ (codes ": " ++ (path.now ++ (codes ":" ++ (decimal line ++ (codes ": " ++ book_text note)))))
note_text (Database path cause) = codes "note: " ++ (path.now ++ (codes ": " ++ database_cause_text cause))
note_text (Called code address cause) = codes "note: " ++ (code.now ++ (codes " at " ++ (address.now ++ (codes ": " ++ address_cause_text cause))))
note_text (Bound address port cause) = codes "note: " ++ (address.now ++ (codes ":" ++ (decimal port ++ (codes ": " ++ address_cause_text cause))))
note_text (Session word cause) = codes "note: " ++ (word.now ++ (codes ": " ++ address_cause_text cause))
note_text (Refused note) = codes "note: " ++ refusal_text note
note_text (End end) = codes "note: end: " ++ end_text end
