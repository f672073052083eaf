-- The README of a folder of evidence.
use Rattle.std.specs.Prelude.{ℕ, List, [], ◌∷◌, ◌++◌, Option, None, Some, codes, decimal}
use Rattle.oftp_wire.specs.Reasons.{two_digits}
use Rattle.oftp_vfile.specs.declared.format.Format.{Format}
use Rattle.oftp_vfile.specs.declared.format.Format.TheVariants as format
use Rattle.oftp_register.specs.declared.entry.ResponseKind.TheVariants.{EndResponse, NegativeEndResponse}
use Rattle.oftp_register.specs.declared.entry.ResponseKind.{ResponseKind}
use Rattle.oftp_events.specs.Events.{direction_text}
use Rattle.oftp_status.specs.Subjects.{standing_text}
use Rattle.oftp_status.specs.declared.standing.Standing.{Standing}
use Rattle.oftp_history.specs.Proofs.{proof_text}
use Rattle.oftp_evidence.specs.declared.part.Part.{Part}
use Rattle.oftp_evidence.specs.declared.folder.FileFacts.{FileFacts}
use Rattle.oftp_evidence.specs.declared.folder.ResponseFacts.{ResponseFacts}
use Rattle.oftp_evidence.specs.declared.folder.SessionFacts.{SessionFacts}
use Rattle.oftp_evidence.specs.declared.folder.StationFacts.{StationFacts}
use Rattle.oftp_evidence.specs.Facts.{number_fact, seen_lines, text_fact}
use Rattle.oftp_evidence.specs.Parts.{part_word}

-- the letter of a format (RFC 5024, section 5.3.3)
abbrev pub format_letter : Format → List ℕ
format_letter format.Fixed = codes "F"
format_letter format.Variable = codes "V"
format_letter format.Unstructured = codes "U"
format_letter format.Text = codes "T"

-- which file it is, by the fields of its header (RFC 5024, section 5.3.3), and its content's digest
abbrev pub file_facts : FileFacts → List (List ℕ)
file_facts f =
    codes "Evidence of one file"
    ∷ []
    ∷ codes "The file"
    ∷ text_fact (codes "way") (direction_text f.way)
    ∷ number_fact (codes "number") f.no
    ∷ text_fact (codes "dataset") f.identity.now.dataset
    ∷ text_fact (codes "date") f.identity.now.date
    ∷ text_fact (codes "time") f.identity.now.time
    ∷ text_fact (codes "originator") f.identity.now.originator
    ∷ text_fact (codes "destination") f.identity.now.destination
    ∷ text_fact (codes "format") (format_letter f.format)
    ∷ number_fact (codes "longest record") f.longest
    ∷ number_fact (codes "rows") f.rows
    ∷ number_fact (codes "octets") f.units
    ∷ text_fact (codes "description") f.description.now
    ∷ text_fact (codes "SHA-256 of its content") f.digest.now
    ∷ []

-- a response of this kind; the reason and the text are those of a refusal
abbrev pub kind_facts : ResponseKind → ResponseFacts → List (List ℕ)
kind_facts EndResponse r =
    []
    ∷ codes "Its response"
    ∷ codes "kind: EERP"
    ∷ text_fact (codes "moment") r.moment.now
    ∷ []
kind_facts NegativeEndResponse r =
    []
    ∷ codes "Its response"
    ∷ codes "kind: NERP"
    ∷ text_fact (codes "moment") r.moment.now
    ∷ text_fact (codes "reason") (two_digits r.reason)
    ∷ text_fact (codes "text") r.text.now
    ∷ []

-- its response, if there is one
abbrev pub response_facts : Option ResponseFacts → List (List ℕ)
response_facts None = [] ∷ codes "Its response" ∷ codes "none" ∷ []
response_facts (Some r) = kind_facts r.kind r

-- parts behind the first
abbrev pub more_parts : List Part → List ℕ
more_parts [] = []
more_parts (p ∷ ps) = codes ", " ++ (part_word p ++ more_parts ps)

-- the parts of a side
abbrev pub parts_text : List Part → List ℕ
parts_text [] = codes "nothing"
parts_text (p ∷ ps) = part_word p ++ more_parts ps

-- with whom a session was, and when
abbrev pub session_head : SessionFacts → List ℕ
session_head s = codes "session " ++ (decimal s.no ++ (codes ": with " ++ (s.partner.now ++ (codes " at " ++ (s.peer.now
    ++ (codes ", from " ++ (s.begun.now ++ (codes " to " ++ s.ended.now))))))))

-- a session, and what its sides say of the file
abbrev pub session_fact : SessionFacts → List ℕ
session_fact s = session_head s ++ (codes "; heard: " ++ (parts_text s.heard.now ++ (codes "; said: " ++ parts_text s.said.now)))

-- sessions
abbrev pub session_facts : List SessionFacts → List (List ℕ)
session_facts [] = []
session_facts (s ∷ ss) = session_fact s ∷ session_facts ss

-- the heading of the sessions
abbrev pub sessions_head : List (List ℕ)
sessions_head = [] ∷ codes "Its sessions" ∷ []

-- the sessions that say something of the file
abbrev pub sessions_lines : List SessionFacts → List ℕ
sessions_lines ss = seen_lines sessions_head ++ seen_lines (session_facts ss)

-- the program, its sources and the station's book
abbrev pub station_facts : StationFacts → List (List ℕ)
station_facts s =
    []
    ∷ codes "The station"
    ∷ text_fact (codes "program") s.version.now
    ∷ text_fact (codes "SHA-256 of its sources") s.sources.now
    ∷ text_fact (codes "SHA-256 of its book") s.book.now
    ∷ []

-- what the file's state proves, and what it doesn't
abbrev pub standing_facts : Standing → List (List ℕ)
standing_facts s =
    []
    ∷ codes "What its state proves"
    ∷ text_fact (codes "state") (standing_text s)
    ∷ text_fact (codes "between two such stations this proves") (proof_text s)
    ∷ []
    ∷ codes "What this folder doesn't prove"
    ∷ codes "Nothing here is signed: the folder shows what came over the wire and what went, and not who sent it."
    ∷ codes "Who can change SHA256SUMS can change each file with it: keep its sum elsewhere."
    ∷ []
    ∷ codes "How it is checked"
    ∷ codes "sh verify.sh BOOK compares the sums, and plays the sessions over a new database by the station's book, which has the passwords."
    ∷ []

-- what a folder tells
abbrev pub readme_of : FileFacts → Option ResponseFacts → List SessionFacts → StationFacts → Standing → List ℕ
readme_of file response sessions station standing = seen_lines (file_facts file) ++ (seen_lines (response_facts response)
    ++ (sessions_lines sessions ++ (seen_lines (station_facts station) ++ seen_lines (standing_facts standing))))
