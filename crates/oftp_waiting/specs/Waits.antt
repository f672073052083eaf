-- What a command says while it waits for a station, by the station's status.
use Rattle.std.specs.Prelude.{ℕ, ◌*◌, ◌/◌, ◌==◌, Bool, false, ◌&&◌, if◌then◌else◌, List, ◌++◌, length, min, Option, None, Some, codes, decimal, option_and_then}
use Rattle.std.specs.Str.{bytes_eq, is_utf8}
use Rattle.serde_json.specs.Data.{Data}
use Rattle.serde_json.specs.Find.{get}
use Rattle.serde_json.specs.Read.{read}
use Rattle.oftp_history.specs.Values.{number_at, text_at}
use Rattle.oftp_notes.specs.Seen.{seen_line}
use Rattle.oftp_progress.specs.Progress.{call_text}

-- a file that comes or goes, and how many of a hundred parts of it did; one without a name is none
abbrev pub file_text : Option (List ℕ) → Option ℕ → List ℕ
file_text None share = codes ""
file_text (Some dataset) None = codes ""
file_text (Some dataset) (Some share) = if length dataset == 0 then codes "" else (codes ", " ++ (dataset ++ (codes " " ++ (decimal share ++ codes " %"))))

-- a session with a partner, if there is one
abbrev pub session_text : Option (List ℕ) → List ℕ → List ℕ
session_text None file = codes "waiting: for its turn"
session_text (Some partner) file = codes "waiting: session with " ++ (partner ++ file)

-- what is said of the session that a status has
abbrev pub waiting_with : Option Data → List ℕ
waiting_with None = codes "waiting: for its turn"
waiting_with (Some session) = session_text (text_at (codes "partner") session) (file_text (text_at (codes "dataset") session) (number_at (codes "share") session))

-- a text is there, and is this one
abbrev pub is_text : Option (List ℕ) → List ℕ → Bool
is_text None wanted = false
is_text (Some text) wanted = bytes_eq text wanted

-- a session for which the station called the partner with a code
abbrev pub is_called : List ℕ → Data → Bool
is_called code session = is_text (text_at (codes "partner") session) code && is_text (text_at (codes "way") session) (codes "out")

-- how far the file of such a session came, if it has one with a name
abbrev pub called_with : Option (List ℕ) → Option ℕ → Data → List ℕ
called_with None share session = waiting_with (Some session)
called_with (Some dataset) None session = waiting_with (Some session)
called_with (Some dataset) (Some share) session = if length dataset == 0 then waiting_with (Some session) else call_text dataset share

-- what `call` says of the session that a status has
abbrev pub call_with : List ℕ → Option Data → List ℕ
call_with code None = waiting_with None
call_with code (Some session) = if is_called code session then called_with (text_at (codes "dataset") session) (number_at (codes "share") session) session else waiting_with (Some session)

-- the value of JSON that octets are, if they are UTF-8
abbrev pub value_in : List ℕ → Option Data
value_in octets = if is_utf8 octets then read octets else None

-- the line of a status, of characters that can be seen
abbrev pub waiting_line : List ℕ → List ℕ
waiting_line status = seen_line (waiting_with (option_and_then (get (codes "session")) (value_in status)))

-- the line of a status for a call of the partner with a code
abbrev pub call_line : List ℕ → List ℕ → List ℕ
call_line status code = seen_line (call_with code (option_and_then (get (codes "session")) (value_in status)))

-- How many of a hundred parts so many octets of so many blocks of 1,024 octets are. One may have more octets, and all of nothing is there.
abbrev pub share_of : ℕ → ℕ → ℕ
share_of octets blocks = if blocks == 0 then 100 else min (octets * 100 / (blocks * 1024)) 100

-- after how many seconds it is said again, by how often it was: 1, 2, 4, 8, and then always 16
abbrev pub pause_after : ℕ → ℕ
pause_after n = if n == 0 then 1 else if n == 1 then 2 else if n == 2 then 4 else if n == 3 then 8 else 16
