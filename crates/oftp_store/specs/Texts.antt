-- The SQL of the statements.
use Rattle.std.specs.Prelude.{◌++◌, ℕ, List, codes}
use Rattle.sqlite.specs.Given.{IsPlain}
use Rattle.sqlite.specs.Listing.{understood}
use Rattle.oftp_register.specs.declared.entries.Side.{Side}
use Rattle.oftp_register.specs.declared.entries.Side.TheVariants as side
use Rattle.oftp_tables.specs.Schema.{office_schema}

-- ---- statements of changes, on files, on their rows and on responses

abbrev pub add_file_text : Side → List ℕ
add_file_text side.Incoming =
    codes "INSERT INTO in_file (no, dataset, date, time, originator, destination, format, longest, description, state) VALUES (?1, ?2, ?3, ?4, ?5, ?6, ?7, ?8, ?9, 'open')"
add_file_text side.Outgoing =
    codes "INSERT INTO out_file (no, dataset, date, time, originator, destination, format, longest, description, mark, state, reason) VALUES (?1, ?2, ?3, ?4, ?5, ?6, ?7, ?8, ?9, 0, 'waiting', '')"

abbrev pub set_header_text : List ℕ
set_header_text = codes "UPDATE in_file SET format = ?2, longest = ?3, description = ?4 WHERE no = ?1"

abbrev pub set_whole_text : List ℕ
set_whole_text = codes "UPDATE in_file SET state = 'whole' WHERE no = ?1"

abbrev pub set_outgoing_text : List ℕ
set_outgoing_text = codes "UPDATE out_file SET mark = ?2, state = ?3, reason = ?4 WHERE no = ?1"

abbrev pub add_row_text : Side → List ℕ
add_row_text side.Incoming = codes "INSERT INTO in_row (no, pos, body) VALUES (?1, ?2, ?3)"
add_row_text side.Outgoing = codes "INSERT INTO out_row (no, pos, body) VALUES (?1, ?2, ?3)"

abbrev pub cut_rows_text : List ℕ
cut_rows_text = codes "DELETE FROM in_row WHERE no = ?1 AND pos >= ?2"

abbrev pub add_issued_text : List ℕ
add_issued_text = codes "INSERT INTO issued (no, kind, reason, note, sent) VALUES (?1, ?2, ?3, ?4, 0)"

abbrev pub set_sent_text : List ℕ
set_sent_text = codes "UPDATE issued SET sent = 1 WHERE no = ?1"

abbrev pub add_received_text : List ℕ
add_received_text = codes "INSERT INTO received (no, kind, dataset, date, time, originator, destination, reason) VALUES (?1, ?2, ?3, ?4, ?5, ?6, ?7, ?8)"

abbrev pub add_note_text : List ℕ
add_note_text = codes "INSERT INTO received_note (no, creator, note) VALUES (?1, ?2, ?3)"

-- ---- queries

-- SQL that is valid over the office's tables, has no RETURNING and doesn't read the time
abbrev pub IsPlainText : List ℕ → Type 0
IsPlainText text = IsPlain (understood office_schema text)

abbrev pub in_header_text : List ℕ
in_header_text = codes "SELECT dataset, date, time, originator, destination, format, longest, description, state FROM in_file WHERE no = ?1"

-- a page of the incoming files behind a number, each with its response: the columns of the header, of the response, and the number
abbrev pub in_page_text : List ℕ
in_page_text =
    codes "SELECT dataset, date, time, originator, destination, format, longest, description, state, kind, reason, note, sent, in_file.no "
    ++ codes "FROM in_file LEFT JOIN issued ON issued.no = in_file.no WHERE in_file.no > ?1 ORDER BY in_file.no LIMIT ?2"

abbrev pub out_header_text : List ℕ
out_header_text = codes "SELECT dataset, date, time, originator, destination, format, longest, description, mark, state, reason FROM out_file WHERE no = ?1"

-- a page of the outgoing files behind a number: the columns of the header, and the number
abbrev pub out_page_text : List ℕ
out_page_text =
    codes "SELECT dataset, date, time, originator, destination, format, longest, description, mark, state, reason, no FROM out_file WHERE no > ?1 ORDER BY no LIMIT ?2"

abbrev pub response_text : List ℕ
response_text = codes "SELECT kind, reason, note, sent FROM issued WHERE no = ?1"

abbrev pub last_row_text : Side → List ℕ
last_row_text side.Incoming = codes "SELECT pos FROM in_row WHERE no = ?1 ORDER BY pos DESC LIMIT 1"
last_row_text side.Outgoing = codes "SELECT pos FROM out_row WHERE no = ?1 ORDER BY pos DESC LIMIT 1"

abbrev pub some_rows_text : Side → List ℕ
some_rows_text side.Incoming = codes "SELECT body FROM in_row WHERE no = ?1 AND pos >= ?2 ORDER BY pos LIMIT ?3"
some_rows_text side.Outgoing = codes "SELECT body FROM out_row WHERE no = ?1 AND pos >= ?2 ORDER BY pos LIMIT ?3"

-- a page of the received responses behind a number, each with its texts: the columns of the response, of the texts, and the number
abbrev pub received_page_text : List ℕ
received_page_text =
    codes "SELECT kind, dataset, date, time, originator, destination, reason, creator, note, received.no "
    ++ codes "FROM received LEFT JOIN received_note ON received_note.no = received.no WHERE received.no > ?1 ORDER BY received.no LIMIT ?2"

-- A page of the received responses behind a number, each with the outgoing file that has its identity: the numbers of both. The columns of
-- the identity are in the order of the table's UNIQUE.
abbrev pub answered_page_text : List ℕ
answered_page_text =
    codes "SELECT received.no, out_file.no FROM received LEFT JOIN out_file ON out_file.dataset = received.dataset AND out_file.date = received.date "
    ++ codes "AND out_file.time = received.time AND out_file.originator = received.originator AND out_file.destination = received.destination "
    ++ codes "WHERE received.no > ?1 ORDER BY received.no LIMIT ?2"
