-- The queries that return a number.
use Rattle.std.specs.Prelude.{◌≡◌, ℕ, List, length, codes, pos, Option, Some, None, ⊤}
use Rattle.std.specs.Option.{option_map}
use Rattle.sqlite.specs.declared.types.Value.TheVariants.{Int}
use Rattle.sqlite.specs.Order.{Row, column}
use Rattle.oftp_register.specs.declared.entry.Identity.{Identity}
use Rattle.oftp_register.specs.declared.entry.ResponseKind.{ResponseKind}
use Rattle.oftp_register.specs.declared.entry.ResponseKind.TheVariants.{EndResponse, NegativeEndResponse}
use Rattle.oftp_register.specs.declared.entries.Side.{Side}
use Rattle.oftp_register.specs.declared.entries.Side.TheVariants as side
use Rattle.oftp_register.specs.declared.entries.IncomingEntry.{IncomingEntry}
use Rattle.oftp_register.specs.declared.entries.OutgoingEntry.{OutgoingEntry}
use Rattle.oftp_register.specs.declared.entries.IssuedEntry.{IssuedEntry}
use Rattle.oftp_register.specs.Register.{Register}
use Rattle.oftp_register.specs.LookUps.{look_in, next_file, next_response, out_no}
use Rattle.oftp_store.specs.declared.queries.last_number.Table.{Table}
use Rattle.oftp_store.specs.declared.queries.last_number.Table.TheVariants as table
use Rattle.oftp_store.specs.declared.queries.next_number.Sendable.{Sendable}
use Rattle.oftp_store.specs.declared.queries.next_number.Sendable.TheVariants as sendable

-- the number in a row, if there is a row
abbrev pub TellsNo : Option ℕ → Option Row → Type 0
TellsNo None None = ⊤
TellsNo None (Some row) = ⊥
TellsNo (Some n) None = ⊥
TellsNo (Some n) (Some row) = column row 0 ≡ Int (pos n)

-- ---- the last number of a table

abbrev pub last_text : Table → List ℕ
last_text table.IncomingFiles = codes "SELECT no FROM in_file ORDER BY no DESC LIMIT 1"
last_text table.OutgoingFiles = codes "SELECT no FROM out_file ORDER BY no DESC LIMIT 1"
last_text table.ReceivedResponses = codes "SELECT no FROM received ORDER BY no DESC LIMIT 1"

-- how many entries a table has
abbrev pub entries_in : Register → Table → ℕ
entries_in r table.IncomingFiles = length r.incoming
entries_in r table.OutgoingFiles = length r.outgoing
entries_in r table.ReceivedResponses = length r.received

-- the table of the incoming or of the outgoing files
abbrev pub table_of : Side → Table
table_of side.Incoming = table.IncomingFiles
table_of side.Outgoing = table.OutgoingFiles

-- ---- the number of the file of an identity

abbrev pub file_number_text : Side → List ℕ
file_number_text side.Incoming = codes "SELECT no FROM in_file WHERE dataset = ?1 AND date = ?2 AND time = ?3 AND originator = ?4 AND destination = ?5 ORDER BY no LIMIT 1"
file_number_text side.Outgoing = codes "SELECT no FROM out_file WHERE dataset = ?1 AND date = ?2 AND time = ?3 AND originator = ?4 AND destination = ?5 ORDER BY no LIMIT 1"

abbrev pub has_filed_text : ResponseKind → List ℕ
has_filed_text EndResponse =
    codes "SELECT no FROM received WHERE kind = 'EERP' AND dataset = ?1 AND date = ?2 AND time = ?3 AND originator = ?4 AND destination = ?5 ORDER BY no LIMIT 1"
has_filed_text NegativeEndResponse =
    codes "SELECT no FROM received WHERE kind = 'NERP' AND dataset = ?1 AND date = ?2 AND time = ?3 AND originator = ?4 AND destination = ?5 ORDER BY no LIMIT 1"

-- the number of the file of an identity, if there is one
abbrev pub file_number : Register → Side → Identity → Option ℕ
file_number r side.Incoming identity = option_map (λ (e : IncomingEntry). e.no) (look_in r identity)
file_number r side.Outgoing identity = out_no r identity

-- ---- what is sent next

abbrev pub next_text : Sendable → List ℕ
next_text sendable.File = codes "SELECT no FROM out_file WHERE no > ?1 AND (state = 'waiting' OR state = 'closing') AND destination = ?2 ORDER BY no LIMIT 1"
next_text sendable.Response =
    codes "SELECT issued.no FROM issued JOIN in_file ON in_file.no = issued.no WHERE issued.no > ?1 AND sent = 0 AND originator = ?2 ORDER BY issued.no LIMIT 1"

-- The number above `tried` of the first file that is on its way to a partner. Or it is that of the file with the first response that is due to it.
abbrev pub next_number : Register → Sendable → List ℕ → ℕ → Option ℕ
next_number r sendable.File partner tried = option_map (λ (e : OutgoingEntry). e.no) (next_file r partner tried)
next_number r sendable.Response partner tried = option_map (λ (e : IssuedEntry). e.no) (next_response r partner tried)
