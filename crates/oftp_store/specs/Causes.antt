-- Why a call of the office reports a failed store.
use Rattle.std.specs.Prelude.{◌≡◌, ◌≢◌, ◌⊎◌, ◌+◌, ◌<◌, ◌≤◌, ◌^◌, ℕ, List, All, length, slice_get, [], Some, Ok, ⊤}
use Rattle.std.specs.Str.{IsUtf8}
use Rattle.sqlite.specs.declared.error.Error.{Error}
use Rattle.sqlite.specs.declared.error.Error.TheVariants.{SqliteFailure}
use Rattle.sqlite.specs.declared.error.ErrorCode.TheVariants.{OutOfMemory}
use Rattle.sqlite.specs.declared.types.Value.TheVariants as value
use Rattle.sqlite.specs.Order.{Row, column}
use Rattle.sqlite.specs.State.{HasCleanDisk, FailsToQuery, IsUnchanged, Shown}
use Rattle.sqlite.specs.Held.{Held, state}
use Rattle.sqlite_trees.specs.declared.store.Store.{Ghosts}
use Rattle.oftp_wire.specs.Octets.{IsName}
use Rattle.oftp_vfile.specs.declared.limits.Limits.{Limits}
use Rattle.oftp_vfile.specs.declared.format.TheConstants.{MOST_ROWS}
use Rattle.oftp_register.specs.declared.change.Change.{Change}
use Rattle.oftp_register.specs.declared.entries.Side.{Side}
use Rattle.oftp_register.specs.declared.entries.IssuedResponse.{IssuedResponse}
use Rattle.oftp_register.specs.declared.entry.ResponseKind.{ResponseKind}
use Rattle.oftp_register.specs.declared.entry.ResponseKind.TheVariants.{EndResponse, NegativeEndResponse}
use Rattle.oftp_register.specs.declared.office.OfficeFault.{OfficeFault}
use Rattle.oftp_register.specs.declared.office.OfficeFault.TheVariants.{Store}
use Rattle.oftp_register.specs.Register.{Register}
use Rattle.oftp_register.specs.Changes.{apply}
use Rattle.oftp_register.specs.Soundness.{IsResponse}
use Rattle.oftp_tables.specs.Stands.{Stands}
use Rattle.oftp_tables.specs.Tables.{HasRefusal, TellsIdentity, TellsValues, in_state_text, number_value, register_in}
use Rattle.oftp_tables.specs.Transactions.{IsTransactionError}
use Rattle.oftp_store.specs.Edits.{AreEdited, IsStorable}
use Rattle.oftp_store.specs.Numbers.{entries_in, file_number_text, has_filed_text, last_text, next_text}
use Rattle.oftp_store.specs.Reads.{IsFileWithin, TellsResponse, file_values, mark_and_state_values, received_note_values, received_values}
use Rattle.oftp_store.specs.Texts.{answered_page_text, in_header_text, in_page_text, last_row_text, out_header_text, out_page_text, received_page_text, response_text, some_rows_text}
use Rattle.oftp_store.specs.declared.changes.edit.Edit.{Edit}
use Rattle.oftp_store.specs.declared.queries.header.FileHeader.{FileHeader}
use Rattle.oftp_store.specs.declared.queries.header.IncomingHeader.{IncomingHeader}
use Rattle.oftp_store.specs.declared.queries.header.OutgoingHeader.{OutgoingHeader}
use Rattle.oftp_store.specs.declared.queries.last_number.Table.{Table}
use Rattle.oftp_store.specs.declared.queries.next_number.Sendable.{Sendable}
use Rattle.oftp_store.specs.declared.queries.received.ReceivedHeader.{ReceivedHeader}
use Rattle.oftp_store.specs.declared.queries.received.ReceivedNote.{ReceivedNote}

-- ---- the queries of the office

pub data Query : Type 0 where
  LastNumber : Table → Query
  FileNumber : Side → Query
  Filed : ResponseKind → Query
  NextNumber : Sendable → Query
  HeaderIn : Query
  HeaderOut : Query
  Response : Query
  LastRow : Side → Query
  SomeRows : Side → Query
  PageIn : Query
  PageOut : Query
  PageReceived : Query
  PageAnswered : Query

-- its SQL
abbrev pub sql_of : Query → List ℕ
sql_of (LastNumber table) = last_text table
sql_of (FileNumber which) = file_number_text which
sql_of (Filed kind) = has_filed_text kind
sql_of (NextNumber what) = next_text what
sql_of HeaderIn = in_header_text
sql_of HeaderOut = out_header_text
sql_of Response = response_text
sql_of (LastRow which) = last_row_text which
sql_of (SomeRows which) = some_rows_text which
sql_of PageIn = in_page_text
sql_of PageOut = out_page_text
sql_of PageReceived = received_page_text
sql_of PageAnswered = answered_page_text

-- how many values it is given
abbrev pub values_of : Query → ℕ
values_of (LastNumber table) = 0
values_of (FileNumber which) = 5
values_of (Filed kind) = 5
values_of (NextNumber what) = 2
values_of HeaderIn = 1
values_of HeaderOut = 1
values_of Response = 1
values_of (LastRow which) = 1
values_of (SomeRows which) = 3
values_of PageIn = 2
values_of PageOut = 2
values_of PageReceived = 2
values_of PageAnswered = 2

-- ---- the rows of entries

-- the number of an entry
abbrev pub HasNumber : Row → Type 0
HasNumber row = (n : ℕ) × (n < 2 ^ 63) × (column row 0 ≡ number_value n)

-- the position of a row of a file
abbrev pub HasPosition : Row → Type 0
HasPosition row = (at : ℕ) × (at < MOST_ROWS) × (column row 0 ≡ number_value at)

-- a text as the wire carries it
abbrev pub IsText : List ℕ → Type 0
IsText text = IsUtf8 text × (length text ≤ 999)

-- the columns that the tables of incoming and of outgoing files share
pub record HasFile (h : FileHeader) (row : Row) : Type 0 where
  pub identity : TellsIdentity h.identity 0 row
  pub values : TellsValues (file_values h) 0 row
  pub longest : h.longest < 2 ^ 32
  pub within : IsFileWithin h
  pub description : IsText h.description

-- a response in four columns from a place on
pub record HasResponse (x : IssuedResponse) (at : ℕ) (row : Row) : Type 0 where
  pub tells : TellsResponse x at row
  pub text : IsText x.text
  pub within : IsResponse x.kind x.reason [] x.text

-- the columns of an incoming and of an outgoing file

abbrev pub HasIncoming : Row → Type 0
HasIncoming row = (h : IncomingHeader) × HasFile h.file row × (column row 8 ≡ value.Text (in_state_text h.state))

abbrev pub HasOutgoing : Row → Type 0
HasOutgoing row = (h : OutgoingHeader) × HasFile h.file row × (h.mark < 2 ^ 32) × HasRefusal h.state × TellsValues (mark_and_state_values h.mark h.state) 8 row

-- the response to a file that may have none, in four columns from a place on
abbrev pub HasAnswer : ℕ → Row → Type 0
HasAnswer at row = (slice_get row at ≡ Some value.Null) ⊎ ((x : IssuedResponse) × HasResponse x at row)

-- the number of the file that a response answers, if there is one
abbrev pub HasAnswered : Row → Type 0
HasAnswered row = (slice_get row 1 ≡ Some value.Null) ⊎ ((n : ℕ) × (column row 1 ≡ number_value n))

-- a received response without its texts
pub record HasReceivedHeader (h : ReceivedHeader) (row : Row) : Type 0 where
  pub identity : TellsIdentity h.identity 1 row
  pub values : TellsValues (received_values h) 0 row

-- the texts of a Negative End Response
pub record HasNote (m : ReceivedNote) (row : Row) : Type 0 where
  pub creator : IsName 25 m.creator
  pub text : IsText m.text
  pub values : TellsValues (received_note_values m) 7 row

-- the texts of a received response of a kind
abbrev pub HasTexts : ResponseKind → Row → Type 0
HasTexts EndResponse row = ⊤
HasTexts NegativeEndResponse row = (m : ReceivedNote) × HasNote m row

-- the octets of a row of a file
abbrev pub HasBody : Row → Type 0
HasBody row = (body : List ℕ) × (column row 0 ≡ value.Blob body)

-- the row is one that the query returns for an entry
abbrev pub Fits : Query → Row → Type 0
Fits (LastNumber table) row = HasNumber row
Fits (FileNumber which) row = HasNumber row
Fits (Filed kind) row = ⊤
Fits (NextNumber what) row = HasNumber row
Fits HeaderIn row = HasIncoming row
Fits HeaderOut row = HasOutgoing row
Fits Response row = (x : IssuedResponse) × HasResponse x 0 row
Fits (LastRow which) row = HasPosition row
Fits (SomeRows which) row = HasBody row
Fits PageIn row = HasIncoming row × HasAnswer 9 row
Fits PageOut row = HasOutgoing row
Fits PageReceived row = (h : ReceivedHeader) × HasReceivedHeader h row × HasTexts h.kind row
Fits PageAnswered row = HasAnswered row

-- one of the rows doesn't fit
abbrev pub Misfits : (Row → Type 0) → List Row → Type 0
Misfits Fit rows = (at : ℕ) × (row : Row) × (slice_get rows at ≡ Some row) × ¬ Fit row

-- ---- causes

-- SQLite answered a query with an error other than out of memory, or with a row that fits no entry
pub data IsQueryCause {S : Type 0} (g : Ghosts S) (text : List ℕ) (params : Row) (Fit : Row → Type 0) (old new : Held S) : Type 0 where
  error : (e : Error) → FailsToQuery text params (state g old) (state g new) e → e ≢ SqliteFailure OutOfMemory → IsQueryCause g text params Fit old new
  row : (rows : List Row) (at : ℕ) (row : Row) → Shown text params (state g old) (state g new) rows → slice_get rows at ≡ Some row → ¬ Fit row → IsQueryCause g text params Fit old new

-- The cause of a look-up in a register: a query of the office, or no number is left in a table.
pub data IsCause {S : Type 0} (g : Ghosts S) (r : Register) (new : Held S) : Type 0 where
  query : (asked : Query) (old : Held S) (params : Row) → length params ≡ values_of asked → IsQueryCause g (sql_of asked) params (Fits asked) old new → IsCause g r new
  number : (table : Table) → 2 ^ 63 ≤ entries_in r table + 1 → IsCause g r new

-- The cause of an error at a row of a page. It is that of a look-up, or the row fits no entry, and the connection is as it was.
pub data IsRowCause {S : Type 0} (g : Ghosts S) (asked : Query) (r : Register) (row : Row) (old new : Held S) : Type 0 where
  asking : IsCause g r new → IsRowCause g asked r row old new
  misread : ¬ Fits asked row → IsUnchanged (state g old) (state g new) → IsRowCause g asked r row old new

-- The cause of a change. It is that of a look-up. Or the register makes it, and its transaction ended with an error other than out of
-- memory, or the database can't store what makes it.
pub data IsCommitCause {S : Type 0} (g : Ghosts S) (r : Register) (change : Change) (new : Held S) : Type 0 where
  reading : IsCause g r new → IsCommitCause g r change new
  writing : (s : Register) (e : Error) → apply r change ≡ Ok s → IsTransactionError g new e → e ≢ SqliteFailure OutOfMemory → IsCommitCause g r change new
  size : (edits : List Edit) (s : Register) → apply r change ≡ Ok s → AreEdited edits r s → ¬ All IsStorable edits → IsCommitCause g r change new

-- A failed store has a cause. Memory may be refused to the call itself, so out of memory needs none.

pub record HasQueryCause {S : Type 0} (g : Ghosts S) (text : List ℕ) (params : Row) (Fit : Row → Type 0) (old new : Held S) (fault : OfficeFault) : Type 0 where
  pub cause : fault ≡ Store → HasCleanDisk (state g new) → IsQueryCause g text params Fit old new

pub record HasCause {S : Type 0} (g : Ghosts S) (old new : Held S) (fault : OfficeFault) : Type 0 where
  pub cause : fault ≡ Store → HasCleanDisk (state g new) → (limits : Limits) → Stands limits (state g old) → IsCause g (register_in limits (state g old).now.trees) new

-- in a register of which this holds

pub record HasCauseWhere {S : Type 0} (g : Ghosts S) (Holds : Register → Type 0) (old new : Held S) (fault : OfficeFault) : Type 0 where
  pub cause : fault ≡ Store → HasCleanDisk (state g new) → (limits : Limits) → Stands limits (state g old) → Holds (register_in limits (state g old).now.trees)
      → IsCause g (register_in limits (state g old).now.trees) new

pub record HasRowCause {S : Type 0} (g : Ghosts S) (asked : Query) (Holds : Register → Type 0) (row : Row) (old new : Held S) (fault : OfficeFault) : Type 0 where
  pub cause : fault ≡ Store → HasCleanDisk (state g new) → (limits : Limits) → Stands limits (state g old) → Holds (register_in limits (state g old).now.trees)
      → IsRowCause g asked (register_in limits (state g old).now.trees) row old new

-- of a commit

pub record HasCommitCause {S : Type 0} (g : Ghosts S) (limits : Limits) (change : Change) (old new : Held S) (fault : OfficeFault) : Type 0 where
  pub cause : fault ≡ Store → HasCleanDisk (state g new) → Stands limits (state g old) → IsCommitCause g (register_in limits (state g old).now.trees) change new
