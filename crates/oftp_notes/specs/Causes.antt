-- Why a path, a database, an address or a number is none that a command can use.
use Rattle.std.specs.Prelude.{ℕ, List, ◌++◌, codes}
use Rattle.std.specs.Fmt.{decimal}
use Rattle.oftp_notes.specs.System.{system_text}
use Rattle.oftp_notes.specs.declared.cause.PathCause.{PathCause}
use Rattle.oftp_notes.specs.declared.cause.PathCause.TheVariants as path
use Rattle.oftp_notes.specs.declared.cause.DatabaseCause.{DatabaseCause}
use Rattle.oftp_notes.specs.declared.cause.DatabaseCause.TheVariants as database
use Rattle.oftp_notes.specs.declared.cause.AddressCause.{AddressCause}
use Rattle.oftp_notes.specs.declared.cause.AddressCause.TheVariants as address
use Rattle.oftp_notes.specs.declared.cause.FileState.{FileState}
use Rattle.oftp_notes.specs.declared.cause.FileState.TheVariants as state

-- why a file or a folder can't be read or made
abbrev pub path_cause_text : PathCause → List ℕ
path_cause_text (path.System error) = system_text error
path_cause_text path.IsFolder = codes "is a folder, and a file is needed"
path_cause_text path.IsNoFolder = codes "is no folder"
path_cause_text path.IsNeeded = codes "the command or a database needs it: name another file"
path_cause_text path.HasLog = codes "has a log or a journal beside it (-wal, -journal): move it away"
path_cause_text path.IsTooLong = codes "has more than 16777216 octets"
path_cause_text path.IsOther = codes "can't be read or made, and works now: try again"

-- why a database can't be used
abbrev pub database_cause_text : DatabaseCause → List ℕ
database_cause_text (database.System error) = system_text error
database_cause_text (database.IsHeld process) = codes "process " ++ (decimal process ++ codes " has it open")
database_cause_text database.IsFolder = codes "is a folder"
database_cause_text database.IsUnkept = codes "an empty path and :memory: keep nothing"
database_cause_text database.IsNoDatabase = codes "is no database of SQLite"
database_cause_text database.IsOfOthers = codes "has other tables than this station's: another program's, or those of schema 1 (migrate)"
database_cause_text database.IsMissing = codes "isn't there"
database_cause_text database.IsDamaged = codes "can't be opened: its disk failed, it is damaged, or it was locked till now"
database_cause_text database.IsFailing = codes "a read or a write failed, or the station over it is gone; report shows what is done"
database_cause_text database.IsFull = codes "has room for 1000000 files, each of 67108864 octets and 1000000 records at most"

-- why an address can't be connected or bound
abbrev pub address_cause_text : AddressCause → List ℕ
address_cause_text (address.System error) = system_text error
address_cause_text address.IsNoAddress = codes "has to be HOST:PORT with a port of 1 to 65535"
address_cause_text address.IsNoName = codes "the name has no address"
address_cause_text address.IsLate = codes "nobody answered in time"
address_cause_text address.IsEnding = codes "isn't there, or ended before this command's turn: nothing was done"
address_cause_text address.IsSilent = codes "the connection broke, or nothing came or went in time"
address_cause_text address.IsOther = codes "couldn't be reached, and can be now: try again"

-- the state in which a file can't be answered or fetched
abbrev pub state_text : FileState → List ℕ
state_text state.Incomplete = codes "isn't whole yet"
state_text state.Released = codes "was released already (EERP)"
state_text state.Refused = codes "was refused already (NERP)"
state_text state.Other = codes "was in another state: look at report in"
