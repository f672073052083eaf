-- Paths, and why the files at one weren't opened.
use Rattle.std.specs.Prelude.{◌≡◌, ◌≢◌, ◌↔◌, ℕ, List, [], codes, IsTrue}
use Rattle.sqlite.specs.declared.error.Error.{Error}
use Rattle.sqlite.specs.declared.error.Error.TheVariants.{SqliteFailure}
use Rattle.sqlite.specs.declared.error.ErrorCode.TheVariants.{DatabaseBusy, OutOfMemory}
use Rattle.sqlite.specs.Opening.{is_open_error}
use Rattle.oftp_tables.specs.declared.fault.StoreFault.TheVariants.{Memory, WrongSchema}
use Rattle.oftp_store.specs.declared.path.PathFault.{PathFault}
use Rattle.oftp_store.specs.declared.path.PathFault.TheVariants.{Held, Store, Unkept}

-- SQLite keeps a database under this path. Under an empty path it uses a temporary file, and under `:memory:` it uses memory.
abbrev pub IsKept : List ℕ → Type 0
IsKept path = (path ≢ []) × (path ≢ codes ":memory:")

-- the fault for an error of SQLite: that of a lock, out of memory, or a store that failed
pub record IsFaultFor (e : Error) (fault : PathFault) : Type 0 where
  pub held : (fault ≡ Held) ↔ (e ≡ SqliteFailure DatabaseBusy)
  pub memory : (fault ≡ Store Memory) ↔ (e ≡ SqliteFailure OutOfMemory)
  pub named : fault ≢ Store WrongSchema
  pub kept : fault ≢ Unkept

-- the fault for an error with which SQLite opens no files
pub record IsOpeningFault (fault : PathFault) : Type 0 where
  pub error : Error
  pub opening : IsTrue (is_open_error error)
  pub told : IsFaultFor error fault
