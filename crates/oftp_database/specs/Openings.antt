-- What an office has that was just opened over files.
use Rattle.std.specs.Prelude.{◌≡◌}
use Rattle.sqlite.specs.Files.{HoldsDatabase}
use Rattle.sqlite.specs.Recovery.{Image}
use Rattle.sqlite.specs.State.{State, HasCleanDisk}
use Rattle.sqlite.specs.Tree.{Trees}
use Rattle.sqlite_trees.specs.declared.store.Store.{Ghosts}
use Rattle.oftp_register.specs.Register.{Register, empty}
use Rattle.oftp_tables.specs.Opening.{IsFirstOf}
use Rattle.oftp_tables.specs.Stands.{IsContentOf}
use Rattle.oftp_store.specs.Opens.{Has, HoldsNoTable, HoldsTaken}
use Rattle.oftp_store.specs.Shown.{database_of, limits_of}
use Rattle.oftp_store.specs.declared.office.SqlOffice.{SqlOffice}
use Rattle.oftp_listing.specs.Remembering.{IsBlank}
use Rattle.oftp_listing.specs.declared.remembering.RememberingOffice.{RememberingOffice}
use Rattle.oftp_durable.specs.Databases.{ReopensPrefix, WhereFilesHold}
use Rattle.oftp_durable.specs.Headline.{LeavesAlone}
use Rattle.oftp_files.specs.declared.limits.TheConstants.{LIMITS}
use Rattle.oftp_database.specs.Attempts.{Takes}
use Rattle.oftp_database.specs.declared.opening.Opening.{Opening}
use Rattle.oftp_database.specs.declared.opening.Opening.TheVariants.{Migrate, Open}

-- The office has the register whose tables the files hold, and a crash leaves its tables and nothing else. So it has the register after a
-- prefix of the changes of an earlier life, where they hold what a crash left of that life. Where they hold no table it has the empty one.
pub record ShowsFiles (image : Image) (s : State) : Type 0 where
  pub found : WhereFilesHold image LIMITS (LeavesAlone LIMITS s)
  pub reopened : ReopensPrefix image LIMITS s
  pub fresh : HoldsNoTable image → LeavesAlone LIMITS s (empty LIMITS)

-- the office has the register whose tables the files hold, in schema 1 or in schema 2
pub record ShowsMigrated (image : Image) (s : State) : Type 0 where
  pub migrated : (r : Register) (db : Trees) → r.limits ≡ LIMITS → HoldsDatabase image db → IsFirstOf r db → Has LIMITS r s
  pub found : (r : Register) (db : Trees) → r.limits ≡ LIMITS → HoldsDatabase image db → IsContentOf db r → Has LIMITS r s
  pub table : ¬ HoldsNoTable image

abbrev pub Shows : Opening → Image → State → Type 0
Shows Open = ShowsFiles
Shows Migrate = ShowsMigrated

-- The office over files with this content was opened in this way. It remembers no number of octets. The files hold a database that is taken in
-- this way, and the office has its register.
pub record IsGained (how : Opening) {S : Type 0} (g : Ghosts S) (image : Image) (office : RememberingOffice (SqlOffice S g)) : Type 0 where
  pub blank : IsBlank office.counts
  pub limits : limits_of office.office ≡ LIMITS
  pub taken : HasCleanDisk (database_of g office.office) → HoldsTaken (Takes how) (HoldsDatabase image)
  pub shows : HasCleanDisk (database_of g office.office) → Shows how image (database_of g office.office)

abbrev pub IsOpened : {S : Type 0} (g : Ghosts S) → Image → RememberingOffice (SqlOffice S g) → Type 0
IsOpened g = IsGained Open g

abbrev pub IsMigrated : {S : Type 0} (g : Ghosts S) → Image → RememberingOffice (SqlOffice S g) → Type 0
IsMigrated g = IsGained Migrate g
