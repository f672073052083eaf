-- A life over the files that an earlier life left.
use Rattle.std.specs.Prelude.{ℕ, Bool, List}
use Rattle.sqlite.specs.Files.{HoldsDatabase}
use Rattle.sqlite.specs.Recovery.{Image}
use Rattle.sqlite.specs.State.{HasCleanDisk, State}
use Rattle.sqlite.specs.Tree.{Trees}
use Rattle.sqlite_trees.specs.declared.store.Store.{Ghosts}
use Rattle.oftp_vfile.specs.declared.limits.Limits.{Limits}
use Rattle.oftp_register.specs.declared.change.Change.{Change}
use Rattle.oftp_register.specs.Register.{Register}
use Rattle.oftp_store.specs.Shown.{database_of, limits_of}
use Rattle.oftp_store.specs.declared.office.SqlOffice.{SqlOffice}
use Rattle.oftp_files.specs.declared.limits.TheConstants.{LIMITS}
use Rattle.oftp_life.specs.Acts.{Act}
use Rattle.oftp_life.specs.Lives.{HasLeft}
use Rattle.oftp_life.specs.Reaches.{Covers}
use Rattle.oftp_durable.specs.LifeTables.{AllLeaves}
use Rattle.oftp_durable.specs.Reopening.{IsReopened}
use Rattle.oftp_database.specs.Openings.{IsOpened}
use Rattle.oftp_database.specs.Seen.{OfficeOver, seen_over}

-- A life that began with r did these acts, and the next one began with the database `s`. It began with the register after a prefix of all
-- changes of the first, which has each that was answered.
pub record GoesOn (r : Register) (acts : List Act) (s : State) : Type 0 where
  pub changes : List Change
  pub least : ℕ
  pub covers : Covers r acts changes least
  pub reopened : IsReopened LIMITS s r changes least

-- so it did, and leaves, after its own acts, what a life leaves that begins with that register
pub record LivesOn (r : Register) (acts : List Act) (s : State) (more : List Act) (over : Bool) (limits : Limits) (left : State) : Type 0 where
  pub begins : GoesOn r acts s
  pub leaves : AllLeaves begins.reopened.register more over limits left

-- this holds of all files that hold what a crash may leave of the database now
abbrev pub AfterCrash : {S : Type 0} (g : Ghosts S) → SqlOffice S g → (Image → Type 0) → Type 0
AfterCrash g now Holds = (db : Trees) → (database_of g now).may_leave db → (files : Image) → HoldsDatabase files db → Holds files

-- A life may begin with an office that was opened over these files. Each such life goes on after a life that began with r and did these acts.
abbrev pub NextGoesOn : {S : Type 0} (g : Ghosts S) → Image → Register → List Act → Type 0
NextGoesOn g files r acts = (next later : OfficeOver g) (more : List Act) (ended : Bool) → IsOpened g files next
    → HasCleanDisk (database_of g next.office) → HasLeft (seen_over g) next more ended later → HasCleanDisk (database_of g later.office)
    → LivesOn r acts (database_of g next.office) more ended (limits_of later.office) (database_of g later.office)
