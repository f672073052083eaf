-- What a call does over a database, from the register that it had, or that its files held.
use Rattle.std.specs.Prelude.{◌≡◌, ℕ, List, Option, Result}
use Rattle.sqlite.specs.Files.{HoldsDatabase}
use Rattle.sqlite.specs.Recovery.{Image}
use Rattle.sqlite.specs.State.{HasCleanDisk, State}
use Rattle.sqlite.specs.Tree.{Trees}
use Rattle.sqlite_trees.specs.declared.store.Store.{Ghosts}
use Rattle.oftp_vfile.specs.declared.limits.Limits.{Limits}
use Rattle.oftp_register.specs.declared.change.Change.{Change}
use Rattle.oftp_register.specs.Register.{Register}
use Rattle.oftp_register.specs.Soundness.{IsSound}
use Rattle.oftp_session.specs.Settings.{Setting}
use Rattle.oftp_tables.specs.Opening.{IsStoreOf}
use Rattle.oftp_tables.specs.Stands.{IsContentOf}
use Rattle.oftp_tables.specs.Tables.{register_in}
use Rattle.oftp_store.specs.Opens.{Has}
use Rattle.oftp_store.specs.Shown.{database_of, limits_of, shown}
use Rattle.oftp_store.specs.declared.office.SqlOffice.{SqlOffice}
use Rattle.oftp_io.specs.declared.port.Port.{Port}
use Rattle.oftp_engine.specs.declared.serving.End.{End}
use Rattle.oftp_engine.specs.declared.serving.RunFault.{RunFault}
use Rattle.oftp_engine.specs.Served.{IsPrefix, Serves}
use Rattle.oftp_engine.specs.Serving.{Scene, scene}
use Rattle.oftp_durable.specs.Headline.{LeavesAlone, SessionLeaves}
use Rattle.oftp_durable.specs.Reopening.{IsReopened}

-- this holds of the register that the database had before a call, where its disk is clean after it
abbrev pub OnCleanDisk : {S : Type 0} (g : Ghosts S) → SqlOffice S g → SqlOffice S g → (Register → Type 0) → Type 0
OnCleanDisk g old new Holds = HasCleanDisk (database_of g new) → (r : Register) → Has (limits_of old) r (database_of g old) → Holds r

-- a crash leaves the tables of the office's own register, and nothing else
abbrev pub LeavesItsOwn : {S : Type 0} (g : Ghosts S) → SqlOffice S g → Type 0
LeavesItsOwn g office = LeavesAlone (limits_of office) (database_of g office) (register_in (limits_of office) (database_of g office).now.trees)

-- the scene of an office over a database, and of a writer's port
abbrev pub scene_over : {S W : Type 0} (g : Ghosts S) → (W → Option (List ℕ)) → SqlOffice S g → Port W → Scene
scene_over g contents office port = scene contents (shown g office) port

-- A session was served over a database, and heard these octets. It did what it does over any office; and the headline holds of it.
abbrev pub ServesOver : {S W : Type 0} (g : Ghosts S) → (W → Option (List ℕ)) → Setting → List ℕ → (before after : SqlOffice S g) → (here there : Port W) → Result End RunFault → Type 0
ServesOver g contents setting given before after here there result = OnCleanDisk g before after (λ r.
    Serves setting given (scene_over g contents before here) (scene_over g contents after there) result
    × SessionLeaves contents setting given r here there (limits_of after) (database_of g after) result)

-- this holds of each register with these limits whose tables the files hold
abbrev pub WhereFilesHold : Image → Limits → (Register → Type 0) → Type 0
WhereFilesHold image limits Holds = (r : Register) (db : Trees) → r.limits ≡ limits → IsSound r → HoldsDatabase image db → IsStoreOf r db → Holds r

-- where the files hold what a crash left of a run, the office has the register after a prefix of that run's changes
abbrev pub ReopensPrefix : Image → Limits → State → Type 0
ReopensPrefix image limits s = (r : Register) (changes : List Change) (least made : ℕ) (db : Trees) → r.limits ≡ limits
    → IsPrefix IsContentOf changes r least made db → HoldsDatabase image db → IsReopened limits s r changes least
