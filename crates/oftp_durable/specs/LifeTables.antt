-- The headline for a life over a database.
use Rattle.std.specs.Prelude.{◌≡◌, ℕ, ⊤, Bool, false, List, [], ◌∷◌, Option, None, Some, Result, Ok, Err}
use Rattle.std.proofs.Common.{inl, inr}
use Rattle.sqlite.specs.State.{State}
use Rattle.sqlite_trees.specs.declared.store.Store.{Ghosts}
use Rattle.oftp_vfile.specs.declared.limits.Limits.{Limits}
use Rattle.oftp_register.specs.declared.change.Change.{Change}
use Rattle.oftp_register.specs.declared.entry.Identity.{Identity}
use Rattle.oftp_register.specs.ByIdentity.{in_at}
use Rattle.oftp_register.specs.Register.{Register}
use Rattle.oftp_session.specs.Settings.{Setting}
use Rattle.oftp_session.specs.declared.session.Ending.{Ending}
use Rattle.oftp_tables.specs.Tables.{register_in}
use Rattle.oftp_store.specs.Opens.{Has}
use Rattle.oftp_store.specs.Shown.{database_of, limits_of}
use Rattle.oftp_store.specs.declared.office.SqlOffice.{SqlOffice}
use Rattle.oftp_io.specs.declared.port.Port.{Port}
use Rattle.oftp_engine.specs.Parts.{File, IsSoFar}
use Rattle.oftp_engine.specs.declared.serving.RunFault.{RunFault}
use Rattle.oftp_engine.specs.declared.serving.RunFault.TheVariants.{Memory}
use Rattle.oftp_life.specs.Acts.{Act, Conversed, Ordered}
use Rattle.oftp_life.specs.LifeParts.{BringAll, session_over}
use Rattle.oftp_life.specs.Lives.{LifeData, LifeSessionData, life_begun_with}
use Rattle.oftp_life.specs.Outboxes.{contents_of, octets_out}
use Rattle.oftp_life.specs.Reaches.{Covers, Reaches}
use Rattle.oftp_life.specs.declared.outbox.Outbox.{Outbox}
use Rattle.oftp_life.specs.declared.stage.Stage.{Stage}
use Rattle.oftp_life.specs.declared.stage.Stage.TheVariants as stage
use Rattle.oftp_durable.specs.Counts.{AnswersAreKept}
use Rattle.oftp_durable.specs.Databases.{OnCleanDisk}
use Rattle.oftp_durable.specs.Headline.{LeavesAlone, LeavesPrefix, LeavesSoFar, SessionLeaves, as_served}

-- each Restart position that an act from this register answers was kept, wherever its writer stopped
abbrev pub ActIsKept : Act → Register → Type 0
ActIsKept (Conversed setting heard said) r = (stop : Option ℕ) → AnswersAreKept (session_over setting heard stop) r
ActIsKept (Ordered book call) r = ⊤

-- so is each that all acts answer, each act from the register that those before it led to
abbrev pub ActsAreKept : (first : Register) (acts : List Act) (changes : List Change) (now : Register) → Reaches first acts changes now → Type 0
ActsAreKept first [] changes now h = ⊤
ActsAreKept first (act ∷ acts) changes now h = ActsAreKept first acts h.before h.at h.reached × ActIsKept act h.at

-- the same where the last act may have been cut short
abbrev pub LifeIsKept : (first : Register) (acts : List Act) (changes : List Change) (least : ℕ) → Covers first acts changes least → Type 0
LifeIsKept first acts changes least (inl all) = ActsAreKept first acts changes all.0 all.1
LifeIsKept first acts changes least (inr cut) = ActsAreKept first cut.earlier cut.before cut.at cut.reached × ActIsKept cut.last cut.at

-- A life that began with r has done these acts over the database. A crash leaves r after a prefix of all their changes, with each that was
-- answered. Unless the life is over, it leaves the office's register and nothing else. Each Restart position that its sessions answer was
-- kept. If its sessions bring parts of a file, a crash leaves nothing of it, a beginning, or the whole file.
pub record AllLeaves (r : Register) (acts : List Act) (over : Bool) (limits : Limits) (s : State) : Type 0 where
  pub changes : List Change
  pub least : ℕ
  pub covers : Covers r acts changes least
  pub left : LeavesPrefix limits s r changes least
  pub alone : over ≡ false → LeavesAlone limits s (register_in limits s.now.trees)
  pub counts : LifeIsKept r acts changes least covers
  pub parts : (file : File) (identity : Identity) → IsSoFar file (in_at r identity) → BringAll file identity r acts changes least covers → LeavesSoFar file identity s

-- The last act of a life that began with r is a session, which went on from an empty box to `out`. From the register that the acts before
-- it led to, it leaves over the database what a session leaves that was served like this.
pub record LastLeaves (r : Register) (acts : List Act) (limits : Limits) (s : State) (out : Port Outbox) (result : Result (Option Ending) RunFault) : Type 0 where
  pub setting : Setting
  pub heard : List ℕ
  pub earlier : List Act
  pub are : acts ≡ Conversed setting heard (octets_out out.inner) ∷ earlier
  pub changes : List Change
  pub at : Register
  pub reached : Reaches r earlier changes at
  pub front : Port Outbox
  pub nothing : octets_out front.inner ≡ []
  pub leaves : SessionLeaves contents_of setting heard at front out limits s (as_served result)

-- What the session leaves that stands like this. One that sends leaves what it would where memory runs out between the same two steps. Of one
-- that is lost nothing more is said than of its life.
abbrev pub StageLeaves : Register → List Act → Limits → State → Port Outbox → Stage → Type 0
StageLeaves r acts limits s out stage.Waits = LastLeaves r acts limits s out (Ok None)
StageLeaves r acts limits s out stage.Sends = LastLeaves r acts limits s out (Err Memory)
StageLeaves r acts limits s out (stage.Ended ending) = LastLeaves r acts limits s out (Ok (Some ending))
StageLeaves r acts limits s out (stage.Failed fault) = LastLeaves r acts limits s out (Err fault)
StageLeaves r acts limits s out stage.Lost = ⊤

-- a life that has done nothing yet
abbrev pub HasDoneNothing : {O : Type 0} → LifeData O → Type 0
HasDoneNothing l = l ≡ life_begun_with l.began

-- a life begins over a database that has r, and leaves what a life leaves that has done nothing
pub record LifeBegins {S : Type 0} (g : Ghosts S) (r : Register) (life : LifeData (SqlOffice S g)) : Type 0 where
  pub has : Has (limits_of life.began) r (database_of g life.began)
  pub leaves : AllLeaves r life.acts life.over (limits_of life.office) (database_of g life.office)

-- a life did these acts over a database since it began with an office: it leaves this of each register that the database had then
abbrev pub HasLeftTables : {S : Type 0} (g : Ghosts S) → SqlOffice S g → List Act → Bool → SqlOffice S g → Type 0
HasLeftTables g began acts over now = OnCleanDisk g began now (λ r. AllLeaves r acts over (limits_of now) (database_of g now))

-- and this its last session leaves, as it stands
abbrev pub HasLeftAtStage : {S : Type 0} (g : Ghosts S) → LifeSessionData (SqlOffice S g) → Type 0
HasLeftAtStage g t = OnCleanDisk g t.began t.office (λ r. StageLeaves r t.acts (limits_of t.office) (database_of g t.office) t.out t.stage)
