-- What a life leaves, in terms of the tables.
use Rattle.std.proofs.Common.{◌≡◌, ◌∙◌, sym, ap, Bool, true, false, IsTrue, ℕ, List, Option, None, Some, Result, Ok, Err, refl, subst}
use Rattle.sqlite.specs.State.{HasCleanDisk, State}
use Rattle.sqlite_trees.specs.View.{doubt}
use Rattle.sqlite_trees.specs.declared.store.Store.{Ghosts}
use Rattle.oftp_vfile.specs.declared.limits.Limits.{Limits}
use Rattle.oftp_register.specs.declared.entry.Identity.{Identity}
use Rattle.oftp_register.specs.ByIdentity.{in_at}
use Rattle.oftp_register.specs.Offices.{View}
use Rattle.oftp_register.specs.Register.{Register}
use Rattle.oftp_register.specs.Soundness.{IsSound}
use Rattle.oftp_session.specs.Settings.{Setting}
use Rattle.oftp_session.specs.declared.session.Ending.{Ending}
use Rattle.oftp_store.specs.Opens.{Has}
use Rattle.oftp_store.specs.Shown.{database_of, faults_of, limits_of, shown}
use Rattle.oftp_store.specs.Views.{view_of}
use Rattle.oftp_store.specs.declared.office.SqlOffice.{SqlOffice}
use Rattle.oftp_io.specs.declared.port.Port.{Port}
use Rattle.oftp_engine.specs.Conversation.{ComesSoFar, ComesTo, Dialogue}
use Rattle.oftp_engine.specs.Parts.{File, IsSoFar}
use Rattle.oftp_engine.specs.Serving.{Scene, scene}
use Rattle.oftp_engine.specs.declared.serving.Going.{Going}
use Rattle.oftp_engine.specs.declared.serving.Going.TheVariants as going
use Rattle.oftp_engine.specs.declared.serving.RunFault.{RunFault}
use Rattle.oftp_engine.specs.declared.serving.RunFault.TheVariants.{Memory}
use Rattle.oftp_life.specs.Acts.{Act}
use Rattle.oftp_life.specs.LifeParts.{ActsMakeTheFile, BringAll}
use Rattle.oftp_life.specs.Lives.{HasConversed, HasLeft, Holds, IsLeft, IsSession, LifeData, life_begun_with}
use Rattle.oftp_life.specs.Outboxes.{contents_of}
use Rattle.oftp_life.specs.declared.outbox.Outbox.{Outbox}
use Rattle.oftp_life.specs.declared.stage.Stage.{Stage}
use Rattle.oftp_life.specs.declared.stage.Stage.TheVariants as stage
use Rattle.oftp_durable.specs.Headline.{LeavesSoFar}
use Rattle.oftp_durable.specs.LifeTables.{AllLeaves, HasDoneNothing, LastLeaves, StageLeaves}
use Rattle.oftp_durable.proofs.Leaving.{conversation_leaves}
use Rattle.oftp_durable.proofs.LifeCounts.{acts_sound, life_kept}

-- a life that begins with an office
pub done_nothing : {O : Type 0} (l : LifeData O) (office : O) → l ≡ life_begun_with office → HasDoneNothing l
done_nothing {O} l office is = subst (λ (o : O). l ≡ life_begun_with o) (sym (ap (λ (x : LifeData O). x.began) is)) is

-- a store that isn't clean shows as shut
pub open_clean : (is_clean is_open : Bool) → (is_clean ≡ false → is_open ≡ false) → IsTrue is_open → doubt is_clean ≡ 0
unfolding doubt
open_clean true is_open shut stands = refl
open_clean false is_open shut stands = absurd (let no : false ≡ true = sym (shut refl) ∙ stands in cc)

-- the theorem on files that come in parts, for an office
abbrev pub MakesTheFile : {O : Type 0} → (O → View) → Type 0
MakesTheFile {O} view =
    (file : File) (identity : Identity) (first now : O) (acts : List Act) → (view first).clean → (view first).stands → ActsMakeTheFile file identity (view first) acts (view now)

-- what a life leaves over an office of a database
pub all_leave : (first : Register) → IsSound first → (acts : List Act) (over : Bool) (limits : Limits) (faults : ℕ) (s : State) (left : IsLeft first acts over (view_of limits faults s))
    → ((file : File) (identity : Identity) → IsSoFar file (in_at first identity) → BringAll file identity first acts left.leaves.changes left.leaves.least left.leaves.covers
    → LeavesSoFar file identity s) → AllLeaves first acts over limits s
all_leave first sound acts over limits faults s left parts =
    let leaves = left.leaves in
    record {
      changes = leaves.changes;
      least = leaves.least;
      covers = leaves.covers;
      left = record { made = leaves.made; left = leaves.leaves.left; register = leaves.leaves.register };
      alone = λ e. let rests = left.rests e in record { has = (rests.stands, refl); left = rests.left };
      counts = life_kept first acts leaves.changes leaves.least leaves.covers sound;
      parts = parts;
    }

module _ {S : Type 0} (g : Ghosts S) (began : SqlOffice S g) (shut : (database_of g began).is_clean ≡ false → (database_of g began).is_open ≡ false) where
  pub lasts : MakesTheFile (shown g) → (acts : List Act) (over : Bool) (now : SqlOffice S g) → HasLeft (shown g) began acts over now → HasCleanDisk (database_of g now)
      → (r : Register) → Has (limits_of began) r (database_of g began) → AllLeaves r acts over (limits_of now) (database_of g now)
  lasts makes acts over now h clean r has =
      let left = h clean has.0 in
      let early = open_clean (database_of g began).is_clean (database_of g began).is_open shut has.0.is_open in
      subst (λ (x : Register). AllLeaves x acts over (limits_of now) (database_of g now)) has.1
      (all_leave (shown g began).register has.0.holds.sound acts over (limits_of now) (faults_of now) (database_of g now) left
      (λ file identity so brings db may. makes file identity began now acts early has.0 left.leaves so brings db may))

-- the result that leaves the same as this one: where a session sends, it would leave the same out of memory
abbrev left_as : Result Going RunFault → Result (Option Ending) RunFault
left_as (Ok going.Waits) = Ok None
left_as (Ok going.Sends) = Err Memory
left_as (Ok (going.Ended ending)) = Ok (Some ending)
left_as (Err fault) = Err fault

comes_as : (setting : Setting) (heard : List ℕ) (dialogue : Dialogue) (a b : Scene) (result : Result Going RunFault) → ComesSoFar setting heard dialogue a b result
    → ComesTo setting heard dialogue a b (left_as result)
comes_as setting heard dialogue a b (Ok going.Waits) h = h
comes_as setting heard dialogue a b (Ok going.Sends) h = h.between
comes_as setting heard dialogue a b (Ok (going.Ended ending)) h = h
comes_as setting heard dialogue a b (Err fault) h = h

-- the session that goes on, or has ended
module _ {S : Type 0} (g : Ghosts S) (began before now : SqlOffice S g) (acts : List Act) (out : Port Outbox) (dialogue : Dialogue) where
  abbrev Left : Register → Result (Option Ending) RunFault → Type 0
  Left r result = LastLeaves r acts (limits_of now) (database_of g now) out result

  conversed_leaves : (r : Register) → Has (limits_of began) r (database_of g began) → (result : Result Going RunFault)
      → HasConversed (shown g) (shown g began).register acts before now out dialogue result → Left r (left_as result)
  conversed_leaves r has result h =
      let first = (shown g began).register in
      let sound = acts_sound first h.earlier h.changes (shown g before).register h.reached has.0.holds.sound in
      subst (λ (x : Register). Left x (left_as result)) has.1 (record {
        setting = h.setting;
        heard = h.heard;
        earlier = h.earlier;
        are = h.are;
        changes = h.changes;
        at = (shown g before).register;
        reached = h.reached;
        front = h.front;
        nothing = h.nothing;
        leaves = conversation_leaves contents_of (shown g before) h.front out (limits_of now) (faults_of now) (database_of g now) h.setting h.heard sound dialogue (left_as result)
            (comes_as h.setting h.heard dialogue (scene contents_of (shown g before) h.front) (scene contents_of (shown g now) out) result h.comes);
      })

  stands_so : (r : Register) → Has (limits_of began) r (database_of g began) → (stage' : Stage) → Holds (shown g) stage' (shown g began).register acts before now out dialogue
      → StageLeaves r acts (limits_of now) (database_of g now) out stage'
  stands_so r has stage.Waits h = conversed_leaves r has (Ok going.Waits) h
  stands_so r has stage.Sends h = conversed_leaves r has (Ok going.Sends) h
  stands_so r has (stage.Ended ending) h = conversed_leaves r has (Ok (going.Ended ending)) h
  stands_so r has (stage.Failed fault) h = conversed_leaves r has (Err fault) h
  stands_so r has stage.Lost h = tt

  pub session_lasts : (stage' : Stage) → IsSession (shown g) began acts before now out dialogue stage' → HasCleanDisk (database_of g now) → (r : Register)
      → Has (limits_of began) r (database_of g began) → StageLeaves r acts (limits_of now) (database_of g now) out stage'
  session_lasts stage' is clean r has = stands_so r has stage' (is.holds clean has.0)
