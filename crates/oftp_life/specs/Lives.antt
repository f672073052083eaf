-- What holds of a life at each time.
use Rattle.std.specs.Prelude.{◌≡◌, ◌≢◌, ◌⊎◌, ℕ, Bool, true, false, List, [], ◌∷◌, Option, None, Some, Result, Ok, Err, IfErr}
use Rattle.oftp_register.specs.declared.change.Change.{Change}
use Rattle.oftp_register.specs.Offices.{Only, View}
use Rattle.oftp_register.specs.Register.{Register}
use Rattle.oftp_session.specs.Settings.{Setting}
use Rattle.oftp_session.specs.Standings.{Broken}
use Rattle.oftp_session.specs.declared.session.Ending.{Ending}
use Rattle.oftp_io.specs.declared.port.Port.{Port}
use Rattle.oftp_engine.specs.Conversation.{ComesSoFar, Dialogue, IsOwn}
use Rattle.oftp_engine.specs.Jobs.{LeavesSome}
use Rattle.oftp_engine.specs.Serving.{scene}
use Rattle.oftp_engine.specs.declared.serving.Going.{Going}
use Rattle.oftp_engine.specs.declared.serving.Going.TheVariants as going
use Rattle.oftp_engine.specs.declared.serving.RunFault.{RunFault}
use Rattle.oftp_engine.specs.declared.serving.RunFault.TheVariants as fault
use Rattle.oftp_life.specs.Acts.{Act, Conversed}
use Rattle.oftp_life.specs.Noted.{with_heard}
use Rattle.oftp_life.specs.Outboxes.{contents_of, octets_out}
use Rattle.oftp_life.specs.declared.outbox.Outbox.{Outbox}
use Rattle.oftp_life.specs.Reaches.{Covers, Reaches}
use Rattle.oftp_life.specs.declared.stage.Stage.{Stage}
use Rattle.oftp_life.specs.declared.stage.Stage.TheVariants as stage

-- The headline: a crash leaves the first register after a prefix of all changes of the life, with each that was answered.
pub record LifeLeaves (first : Register) (acts : List Act) (now : View) : Type 0 where
  pub changes : List Change
  pub least : ℕ
  pub made : ℕ
  pub covers : Covers first acts changes least
  pub leaves : LeavesSome changes least made first now

-- all acts are done, the office is open with the register after all their changes, and a crash leaves that register and nothing else
pub record Rests (first : Register) (acts : List Act) (now : View) : Type 0 where
  pub changes : List Change
  pub reached : Reaches first acts changes now.register
  pub stands : now.stands
  pub left : Only now.register now

-- a life that is over, after an error of its office, or one that isn't
abbrev pub Lives : Bool → Register → List Act → View → Type 0
Lives true first acts now = LifeLeaves first acts now
Lives false first acts now = Rests first acts now

-- the result with which a session stands like this; `Lost` has none
abbrev pub answer_of : Stage → Result (Option Ending) RunFault
answer_of stage.Waits = Ok None
answer_of stage.Sends = Ok None
answer_of (stage.Ended ending) = Ok (Some ending)
answer_of (stage.Failed fault) = Err fault
answer_of stage.Lost = Err fault.Office

-- how a session stands that went on with this result
abbrev pub stage_of : Result Going RunFault → Stage
stage_of (Ok going.Waits) = stage.Waits
stage_of (Ok going.Sends) = stage.Sends
stage_of (Ok (going.Ended ending)) = stage.Ended ending
stage_of (Err fault) = stage.Failed fault

-- whether it can't go on
abbrev pub has_ceased : Stage → Bool
has_ceased stage.Waits = false
has_ceased stage.Sends = false
has_ceased (stage.Ended ending) = true
has_ceased (stage.Failed fault) = true
has_ceased stage.Lost = true

-- the error is the office's
abbrev pub is_of_office : RunFault → Bool
is_of_office fault.Read = false
is_of_office fault.Write = false
is_of_office fault.Office = true
is_of_office fault.Memory = false

-- whether a life is over after a session that stands like this
abbrev pub is_over_at : Stage → Bool
is_over_at stage.Waits = false
is_over_at stage.Sends = false
is_over_at (stage.Ended ending) = false
is_over_at (stage.Failed fault) = is_of_office fault
is_over_at stage.Lost = true

-- a look-up with this result returned an error
abbrev pub has_failed : {T E : Type 0} → Result T E → Bool
has_failed (Ok x) = false
has_failed (Err fault) = true

-- how a session that stood like this stands after a look-up
abbrev pub after_look : {T E : Type 0} → Stage → Result T E → Stage
after_look before (Ok x) = before
after_look before (Err fault) = stage.Lost

-- whether a life is over after a call with this result
abbrev pub ends_life : {T : Type 0} → Result T RunFault → Bool
ends_life (Ok x) = false
ends_life (Err fault) = is_of_office fault

module _ {O : Type 0} (view : O → View) where
  -- The last act is a session, which began at the office `before` with an empty box. It has done what its octets and its result say: what is
  -- out, what the register is, and what a crash leaves.
  pub record HasConversed (first : Register) (acts : List Act) (before now : O) (out : Port Outbox) (dialogue : Dialogue) (result : Result Going RunFault) : Type 0 where
    pub setting : Setting
    pub heard : List ℕ
    pub earlier : List Act
    pub are : acts ≡ Conversed setting heard (octets_out out.inner) ∷ earlier
    pub changes : List Change
    pub reached : Reaches first earlier changes (view before).register
    pub own : IfErr result IsOwn
    pub front : Port Outbox
    pub nothing : octets_out front.inner ≡ []
    pub comes : ComesSoFar setting heard dialogue (scene contents_of (view before) front) (scene contents_of (view now) out) result

  -- how a session stands
  abbrev pub Holds : Stage → Register → List Act → (before now : O) → Port Outbox → Dialogue → Type 0
  Holds stage.Waits first acts before now out dialogue = HasConversed first acts before now out dialogue (Ok going.Waits)
  Holds stage.Sends first acts before now out dialogue = HasConversed first acts before now out dialogue (Ok going.Sends)
  Holds (stage.Ended ending) first acts before now out dialogue = HasConversed first acts before now out dialogue (Ok (going.Ended ending))
  Holds (stage.Failed fault) first acts before now out dialogue = HasConversed first acts before now out dialogue (Err fault)
  Holds stage.Lost first acts before now out dialogue = LifeLeaves first acts (view now)

  -- the invariant of a session: it can go on while it waits or sends, and holds what its stage says
  pub record IsSession (began : O) (acts : List Act) (before now : O) (out : Port Outbox) (dialogue : Dialogue) (stage' : Stage) : Type 0 where
    pub unbroken : has_ceased stage' ≡ false → dialogue.seen.standing ≢ Broken
    pub holds : (view now).clean → (view began).stands → Holds stage' (view began).register acts before now out dialogue

-- The headline of a life that has done these acts, from this register on. It says what a crash leaves. If the life isn't over, the office
-- has the register after all its changes, and a crash leaves this register and nothing else.
pub record IsLeft (first : Register) (acts : List Act) (over : Bool) (now : View) : Type 0 where
  pub leaves : LifeLeaves first acts now
  pub rests : over ≡ false → Rests first acts now

-- the same, wherever the disk is clean and the office was open when the life began
abbrev pub HasLeft : {O : Type 0} → (O → View) → O → List Act → Bool → O → Type 0
HasLeft view began acts over now = (view now).clean → (view began).stands → IsLeft (view began).register acts over (view now)

-- A life as its callers see it: its office, and the one with which it began. Also all that it has done since, and whether it is over.
pub record LifeData (O : Type 0) : Type 0 where
  pub office : O
  pub began : O
  pub acts : List Act
  pub faults : ℕ
  pub over : Bool

-- the life that begins with an office
abbrev pub life_begun_with : {O : Type 0} → O → LifeData O
life_begun_with office = record { office = office; began = office; acts = []; faults = 0; over = false }

-- a session of a life: the same, with the office at which it began, the octets that it hands out, and how it stands
pub record LifeSessionData (O : Type 0) : Type 0 where
  pub office : O
  pub began : O
  pub acts : List Act
  pub before : O
  pub out : Port Outbox
  pub dialogue : Dialogue
  pub faults : ℕ
  pub stage : Stage

-- the life that a session leaves where it ends
abbrev pub life_after : {O : Type 0} → LifeSessionData O → LifeData O
life_after s = record { office = s.office; began = s.began; acts = s.acts; faults = s.faults; over = is_over_at s.stage }

-- nothing of a session is changed but the octets that it hands out
abbrev pub IsSameButForOut : {O : Type 0} → LifeSessionData O → LifeSessionData O → Type 0
IsSameButForOut old new =
    (new.office ≡ old.office) × (new.began ≡ old.began) × (new.acts ≡ old.acts) × (new.before ≡ old.before)
    × (new.stage ≡ old.stage) × (new.dialogue ≡ old.dialogue) × (new.faults ≡ old.faults)

-- a session heard these octets and went on, and the result says how it stands
pub record HeardSome {O : Type 0} (old new : LifeSessionData O) (octets : List ℕ) (result : Result (Option Ending) RunFault) : Type 0 where
  pub acts : new.acts ≡ with_heard old.acts octets (octets_out new.out.inner)
  pub went : Result Going RunFault
  pub stage : new.stage ≡ stage_of went
  pub answer : result ≡ answer_of new.stage
  pub began : new.began ≡ old.began
  pub before : new.before ≡ old.before

-- it did that; or there was no room for the octets, and it is as it was
abbrev pub Heard : {O : Type 0} → LifeSessionData O → LifeSessionData O → List ℕ → Result (Option Ending) RunFault → Type 0
Heard old new octets result = HeardSome old new octets result ⊎ ((new ≡ old) × (result ≡ Err fault.Memory))
