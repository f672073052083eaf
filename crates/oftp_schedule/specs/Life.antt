-- The life of one connection, as one sees it who knows only what the shell told and what the schedule ordered.
use Rattle.std.specs.Prelude.{ℕ, zero, ◌==◌, ◌≡◌, ◌≤◌, ◌+◌, ◌++◌, ◌∷◌, Bool, true, false, nat_lt, List, Option, Some, None, if◌then◌else◌, count_by}
use Rattle.oftp_schedule.specs.declared.connection.Door.{Door}
use Rattle.oftp_schedule.specs.declared.connection.Door.TheVariants.{Partners}
use Rattle.oftp_schedule.specs.declared.connection.Request.{Request}
use Rattle.oftp_schedule.specs.declared.connection.Request.TheVariants.{Query, Update, Backup}
use Rattle.oftp_schedule.specs.declared.connection.Phase.{Phase}
use Rattle.oftp_schedule.specs.declared.connection.Phase.TheVariants.{Arriving, Stranger, Guest, Stepping, Between, Parting, Asking, Ready, Served, Calling, Copying, Answered, Wanted, Resolving, Dialing, Connected}
use Rattle.oftp_schedule.specs.declared.connection.Arrival.{Arrival}
use Rattle.oftp_schedule.specs.declared.connection.Arrival.TheVariants.{Somebody}
use Rattle.oftp_schedule.specs.declared.connection.Signal.{Signal}
use Rattle.oftp_schedule.specs.declared.connection.Signal.TheVariants.{LetIn, Rejected, Asked, Wants, Waits, Ended, Done, Went, Ends, Lost, Resolved, Up, Failed}
use Rattle.oftp_schedule.specs.declared.connection.Event.TheVariants.{Accepted, Told}
use Rattle.oftp_schedule.specs.declared.connection.Reason.{Reason}
use Rattle.oftp_schedule.specs.declared.connection.Reason.TheVariants.{Evicted, Invalid, TimedOut, Stalled, Quit, Vanished, Finished, Unreached, Orphaned, Stopping}
use Rattle.oftp_schedule.specs.declared.connection.Action.{Action}
use Rattle.oftp_schedule.specs.declared.connection.Action.TheVariants.{Accept, Print, Close, Part, Answer, Decline, Begin, Hear, Cut, Look, Change, Copy, Review, Resolve, Dial, HangUp, Shut, Exit}
use Rattle.oftp_schedule.specs.declared.connection.Connection.{Connection}
use Rattle.oftp_schedule.specs.Rules.{connection_at}
use Rattle.oftp_schedule.specs.Machine.{State}
use Rattle.oftp_schedule.specs.History.{Note, Heard, Ordered, watch}

pub data Stage : Type 0 where
  -- nobody has this number, or its call isn't begun
  Unbegun : Stage
  -- it is being accepted at this door
  Coming : Door → Stage
  -- a partner: not let in, let in, in a step of its session, between two steps
  Unjudged : Stage
  Let_in : Stage
  In_step : Stage
  Between_steps : Stage
  -- its partner was lost between two steps
  Deserted : Stage
  -- its session was ended as it stood
  Cut_off : Stage
  -- it is over for this reason, and its line is to be printed
  Ending : Reason → Stage
  -- it is to be closed for this reason
  Going : Reason → Stage
  -- its last octets go out
  Leaving : Stage
  -- a request: not whole, whole, with the office, carried out
  Unread : Stage
  Whole : Request → Stage
  In_hand : Request → Stage
  Carried_out : Stage
  -- it copies the database's files
  In_copy : Stage
  -- it waits for the end of a call
  Awaits_call : Stage
  -- it was answered, or declined
  Has_answer : Stage
  -- a call: its partner's address is looked up, is known, it is being connected, it is up
  Seeking : Stage
  Located : Stage
  Ringing : Stage
  Standing : Stage
  -- it was closed
  Closed : Stage
  -- something happened that may not
  Broken : Stage

-- 1. What is told

-- somebody came, or nobody
abbrev pub entered : Stage → Arrival → Stage
entered (Coming Partners) Somebody = Unjudged
entered (Coming d) Somebody = Unread
entered (Coming d) a = Closed
entered st a = st

abbrev pub heard : Stage → Signal → Stage
heard Unjudged LetIn = Let_in
heard Unjudged Rejected = Ending Finished
heard Unjudged Ends = Ending Quit
heard Unjudged Lost = Ending Vanished
heard Let_in Lost = Ending Vanished
heard In_step (Waits w) = Between_steps
heard In_step (Ended e) = Ending Finished
heard Between_steps Lost = Deserted
heard Leaving Ends = Going Finished
heard Leaving Lost = Going Finished
heard Unread (Asked r) = Whole r
heard Unread (Wants p) = Awaits_call
heard Unread Rejected = Going Invalid
heard Unread Ends = Going Quit
heard Unread Lost = Going Vanished
-- a request whose peer is gone isn't handed over
heard (Whole r) Lost = Going Vanished
-- what is with the office is carried out all the same
heard (In_hand r) (Done o) = Carried_out
-- the copy is done
heard In_copy Ends = Carried_out
heard In_copy Lost = Going Vanished
heard Awaits_call Lost = Going Vanished
-- its whole answer went out
heard Has_answer (Went zero) = Going Finished
heard Has_answer Lost = Going Vanished
heard Seeking Resolved = Located
heard Seeking Failed = Ending Unreached
heard Ringing Up = Standing
heard Ringing Failed = Ending Unreached
heard Standing Lost = Ending Vanished
heard st g = st

-- 2. What is ordered

-- a line says why it is over
abbrev pub printed : Reason → Stage → Stage
printed Quit (Ending Quit) = Going Quit
printed Vanished (Ending Vanished) = Going Vanished
printed Finished (Ending Finished) = Going Finished
printed Unreached (Ending Unreached) = Going Unreached
-- nobody is closed for another but a partner who isn't let in
printed Evicted Unjudged = Going Evicted
-- its time is over
printed TimedOut Unjudged = Going TimedOut
printed TimedOut Standing = Going TimedOut
printed Unreached Ringing = Going Unreached
-- a session that was ended as it stood
printed TimedOut Cut_off = Going TimedOut
printed Stalled Cut_off = Going Stalled
printed Quit Cut_off = Going Quit
printed Stopping Cut_off = Going Stopping
printed why st = Broken

abbrev pub closed : Reason → Stage → Stage
-- for the reason that was told, or that its line says
closed Evicted (Going Evicted) = Closed
closed Invalid (Going Invalid) = Closed
closed TimedOut (Going TimedOut) = Closed
closed Stalled (Going Stalled) = Closed
closed Quit (Going Quit) = Closed
closed Vanished (Going Vanished) = Closed
closed Finished (Going Finished) = Closed
closed Unreached (Going Unreached) = Closed
closed Stopping (Going Stopping) = Closed
-- its time is over: a request's only before it is whole, or when its answer goes out
closed TimedOut Unread = Closed
closed TimedOut Has_answer = Closed
closed TimedOut Leaving = Closed
-- no line is printed for a call whose command is gone
closed Orphaned Unbegun = Closed
closed Orphaned Ringing = Closed
closed Orphaned Standing = Closed
-- nor for what the end of the station cuts off before its session
closed Stopping Unbegun = Closed
closed Stopping Unjudged = Closed
closed Stopping Let_in = Closed
closed Stopping Unread = Closed
closed Stopping Seeking = Closed
closed Stopping Ringing = Closed
closed Stopping Standing = Closed
-- no number is left for its call
closed Stopping Awaits_call = Closed
closed why st = Broken

abbrev pub denied : Reason → Stage → Stage
-- what wasn't handed over may be declined at the end of the station, and so may what isn't whole
denied Stopping (Whole r) = Has_answer
denied Stopping Unread = Has_answer
-- a copy that took too long is declined, though it was handed over
denied TimedOut In_copy = Has_answer
denied why st = Broken

abbrev pub ordered : Action → Stage → Stage
ordered (Accept i d) Unbegun = Coming d
-- a session: of one who was let in, or of a call that is up
ordered (Begin i) Let_in = In_step
ordered (Begin i) Standing = In_step
ordered (Hear i) Between_steps = In_step
ordered (Cut i) Between_steps = Cut_off
ordered (Cut i) Deserted = Ending Vanished
-- a request is handed over once, as what it is
ordered (Look i) (Whole Query) = In_hand Query
ordered (Change i) (Whole Update) = In_hand Update
ordered (Copy i) (Whole Backup) = In_copy
-- it is answered once: when it was carried out, or when its call is over
ordered (Answer i) Carried_out = Has_answer
ordered (Answer i) Awaits_call = Has_answer
ordered (Decline i why) st = denied why st
-- a call
ordered (Resolve i) Unbegun = Seeking
ordered (Dial i) Located = Ringing
-- it is made again: its session gave way, or didn't begin
ordered (HangUp i) Cut_off = Unbegun
ordered (HangUp i) Standing = Unbegun
-- the end
ordered (Print i why) st = printed why st
ordered (Part i) (Going Finished) = Leaving
ordered (Close i why) st = closed why st
ordered a st = Broken

-- 3. A life

-- whether an action concerns connection id
abbrev pub is_about : ℕ → Action → Bool
is_about id (Accept i d) = i == id
is_about id (Print i why) = i == id
is_about id (Close i why) = i == id
is_about id (Part i) = i == id
is_about id (Answer i) = i == id
is_about id (Decline i why) = i == id
is_about id (Begin i) = i == id
is_about id (Hear i) = i == id
is_about id (Cut i) = i == id
is_about id (Look i) = i == id
is_about id (Change i) = i == id
is_about id (Copy i) = i == id
is_about id (Resolve i) = i == id
is_about id (Dial i) = i == id
is_about id (HangUp i) = i == id
is_about id Review = false
is_about id Shut = false
is_about id (Exit st) = false

-- where connection id stands after one more note
abbrev pub life : ℕ → Stage → Note → Stage
life id st (Heard (Accepted i a)) = if i == id then entered st a else st
life id st (Heard (Told i g)) = if i == id then heard st g else st
life id st (Heard e) = st
life id st (Ordered a) = if is_about id a then ordered a st else st

-- where a connection of this door and in this phase stands
abbrev pub stage_in : Door → Phase → Stage
stage_in d Arriving = Coming d
stage_in d (Stranger u r) = Unjudged
stage_in d (Guest t) = Let_in
stage_in d (Stepping x) = In_step
stage_in d (Between x) = Between_steps
stage_in d (Parting u) = Leaving
stage_in d (Asking u) = Unread
stage_in d (Ready r k) = Whole r
stage_in d (Served r) = In_hand r
stage_in d (Calling i) = Awaits_call
stage_in d (Copying u) = In_copy
stage_in d (Answered u o) = Has_answer
stage_in d (Wanted c) = Unbegun
stage_in d (Resolving c) = Seeking
stage_in d (Dialing c u) = Ringing
stage_in d (Connected c u) = Standing

abbrev pub stage_from : Bool → Option Connection → Stage
stage_from known (Some c) = stage_in c.door c.phase
stage_from true None = Closed
stage_from false None = Unbegun

-- where connection id stands in the schedule
abbrev pub stage_of : ℕ → State → Stage
stage_of id s = stage_from (nat_lt id s.next) (connection_at id s.connections)

-- 4. In plain words

-- a request is handed over
abbrev pub hands : Action → Bool
hands (Look i) = true
hands (Change i) = true
hands (Copy i) = true
hands a = false

abbrev pub answers : Action → Bool
answers (Answer i) = true
answers a = false

abbrev pub declines : Action → Bool
declines (Decline i why) = true
declines a = false

-- it is declined at the end of the station, and so isn't handed over
abbrev pub refusals : Action → Bool
refusals (Decline i Stopping) = true
refusals a = false

abbrev pub prints : Action → Bool
prints (Print i why) = true
prints a = false

-- its peer is gone
abbrev pub is_lost : Signal → Bool
is_lost Lost = true
is_lost g = false

-- a request for this is whole
abbrev pub asks_for : Request → Signal → Bool
asks_for Query (Asked Query) = true
asks_for Update (Asked Update) = true
asks_for Backup (Asked Backup) = true
asks_for r g = false

-- a request for a call is whole
abbrev pub wants_call : Signal → Bool
wants_call (Wants p) = true
wants_call g = false

-- how a request is handed over
abbrev pub handing : Request → ℕ → Action
handing Query id = Look id
handing Update id = Change id
handing Backup id = Copy id

abbrev pub is_ordered : (Action → Bool) → ℕ → Note → Bool
is_ordered t id (Ordered a) = if is_about id a then t a else false
is_ordered t id (Heard e) = false

abbrev pub is_told : (Signal → Bool) → ℕ → Note → Bool
is_told t id (Heard (Told i g)) = if i == id then t g else false
is_told t id n = false

-- how often such an action was ordered for connection id
abbrev pub times_ordered : (Action → Bool) → ℕ → List Note → ℕ
times_ordered t id ns = count_by (is_ordered t id) ns

-- how often such a signal was told of it
abbrev pub times_told : (Signal → Bool) → ℕ → List Note → ℕ
times_told t id ns = count_by (is_told t id) ns

-- between a request that is whole and the close of its connection it is answered or declined, or its client is lost
abbrev pub AreAnswered : List Note → Type 0
AreAnswered notes = (id : ℕ) (request : Request) (why : Reason) (before between after : List Note) → notes ≡ (before ++ between) ++ Ordered (Close id why) ∷ after
    → watch (life id) Unbegun before ≡ Whole request
    → 1 ≤ times_ordered answers id between + (times_ordered declines id between + times_told is_lost id between)
