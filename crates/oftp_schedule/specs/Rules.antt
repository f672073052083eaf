-- The rules of one connection, apart from all others. They are what each signal does in each phase, when its time is over, and what is done then.
use Rattle.std.specs.Prelude.{ℕ, zero, suc, ◌+◌, ◌-◌, ◌==◌, max, min, Bool, true, false, nat_lt, nat_le, not, List, [], ◌∷◌, ◌++◌, Option, Some, None, if◌then◌else◌, find}
use Rattle.std.specs.List.{list_any}
use Rattle.oftp_schedule.specs.declared.connection.Counted.{Counted}
use Rattle.oftp_schedule.specs.declared.connection.Counted.TheVariants.{Jobs, Connections}
use Rattle.oftp_schedule.specs.declared.connection.Door.{Door}
use Rattle.oftp_schedule.specs.declared.connection.Door.TheVariants.{Partners, Commands, Requests, Calls}
use Rattle.oftp_schedule.specs.declared.connection.Request.TheVariants.{Query, Update, Backup}
use Rattle.oftp_schedule.specs.declared.connection.Rank.TheVariants.{Usual, Owed}
use Rattle.oftp_schedule.specs.declared.connection.Asker.{Asker}
use Rattle.oftp_schedule.specs.declared.connection.Asker.TheVariants.{ByClock, By}
use Rattle.oftp_schedule.specs.declared.connection.Way.{Way}
use Rattle.oftp_schedule.specs.declared.connection.Way.TheVariants.{In, Out, Unanswered}
use Rattle.oftp_schedule.specs.declared.connection.Input.{Input}
use Rattle.oftp_schedule.specs.declared.connection.Input.TheVariants.{Awaited, Here, Last, Gone}
use Rattle.oftp_schedule.specs.declared.connection.Phase.{Phase}
use Rattle.oftp_schedule.specs.declared.connection.Phase.TheVariants.{Arriving, Stranger, Guest, Stepping, Between, Parting, Asking, Ready, Served, Calling, Copying, Answered, Wanted, Resolving, Dialing, Connected}
use Rattle.oftp_schedule.specs.declared.connection.End.TheVariants.{Own, Other}
use Rattle.oftp_schedule.specs.declared.connection.Signal.{Signal}
use Rattle.oftp_schedule.specs.declared.connection.Signal.TheVariants.{LetIn, Rejected, Asked, Wants, Waits, Ended, Done, Came, Went, Ends, Lost, Resolved, Up, Failed}
use Rattle.oftp_schedule.specs.declared.connection.Status.{Status}
use Rattle.oftp_schedule.specs.declared.connection.Status.TheVariants.{OfficeFailed}
use Rattle.oftp_schedule.specs.declared.connection.Reason.{Reason}
use Rattle.oftp_schedule.specs.declared.connection.Reason.TheVariants.{Invalid, TimedOut, Stalled, Quit, Vanished, Finished, Unreached, Orphaned, Stopping}
use Rattle.oftp_schedule.specs.declared.connection.Action.{Action}
use Rattle.oftp_schedule.specs.declared.connection.Action.TheVariants.{Print, Close, Part, Answer, Decline, Cut, Dial, HangUp}
use Rattle.oftp_schedule.specs.declared.connection.Reply.{Reply}
use Rattle.oftp_schedule.specs.declared.connection.Reply.TheVariants.{Stay, Become, Queue, Want, Respond, Refuse, Connect, Redial, Yield, Farewell, Leave, Break}
use Rattle.oftp_schedule.specs.declared.connection.Call.{Call}
use Rattle.oftp_schedule.specs.declared.connection.Session.{Session}
use Rattle.oftp_schedule.specs.declared.connection.Connection.{Connection}
use Rattle.oftp_schedule.specs.declared.connection.Step.{Step}
use Rattle.oftp_schedule.specs.declared.connection.Limits.{Limits}

-- 1. A session

-- how long its partner hasn't answered, if the station called it: after `k` octets it has
abbrev pub heard_on : Way → ℕ → Way
heard_on In h = In
heard_on (Out c) h = Out c
heard_on (Unanswered c k) h = if nat_lt h k then Unanswered c (k - h) else Out c

-- the wait of a session whose partner was to take octets goes on; else it begins anew
abbrev pub wait_after : ℕ → Session → ℕ → ℕ
wait_after now x zero = now + x.patience
wait_after now x (suc k) = if x.backlog == 0 then now + x.patience else x.until

-- nothing is there yet
abbrev pub is_awaited : Input → Bool
is_awaited Awaited = true
is_awaited i = false

-- the octets until a look-up has its turn, which a wait gives it too
abbrev pub share_left : Session → Step → ℕ
share_left x w = if is_awaited w.input then 0 else x.share - w.heard

-- the session after a step of it
abbrev pub stepped : ℕ → Session → Step → Session
stepped now x w = record x { way = heard_on x.way w.heard; until = wait_after now x w.backlog; input = w.input; share = share_left x w; backlog = w.backlog }

abbrev pub after_step : ℕ → Session → Step → Input → Reply
after_step now x w Gone = Break Quit
after_step now x w i = Become (Between (stepped now x w))

-- octets came, the last ones or not
abbrev pub arrived : Input → Input
arrived Awaited = Here
arrived i = i

abbrev pub with_octets : ℕ → Session → Session
with_octets now x = record x { until = wait_after now x x.backlog; input = arrived x.input }

-- octets went out, and so many are left
abbrev pub with_backlog : ℕ → Session → ℕ → Session
with_backlog now x k = record x { until = now + x.patience; backlog = k }

-- what came is the last that comes
abbrev pub with_last : Session → Session
with_last x = record x { input = Last }

-- its input has ended: what came before is still heard
abbrev pub at_end : Session → Input → Reply
at_end x Here = Become (Between (with_last x))
at_end x Last = Stay
at_end x i = Break Quit

-- a look-up was done within it
abbrev pub with_share : ℕ → Session → Session
with_share k x = record x { share = k }

abbrev pub is_here : Input → Bool
is_here Here = true
is_here Last = true
is_here i = false

-- there is something to hear, and room for what it says
abbrev pub is_hearable : Limits → Session → Bool
is_hearable l x = if is_here x.input then nat_le x.backlog l.backlog else false

-- 2. What a signal does in a phase

-- how long an answer may take without progress
abbrev pub answering : Limits → Door → ℕ
answering l Requests = l.requesting
answering l d = l.asking

abbrev pub answered : ℕ → Limits → Door → ℕ → Phase
answered now l d o = Answered (now + max (answering l d) l.farewell) o

abbrev pub parting : ℕ → Limits → Phase
parting now l = Parting (now + l.farewell)

-- a whole answer went out
abbrev pub answered_whole : ℕ → Limits → Door → Reply
answered_whole now l Requests = Farewell (parting now l)
answered_whole now l d = Leave Finished

-- octets of an answer went out, and so many are left: it has its time again
abbrev pub went : ℕ → Limits → Door → ℕ → ℕ → Reply
went now l d u zero = answered_whole now l d
went now l d u (suc k) = Become (Answered (max u (now + answering l d)) (suc k))

-- how long a call may take to connect: no longer than a wait of its session
abbrev pub dialing_time : Limits → Call → ℕ
dialing_time l c = min l.dialing c.partner.patience

abbrev pub rule : ℕ → Limits → Door → Phase → Signal → Reply
rule now l d (Stranger u r) LetIn = Queue (Guest now)
rule now l d (Stranger u r) Rejected = Farewell (parting now l)
rule now l d (Stranger u r) Ends = Leave Quit
rule now l d (Stranger u r) Lost = Leave Vanished
rule now l d (Guest t) Lost = Leave Vanished
rule now l d (Stepping x) (Waits w) = after_step now x w w.input
rule now l d (Stepping x) (Ended Own) = Farewell (parting now l)
rule now l d (Stepping x) (Ended Other) = Leave Finished
rule now l d (Between x) Came = Become (Between (with_octets now x))
rule now l d (Between x) (Went k) = Become (Between (with_backlog now x k))
rule now l d (Between x) Ends = at_end x x.input
rule now l d (Between x) Lost = Break Vanished
rule now l d (Parting u) Ends = Leave Finished
rule now l d (Parting u) Lost = Leave Finished
rule now l d (Asking u) (Asked r) = Queue (Ready r Usual)
rule now l d (Asking u) (Wants p) = Want p
rule now l d (Asking u) Rejected = Leave Invalid
rule now l d (Asking u) Ends = Leave Quit
rule now l d (Asking u) Lost = Leave Vanished
rule now l d (Ready r k) Lost = Leave Vanished
rule now l d (Served r) (Done o) = Respond (answered now l d o)
rule now l d (Calling i) Lost = Leave Vanished
rule now l d (Copying u) Ends = Respond (answered now l d 0)
rule now l d (Copying u) Lost = Leave Vanished
rule now l d (Answered u o) (Went k) = went now l d u k
rule now l d (Answered u o) Lost = Leave Vanished
rule now l d (Resolving c) Resolved = Connect (Dialing c (now + dialing_time l c))
rule now l d (Resolving c) Failed = Leave Unreached
rule now l d (Dialing c u) Up = Become (Connected c (now + l.standing))
rule now l d (Dialing c u) Failed = Leave Unreached
rule now l d (Connected c u) Lost = Leave Vanished
rule now l d p g = Stay

-- 3. Time

-- when the time of a connection in this phase is over
abbrev pub due : Phase → Option ℕ
due Arriving = None
due (Stranger u r) = Some u
due (Guest t) = None
due (Stepping x) = None
due (Between x) = Some (min x.until x.ends)
due (Parting u) = Some u
due (Asking u) = Some u
due (Ready r k) = None
due (Served r) = None
due (Calling i) = None
due (Copying u) = Some u
due (Answered u o) = Some u
due (Wanted c) = None
due (Resolving c) = None
due (Dialing c u) = Some u
due (Connected c u) = Some u

abbrev pub is_over : ℕ → Option ℕ → Bool
is_over now None = false
is_over now (Some u) = nat_le u now

abbrev pub is_late : ℕ → Connection → Bool
is_late now c = is_over now (due c.phase)

-- what becomes of it then
-- a session's partner said nothing, or took nothing
abbrev pub overdue : Session → Reason
overdue x = if x.backlog == 0 then TimedOut else Stalled

-- a call that hangs up may do so once less from then on
abbrev pub once_less : Call → Call
once_less c = record c { times = c.times - 1 }

-- a call that didn't begin in its time hangs up and is made again, as often as it may
abbrev pub redialed : Call → Reply
redialed c = if nat_lt 0 c.times then Redial (Wanted (once_less c)) else Leave TimedOut

abbrev pub late : ℕ → Limits → Door → Phase → Reply
late now l d (Between x) = Break (overdue x)
late now l d (Copying u) = Refuse (answered now l d 0) TimedOut
late now l d (Dialing c u) = Leave Unreached
late now l d (Connected c u) = redialed c
late now l d p = Leave TimedOut

-- 4. The end of the station

-- what becomes of a connection when no job begins any more
abbrev pub dismissal : ℕ → Limits → Door → Phase → Reply
dismissal now l d (Ready r k) = Refuse (Answered (now + l.farewell) 0) Stopping
dismissal now l Commands (Asking u) = Refuse (Answered (now + l.farewell) 0) Stopping
dismissal now l d (Between x) = Break Stopping
dismissal now l d p = Leave Stopping

-- whether it is concerned: a session only if the office failed
abbrev pub is_dismissed : Status → Phase → Bool
is_dismissed st (Stranger u r) = true
is_dismissed st (Guest t) = true
is_dismissed st (Asking u) = true
is_dismissed st (Ready r k) = true
is_dismissed st (Wanted c) = true
is_dismissed st (Resolving c) = true
is_dismissed st (Dialing c u) = true
is_dismissed st (Connected c u) = true
is_dismissed OfficeFailed (Between x) = true
is_dismissed st p = false

abbrev pub concerns : Status → Connection → Bool
concerns st c = is_dismissed st c.phase

-- answers have no longer than until `v` from then on
abbrev pub hurried_phase : ℕ → Phase → Phase
hurried_phase v (Answered u o) = Answered (min u v) o
hurried_phase v p = p

abbrev pub hurried : ℕ → Connection → Connection
hurried v c = record c { phase = hurried_phase v c.phase }

-- 5. What is done for a connection in a phase

abbrev pub at_office : Phase → Bool
at_office (Stepping x) = true
at_office (Served r) = true
at_office p = false

abbrev pub in_session : Phase → Bool
in_session (Stepping x) = true
in_session (Between x) = true
in_session p = false

abbrev pub is_between_phase : Phase → Bool
is_between_phase (Between x) = true
is_between_phase p = false

abbrev pub is_guest_phase : Phase → Bool
is_guest_phase (Guest t) = true
is_guest_phase p = false

abbrev pub is_query_phase : Phase → Bool
is_query_phase (Ready Query k) = true
is_query_phase p = false

-- a change or a backup
abbrev pub is_update_phase : Phase → Bool
is_update_phase (Ready Update k) = true
is_update_phase (Ready Backup k) = true
is_update_phase p = false

-- one that came within the last session
abbrev pub is_owed_phase : Phase → Bool
is_owed_phase (Ready Update Owed) = true
is_owed_phase (Ready Backup Owed) = true
is_owed_phase p = false

abbrev pub is_copying_phase : Phase → Bool
is_copying_phase (Copying u) = true
is_copying_phase p = false

abbrev pub is_wanted_phase : Phase → Bool
is_wanted_phase (Wanted c) = true
is_wanted_phase p = false

abbrev pub is_connected_phase : Phase → Bool
is_connected_phase (Connected c u) = true
is_connected_phase p = false

-- a call that is begun and has no session
abbrev pub is_up_phase : Phase → Bool
is_up_phase (Resolving c) = true
is_up_phase (Dialing c u) = true
is_up_phase (Connected c u) = true
is_up_phase p = false

abbrev pub is_arriving_phase : Phase → Bool
is_arriving_phase Arriving = true
is_arriving_phase p = false

-- a stranger who may be closed for another now
abbrev pub is_ripe_phase : ℕ → Phase → Bool
is_ripe_phase now (Stranger u r) = nat_le r now
is_ripe_phase now p = false

-- of a test of phases, that of connections
abbrev pub in_phase : (Phase → Bool) → Connection → Bool
in_phase t c = t c.phase

abbrev pub is_ripe : ℕ → Connection → Bool
is_ripe now c = is_ripe_phase now c.phase

abbrev pub same_door : Door → Door → Bool
same_door Partners Partners = true
same_door Commands Commands = true
same_door Requests Requests = true
same_door Calls Calls = true
same_door d e = false

abbrev pub is_at : Door → Connection → Bool
is_at d c = same_door d c.door

abbrev pub call_of : Way → Option Call
call_of In = None
call_of (Out c) = Some c
call_of (Unanswered c k) = Some c

-- the call of a phase
abbrev pub call_in : Phase → Option Call
call_in (Wanted c) = Some c
call_in (Resolving c) = Some c
call_in (Dialing c u) = Some c
call_in (Connected c u) = Some c
call_in (Stepping x) = call_of x.way
call_in (Between x) = call_of x.way
call_in p = None

-- the call of a connection, if it is one
abbrev pub call_at : Option Connection → Option Call
call_at None = None
call_at (Some c) = call_in c.phase

abbrev pub is_clock : Asker → Bool
is_clock ByClock = true
is_clock (By i) = false

-- a call of this partner by the clock
abbrev pub is_by_clock : ℕ → Option Call → Bool
is_by_clock n None = false
is_by_clock n (Some c) = if is_clock c.asker then c.partner.number == n else false

abbrev pub calls : ℕ → Connection → Bool
calls n c = is_by_clock n (call_in c.phase)

-- 6. What a reply orders, and whether a job is done by it

-- whether a line is printed for a connection in this phase
abbrev pub has_line : Phase → Bool
has_line (Stranger u r) = true
has_line (Guest t) = true
has_line (Stepping x) = true
has_line (Between x) = true
has_line (Wanted c) = true
has_line (Resolving c) = true
has_line (Dialing c u) = true
has_line (Connected c u) = true
has_line p = false

-- nothing is said of a call whose command is gone, nor of what the end of the station cuts off
abbrev pub is_told : Reason → Bool
is_told Orphaned = false
is_told Stopping = false
is_told why = true

abbrev pub line : ℕ → Reason → Bool → List Action
line id why true = Print id why ∷ []
line id why false = []

abbrev pub leaves_line : Phase → Reason → Bool
leaves_line p why = if has_line p then is_told why else false

abbrev pub orders : ℕ → Phase → Reply → List Action
orders id p Stay = []
orders id p (Become q) = []
orders id p (Queue q) = []
orders id p (Want n) = []
orders id p (Respond q) = Answer id ∷ []
orders id p (Refuse q why) = Decline id why ∷ []
orders id p (Connect q) = Dial id ∷ []
orders id p (Redial q) = HangUp id ∷ []
orders id p (Yield q) = Cut id ∷ HangUp id ∷ []
orders id p (Farewell q) = line id Finished (has_line p) ++ Part id ∷ []
orders id p (Leave why) = line id why (leaves_line p why) ++ Close id why ∷ []
orders id p (Break why) = Cut id ∷ Print id why ∷ Close id why ∷ []

-- a command's request was carried out
abbrev pub is_carried_out : Door → Phase → Bool
is_carried_out Commands (Served r) = true
is_carried_out Commands (Copying u) = true
is_carried_out d p = false

-- a job is done: a session, a caller who wasn't let in, or a command's request
abbrev pub is_job : Door → Phase → Reply → Bool
is_job d p (Respond q) = is_carried_out d p
is_job d p (Refuse q why) = is_carried_out d p
is_job d p (Farewell q) = has_line p
is_job d p (Leave why) = leaves_line p why
is_job d p (Break why) = true
is_job d p r = false

-- what is counted is done: a job, or a connection over HTTP is closed
abbrev pub is_counted : Counted → Door → Phase → Reply → Bool
is_counted Jobs d p r = is_job d p r
is_counted Connections d p (Leave why) = same_door Requests d
is_counted Connections d p r = false

-- a session ends
abbrev pub ends_session : Phase → Reply → Bool
ends_session p (Yield q) = in_session p
ends_session p (Farewell q) = in_session p
ends_session p (Leave why) = in_session p
ends_session p (Break why) = in_session p
ends_session p r = false

-- 7. The table

abbrev pub has_id : ℕ → Connection → Bool
has_id id c = c.id == id

abbrev pub is_other : ℕ → Connection → Bool
is_other id c = not (c.id == id)

-- the connection with this number
abbrev pub connection_at : ℕ → List Connection → Option Connection
connection_at id cs = find (has_id id) cs

-- its phase
abbrev pub phase_at : ℕ → List Connection → Option Phase
phase_at id [] = None
phase_at id (c ∷ cs) = if c.id == id then Some c.phase else phase_at id cs

abbrev pub is_there : ℕ → List Connection → Bool
is_there id cs = list_any (has_id id) cs

-- connection id is in this phase now
abbrev pub became : ℕ → Phase → Connection → Connection
became id p c = record c { phase = if c.id == id then p else c.phase }

-- a change that waits at the end of a session is done before the next one
abbrev pub owed_phase : Phase → Phase
owed_phase (Ready r k) = Ready r Owed
owed_phase p = p

abbrev pub owed : Connection → Connection
owed c = record c { phase = owed_phase c.phase }

-- a look-up was done within the session
abbrev pub shared_phase : ℕ → Phase → Phase
shared_phase k (Between x) = Between (with_share k x)
shared_phase k p = p

abbrev pub shared : ℕ → Connection → Connection
shared k c = record c { phase = shared_phase k c.phase }

-- the command of a call is gone
abbrev pub asker_gone : List Connection → Asker → Bool
asker_gone cs ByClock = false
asker_gone cs (By i) = not (is_there i cs)

abbrev pub orphan_phase : List Connection → Phase → Bool
orphan_phase cs (Wanted c) = asker_gone cs c.asker
orphan_phase cs (Dialing c u) = asker_gone cs c.asker
orphan_phase cs (Connected c u) = asker_gone cs c.asker
orphan_phase cs p = false

abbrev pub is_orphan : List Connection → Connection → Bool
is_orphan cs c = orphan_phase cs c.phase

abbrev pub is_parting_phase : Phase → Bool
is_parting_phase (Parting u) = true
is_parting_phase p = false

-- it goes on: only its last octets go out else
abbrev pub goes_on : ℕ → Connection → Bool
goes_on id c = if c.id == id then not (is_parting_phase c.phase) else false

-- the call that a command waits for is over
abbrev pub told_phase : List Connection → Phase → Bool
told_phase cs (Calling i) = not (list_any (goes_on i) cs)
told_phase cs p = false

abbrev pub is_to_tell : List Connection → Connection → Bool
is_to_tell cs c = told_phase cs c.phase

-- the octets of answers that may still be held
abbrev pub answer_octets : Phase → ℕ
answer_octets (Answered u o) = o
answer_octets p = 0

abbrev pub room_left : ℕ → List Connection → ℕ
room_left k [] = k
room_left k (c ∷ cs) = room_left (k - answer_octets c.phase) cs
