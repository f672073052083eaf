-- When the time of a connection is over: within which limit, who moves that moment, and when the shell is to tell the time.
use Rattle.std.specs.Prelude.{◌≡◌, ◌⊎◌, ◌^◌, ℕ, ◌+◌, ◌-◌, ◌<◌, ◌≤◌, ◌==◌, max, min, Bool, true, false, Option, Some, None, find}
use Rattle.std.specs.List.{list_any}
use Rattle.oftp_schedule.specs.declared.connection.Door.{Door}
use Rattle.oftp_schedule.specs.declared.connection.Way.{Way}
use Rattle.oftp_schedule.specs.declared.connection.Way.TheVariants.{In, Out, Unanswered}
use Rattle.oftp_schedule.specs.declared.connection.Input.TheVariants.{Awaited}
use Rattle.oftp_schedule.specs.declared.connection.Phase.{Phase}
use Rattle.oftp_schedule.specs.declared.connection.Phase.TheVariants.{Stranger, Guest, Stepping, Between, Parting, Asking, Copying, Answered, Wanted, Dialing, Connected}
use Rattle.oftp_schedule.specs.declared.connection.Call.{Call}
use Rattle.oftp_schedule.specs.declared.connection.Session.{Session}
use Rattle.oftp_schedule.specs.declared.connection.Connection.{Connection}
use Rattle.oftp_schedule.specs.declared.connection.Limits.{Limits}
use Rattle.oftp_schedule.specs.declared.connection.Event.{Event}
use Rattle.oftp_schedule.specs.declared.connection.Event.TheVariants.{Accepted, Told}
use Rattle.oftp_schedule.specs.declared.connection.Gate.TheVariants.{Knocked, Resting}
use Rattle.oftp_schedule.specs.declared.connection.Clock.TheVariants.{At}
use Rattle.oftp_schedule.specs.declared.connection.Reply.TheVariants.{Refuse, Redial, Yield, Leave, Break}
use Rattle.oftp_schedule.specs.declared.connection.Reply.{Reply}
use Rattle.oftp_schedule.specs.declared.connection.Reason.TheVariants.{TimedOut, Stalled, Unreached}
use Rattle.oftp_schedule.specs.declared.connection.Choice.{Choice}
use Rattle.oftp_schedule.specs.declared.connection.Choice.TheVariants.{Nothing, Finish, Settle, Start, Proceed, Consult, Perform, Lend, Seek}
use Rattle.oftp_schedule.specs.Rules.{answering, dialing_time, due, hurried_phase, owed_phase, shared_phase, in_phase, is_between_phase, is_guest_phase, is_ripe_phase, is_late, call_at, once_less, connection_at, phase_at}
use Rattle.oftp_schedule.specs.Machine.{State, gate, received, is_ending, consult, is_busy, choice, is_past, next_time, Move, step, Ask}

-- 1. Limits

-- the longest wait in a session, and the longest session
abbrev pub patience_of : Limits → Way → ℕ
patience_of l In = l.patience
patience_of l (Out c) = c.partner.patience
patience_of l (Unanswered c k) = c.partner.patience

abbrev pub longest_of : Limits → Way → ℕ
longest_of l In = l.longest
longest_of l (Out c) = c.partner.longest
longest_of l (Unanswered c k) = c.partner.longest

-- How long a connection of this door may stay in this phase from now on, if nothing comes of it. An answer that refuses has the time of a farewell.
abbrev pub time_limit : Limits → Door → Phase → ℕ
time_limit l d (Stranger u r) = l.admission
time_limit l d (Between x) = min (patience_of l x.way) (longest_of l x.way)
time_limit l d (Parting u) = l.farewell
time_limit l d (Asking u) = answering l d
time_limit l d (Copying u) = l.copying
time_limit l d (Answered u o) = max (answering l d) l.farewell
time_limit l d (Dialing c u) = dialing_time l c
time_limit l d (Connected c u) = l.standing
time_limit l d p = 0

-- no deadline is later than its limit from now
abbrev pub IsWithin : Limits → State → Type 0
IsWithin l s = (id : ℕ) (c : Connection) (u : ℕ) → connection_at id s.connections ≡ Some c → due c.phase ≡ Some u → u ≤ s.now + time_limit l c.door c.phase

abbrev pub session_of : Phase → Option Session
session_of (Stepping x) = Some x
session_of (Between x) = Some x
session_of p = None

-- a session ends no later than the longest session after its begin
abbrev pub SessionsEnd : Limits → State → Type 0
SessionsEnd l s = (id : ℕ) (p : Phase) (x : Session) → phase_at id s.connections ≡ Some p → session_of p ≡ Some x → (x.begun ≤ s.now) × (x.ends ≤ x.begun + longest_of l x.way)

-- nothing moves the begin and the end of a session
abbrev pub KeepsEnds : State → Move → Type 0
KeepsEnds s m = (id : ℕ) (p q : Phase) (x y : Session) → phase_at id s.connections ≡ Some p → session_of p ≡ Some x → phase_at id (step s m).0.connections ≡ Some q
    → session_of q ≡ Some y → (y.begun ≡ x.begun) × (y.ends ≡ x.ends)

-- 2. The next time

-- there is a time, which is u at the latest
abbrev pub AtMost : ℕ → Option ℕ → Type 0
AtMost u None = ⊥
AtMost u (Some v) = v ≤ u

-- the shell is told to wait no longer than until each deadline,
abbrev pub KnowsDeadlines : State → Type 0
KnowsDeadlines s = (id u : ℕ) (p : Phase) → phase_at id s.connections ≡ Some p → due p ≡ Some u → AtMost u (next_time s)

-- the time of the clock that is to come,
abbrev pub KnowsClock : State → Type 0
KnowsClock s = (u : ℕ) → s.clock ≡ At u → s.now < u → AtMost u (next_time s)

-- the end of a door's rest,
abbrev pub KnowsRests : State → Type 0
KnowsRests s = (d : Door) (u : ℕ) → gate s d ≡ Resting u → AtMost u (next_time s)

-- the moment to come from which on a stranger may be closed for who waits at the partners' door,
abbrev pub KnowsRoom : State → Type 0
KnowsRoom s = (id u r : ℕ) → s.partners ≡ Knocked → phase_at id s.connections ≡ Some (Stranger u r) → s.now < r → AtMost r (next_time s)

-- the end of the rest of look-ups within a session, where one that waits would be done else,
abbrev pub KnowsQuiet : State → Type 0
KnowsQuiet s = (id : ℕ) → is_busy s ≡ false → list_any (in_phase is_between_phase) s.connections ≡ true → consult s ≡ Consult id → s.now < s.quiet → AtMost s.quiet (next_time s)

-- a call's session that isn't answered, and of whose partner nothing is there to hear, and the guest that it may give way to
abbrev pub AreRivals : State → Session → Call → ℕ → Type 0
AreRivals s x c t =
    (a : Connection) × (g : Connection) × (k : ℕ) × (find (in_phase is_between_phase) s.connections ≡ Some a) × (find (in_phase is_guest_phase) s.connections ≡ Some g) ×
    (a.phase ≡ Between x) × (x.way ≡ Unanswered c k) × (x.input ≡ Awaited) × (g.phase ≡ Guest t)

-- and the moment at which a call gives way
abbrev pub KnowsWay : State → Type 0
KnowsWay s = (x : Session) (c : Call) (t : ℕ) → AreRivals s x c t → AtMost (max x.begun t + c.partner.pause) (next_time s)

-- 3. Who moves a deadline

-- what is told is told of connection id
abbrev pub is_of : ℕ → Event → Bool
is_of id (Accepted i a) = i == id
is_of id (Told i g) = i == id
is_of id e = false

-- what is chosen is chosen for connection id
abbrev pub is_for : ℕ → Choice → Bool
is_for id (Settle i r) = i == id
is_for id (Start i x) = i == id
is_for id (Proceed i x) = i == id
is_for id (Consult i) = i == id
is_for id (Perform i) = i == id
is_for id (Lend i) = i == id
is_for id (Seek i c) = i == id
is_for id c = false

-- After what was told of others it is as it was, but for the rank that the end of a session gives a request. Or it was a stranger who may be closed
-- for another.
abbrev pub IsLeft : ℕ → Phase → Option Phase → Type 0
IsLeft now p None = is_ripe_phase now p ≡ true
IsLeft now p (Some q) = (q ≡ p) ⊎ (q ≡ owed_phase p)

abbrev pub IsUnmovedBy : State → Event → Type 0
IsUnmovedBy s e = (id : ℕ) (p : Phase) → is_of id e ≡ false → phase_at id s.connections ≡ Some p → IsLeft s.now p (phase_at id (received s e).0.connections)

-- A choice for others leaves this of it. At the end of the station an answer has no longer than its farewell, and after a look-up a session has its
-- share again.
abbrev pub left_by : State → Choice → Phase → Phase
left_by s (Finish st) p = hurried_phase (s.now + s.limits.farewell) p
left_by s (Consult i) p = shared_phase s.limits.share p
left_by s c p = p

abbrev pub IsSpared : State → Phase → Option Phase → Type 0
IsSpared s p None = ⊥
IsSpared s p (Some q) = (q ≡ left_by s (choice s) p) ⊎ (q ≡ owed_phase p)

abbrev pub IsUnmoved : State → Type 0
IsUnmoved s = (id : ℕ) (p : Phase) → is_for id (choice s) ≡ false → phase_at id s.connections ≡ Some p → IsSpared s p (phase_at id (step s Ask).0.connections)

-- a is no later than b
abbrev pub NoLater : Option ℕ → Option ℕ → Type 0
NoLater a None = a ≡ None
NoLater a (Some v) = AtMost v a

-- none of this makes a deadline later, and only the end of the station moves one
abbrev pub IsKept : Phase → Type 0
IsKept p = (k v : ℕ) → (due (owed_phase p) ≡ due p) × (due (shared_phase k p) ≡ due p) × NoLater (due (hurried_phase v p)) (due p)

-- 4. When a time is over

-- it was asked until it said nothing, and the program goes on
abbrev pub IsStill : State → Type 0
IsStill s = (choice s ≡ Nothing) × (is_past s.course ≡ false)

-- then each deadline in the table is still to come
abbrev pub IsOnTime : State → Type 0
IsOnTime s = (id u : ℕ) (p : Phase) → IsStill s → phase_at id s.connections ≡ Some p → due p ≡ Some u → s.now < u

-- and so is the moment at which a call gives way
abbrev pub GivesWay : State → Type 0
GivesWay s = (x : Session) (c : Call) (t : ℕ) → IsStill s → AreRivals s x c t → s.now < max x.begun t + c.partner.pause

-- but none gives way before that, nor one of whose partner something is there to hear
abbrev pub YieldsInTime : State → Type 0
YieldsInTime s =
    (id : ℕ) (p : Phase) → choice s ≡ Settle id (Yield p) → (x : Session) × (c : Call) × (t : ℕ) × AreRivals s x c t × (c.partner.pause ≤ s.now - max x.begun t)

-- And so is every moment that the shell is told. It never asks in vain: a door rests for some time, and times are as small as the shell tells them.
abbrev pub IsToCome : State → Type 0
IsToCome s = (t : ℕ) → IsStill s → 0 < s.limits.rest → s.now < 2 ^ 63 → next_time s ≡ Some t → s.now < t

-- what is done to one whose time is over: it is closed, declined, or made again
abbrev pub is_of_time : Reply → Bool
is_of_time (Leave TimedOut) = true
is_of_time (Leave Unreached) = true
is_of_time (Refuse p TimedOut) = true
is_of_time (Redial p) = true
is_of_time (Break TimedOut) = true
is_of_time (Break Stalled) = true
is_of_time r = false

-- its own time is over
abbrev pub HasNoTime : State → ℕ → Type 0
HasNoTime s id = (c : Connection) × (connection_at id s.connections ≡ Some c) × (is_late s.now c ≡ true)

-- or it is a call that would give way, and gave way as often as it may
abbrev pub HasNoMore : State → ℕ → Type 0
HasNoMore s id = (x : Session) × (c : Call) × (k : ℕ) × (phase_at id s.connections ≡ Some (Between x)) × (x.way ≡ Unanswered c k) × (c.times ≡ 0)

-- this is done to nobody before
abbrev pub IsOfTime : State → Choice → Type 0
IsOfTime s (Settle id r) = is_of_time r ≡ true → HasNoTime s id ⊎ HasNoMore s id
IsOfTime s c = Unit {0}

-- the call of connection id is made again in phase p: it may be so once less, and could be
abbrev pub HasOneLess : State → ℕ → Phase → Type 0
HasOneLess s id p = (c : Call) × (call_at (connection_at id s.connections) ≡ Some c) × (0 < c.times) × (p ≡ Wanted (once_less c))

-- each time that a call hangs up or gives way it may do so once less, and none does so more often than it may
abbrev pub IsOnceLess : State → Choice → Type 0
IsOnceLess s (Settle id (Redial p)) = HasOneLess s id p
IsOnceLess s (Settle id (Yield p)) = HasOneLess s id p
IsOnceLess s c = Unit {0}

-- 5. The end of the station

-- once it ends, nothing gives an answer more time: it has what it had, and one whose time is over stays so
abbrev pub IsHastened : State → Move → Type 0
IsHastened s m = (id u v o k : ℕ) → is_ending s.course ≡ true → phase_at id s.connections ≡ Some (Answered u o) → phase_at id (step s m).0.connections ≡ Some (Answered v k) → v ≤ max u s.now
