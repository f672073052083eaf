-- The schedule as a machine: what each event does, what is done next, and what is ordered then.
use Rattle.std.specs.Prelude.{ℕ, zero, suc, ◌+◌, ◌-◌, ◌^◌, ◌<◌, ◌≤◌, ◌==◌, max, min, Bool, true, false, nat_lt, nat_le, not, List, [], ◌∷◌, ◌++◌, Option, Some, None, if◌then◌else◌, map, filter, find, count_by}
use Rattle.std.specs.List.{list_any}
use Rattle.oftp_schedule.specs.declared.connection.Door.{Door}
use Rattle.oftp_schedule.specs.declared.connection.Door.TheVariants.{Partners, Commands, Requests, Calls}
use Rattle.oftp_schedule.specs.declared.connection.Request.TheVariants.{Query, Update, Backup}
use Rattle.oftp_schedule.specs.declared.connection.Asker.{Asker}
use Rattle.oftp_schedule.specs.declared.connection.Asker.TheVariants.{ByClock, By}
use Rattle.oftp_schedule.specs.declared.connection.Way.{Way}
use Rattle.oftp_schedule.specs.declared.connection.Way.TheVariants.{In, Unanswered}
use Rattle.oftp_schedule.specs.declared.connection.Input.TheVariants.{Awaited}
use Rattle.oftp_schedule.specs.declared.connection.Phase.{Phase}
use Rattle.oftp_schedule.specs.declared.connection.Phase.TheVariants.{Arriving, Stranger, Guest, Stepping, Between, Asking, Ready, Served, Calling, Copying, Wanted, Resolving}
use Rattle.oftp_schedule.specs.declared.connection.Arrival.{Arrival}
use Rattle.oftp_schedule.specs.declared.connection.Arrival.TheVariants.{Somebody, Nobody, Later, Never}
use Rattle.oftp_schedule.specs.declared.connection.Signal.{Signal}
use Rattle.oftp_schedule.specs.declared.connection.Status.{Status}
use Rattle.oftp_schedule.specs.declared.connection.Status.TheVariants.{Stopped, DoorFailed, OfficeFailed}
use Rattle.oftp_schedule.specs.declared.connection.Event.{Event}
use Rattle.oftp_schedule.specs.declared.connection.Event.TheVariants.{Knock, Accepted, Passed, Told, Due, Reviewed, Over}
use Rattle.oftp_schedule.specs.declared.connection.Reason.TheVariants.{Evicted, TimedOut, Orphaned, Stopping}
use Rattle.oftp_schedule.specs.declared.connection.Action.{Action}
use Rattle.oftp_schedule.specs.declared.connection.Action.TheVariants.{Accept, Begin, Hear, Look, Change, Copy, Review, Resolve, Shut, Exit}
use Rattle.oftp_schedule.specs.declared.connection.Reply.{Reply}
use Rattle.oftp_schedule.specs.declared.connection.Reply.TheVariants.{Stay, Become, Queue, Want, Respond, Refuse, Connect, Redial, Yield, Farewell, Leave, Break}
use Rattle.oftp_schedule.specs.declared.connection.Kind.{Kind}
use Rattle.oftp_schedule.specs.declared.connection.Kind.TheVariants.{Queries, Sessions, Updates}
use Rattle.oftp_schedule.specs.declared.connection.Choice.{Choice}
use Rattle.oftp_schedule.specs.declared.connection.Choice.TheVariants.{Nothing, Finish, Settle, Admit, Inspect, Start, Proceed, Consult, Perform, Lend, Seek, Depart}
use Rattle.oftp_schedule.specs.declared.connection.Gate.{Gate}
use Rattle.oftp_schedule.specs.declared.connection.Gate.TheVariants.{Quiet, Knocked, Resting}
use Rattle.oftp_schedule.specs.declared.connection.Clock.{Clock}
use Rattle.oftp_schedule.specs.declared.connection.Clock.TheVariants.{Off, At, Reviewing}
use Rattle.oftp_schedule.specs.declared.connection.Course.{Course}
use Rattle.oftp_schedule.specs.declared.connection.Course.TheVariants.{Serving, Called, Ending, Past}
use Rattle.oftp_schedule.specs.declared.connection.Partner.{Partner}
use Rattle.oftp_schedule.specs.declared.connection.Call.{Call}
use Rattle.oftp_schedule.specs.declared.connection.Session.{Session}
use Rattle.oftp_schedule.specs.declared.connection.Connection.{Connection}
use Rattle.oftp_schedule.specs.declared.connection.Limits.{Limits}
use Rattle.oftp_schedule.specs.Rules.{is_awaited, is_hearable, answered, rule, due, is_late, once_less, late, dismissal, concerns, hurried, at_office, in_session, is_between_phase, is_guest_phase, is_query_phase, is_update_phase, is_owed_phase, is_copying_phase, is_wanted_phase, is_connected_phase, is_up_phase, is_arriving_phase, in_phase, is_ripe, same_door, is_at, call_in, calls, orders, is_counted, ends_session, is_other, connection_at, became, owed, shared, is_orphan, is_to_tell, room_left}

pub record State : Type 0 where
  pub now : ℕ
  -- when the last look-up was ordered
  pub looked : ℕ
  -- until when no look-up begins within a session
  pub quiet : ℕ
  -- the number of the next connection
  pub next : ℕ
  -- how many jobs are left, if they are counted
  pub left : ℕ
  -- the kind of the last job
  pub last : Kind
  -- whether a guest has its session before a call is begun
  pub guest_first : Bool
  pub clock : Clock
  pub course : Course
  -- the doors
  pub partners : Gate
  pub commands : Gate
  pub requests : Gate
  pub limits : Limits
  -- the connections: those that wait for the same, in the order in which they do
  pub connections : List Connection

-- a state, and the actions that are ordered
abbrev pub Turn : Type 0
Turn = State × List Action

abbrev pub with_time : State → ℕ → State
with_time s v = record s { now = v }

abbrev pub with_looked : State → ℕ → State
with_looked s v = record s { looked = v }

abbrev pub with_next : State → ℕ → State
with_next s v = record s { next = v }

abbrev pub with_last_job : State → Kind → State
with_last_job s v = record s { last = v }

abbrev pub with_guest_first : State → Bool → State
with_guest_first s v = record s { guest_first = v }

abbrev pub with_clock : State → Clock → State
with_clock s v = record s { clock = v }

abbrev pub with_course : State → Course → State
with_course s v = record s { course = v }

abbrev pub with_partners : State → Gate → State
with_partners s v = record s { partners = v }

abbrev pub with_commands : State → Gate → State
with_commands s v = record s { commands = v }

abbrev pub with_requests : State → Gate → State
with_requests s v = record s { requests = v }

abbrev pub with_connections : State → List Connection → State
with_connections s v = record s { connections = v }

-- 1. What becomes of a connection

abbrev pub is_ending : Course → Bool
is_ending Serving = false
is_ending c = true

-- once the station ends, answers have no longer than last octets do, and gain no time
abbrev pub hasty : Limits → Limits
hasty l = record l { asking = 0; requesting = 0 }

abbrev pub limits_in : Course → Limits → Limits
limits_in co l = if is_ending co then hasty l else l

abbrev pub limits_now : State → Limits
limits_now s = limits_in s.course s.limits

abbrev pub new_call : Limits → Partner → Asker → Call
new_call l p a = record { partner = p; asker = a; times = l.times }

abbrev pub at_door : ℕ → Door → Phase → Connection
at_door id d p = record { id = id; door = d; phase = p }

abbrev pub edited : State → Connection → Reply → List Connection
edited s c Stay = s.connections
edited s c (Become p) = map (became c.id p) s.connections
edited s c (Queue p) = filter (is_other c.id) s.connections ++ at_door c.id c.door p ∷ []
edited s c (Want n) = map (became c.id (Calling s.next)) s.connections ++ at_door s.next Calls (Wanted (new_call s.limits n (By c.id))) ∷ []
edited s c (Respond p) = map (became c.id p) s.connections
edited s c (Refuse p why) = map (became c.id p) s.connections
edited s c (Connect p) = map (became c.id p) s.connections
edited s c (Redial p) = map (became c.id p) s.connections
edited s c (Yield p) = filter (is_other c.id) s.connections ++ at_door c.id c.door p ∷ []
edited s c (Farewell p) = map (became c.id p) s.connections
edited s c (Leave why) = filter (is_other c.id) s.connections
edited s c (Break why) = filter (is_other c.id) s.connections

abbrev pub after_session : Bool → List Connection → List Connection
after_session true cs = map owed cs
after_session false cs = cs

-- the numbers that a reply gives away
abbrev pub numbers : Reply → ℕ
numbers (Want n) = 1
numbers r = 0

abbrev pub jobs : Bool → ℕ
jobs true = 1
jobs false = 0

abbrev pub guest_next : Bool → Reply → Bool
guest_next b (Yield p) = true
guest_next b r = b

-- a look-up that was done is followed by as long a time as it took
abbrev pub quiet_after : State → Phase → Reply → ℕ
quiet_after s (Served Query) (Respond p) = max s.quiet (s.now + (s.now - s.looked))
quiet_after s p r = s.quiet

-- a job is counted, a number given away, a look-up's time is known, and a guest comes first where a call gave way
abbrev pub counted : State → Door → Phase → Reply → State
counted s d p r =
    record s {
      quiet = quiet_after s p r;
      next = s.next + numbers r;
      left = s.left - jobs (is_counted s.limits.counted d p r);
      guest_first = guest_next s.guest_first r;
    }

abbrev pub replied : State → Connection → Reply → Turn
replied s c r = (counted (with_connections s (after_session (ends_session c.phase r) (edited s c r))) c.door c.phase r, orders c.id c.phase r)

-- no number is left for a call
abbrev pub in_numbers : ℕ → Reply → Reply
in_numbers next (Want n) = if nat_lt next (2 ^ 63) then Want n else Leave Stopping
in_numbers next r = r

-- the reply to one who is there
abbrev pub replied_at : State → Option Connection → (Connection → Reply) → Turn
replied_at s None f = (s, [])
replied_at s (Some c) f = replied s c (in_numbers s.next (f c))

-- 2. What is told

abbrev pub told : State → ℕ → Signal → Turn
told s id g = replied_at s (connection_at id s.connections) (λ c. rule s.now (limits_now s) c.door c.phase g)

abbrev pub places : Limits → Door → ℕ
places l Partners = l.partners
places l Commands = l.commands
places l Requests = l.requests
places l Calls = 0

abbrev pub gate : State → Door → Gate
gate s Partners = s.partners
gate s Commands = s.commands
gate s Requests = s.requests
gate s Calls = Quiet

abbrev pub with_gate : State → Door → Gate → State
with_gate s Partners g = with_partners s g
with_gate s Commands g = with_commands s g
with_gate s Requests g = with_requests s g
with_gate s Calls g = s

-- a door that rests does so to its end
abbrev pub knocked : Gate → Gate
knocked (Resting u) = Resting u
knocked g = Knocked

abbrev pub first_phase : ℕ → Limits → Door → Phase
first_phase now l Partners = Stranger (now + l.admission) (now + l.shelter)
first_phase now l Requests = Asking (now + l.requesting)
first_phase now l d = Asking (now + l.asking)

-- at a door that is too full the oldest stranger leaves for who has come
abbrev pub makes_room : State → Door → Option Connection
makes_room s d = if nat_lt (places s.limits d) (count_by (is_at d) s.connections) then find (is_ripe s.now) s.connections else None

abbrev pub evicted : State → Option Connection → Turn
evicted s o = replied_at s o (λ c. Leave Evicted)

abbrev pub came : State → Connection → Turn
came s c = let t = with_connections s (map (became c.id (first_phase s.now s.limits c.door)) s.connections) in evicted t (makes_room t c.door)

-- the worse of two causes
abbrev pub worse : Status → Status → Status
worse OfficeFailed b = OfficeFailed
worse a OfficeFailed = OfficeFailed
worse a b = a

abbrev pub called : Status → Course → Course
called st Serving = Called st
called st (Called a) = Called (worse a st)
called st (Ending a) = Ending (worse a st)
called st Past = Past

abbrev pub accepted : State → Connection → Arrival → Turn
accepted s c Somebody = came s c
accepted s c Nobody = (with_gate (with_connections s (filter (is_other c.id) s.connections)) c.door Quiet, [])
accepted s c Later = (with_gate (with_connections s (filter (is_other c.id) s.connections)) c.door (Resting (s.now + s.limits.rest)), [])
accepted s c Never = (with_course (with_connections s (filter (is_other c.id) s.connections)) (called DoorFailed s.course), [])

abbrev pub accepted_at : State → Option Connection → Arrival → Turn
accepted_at s None a = (s, [])
accepted_at s (Some c) a = if is_arriving_phase c.phase then accepted s c a else (s, [])

-- a door has rested
abbrev pub rested : ℕ → Gate → Gate
rested now (Resting u) = if nat_le u now then Knocked else Resting u
rested now g = g

abbrev pub passed : State → ℕ → State
passed s t = let now = max s.now t in with_requests (with_commands (with_partners (with_time s now) (rested now s.partners)) (rested now s.commands)) (rested now s.requests)

abbrev pub is_reviewing : Clock → Bool
is_reviewing Reviewing = true
is_reviewing c = false

abbrev pub with_call : State → Partner → State
with_call s p = with_next (with_connections s (s.connections ++ at_door s.next Calls (Wanted (new_call s.limits p ByClock)) ∷ [])) (s.next + 1)

-- something waits for a partner: it is called, unless the clock calls it already
abbrev pub due_to : State → Partner → State
due_to s p =
    if list_any (calls p.number) s.connections then s else (if nat_lt s.next (2 ^ 63) then with_call s p else s)

abbrev pub reviewed : State → Clock → State
reviewed s Reviewing = with_clock s (At (s.now + s.limits.interval))
reviewed s c = s

abbrev pub received : State → Event → Turn
received s (Knock d) = (with_gate s d (knocked (gate s d)), [])
received s (Accepted id a) = accepted_at s (connection_at id s.connections) a
received s (Passed t) = (passed s t, [])
received s (Told id g) = told s id g
received s (Due p) = (due_to s p, [])
received s Reviewed = (reviewed s s.clock, [])
received s (Over st) = (with_course s (called st s.course), [])

-- 3. What is done next

abbrev pub or_else : Choice → Choice → Choice
or_else Nothing b = b
or_else a b = a

-- of one who is found
abbrev pub choice_of : Option Connection → (Connection → Choice) → Choice
choice_of None f = Nothing
choice_of (Some c) f = f c

abbrev pub is_enough : State → Bool
is_enough s = if nat_lt 0 s.limits.jobs then s.left == 0 else false

abbrev pub finish : State → Course → Choice
finish s Serving = if is_enough s then Finish Stopped else Nothing
finish s (Called st) = Finish st
finish s c = Nothing

-- somebody's time is over
abbrev pub expiry : State → Choice
expiry s = choice_of (find (is_late s.now) s.connections) (λ c. Settle c.id (late s.now (limits_now s) c.door c.phase))

-- the end of the station concerns somebody
abbrev pub dismissed : State → Course → Choice
dismissed s (Ending st) = choice_of (find (concerns st) s.connections) (λ c. Settle c.id (dismissal s.now s.limits c.door c.phase))
dismissed s c = Nothing

-- a call's command is gone
abbrev pub orphaned : State → Choice
orphaned s = choice_of (find (is_orphan s.connections) s.connections) (λ c. Settle c.id (Leave Orphaned))

-- a command's call is over
abbrev pub call_over : State → Choice
call_over s = choice_of (find (is_to_tell s.connections) s.connections) (λ c. Settle c.id (Respond (answered s.now (limits_now s) c.door 0)))

-- A call gives way to a guest that has waited for the partner's pause. The call isn't answered, and nothing of its partner is there to hear.
abbrev pub is_to_yield : ℕ → Session → Call → ℕ → Bool
is_to_yield now x c t = if is_awaited x.input then nat_le c.partner.pause (now - max x.begun t) else false

abbrev pub yielded : Call → Reply
yielded c = if nat_lt 0 c.times then Yield (Wanted (once_less c)) else Break TimedOut

abbrev pub yield_to : ℕ → ℕ → Session → ℕ → Way → Choice
yield_to now id x t (Unanswered c k) = if is_to_yield now x c t then Settle id (yielded c) else Nothing
yield_to now id x t w = Nothing

abbrev pub yield_for : ℕ → ℕ → Phase → Phase → Choice
yield_for now id (Between x) (Guest t) = yield_to now id x t x.way
yield_for now id p q = Nothing

abbrev pub way_given : State → Choice
way_given s =
    choice_of (find (in_phase is_between_phase) s.connections) (λ c.
    choice_of (find (in_phase is_guest_phase) s.connections) (λ g. yield_for s.now c.id c.phase g.phase))

abbrev pub is_knocked : Gate → Bool
is_knocked Knocked = true
is_knocked g = false

-- there is a place, or a stranger has been at the partners' full door for long enough
abbrev pub has_place : State → Door → Bool
has_place s d =
    if nat_lt (count_by (is_at d) s.connections) (places s.limits d)
    then true
    else (if same_door d Partners then (if count_by (is_at d) s.connections == places s.limits d then list_any (is_ripe s.now) s.connections else false) else false)

abbrev pub admit : State → Door → Choice
admit s d = if is_knocked (gate s d) then (if has_place s d then Admit d else Nothing) else Nothing

-- one is accepted at a time
abbrev pub admission : State → Choice
admission s =
    if is_ending s.course
    then Nothing
    else (if nat_lt s.next (2 ^ 63)
    then (if list_any (in_phase is_arriving_phase) s.connections then Nothing else or_else (admit s Partners) (or_else (admit s Commands) (admit s Requests)))
    else Nothing)

abbrev pub is_busy : State → Bool
is_busy s = if is_reviewing s.clock then true else list_any (in_phase at_office) s.connections

-- a call is begun: one at a time, and none while a session goes on, the files are copied, or a guest comes first
abbrev pub may_dial : State → Bool
may_dial s =
    if is_ending s.course
    then false
    else (if list_any (in_phase in_session) s.connections
    then false
    else (if list_any (in_phase is_up_phase) s.connections
    then false
    else (if list_any (in_phase is_copying_phase) s.connections
    then false
    else (if s.guest_first then not (list_any (in_phase is_guest_phase) s.connections) else true))))

abbrev pub sought : Connection → Option Call → Choice
sought c None = Nothing
sought c (Some k) = Seek c.id k

abbrev pub dial : State → Choice
dial s = if may_dial s then choice_of (find (in_phase is_wanted_phase) s.connections) (λ c. sought c (call_in c.phase)) else Nothing

-- a look-up, if there is room for its answer
abbrev pub consult : State → Choice
consult s = if nat_lt 0 (room_left s.limits.held s.connections) then choice_of (find (in_phase is_query_phase) s.connections) (λ c. Consult c.id) else Nothing

-- a look-up within a session, once as long has passed as the last one took
abbrev pub consult_within : State → Choice
consult_within s = if nat_le s.quiet s.now then consult s else Nothing

-- within a session: what its partner sent, or a look-up after so many octets, or while it is silent
abbrev pub within : State → ℕ → Phase → Choice
within s id (Between x) =
    if is_hearable s.limits x
    then (if x.share == 0 then or_else (consult_within s) (Proceed id x) else Proceed id x)
    else consult_within s
within s id p = Nothing

abbrev pub requested : ℕ → Phase → Choice
requested id (Ready Update k) = Perform id
requested id (Ready Backup k) = Lend id
requested id p = Nothing

abbrev pub update : State → (Phase → Bool) → Choice
update s t = choice_of (find (in_phase t) s.connections) (λ c. requested c.id c.phase)

-- the session of a guest, and that of a call
abbrev pub new_session : ℕ → Limits → Way → ℕ → ℕ → Session
new_session now l w patience longest =
    record {
      way = w;
      begun = now;
      ends = now + longest;
      patience = patience;
      until = now + patience;
      input = Awaited;
      share = l.share;
      backlog = 0;
    }

abbrev pub guest_session : State → Choice
guest_session s = choice_of (find (in_phase is_guest_phase) s.connections) (λ c. Start c.id (new_session s.now s.limits In s.limits.patience s.limits.longest))

abbrev pub called_session : ℕ → Limits → ℕ → Option Call → Choice
called_session now l id None = Nothing
called_session now l id (Some k) = Start id (new_session now l (Unanswered k (min (l.greeting + 1) (2 ^ 32 - 1))) k.partner.patience k.partner.longest)

abbrev pub call_session : State → Choice
call_session s = choice_of (find (in_phase is_connected_phase) s.connections) (λ c. called_session s.now s.limits c.id (call_in c.phase))

-- the kinds in turn, the last one last
abbrev pub in_turn : Kind → Choice → Choice → Choice → Choice
in_turn Queries q g u = or_else g (or_else u q)
in_turn Sessions q g u = or_else u (or_else q g)
in_turn Updates q g u = or_else q (or_else g u)

abbrev pub inspection : State → Clock → Choice
inspection s (At t) = if nat_le t s.now then Inspect else Nothing
inspection s c = Nothing

-- without a session: what came within the last one, a call that is up, and then the kinds in turn
abbrev pub between_jobs : State → Choice
between_jobs s =
    or_else (inspection s s.clock)
    (or_else (update s is_owed_phase)
    (or_else (call_session s)
    (in_turn s.last (consult s) (guest_session s) (update s is_update_phase))))

abbrev pub outside : State → Choice
outside s =
    if list_any (in_phase is_copying_phase) s.connections
    then consult s
    else (if is_ending s.course then Nothing else between_jobs s)

abbrev pub job_for : State → Option Connection → Choice
job_for s (Some c) = within s c.id c.phase
job_for s None = outside s

abbrev pub job : State → Choice
job s = if is_busy s then Nothing else job_for s (find (in_phase is_between_phase) s.connections)

abbrev pub departed : Status → List Connection → Choice
departed st [] = Depart st
departed st (c ∷ cs) = Nothing

-- the last connection is gone
abbrev pub departure : State → Course → Choice
departure s (Ending st) = if is_reviewing s.clock then Nothing else departed st s.connections
departure s c = Nothing

abbrev pub is_past : Course → Bool
is_past Past = true
is_past c = false

abbrev pub choice : State → Choice
choice s =
    if is_past s.course
    then Nothing
    else or_else (finish s s.course)
    (or_else (expiry s)
    (or_else (dismissed s s.course)
    (or_else (orphaned s)
    (or_else (call_over s)
    (or_else (way_given s)
    (or_else (admission s)
    (or_else (dial s)
    (or_else (job s) (departure s s.course)))))))))

abbrev pub is_in : Way → Bool
is_in In = true
is_in w = false

abbrev pub became_all : State → ℕ → Phase → State
became_all s id p = with_connections s (map (became id p) s.connections)

-- somebody is accepted at a door, and has the next number
abbrev pub welcomed : State → Door → Turn
welcomed s d = (with_next (with_connections s (s.connections ++ at_door s.next d Arriving ∷ [])) (s.next + 1), Accept s.next d ∷ [])

abbrev pub chosen : State → Choice → Turn
chosen s Nothing = (s, [])
chosen s (Finish st) = (with_course (with_connections s (map (hurried (s.now + s.limits.farewell)) s.connections)) (Ending st), Shut ∷ [])
chosen s (Settle id r) = replied_at s (connection_at id s.connections) (λ c. r)
chosen s (Admit d) = if nat_lt s.next (2 ^ 63) then welcomed s d else (s, [])
chosen s Inspect = (with_clock s Reviewing, Review ∷ [])
chosen s (Start id x) = (with_guest_first (with_last_job (became_all s id (Stepping x)) Sessions) (not (is_in x.way)), Begin id ∷ [])
chosen s (Proceed id x) = (became_all s id (Stepping x), Hear id ∷ [])
chosen s (Consult id) = (with_last_job (with_looked (with_connections s (map (shared s.limits.share) (map (became id (Served Query)) s.connections))) s.now) Queries, Look id ∷ [])
chosen s (Perform id) = (with_last_job (became_all s id (Served Update)) Updates, Change id ∷ [])
chosen s (Lend id) = (with_last_job (became_all s id (Copying (s.now + s.limits.copying))) Updates, Copy id ∷ [])
chosen s (Seek id c) = (became_all s id (Resolving c), Resolve id ∷ [])
chosen s (Depart st) = (with_course s Past, Exit st ∷ [])

-- 4. Steps

-- what a turn does after another: its state, and its actions after those
abbrev pub and_then : Turn → Turn → Turn
and_then t u = (u.0, t.1 ++ u.1)

abbrev pub first_clock : ℕ → Clock
first_clock zero = Off
first_clock (suc k) = At (suc k)

abbrev pub start : Limits → State
start l =
    record {
      now = 0;
      looked = 0;
      quiet = 0;
      next = 0;
      left = l.jobs;
      last = Updates;
      guest_first = false;
      clock = first_clock l.interval;
      course = Serving;
      partners = Quiet;
      commands = Quiet;
      requests = Quiet;
      limits = l;
      connections = [];
    }

-- what the shell does with the schedule: it tells an event, or asks for what is next
pub data Move : Type 0 where
  Tell : Event → Move
  Ask : Move

abbrev pub step : State → Move → Turn
step s (Tell e) = received s e
step s Ask = chosen s (choice s)

-- the state after these moves
abbrev pub run : State → List Move → State
run s [] = s
run s (m ∷ ms) = run (step s m).0 ms

-- the shell tells no time that is too late to be counted
abbrev pub IsInTime : Event → Type 0
IsInTime (Passed t) = t < 2 ^ 63
IsInTime e = Unit {0}

-- what a schedule always keeps, so that no time and no number is too large
abbrev pub has_room : ℕ → ℕ → Type 0
has_room now next = (now < 2 ^ 63) × (next ≤ 2 ^ 63)

-- 5. When the schedule is to be told the time

abbrev pub earlier : Option ℕ → Option ℕ → Option ℕ
earlier None b = b
earlier (Some u) None = Some u
earlier (Some u) (Some v) = Some (min u v)

-- the least of all deadlines
abbrev pub first_due : List Connection → Option ℕ
first_due [] = None
first_due (c ∷ cs) = earlier (due c.phase) (first_due cs)

abbrev pub rest_over : Gate → Option ℕ
rest_over (Resting u) = Some u
rest_over g = None

-- a moment that is to come
abbrev pub to_come : ℕ → ℕ → Option ℕ
to_come now t = if nat_lt now t then Some t else None

abbrev pub clock_time : ℕ → Clock → Option ℕ
clock_time now (At t) = to_come now t
clock_time now c = None

-- from when on a stranger may be closed for who waits at a full door
abbrev pub ripe_time : ℕ → Phase → Option ℕ
ripe_time now (Stranger u r) = to_come now r
ripe_time now p = None

abbrev pub first_ripe : ℕ → List Connection → Option ℕ
first_ripe now [] = None
first_ripe now (c ∷ cs) = earlier (ripe_time now c.phase) (first_ripe now cs)

abbrev pub waits_for_room : State → Option ℕ
waits_for_room s = if is_knocked s.partners then first_ripe s.now s.connections else None

-- when a call gives way, if nothing of its partner comes
abbrev pub yield_time : Session → Way → ℕ → Option ℕ
yield_time x (Unanswered c k) t = if is_awaited x.input then Some (min (max x.begun t + c.partner.pause) (2 ^ 64 - 1)) else None
yield_time x w t = None

abbrev pub yield_time_of : Phase → Phase → Option ℕ
yield_time_of (Between x) (Guest t) = yield_time x x.way t
yield_time_of p q = None

abbrev pub time_of : Option Connection → (Connection → Option ℕ) → Option ℕ
time_of None f = None
time_of (Some c) f = f c

abbrev pub way_time : State → Option ℕ
way_time s =
    time_of (find (in_phase is_between_phase) s.connections) (λ c.
    time_of (find (in_phase is_guest_phase) s.connections) (λ g. yield_time_of c.phase g.phase))

-- when this choice may be made, if that is to come
abbrev pub quiet_until : ℕ → ℕ → Choice → Option ℕ
quiet_until now t (Consult id) = to_come now t
quiet_until now t c = None

-- when a look-up that waits may begin within a session
abbrev pub quiet_time : State → Option ℕ
quiet_time s = if is_busy s then None else time_of (find (in_phase is_between_phase) s.connections) (λ c. quiet_until s.now s.quiet (consult s))

abbrev pub next_time : State → Option ℕ
next_time s =
    earlier (first_due s.connections)
    (earlier (earlier (rest_over s.partners) (earlier (rest_over s.commands) (rest_over s.requests)))
    (earlier (clock_time s.now s.clock) (earlier (waits_for_room s) (earlier (way_time s) (quiet_time s)))))

-- 6. What is asked for: the first action that is ordered, and else what is done next

abbrev pub popped : Turn → Option Action × Turn
popped (s, []) = (None, (s, []))
popped (s, a ∷ rest) = (Some a, (s, rest))

abbrev pub polled : Turn → Option Action × Turn
polled (s, []) = popped (step s Ask)
polled (s, a ∷ rest) = (Some a, (s, rest))
