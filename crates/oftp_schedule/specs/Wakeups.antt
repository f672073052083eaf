-- What waits, and for what. If nothing is chosen, each that waits does so for something whose end is told, or for a moment that is to come.
use Rattle.std.specs.Prelude.{◌≡◌, ◌≢◌, ◌⊎◌, ◌^◌, ℕ, ◌<◌, ◌≤◌, Bool, true, false, nat_lt, Some, find}
use Rattle.std.specs.List.{list_any}
use Rattle.oftp_schedule.specs.declared.connection.Door.{Door}
use Rattle.oftp_schedule.specs.declared.connection.Request.TheVariants.{Query}
use Rattle.oftp_schedule.specs.declared.connection.Rank.{Rank}
use Rattle.oftp_schedule.specs.declared.connection.Phase.{Phase}
use Rattle.oftp_schedule.specs.declared.connection.Phase.TheVariants.{Guest, Between, Parting, Ready, Calling, Copying, Answered, Wanted, Resolving, Dialing, Connected}
use Rattle.oftp_schedule.specs.declared.connection.Status.{Status}
use Rattle.oftp_schedule.specs.declared.connection.Gate.TheVariants.{Knocked}
use Rattle.oftp_schedule.specs.declared.connection.Clock.TheVariants.{At}
use Rattle.oftp_schedule.specs.declared.connection.Course.TheVariants.{Serving, Called, Ending}
use Rattle.oftp_schedule.specs.declared.connection.Call.{Call}
use Rattle.oftp_schedule.specs.declared.connection.Session.{Session}
use Rattle.oftp_schedule.specs.declared.connection.Connection.{Connection}
use Rattle.oftp_schedule.specs.Rules.{is_hearable, due, is_between_phase, is_update_phase, is_arriving_phase, in_phase, phase_at, goes_on, answer_octets}
use Rattle.oftp_schedule.specs.Machine.{State, gate, is_enough, is_ending, has_place, is_busy, next_time}
use Rattle.oftp_schedule.specs.Deadlines.{AtMost, IsStill}

-- 1. For what

-- the office does a step, a request or what the clock looks up: its end is told
abbrev pub IsAtWork : State → Type 0
IsAtWork s = is_busy s ≡ true

-- somebody in such a phase is there
abbrev pub IsAny : (Phase → Bool) → State → Type 0
IsAny t s = list_any (in_phase t) s.connections ≡ true

-- Somebody in such a phase is there until u at the latest. That is to come, and the shell tells the time no later than then.
abbrev pub Waits : (Phase → Bool) → State → Type 0
Waits t s = (id : ℕ) × (u : ℕ) × (p : Phase) × (phase_at id s.connections ≡ Some p) × (t p ≡ true) × (due p ≡ Some u) × (s.now < u) × AtMost u (next_time s)

-- There is a session, and no look-up begins within it until a moment that is to come. The shell tells the time no later than then.
abbrev pub IsHeldBack : State → Type 0
IsHeldBack s = IsAny is_between_phase s × (s.now < s.quiet) × AtMost s.quiet (next_time s)

-- it is between two steps of its session, or copies the files: other jobs wait for that
abbrev pub holds_office : Phase → Bool
holds_office (Between x) = true
holds_office (Copying u) = true
holds_office p = false

-- octets of its answer are held
abbrev pub holds_room : Phase → Bool
holds_room p = nat_lt 0 (answer_octets p)

-- another call isn't begun before it is over, and its time is limited
abbrev pub holds_calls : Phase → Bool
holds_calls (Between x) = true
holds_calls (Copying u) = true
holds_calls (Dialing c u) = true
holds_calls (Connected c u) = true
holds_calls p = false

-- the address of its partner is looked up: its end is told
abbrev pub is_resolving_phase : Phase → Bool
is_resolving_phase (Resolving c) = true
is_resolving_phase p = false

-- it has a deadline
abbrev pub has_time : Phase → Bool
has_time (Between x) = true
has_time (Parting u) = true
has_time (Copying u) = true
has_time (Answered u o) = true
has_time p = false

abbrev pub IsAwake : State → Type 0
IsAwake s = IsAtWork s ⊎ Waits holds_office s

-- 2. Who waits

-- a guest,
abbrev pub GuestsAreAwake : State → Type 0
GuestsAreAwake s = (id t : ℕ) → IsStill s → phase_at id s.connections ≡ Some (Guest t) → IsAwake s

-- a change or a backup,
abbrev pub UpdatesAreAwake : State → Type 0
UpdatesAreAwake s = (id : ℕ) (p : Phase) → IsStill s → phase_at id s.connections ≡ Some p → is_update_phase p ≡ true → IsAwake s

-- a call that is up,
abbrev pub UpsAreAwake : State → Type 0
UpsAreAwake s = (id u : ℕ) (c : Call) → IsStill s → phase_at id s.connections ≡ Some (Connected c u) → IsAwake s

-- the clock, whose time has come: each for the office, a session or a backup
abbrev pub ClockIsAwake : State → Type 0
ClockIsAwake s = (t : ℕ) → IsStill s → s.clock ≡ At t → t ≤ s.now → is_ending s.course ≡ false → IsAwake s

-- a look-up, for the office, for room for its answer, if there is ever any, or for the end of the rest after another
abbrev pub QueriesAreAwake : State → Type 0
QueriesAreAwake s =
    (id : ℕ) (k : Rank) → IsStill s → 0 < s.limits.held → phase_at id s.connections ≡ Some (Ready Query k) → IsAtWork s ⊎ (Waits holds_room s ⊎ IsHeldBack s)

-- the session that has something to hear, for the office alone
abbrev pub SessionIsAwake : State → Type 0
SessionIsAwake s = (c : Connection) (x : Session) → IsStill s → find (in_phase is_between_phase) s.connections ≡ Some c → c.phase ≡ Between x → is_hearable s.limits x ≡ true → IsAtWork s

-- a call that isn't begun, for the office, a session, a backup or another call
abbrev pub CallsAreAwake : State → Type 0
CallsAreAwake s = (id : ℕ) (c : Call) → IsStill s → phase_at id s.connections ≡ Some (Wanted c) → IsAtWork s ⊎ (IsAny is_resolving_phase s ⊎ Waits holds_calls s)

-- a command, for its call, which goes on
abbrev pub CommandsAreAwake : State → Type 0
CommandsAreAwake s = (id i : ℕ) → IsStill s → phase_at id s.connections ≡ Some (Calling i) → list_any (goes_on i) s.connections ≡ true

-- who is at a door where there is a place, for another who is being accepted
abbrev pub DoorsAreAwake : State → Type 0
DoorsAreAwake s = (d : Door) → IsStill s → is_ending s.course ≡ false → s.next < 2 ^ 63 → gate s d ≡ Knocked → has_place s d ≡ true → IsAny is_arriving_phase s

-- The end of the station, for nothing. It comes at once if it is told, and if as many jobs were done as there may be.
abbrev pub EndIsAwake : State → Type 0
EndIsAwake s = IsStill s → ((st : Status) → s.course ≢ Called st) × (s.course ≡ Serving → is_enough s ≡ false)

-- Once it ends, each connection that is left is with the office, being accepted, or there until a time that comes. Without any the program ends.
abbrev pub EndComes : State → Type 0
EndComes s = (st : Status) → IsStill s → s.course ≡ Ending st → IsAtWork s ⊎ (IsAny is_arriving_phase s ⊎ Waits has_time s)
