-- What never happens at the same time.
use Rattle.std.specs.Prelude.{◌⊎◌, ℕ, ◌+◌, ◌-◌, ◌≤◌, Bool, true, false, List, [], ◌∷◌, Some, find, ◌≡◌}
use Rattle.std.specs.List.{list_any}
use Rattle.oftp_schedule.specs.declared.connection.Request.TheVariants.{Query}
use Rattle.oftp_schedule.specs.declared.connection.Phase.{Phase}
use Rattle.oftp_schedule.specs.declared.connection.Phase.TheVariants.{Between, Served}
use Rattle.oftp_schedule.specs.declared.connection.Signal.TheVariants.{Done}
use Rattle.oftp_schedule.specs.declared.connection.Event.TheVariants.{Told}
use Rattle.oftp_schedule.specs.declared.connection.Choice.{Choice}
use Rattle.oftp_schedule.specs.declared.connection.Choice.TheVariants.{Nothing, Finish, Settle, Admit, Inspect, Start, Proceed, Consult, Perform, Lend, Seek, Depart}
use Rattle.oftp_schedule.specs.declared.connection.Session.{Session}
use Rattle.oftp_schedule.specs.declared.connection.Connection.{Connection}
use Rattle.oftp_schedule.specs.Rules.{is_hearable, at_office, in_session, is_between_phase, is_copying_phase, is_up_phase, is_arriving_phase, in_phase, phase_at}
use Rattle.oftp_schedule.specs.Machine.{State, is_reviewing, choice, Move, step, run, Tell, Ask}

abbrev pub one_if : Bool → ℕ
one_if true = 1
one_if false = 0

-- how many connections are in such a phase
abbrev pub how_many : (Phase → Bool) → List Connection → ℕ
how_many t [] = 0
how_many t (c ∷ cs) = one_if (t c.phase) + how_many t cs

-- how many jobs are with the office: steps of sessions, requests, and the clock's look-up
abbrev pub jobs_at_office : State → ℕ
jobs_at_office s = one_if (is_reviewing s.clock) + how_many at_office s.connections

-- one job, one session or one copy, one call without a session, and one arrival at a time
abbrev pub IsApart : State → Type 0
IsApart s =
    (jobs_at_office s ≤ 1)
    × ((how_many in_session s.connections + how_many is_copying_phase s.connections ≤ 1)
    × ((how_many is_up_phase s.connections ≤ 1)
    × (how_many is_arriving_phase s.connections ≤ 1)))

abbrev pub NoJob : State → Type 0
NoJob s = jobs_at_office s ≡ 0

abbrev pub NoSession : State → Type 0
NoSession s = how_many in_session s.connections ≡ 0

abbrev pub NoCopy : State → Type 0
NoCopy s = how_many is_copying_phase s.connections ≡ 0

-- A job begins if nothing is with the office. A session, a change, a copy, the clock's look-up and a call begin only if there is neither a
-- session nor a copy.
abbrev pub ChosenApart : State → Choice → Type 0
ChosenApart s Nothing = Unit {0}
ChosenApart s (Finish st) = Unit {0}
ChosenApart s (Settle id r) = Unit {0}
ChosenApart s (Admit d) = how_many is_arriving_phase s.connections ≡ 0
ChosenApart s Inspect = NoJob s × (NoSession s × NoCopy s)
ChosenApart s (Start id x) = NoJob s × (NoSession s × NoCopy s)
ChosenApart s (Proceed id x) = NoJob s
ChosenApart s (Consult id) = NoJob s
ChosenApart s (Perform id) = NoJob s × (NoSession s × NoCopy s)
ChosenApart s (Lend id) = NoJob s × (NoSession s × NoCopy s)
ChosenApart s (Seek id c) = (how_many is_up_phase s.connections ≡ 0) × (NoSession s × NoCopy s)
ChosenApart s (Depart st) = s.connections ≡ []

-- Between two pieces of a session a look-up is done only if no rest is left. There must be nothing to hear, or enough was heard since the last
-- one.
abbrev pub IsPaced : State → Choice → Type 0
IsPaced s (Consult id) =
    (c : Connection) (x : Session) → find (in_phase is_between_phase) s.connections ≡ Some c → c.phase ≡ Between x
    → ((is_hearable s.limits x ≡ false) ⊎ (x.share ≡ 0)) × (s.quiet ≤ s.now)
IsPaced s c = Unit {0}

-- while a look-up is being done that is ordered in s, it is known when that was
abbrev pub IsDated : State → List Move → Type 0
IsDated s during =
    (id : ℕ) →
    let t = run s (Ask ∷ during) in choice s ≡ Consult id → phase_at id t.connections ≡ Some (Served Query) → t.looked ≡ s.now

-- only the end of a look-up lengthens the rest, and to no more than as long as that took
abbrev pub IsBrief : State → Move → Type 0
IsBrief s m =
    let t = (step s m).0 in
    (t.quiet ≡ s.quiet)
    ⊎ ((id : ℕ) × (o : ℕ) × (m ≡ Tell (Told id (Done o))) × (phase_at id s.connections ≡ Some (Served Query)) × (t.quiet ≡ s.now + (s.now - s.looked)))

-- A look-up is ordered in s, its end is told in t, and another one begins within a session in u. Between t and u as long has passed as between s
-- and t.
abbrev pub IsRested : State → List Move → List Move → Type 0
IsRested s during after =
    (id o i : ℕ) →
    let t = run s (Ask ∷ during) in
    let u = run t (Tell (Told id (Done o)) ∷ after) in
    choice s ≡ Consult id → phase_at id t.connections ≡ Some (Served Query) → choice u ≡ Consult i → list_any (in_phase is_between_phase) u.connections ≡ true
    → t.now + (t.now - s.now) ≤ u.now
