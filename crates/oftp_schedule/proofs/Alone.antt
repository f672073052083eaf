-- One job, one session or copy, one call without a session, and one arrival at a time, whatever comes.
use Rattle.std.proofs.Common.{◌^◌, ◌≡◌, ◌≤◌, ◌+◌, [], ◌∷◌, if◌then◌else◌, ℕ, Bool, true, false, nat_lt, List, Option, Some, None, map, zero, suc, refl, ap, arith}
use Rattle.std.specs.List.{list_any}
use Rattle.oftp_schedule.specs.declared.connection.Phase.{Phase}
use Rattle.oftp_schedule.specs.declared.connection.Phase.TheVariants.{Stepping, Between, Served}
use Rattle.oftp_schedule.specs.declared.connection.Event.{Event}
use Rattle.oftp_schedule.specs.declared.connection.Choice.{Choice}
use Rattle.oftp_schedule.specs.declared.connection.Choice.TheVariants.{Settle, Admit, Inspect, Start, Proceed, Consult, Perform, Lend, Seek, Depart}
use Rattle.oftp_schedule.specs.declared.connection.Session.{Session}
use Rattle.oftp_schedule.specs.declared.connection.Connection.{Connection}
use Rattle.oftp_schedule.specs.declared.connection.Limits.{Limits}
use Rattle.oftp_schedule.specs.Rules.{at_office, in_session, is_between_phase, is_copying_phase, is_up_phase, is_arriving_phase, in_phase, connection_at, phase_at, became}
use Rattle.oftp_schedule.specs.Machine.{State, replied_at, is_reviewing, received, choice, welcomed, chosen, first_clock, start, Move, step, run, Tell, Ask, is_busy}
use Rattle.oftp_schedule.specs.Apart.{one_if, how_many, jobs_at_office, IsApart, NoJob, NoSession, NoCopy, ChosenApart}
use Rattle.oftp_schedule.proofs.Choices.{IsFree, May, whoever, of_choice}
use Rattle.oftp_schedule.proofs.Events.{received_steady}
use Rattle.oftp_schedule.proofs.Fitting.{IsDistinct, run_keeps, ChoiceFits, choice_fits}
use Rattle.oftp_schedule.proofs.Counting.{one_if_le, counted_became, none_found, not_any}
use Rattle.oftp_schedule.proofs.Apart.{IsRare, through, received_le, target, gain, chosen_gain}

-- 1. The tests

rare_session : IsRare in_session
rare_session = search

rare_office : IsRare at_office
rare_office = search

rare_up : IsRare is_up_phase
rare_up = search

rare_copy : IsRare is_copying_phase
rare_copy = search

rare_arrival : IsRare is_arriving_phase
rare_arrival = search

-- 2. What is chosen has room

-- a session that isn't between two steps is with the office
session_places : (p : Phase) → one_if (in_session p) ≤ one_if (at_office p) + one_if (is_between_phase p)
session_places (Stepping x) = omega arith
session_places (Between x) = omega arith
session_places (Served r) = omega arith
session_places p = omega arith

session_sum : (cs : List Connection) → how_many in_session cs ≤ how_many at_office cs + how_many is_between_phase cs
session_sum [] = omega arith
session_sum (c ∷ cs) = let h = session_sum cs in let k = session_places c.phase in omega arith

no_session : (s : State) → NoJob s → how_many is_between_phase s.connections ≡ 0 → NoSession s
no_session s j b = let h = session_sum s.connections in omega arith

-- where the office isn't busy it has no job
no_job : (s : State) → is_busy s ≡ false → NoJob s
no_job s = cases (is_reviewing s.clock) refl (list_any (in_phase at_office) s.connections) refl
  where
    cases : (a : Bool) → is_reviewing s.clock ≡ a → (b : Bool) → list_any (in_phase at_office) s.connections ≡ b → (if a then true else b) ≡ false → NoJob s
    cases true ea b eb n = cc
    cases false ea true eb n = cc
    cases false ea false eb n =
        let none = not_any at_office s.connections eb in
        let idle : one_if (is_reviewing s.clock) ≡ 0 = ap one_if ea in omega (arith, none, idle)

free_apart : (s : State) → IsFree s → NoJob s × (NoSession s × NoCopy s)
free_apart s free =
    let idle = no_job s free.idle in
    (idle, (no_session s idle (none_found is_between_phase s.connections free.no_session), not_any is_copying_phase s.connections free.no_copy))

may_apart : (s : State) (c : Choice) → May s c → ChosenApart s c
may_apart s (Admit d) m = not_any is_arriving_phase s.connections m.1
may_apart s Inspect m = free_apart s m
may_apart s (Start id x) m = free_apart s m.0
may_apart s (Proceed id x) m = no_job s m.0
may_apart s (Consult id) m = no_job s m.0
may_apart s (Perform id) m = free_apart s m.1.free
may_apart s (Lend id) m = free_apart s m.1.free
may_apart s (Seek id k) m =
    let may = m.0 in (not_any is_up_phase s.connections may.none_up, (not_any in_session s.connections may.no_session, not_any is_copying_phase s.connections may.no_copy))
may_apart s (Depart st) m = m
may_apart s c m = tt

pub choice_apart : (s : State) → ChosenApart s (choice s)
choice_apart s = of_choice (ChosenApart s) s (whoever (ChosenApart s) s (λ id r. tt)) (may_apart s)

-- 3. What is told leaves it so

received_clock : (s : State) (e : Event) → one_if (is_reviewing (received s e).0.clock) ≤ one_if (is_reviewing s.clock)
received_clock s e = by (is_reviewing s.clock) (is_reviewing (received s e).0.clock) (received_steady s e).reviews
  where
    by : (a b : Bool) → (a ≡ false → b ≡ false) → one_if b ≤ one_if a
    by true b k = one_if_le b
    by false true k = let bad : true ≡ false = k refl in cc
    by false false k = omega arith

sums : (a b x y k : ℕ) → x ≤ a → y ≤ b → a + b ≤ k → x + y ≤ k
sums a b x y k l m n = omega arith

received_apart : (s : State) (e : Event) → IsDistinct s → IsApart s → IsApart (received s e).0
received_apart s e o h =
    let t = (received s e).0 in
    let jobs = sums (one_if (is_reviewing s.clock)) (how_many at_office s.connections) (one_if (is_reviewing t.clock)) (how_many at_office t.connections) 1
    (received_clock s e) (received_le at_office rare_office s e o) h.0 in
    let sessions = sums (how_many in_session s.connections) (how_many is_copying_phase s.connections) (how_many in_session t.connections) (how_many is_copying_phase t.connections) 1
    (received_le in_session rare_session s e o) (received_le is_copying_phase rare_copy s e o) h.1.0 in
    let up = through (how_many is_up_phase t.connections) (how_many is_up_phase s.connections) 1 (received_le is_up_phase rare_up s e o) h.1.1.0 in
    let come = through (how_many is_arriving_phase t.connections) (how_many is_arriving_phase s.connections) 1 (received_le is_arriving_phase rare_arrival s e o) h.1.1.1 in
    (jobs, (sessions, (up, come)))

-- 4. What is chosen leaves it so

-- how many jobs a choice gives to the office
abbrev pub inspects : Choice → ℕ
inspects Inspect = 1
inspects c = 0

chosen_clock : (s : State) (c : Choice) → one_if (is_reviewing (chosen s c).0.clock) ≤ one_if (is_reviewing s.clock) + inspects c
chosen_clock s (Settle id r) = by (connection_at id s.connections)
  where
    by : (at : Option Connection) → one_if (is_reviewing (replied_at s at (λ c. r)).0.clock) ≤ one_if (is_reviewing s.clock) + 0
    by None = omega arith
    by (Some c) = omega arith
chosen_clock s (Admit d) = by (nat_lt s.next (2 ^ 63))
  where
    by : (b : Bool) → one_if (is_reviewing (if b then welcomed s d else (s, [])).0.clock) ≤ one_if (is_reviewing s.clock) + 0
    by true = omega arith
    by false = omega arith
chosen_clock s c = omega arith

-- the session goes on, so no session begins
proceeds : (s : State) (id : ℕ) (x : Session) → IsDistinct s → phase_at id s.connections ≡ Some (Between x)
    → how_many in_session (map (became id (Stepping x)) s.connections) ≤ how_many in_session s.connections
proceeds s id x o e = let h = counted_became in_session id (Between x) (Stepping x) s.next s.connections o e in omega arith

jobs_apart : (s : State) (c : Choice) → IsDistinct s → ChoiceFits s.connections c → ChosenApart s c → jobs_at_office s ≤ 1 → jobs_at_office (chosen s c).0 ≤ 1
jobs_apart s c o f a l =
    let g = chosen_gain at_office rare_office s c o f in
    let k = chosen_clock s c in by c a (one_if (is_reviewing (chosen s c).0.clock)) (how_many at_office (chosen s c).0.connections) g k
  where
    by : (c : Choice) → ChosenApart s c → (x y : ℕ) → y ≤ how_many at_office s.connections + gain at_office (target s c) → x ≤ one_if (is_reviewing s.clock) + inspects c → x + y ≤ 1
    by Inspect a x y g k = let j = a.0 in omega arith
    by (Start id z) a x y g k = let j = a.0 in omega arith
    by (Perform id) a x y g k = let j = a.0 in omega arith
    by (Lend id) a x y g k = let j = a.0 in omega arith
    by c a x y g k = omega arith

-- any choice but to go on with the session
abbrev pub Goes : Choice → Type 0
Goes (Proceed id x) = ⊥
Goes c = Unit {0}

sessions_apart : (s : State) (c : Choice) → IsDistinct s → ChoiceFits s.connections c → ChosenApart s c
    → how_many in_session s.connections + how_many is_copying_phase s.connections ≤ 1 → how_many in_session (chosen s c).0.connections + how_many is_copying_phase (chosen s c).0.connections ≤ 1
sessions_apart s (Proceed id x) o f a l =
    let p = proceeds s id x o f in
    let g = chosen_gain is_copying_phase rare_copy s (Proceed id x) o f in omega arith
sessions_apart s c o f a l =
    by c a (how_many in_session (chosen s c).0.connections) (how_many is_copying_phase (chosen s c).0.connections) (chosen_gain in_session rare_session s c o f)
    (chosen_gain is_copying_phase rare_copy s c o f) not_on
  where
    not_on : Goes c
    not_on = tt

    by : (c : Choice) → ChosenApart s c → (x y : ℕ) → x ≤ how_many in_session s.connections + gain in_session (target s c)
        → y ≤ how_many is_copying_phase s.connections + gain is_copying_phase (target s c) → Goes c → x + y ≤ 1
    by (Start id z) a x y g k n = let j = a.1.0 in let m = a.1.1 in omega arith
    by (Proceed id z) a x y g k n = elim n [ ]
    by (Lend id) a x y g k n = let j = a.1.0 in let m = a.1.1 in omega arith
    by c a x y g k n = omega arith

up_apart : (s : State) (c : Choice) → IsDistinct s → ChoiceFits s.connections c → ChosenApart s c → how_many is_up_phase s.connections ≤ 1 → how_many is_up_phase (chosen s c).0.connections ≤ 1
up_apart s c o f a l = by c a (how_many is_up_phase (chosen s c).0.connections) (chosen_gain is_up_phase rare_up s c o f)
  where
    by : (c : Choice) → ChosenApart s c → (x : ℕ) → x ≤ how_many is_up_phase s.connections + gain is_up_phase (target s c) → x ≤ 1
    by (Seek id z) a x g = let j = a.0 in omega arith
    by c a x g = omega arith

arrivals_apart : (s : State) (c : Choice) → IsDistinct s → ChoiceFits s.connections c → ChosenApart s c → how_many is_arriving_phase s.connections ≤ 1
    → how_many is_arriving_phase (chosen s c).0.connections ≤ 1
arrivals_apart s c o f a l = by c a (how_many is_arriving_phase (chosen s c).0.connections) (chosen_gain is_arriving_phase rare_arrival s c o f)
  where
    by : (c : Choice) → ChosenApart s c → (x : ℕ) → x ≤ how_many is_arriving_phase s.connections + gain is_arriving_phase (target s c) → x ≤ 1
    by (Admit d) a x g = omega arith
    by c a x g = omega arith

chosen_apart : (s : State) → IsDistinct s → IsApart s → IsApart (chosen s (choice s)).0
chosen_apart s o h =
    let c = choice s in
    let f = choice_fits s o in
    let a = choice_apart s in
    (jobs_apart s c o f a h.0, (sessions_apart s c o f a h.1.0, (up_apart s c o f a h.1.1.0, arrivals_apart s c o f a h.1.1.1)))

step_apart : (s : State) (m : Move) → IsDistinct s → IsApart s → IsApart (step s m).0
step_apart s (Tell e) o h = received_apart s e o h
step_apart s Ask o h = chosen_apart s o h

first_reviews : (k : ℕ) → is_reviewing (first_clock k) ≡ false
first_reviews zero = refl
first_reviews (suc k) = refl

pub always_apart : (l : Limits) (ms : List Move) → IsApart (run (start l) ms)
always_apart l ms =
    let idle : one_if (is_reviewing (first_clock l.interval)) + 0 ≤ 1 = let e = ap one_if (first_reviews l.interval) in omega arith in
    run_keeps IsApart step_apart (start l) ms tt (idle, (omega arith, (omega arith, omega arith)))
