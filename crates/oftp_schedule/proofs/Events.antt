-- What each edit that an event makes of the schedule keeps is kept by what is told.
use Rattle.std.proofs.Common.{◌^◌, ◌≡◌, ◌≤◌, ◌+◌, ◌∙◌, [], if◌then◌else◌, ℕ, max, Bool, true, false, nat_lt, Option, Some, None, map, filter, find, count_by, refl, arith}
use Rattle.std.specs.List.{list_any}
use Rattle.oftp_schedule.specs.declared.connection.Door.{Door}
use Rattle.oftp_schedule.specs.declared.connection.Door.TheVariants.{Partners, Commands, Requests, Calls}
use Rattle.oftp_schedule.specs.declared.connection.Arrival.{Arrival}
use Rattle.oftp_schedule.specs.declared.connection.Arrival.TheVariants.{Somebody, Nobody, Later, Never}
use Rattle.oftp_schedule.specs.declared.connection.Signal.{Signal}
use Rattle.oftp_schedule.specs.declared.connection.Status.{Status}
use Rattle.oftp_schedule.specs.declared.connection.Status.TheVariants.{DoorFailed}
use Rattle.oftp_schedule.specs.declared.connection.Event.{Event}
use Rattle.oftp_schedule.specs.declared.connection.Event.TheVariants.{Knock, Accepted, Passed, Told, Due, Reviewed, Over}
use Rattle.oftp_schedule.specs.declared.connection.Reason.TheVariants.{Evicted}
use Rattle.oftp_schedule.specs.declared.connection.Reply.TheVariants.{Leave}
use Rattle.oftp_schedule.specs.declared.connection.Gate.{Gate}
use Rattle.oftp_schedule.specs.declared.connection.Gate.TheVariants.{Quiet, Resting}
use Rattle.oftp_schedule.specs.declared.connection.Clock.{Clock}
use Rattle.oftp_schedule.specs.declared.connection.Clock.TheVariants.{At, Reviewing}
use Rattle.oftp_schedule.specs.declared.connection.Course.{Course}
use Rattle.oftp_schedule.specs.declared.connection.Course.TheVariants.{Serving, Called, Ending, Past}
use Rattle.oftp_schedule.specs.declared.connection.Partner.{Partner}
use Rattle.oftp_schedule.specs.declared.connection.Connection.{Connection}
use Rattle.oftp_schedule.specs.Rules.{rule, is_arriving_phase, is_ripe, is_at, calls, has_id, is_other, connection_at, became}
use Rattle.oftp_schedule.specs.Machine.{State, with_time, with_clock, with_course, with_connections, limits_now, replied, in_numbers, replied_at, places, gate, with_gate, knocked, first_phase, makes_room, evicted, called, accepted, accepted_at, rested, passed, is_ending, is_reviewing, with_call, reviewed, received}

-- 1. One event

abbrev pub with_gates : State → Gate → Gate → Gate → State
with_gates s a b c = record s { partners = a; commands = b; requests = c }

abbrev pub without : State → Connection → State
without s c = with_connections s (filter (is_other c.id) s.connections)

abbrev pub with_first : State → Connection → State
with_first s c = with_connections s (map (became c.id (first_phase s.now s.limits c.door)) s.connections)

-- R is between a state, of which I holds, and the state after each edit
pub record Edits (I : State → Type 0) (R : State → State → Type 0) : Type 0 where
  pub stays : (s : State) → R s s
  pub after : (s t u : State) → R s t → R t u → R s u
  pub gates : (s : State) (a b c : Gate) → R s (with_gates s a b c)
  pub later : (s : State) (now : ℕ) → s.now ≤ now → R s (with_time s now)
  pub reviewed_at : (s : State) (t : ℕ) → R s (with_clock s (At t))
  pub ends : (s : State) (st : Status) → R s (with_course s (called st s.course))
  pub wants : (s : State) (p : Partner) → I s → R s (with_call s p)
  pub comes : (s : State) (t : Connection → Bool) (c : Connection) → I s → find t s.connections ≡ Some c → R s (with_first s c) × I (with_first s c)
  pub goes : (s : State) (t : Connection → Bool) (c : Connection) → I s → find t s.connections ≡ Some c → R s (without s c)
  pub closes : (s : State) (c : Connection) → I s → find (is_ripe s.now) s.connections ≡ Some c → R s (replied s c (Leave Evicted)).0
  pub hears : (s : State) (t : Connection → Bool) (c : Connection) (g : Signal) → I s → find t s.connections ≡ Some c
      → R s (replied s c (in_numbers s.next (rule s.now (limits_now s) c.door c.phase g))).0

gate_edited : (I : State → Type 0) (R : State → State → Type 0) → Edits I R → (s : State) (d : Door) (g : Gate) → R s (with_gate s d g)
gate_edited I R h s Partners g = h.gates s g s.commands s.requests
gate_edited I R h s Commands g = h.gates s s.partners g s.requests
gate_edited I R h s Requests g = h.gates s s.partners s.commands g
gate_edited I R h s Calls g = h.stays s

room_edited : (I : State → Type 0) (R : State → State → Type 0) → Edits I R → (s : State) (d : Door) → I s → R s (evicted s (makes_room s d)).0
room_edited I R h s d i = by (nat_lt (places s.limits d) (count_by (is_at d) s.connections))
  where
    one : (at : Option Connection) → find (is_ripe s.now) s.connections ≡ at → R s (evicted s at).0
    one None e = h.stays s
    one (Some c) e = h.closes s c i e

    by : (b : Bool) → R s (evicted s (if b then find (is_ripe s.now) s.connections else None)).0
    by true = one (find (is_ripe s.now) s.connections) refl
    by false = h.stays s

accepted_edited : (I : State → Type 0) (R : State → State → Type 0) → Edits I R → (s : State) (t : Connection → Bool) (c : Connection) (a : Arrival) → I s → find t s.connections ≡ Some c
    → R s (accepted s c a).0
accepted_edited I R h s t c Somebody i e =
    let k = h.comes s t c i e in
    let u = with_first s c in
    h.after s u (evicted u (makes_room u c.door)).0 k.0 (room_edited I R h u c.door k.1)
accepted_edited I R h s t c Nobody i e = let u = without s c in h.after s u (with_gate u c.door Quiet) (h.goes s t c i e) (gate_edited I R h u c.door Quiet)
accepted_edited I R h s t c Later i e =
    let u = without s c in
    let g = Resting (s.now + s.limits.rest) in
    h.after s u (with_gate u c.door g) (h.goes s t c i e) (gate_edited I R h u c.door g)
accepted_edited I R h s t c Never i e = let u = without s c in h.after s u (with_course u (called DoorFailed s.course)) (h.goes s t c i e) (h.ends u DoorFailed)

pub received_holds : (I : State → Type 0) (R : State → State → Type 0) → Edits I R → (s : State) (e : Event) → I s → R s (received s e).0
received_holds I R h s (Knock d) i = gate_edited I R h s d (knocked (gate s d))
received_holds I R h s (Accepted id a) i = by (connection_at id s.connections) refl
  where
    by : (at : Option Connection) → connection_at id s.connections ≡ at → R s (accepted_at s at a).0
    by None e = h.stays s
    by (Some c) e = elim (is_arriving_phase c.phase) as (λ b. R s (if b then accepted s c a else (s, [])).0) [ true ↦ accepted_edited I R h s (has_id id) c a i e | false ↦ h.stays s ]
received_holds I R h s (Passed t) i =
    let now = max s.now t in
    h.after s (with_time s now) (passed s t) (h.later s now (omega arith)) (h.gates (with_time s now) (rested now s.partners) (rested now s.commands) (rested now s.requests))
received_holds I R h s (Told id g) i = by (connection_at id s.connections) refl
  where
    by : (at : Option Connection) → connection_at id s.connections ≡ at → R s (replied_at s at (λ c. rule s.now (limits_now s) c.door c.phase g)).0
    by None e = h.stays s
    by (Some c) e = h.hears s (has_id id) c g i e
received_holds I R h s (Due p) i = by (list_any (calls p.number) s.connections) (nat_lt s.next (2 ^ 63))
  where
    by : (b d : Bool) → R s (if b then s else (if d then with_call s p else s))
    by true d = h.stays s
    by false true = h.wants s p i
    by false false = h.stays s
received_holds I R h s Reviewed i = by s.clock
  where
    by : (c : Clock) → R s (reviewed s c)
    by Reviewing = h.reviewed_at s (s.now + s.limits.interval)
    by c = h.stays s
received_holds I R h s (Over st) i = h.ends s st

-- 2. What no event changes

-- the kind of the last job and the limits stay, no look-up by the clock begins, and who ends goes on to do so
abbrev pub IsSteady : State → State → Type 0
IsSteady s t = record {
  last_is : t.last ≡ s.last;
  limits_is : t.limits ≡ s.limits;
  reviews : is_reviewing s.clock ≡ false → is_reviewing t.clock ≡ false;
  ends : is_ending s.course ≡ true → is_ending t.course ≡ true;
}

unmoved : (s : State) → IsSteady s s
unmoved s = record { last_is = refl; limits_is = refl; reviews = λ h. h; ends = λ h. h }

pub called_ending : (st : Status) (co : Course) → is_ending (called st co) ≡ true
called_ending st Serving = refl
called_ending st (Called a) = refl
called_ending st (Ending a) = refl
called_ending st Past = refl

steady : Edits (λ s. Unit {0}) IsSteady
steady = record {
  stays = unmoved;
  after = λ s t u f g. record { last_is = g.last_is ∙ f.last_is; limits_is = g.limits_is ∙ f.limits_is; reviews = λ h. g.reviews (f.reviews h); ends = λ h. g.ends (f.ends h) };
  gates = λ s a b c. unmoved s;
  later = λ s now l. unmoved s;
  reviewed_at = λ s t. record { last_is = refl; limits_is = refl; reviews = λ h. refl; ends = λ h. h };
  ends = λ s st. record { last_is = refl; limits_is = refl; reviews = λ h. h; ends = λ h. called_ending st s.course };
  wants = λ s p i. unmoved s;
  comes = λ s t c i e. (unmoved s, tt);
  goes = λ s t c i e. unmoved s;
  closes = λ s c i e. unmoved s;
  hears = λ s t c g i e. unmoved s;
}

pub received_steady : (s : State) (e : Event) → IsSteady s (received s e).0
received_steady s e = received_holds (λ s. Unit {0}) IsSteady steady s e tt
