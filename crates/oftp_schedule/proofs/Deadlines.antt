-- The next time is at most each deadline, nobody else moves one, and none is past where nothing is chosen, nor is the next time.
use Rattle.std.proofs.Common.{inl, inr, ◌⊎◌, max, min, nat_le, nat_lt, subst, ◌≡◌, ◌≢◌, ℕ, ◌+◌, ◌-◌, ◌<◌, ◌==◌, ◌^◌, Bool, true, false, cond, if◌then◌else◌, List, [], ◌∷◌, ◌++◌, Option, Some, None, map, filter, find, count_by, refl, ap, sym, ◌∙◌, arith}
use Rattle.std.proofs.lemmas.Bool.Decides.{nat_tests, eqb_tells}
use Rattle.std.specs.List.{list_any}
use Rattle.oftp_schedule.specs.declared.connection.Door.{Door}
use Rattle.oftp_schedule.specs.declared.connection.Door.TheVariants.{Partners, Commands, Requests, Calls}
use Rattle.oftp_schedule.specs.declared.connection.Request.TheVariants.{Query, Update}
use Rattle.oftp_schedule.specs.declared.connection.Asker.TheVariants.{ByClock, By}
use Rattle.oftp_schedule.specs.declared.connection.Way.{Way}
use Rattle.oftp_schedule.specs.declared.connection.Way.TheVariants.{In, Out, Unanswered}
use Rattle.oftp_schedule.specs.declared.connection.Input.{Input}
use Rattle.oftp_schedule.specs.declared.connection.Input.TheVariants.{Awaited}
use Rattle.oftp_schedule.specs.declared.connection.Phase.{Phase}
use Rattle.oftp_schedule.specs.declared.connection.Phase.TheVariants.{Arriving, Stranger, Guest, Stepping, Between, Ready, Served, Calling, Copying, Answered, Wanted, Resolving}
use Rattle.oftp_schedule.specs.declared.connection.Arrival.{Arrival}
use Rattle.oftp_schedule.specs.declared.connection.Arrival.TheVariants.{Somebody, Nobody, Later, Never}
use Rattle.oftp_schedule.specs.declared.connection.Event.{Event}
use Rattle.oftp_schedule.specs.declared.connection.Event.TheVariants.{Knock, Accepted, Passed, Told, Due, Reviewed, Over}
use Rattle.oftp_schedule.specs.declared.connection.Reason.TheVariants.{Evicted}
use Rattle.oftp_schedule.specs.declared.connection.Action.TheVariants.{Accept}
use Rattle.oftp_schedule.specs.declared.connection.Reply.{Reply}
use Rattle.oftp_schedule.specs.declared.connection.Reply.TheVariants.{Leave}
use Rattle.oftp_schedule.specs.declared.connection.Choice.{Choice}
use Rattle.oftp_schedule.specs.declared.connection.Choice.TheVariants.{Nothing, Finish, Settle, Admit, Inspect, Start, Proceed, Consult, Perform, Lend, Seek, Depart}
use Rattle.oftp_schedule.specs.declared.connection.Gate.{Gate}
use Rattle.oftp_schedule.specs.declared.connection.Gate.TheVariants.{Quiet, Knocked, Resting}
use Rattle.oftp_schedule.specs.declared.connection.Clock.{Clock}
use Rattle.oftp_schedule.specs.declared.connection.Clock.TheVariants.{At, Reviewing}
use Rattle.oftp_schedule.specs.declared.connection.Partner.{Partner}
use Rattle.oftp_schedule.specs.declared.connection.Session.{Session}
use Rattle.oftp_schedule.specs.declared.connection.Limits.{Limits}
use Rattle.oftp_schedule.specs.declared.connection.Connection.{Connection}
use Rattle.oftp_schedule.specs.Rules.{is_awaited, rule, due, is_over, is_late, late, hurried_phase, is_between_phase, is_guest_phase, is_arriving_phase, in_phase, is_ripe_phase, is_ripe, is_at, calls, ends_session, is_other, connection_at, phase_at, became, owed_phase, shared_phase}
use Rattle.oftp_schedule.specs.Machine.{State, Turn, limits_now, with_next, with_connections, new_call, at_door, edited, after_session, replied, in_numbers, replied_at, places, gate, with_gate, knocked, first_phase, makes_room, evicted, accepted, accepted_at, rested, with_call, due_to, reviewed, received, is_to_yield, yielded, yield_to, way_given, is_knocked, choice, welcomed, chosen, Move, step, start, run, Tell, Ask, earlier, first_due, rest_over, to_come, clock_time, ripe_time, first_ripe, waits_for_room, yield_time, yield_time_of, time_of, way_time, consult, is_busy, quiet_until, quiet_time, next_time}
use Rattle.oftp_schedule.specs.Deadlines.{AtMost, KnowsDeadlines, KnowsClock, KnowsRests, KnowsRoom, KnowsQuiet, KnowsWay, is_for, IsLeft, IsUnmovedBy, left_by, IsSpared, IsUnmoved, NoLater, IsKept, IsStill, IsOnTime, GivesWay, IsToCome}
use Rattle.oftp_schedule.proofs.Numbers.{or_last, pushed, map_phase, edited_phase, Distinct-map, at_number}
use Rattle.oftp_schedule.proofs.Places.{found, became_other, other_same, other_other}
use Rattle.oftp_schedule.proofs.Fitting.{IsDistinct, run_keeps}
use Rattle.oftp_schedule.proofs.Still.{nobody, stillness, settle_something}
use Rattle.oftp_schedule.proofs.Editing.{edit_holds, any_reply}
use Rattle.oftp_schedule.proofs.Counting.{none_any}

-- 1. The next time

at_left : (u : ℕ) (a b : Option ℕ) → AtMost u a → AtMost u (earlier a b)
at_left u None b h = elim h [ ]
at_left u (Some v) None h = h
at_left u (Some v) (Some w) h = omega (arith, h)

at_right : (u : ℕ) (a b : Option ℕ) → AtMost u b → AtMost u (earlier a b)
at_right u None b h = h
at_right u (Some v) None h = elim h [ ]
at_right u (Some v) (Some w) h = omega (arith, h)

at_once : (u : ℕ) (a : Option ℕ) → a ≡ Some u → AtMost u a
at_once u None e = cc
at_once u (Some v) e = let q : v ≡ u = cc in omega (arith, q)

first_due_least : (id : ℕ) (cs : List Connection) (p : Phase) (u : ℕ) → phase_at id cs ≡ Some p → due p ≡ Some u → AtMost u (first_due cs)
first_due_least id [] p u e d = cc
first_due_least id (c ∷ cs) p u e d = split (λ h. first_due_least id cs p u h d) (c.id == id) e
  where
    split : (phase_at id cs ≡ Some p → AtMost u (first_due cs)) → (b : Bool) → cond b (Some c.phase) (phase_at id cs) ≡ Some p → AtMost u (earlier (due c.phase) (first_due cs))
    split more true h = let q : c.phase ≡ p = cc in at_left u (due c.phase) (first_due cs) (at_once u (due c.phase) (ap due q ∙ d))
    split more false h = at_right u (due c.phase) (first_due cs) (more h)

comes : (now t : ℕ) → now < t → to_come now t ≡ Some t
comes now t h = let y : nat_lt now t ≡ true = grind (arith, nat_tests, h) in ap (λ b. if b then Some t else None) y

first_ripe_least : (now id : ℕ) (cs : List Connection) (p : Phase) (u : ℕ) → phase_at id cs ≡ Some p → ripe_time now p ≡ Some u → AtMost u (first_ripe now cs)
first_ripe_least now id [] p u e d = cc
first_ripe_least now id (c ∷ cs) p u e d = split (λ h. first_ripe_least now id cs p u h d) (c.id == id) e
  where
    split : (phase_at id cs ≡ Some p → AtMost u (first_ripe now cs)) → (b : Bool) → cond b (Some c.phase) (phase_at id cs) ≡ Some p
        → AtMost u (earlier (ripe_time now c.phase) (first_ripe now cs))
    split more true h = let q : c.phase ≡ p = cc in at_left u (ripe_time now c.phase) (first_ripe now cs) (at_once u (ripe_time now c.phase) (ap (ripe_time now) q ∙ d))
    split more false h = at_right u (ripe_time now c.phase) (first_ripe now cs) (more h)

-- the end of the first door's rest
abbrev rests : State → Option ℕ
rests s = earlier (rest_over s.partners) (earlier (rest_over s.commands) (rest_over s.requests))

-- the moments of a session, after all others
abbrev ways : State → Option ℕ
ways s = earlier (way_time s) (quiet_time s)

-- after the deadlines and the rests
abbrev others : State → Option ℕ
others s = earlier (clock_time s.now s.clock) (earlier (waits_for_room s) (ways s))

of_rests : (s : State) (u : ℕ) → AtMost u (rests s) → AtMost u (next_time s)
of_rests s u h = at_right u (first_due s.connections) (earlier (rests s) (others s)) (at_left u (rests s) (others s) h)

of_others : (s : State) (u : ℕ) → AtMost u (others s) → AtMost u (next_time s)
of_others s u h = at_right u (first_due s.connections) (earlier (rests s) (others s)) (at_right u (rests s) (others s) h)

of_ways : (s : State) (u : ℕ) → AtMost u (ways s) → AtMost u (next_time s)
of_ways s u h = of_others s u (at_right u (clock_time s.now s.clock) (earlier (waits_for_room s) (ways s)) (at_right u (waits_for_room s) (ways s) h))

pub knows_deadlines : (s : State) → KnowsDeadlines s
knows_deadlines s id u p e d = at_left u (first_due s.connections) (earlier (rests s) (others s)) (first_due_least id s.connections p u e d)

pub knows_clock : (s : State) → KnowsClock s
knows_clock s u e l = of_others s u (at_left u (clock_time s.now s.clock) (earlier (waits_for_room s) (ways s)) (at_once u (clock_time s.now s.clock) (ap (clock_time s.now) e ∙ comes s.now u l)))

pub knows_rests : (s : State) → KnowsRests s
knows_rests s Partners u e = of_rests s u (at_left u (rest_over s.partners) (earlier (rest_over s.commands) (rest_over s.requests)) (at_once u (rest_over s.partners) (ap rest_over e)))
knows_rests s Commands u e =
    of_rests s u (at_right u (rest_over s.partners) (earlier (rest_over s.commands) (rest_over s.requests))
    (at_left u (rest_over s.commands) (rest_over s.requests) (at_once u (rest_over s.commands) (ap rest_over e))))
knows_rests s Requests u e =
    of_rests s u (at_right u (rest_over s.partners) (earlier (rest_over s.commands) (rest_over s.requests))
    (at_right u (rest_over s.commands) (rest_over s.requests) (at_once u (rest_over s.requests) (ap rest_over e))))
knows_rests s Calls u e = cc

pub knows_room : (s : State) → KnowsRoom s
knows_room s id u r k e l =
    let h : AtMost r (waits_for_room s) = rw k (first_ripe_least s.now id s.connections (Stranger u r) r e (comes s.now r l)) in
    of_others s r (at_right r (clock_time s.now s.clock) (earlier (waits_for_room s) (ways s)) (at_left r (waits_for_room s) (ways s) h))

pub knows_way : (s : State) → KnowsWay s
knows_way s x c t (a, g, k, fa, fg, ea, ew, ei, eg) =
    let u = max x.begun t + c.partner.pause in
    let h : AtMost u (way_time s) = rw (fa, fg, ea, eg, ew, ei) (omega arith) in
    of_ways s u (at_left u (way_time s) (quiet_time s) h)

pub knows_quiet : (s : State) → KnowsQuiet s
knows_quiet s id free any waits l = of_ways s s.quiet (at_right s.quiet (way_time s) (quiet_time s) (at_once s.quiet (quiet_time s) known))
  where
    by_session : (at : Option Connection) → find (in_phase is_between_phase) s.connections ≡ at → time_of at (λ c. quiet_until s.now s.quiet (consult s)) ≡ Some s.quiet
    by_session None f = let bad : false ≡ true = sym (none_any (in_phase is_between_phase) s.connections f) ∙ any in cc
    by_session (Some c) f = ap (quiet_until s.now s.quiet) waits ∙ comes s.now s.quiet l

    known : quiet_time s ≡ Some s.quiet
    known = ap (λ b. if b then None else time_of (find (in_phase is_between_phase) s.connections) (λ c. quiet_until s.now s.quiet (consult s))) free
        ∙ by_session (find (in_phase is_between_phase) s.connections) refl

-- 2. What is told of others

pub owed_due : (p : Phase) → due (owed_phase p) ≡ due p
owed_due (Ready r k) = refl
owed_due p = refl

pub shared_due : (k : ℕ) (p : Phase) → due (shared_phase k p) ≡ due p
shared_due k (Between x) = refl
shared_due k p = refl

no_later : (a : Option ℕ) → NoLater a a
no_later None = refl
no_later (Some u) = omega arith

hurried_due : (v : ℕ) (p : Phase) → NoLater (due (hurried_phase v p)) (due p)
hurried_due v (Answered u o) = omega arith
hurried_due v p = no_later (due p)

pub is_kept : (p : Phase) → IsKept p
is_kept p k v = (owed_due p, shared_due k p, hurried_due v p)

-- a reply to another connection leaves this one's phase
edited_other : (id : ℕ) (s : State) (c : Connection) (r : Reply) (p : Phase) → c.id ≢ id → phase_at id s.connections ≡ Some p → phase_at id (edited s c r) ≡ Some p
edited_other id s c r p ne e =
    edit_holds (λ cs. phase_at id cs ≡ Some p) (λ q. Unit {0}) s c e (λ q k. changed q) (λ q k. added (filter (is_other c.id) s.connections) (at_door c.id c.door q) gone)
    (λ n. added (map (became c.id (Calling s.next)) s.connections) (at_door s.next Calls (Wanted (new_call s.limits n (By c.id)))) (changed (Calling s.next))) gone r (any_reply r)
  where
    changed : (q : Phase) → phase_at id (map (became c.id q) s.connections) ≡ Some p
    changed q = became_other c.id id q s.connections ne ∙ e

    gone : phase_at id (filter (is_other c.id) s.connections) ≡ Some p
    gone = other_other c.id id s.connections ne ∙ e

    added : (cs : List Connection) (d : Connection) → phase_at id cs ≡ Some p → phase_at id (cs ++ d ∷ []) ≡ Some p
    added cs d h = pushed id cs d ∙ ap (λ o. or_last o (d.id == id) d.phase) h

-- but for the rank that the end of a session gives a request
abbrev Stays : Phase → Option Phase → Type 0
Stays p o = (o ≡ Some p) ⊎ (o ≡ Some (owed_phase p))

after_stays : (b : Bool) (id : ℕ) (cs : List Connection) (p : Phase) → phase_at id cs ≡ Some p → Stays p (phase_at id (after_session b cs))
after_stays true id cs p e = inr (edited_phase owed_phase id cs ∙ ap (map_phase owed_phase) e)
after_stays false id cs p e = inl e

replied_other : (id : ℕ) (s : State) (c : Connection) (r : Reply) (p : Phase) → c.id ≢ id → phase_at id s.connections ≡ Some p → Stays p (phase_at id (replied s c r).0.connections)
replied_other id s c r p ne e = after_stays (ends_session c.phase r) id (edited s c r) p (edited_other id s c r p ne e)

replied_at_other : (id i : ℕ) (s : State) (at : Option Connection) (f : Connection → Reply) (p : Phase) → i ≢ id → connection_at i s.connections ≡ at
    → phase_at id s.connections ≡ Some p → Stays p (phase_at id (replied_at s at f).0.connections)
replied_at_other id i s None f p ne a e = inl e
replied_at_other id i s (Some c) f p ne a e =
    let h = at_number i s.connections c a in
    let ne' : c.id ≢ id = subst (λ (j : ℕ). j ≢ id) (sym h.0) ne in
    replied_other id s c (in_numbers s.next (f c)) p ne' e

left_of : (now : ℕ) (p : Phase) (o : Option Phase) → Stays p o → IsLeft now p o
left_of now p None (inl e) = cc
left_of now p None (inr e) = cc
left_of now p (Some q) (inl e) = inl (cc)
left_of now p (Some q) (inr e) = inr (cc)

-- one is closed for who has come only if it is a stranger that may be
room_left_of : (id : ℕ) (s : State) (d : Door) (p : Phase) → IsDistinct s → phase_at id s.connections ≡ Some p → IsLeft s.now p (phase_at id (evicted s (makes_room s d)).0.connections)
room_left_of id s d p o e = cases (nat_lt (places s.limits d) (count_by (is_at d) s.connections))
  where
    gone_after : (b : Bool) (cs : List Connection) → phase_at id cs ≡ None → phase_at id (after_session b cs) ≡ None
    gone_after true cs h = edited_phase owed_phase id cs ∙ ap (map_phase owed_phase) h
    gone_after false cs h = h

    evicts : (at : Option Connection) → find (is_ripe s.now) s.connections ≡ at → IsLeft s.now p (phase_at id (evicted s at).0.connections)
    evicts None f = rw e (inl refl)
    evicts (Some c) f =
        elim (eqb_tells c.id id) as (λ _. IsLeft s.now p (phase_at id (evicted s (Some c)).0.connections)) [
          | inl y ↦
              (let h = found (is_ripe s.now) s.next s.connections c f o in
              let there : Some c.phase ≡ Some p = sym h.0 ∙ (ap (λ i. phase_at i s.connections) y.1 ∙ e) in
              let q : c.phase ≡ p = cc in
              let ripe : is_ripe_phase s.now p ≡ true = ap (is_ripe_phase s.now) (sym q) ∙ h.1 in
              let out : phase_at id (filter (is_other c.id) s.connections) ≡ None = ap (λ i. phase_at id (filter (is_other i) s.connections)) y.1 ∙ other_same id s.connections in
              let none = gone_after (ends_session c.phase (Leave Evicted)) (filter (is_other c.id) s.connections) out in
              rw none ripe)
          | inr n ↦ left_of s.now p (phase_at id (replied s c (Leave Evicted)).0.connections) (replied_other id s c (Leave Evicted) p n.1 e)
        ]

    cases : (b : Bool) → IsLeft s.now p (phase_at id (evicted s (if b then find (is_ripe s.now) s.connections else None)).0.connections)
    cases true = evicts (find (is_ripe s.now) s.connections) refl
    cases false = rw e (inl refl)

is_same : (now : ℕ) (p : Phase) (o : Option Phase) → o ≡ Some p → IsLeft now p o
is_same now p o e = left_of now p o (inl e)

gate_left : (id : ℕ) (s : State) (d : Door) (g : Gate) (now : ℕ) (p : Phase) → phase_at id s.connections ≡ Some p → IsLeft now p (phase_at id (with_gate s d g).connections)
gate_left id s Partners g now p e = is_same now p (phase_at id s.connections) e
gate_left id s Commands g now p e = is_same now p (phase_at id s.connections) e
gate_left id s Requests g now p e = is_same now p (phase_at id s.connections) e
gate_left id s Calls g now p e = is_same now p (phase_at id s.connections) e

accepted_left : (id : ℕ) (s : State) (c : Connection) (a : Arrival) (p : Phase) → c.id ≢ id → IsDistinct s → phase_at id s.connections ≡ Some p
    → IsLeft s.now p (phase_at id (accepted s c a).0.connections)
accepted_left id s c a p ne o e = cases a
  where
    gone : phase_at id (filter (is_other c.id) s.connections) ≡ Some p
    gone = other_other c.id id s.connections ne ∙ e

    without : State
    without = with_connections s (filter (is_other c.id) s.connections)

    first : Phase
    first = first_phase s.now s.limits c.door

    cases : (a : Arrival) → IsLeft s.now p (phase_at id (accepted s c a).0.connections)
    cases Somebody =
        room_left_of id (with_connections s (map (became c.id first) s.connections)) c.door p
        (Distinct-map (became c.id first) (λ _. refl) s.next s.connections o) (became_other c.id id first s.connections ne ∙ e)
    cases Nobody = gate_left id without c.door Quiet s.now p gone
    cases Later = gate_left id without c.door (Resting (s.now + s.limits.rest)) s.now p gone
    cases Never = is_same s.now p (phase_at id (filter (is_other c.id) s.connections)) gone

accepted_at_left : (id i : ℕ) (s : State) (at : Option Connection) (a : Arrival) (p : Phase) → i ≢ id → connection_at i s.connections ≡ at → IsDistinct s
    → phase_at id s.connections ≡ Some p → IsLeft s.now p (phase_at id (accepted_at s at a).0.connections)
accepted_at_left id i s None a p ne f o e = is_same s.now p (phase_at id s.connections) e
accepted_at_left id i s (Some c) a p ne f o e = cases (is_arriving_phase c.phase)
  where
    cases : (b : Bool) → IsLeft s.now p (phase_at id (if b then accepted s c a else (s, [])).0.connections)
    cases true = accepted_left id s c a p (subst (λ (j : ℕ). j ≢ id) (sym (at_number i s.connections c f).0) ne) o e
    cases false = is_same s.now p (phase_at id s.connections) e

due_left : (id : ℕ) (s : State) (n : Partner) (p : Phase) → phase_at id s.connections ≡ Some p → IsLeft s.now p (phase_at id (due_to s n).connections)
due_left id s n p e = cases (list_any (calls n.number) s.connections) (nat_lt s.next (2 ^ 63))
  where
    new : Connection
    new = at_door s.next Calls (Wanted (new_call s.limits n ByClock))

    cases : (b d : Bool) → IsLeft s.now p (phase_at id (if b then s else (if d then with_call s n else s)).connections)
    cases true d = is_same s.now p (phase_at id s.connections) e
    cases false true = is_same s.now p (phase_at id (s.connections ++ new ∷ [])) (pushed id s.connections new ∙ ap (λ o. or_last o (new.id == id) new.phase) e)
    cases false false = is_same s.now p (phase_at id s.connections) e

reviewed_left : (id : ℕ) (s : State) (c : Clock) (p : Phase) → phase_at id s.connections ≡ Some p → IsLeft s.now p (phase_at id (reviewed s c).connections)
reviewed_left id s Reviewing p e = is_same s.now p (phase_at id s.connections) e
reviewed_left id s c p e = is_same s.now p (phase_at id s.connections) e

not_equal : (i id : ℕ) → (i == id) ≡ false → i ≢ id
not_equal i id n e = let y : (i == id) ≡ true = grind (arith, nat_tests, e) in let bad : true ≡ false = sym y ∙ n in cc

pub unmoved_by : (s : State) (e : Event) → IsDistinct s → IsUnmovedBy s e
unmoved_by s (Knock d) o id p n h = gate_left id s d (knocked (gate s d)) s.now p h
unmoved_by s (Accepted i a) o id p n h = accepted_at_left id i s (connection_at i s.connections) a p (not_equal i id n) refl o h
unmoved_by s (Passed t) o id p n h = is_same s.now p (phase_at id s.connections) h
unmoved_by s (Told i g) o id p n h =
    left_of s.now p (phase_at id (received s (Told i g)).0.connections)
    (replied_at_other id i s (connection_at i s.connections) (λ c. rule s.now (limits_now s) c.door c.phase g) p (not_equal i id n) refl h)
unmoved_by s (Due q) o id p n h = due_left id s q p h
unmoved_by s Reviewed o id p n h = reviewed_left id s s.clock p h
unmoved_by s (Over st) o id p n h = is_same s.now p (phase_at id s.connections) h

-- 3. What is chosen for others

abbrev pub Spared : State → Choice → Phase → Option Phase → Type 0
Spared s c p o = (o ≡ Some (left_by s c p)) ⊎ (o ≡ Some (owed_phase p))

pub chosen_spares : (id : ℕ) (s : State) (c : Choice) (p : Phase) → is_for id c ≡ false → phase_at id s.connections ≡ Some p → Spared s c p (phase_at id (chosen s c).0.connections)
chosen_spares id s Nothing p n e = inl e
chosen_spares id s (Finish st) p n e = let v = s.now + s.limits.farewell in inl (edited_phase (hurried_phase v) id s.connections ∙ ap (map_phase (hurried_phase v)) e)
chosen_spares id s (Settle i r) p n e = replied_at_other id i s (connection_at i s.connections) (λ c. r) p (not_equal i id n) refl e
chosen_spares id s (Admit d) p n e = cases (nat_lt s.next (2 ^ 63))
  where
    cases : (b : Bool) → Spared s (Admit d) p (phase_at id (let t : Turn = if b then
        (with_next (with_connections s (s.connections ++ at_door s.next d Arriving ∷ [])) (s.next + 1), Accept s.next d ∷ []) else (s, []) in t.0).connections)
    cases true = inl (pushed id s.connections (at_door s.next d Arriving) ∙ ap (λ o. or_last o (s.next == id) Arriving) e)
    cases false = inl e
chosen_spares id s Inspect p n e = inl e
chosen_spares id s (Start i x) p n e = inl (became_other i id (Stepping x) s.connections (not_equal i id n) ∙ e)
chosen_spares id s (Proceed i x) p n e = inl (became_other i id (Stepping x) s.connections (not_equal i id n) ∙ e)
chosen_spares id s (Consult i) p n e =
    let k = s.limits.share in
    inl (edited_phase (shared_phase k) id (map (became i (Served Query)) s.connections) ∙ ap (map_phase (shared_phase k)) (became_other i id (Served Query) s.connections (not_equal i id n) ∙ e))
chosen_spares id s (Perform i) p n e = inl (became_other i id (Served Update) s.connections (not_equal i id n) ∙ e)
chosen_spares id s (Lend i) p n e = inl (became_other i id (Copying (s.now + s.limits.copying)) s.connections (not_equal i id n) ∙ e)
chosen_spares id s (Seek i c) p n e = inl (became_other i id (Resolving c) s.connections (not_equal i id n) ∙ e)
chosen_spares id s (Depart st) p n e = inl e

pub unmoved : (s : State) → IsUnmoved s
unmoved s id p n e = spared (phase_at id (chosen s (choice s)).0.connections) (chosen_spares id s (choice s) p n e)
  where
    spared : (o : Option Phase) → Spared s (choice s) p o → IsSpared s p o
    spared None (inl h) = cc
    spared None (inr h) = cc
    spared (Some q) (inl h) = inl (cc)
    spared (Some q) (inr h) = inr (cc)

-- 4. No deadline is past where nothing is chosen

none_late : (now id : ℕ) (cs : List Connection) (p : Phase) → find (is_late now) cs ≡ None → phase_at id cs ≡ Some p → is_over now (due p) ≡ false
none_late now id [] p f e = cc
none_late now id (c ∷ cs) p f e = split (λ g h. none_late now id cs p g h) (is_over now (due c.phase)) refl f (c.id == id) e
  where
    split : (find (is_late now) cs ≡ None → phase_at id cs ≡ Some p → is_over now (due p) ≡ false) → (a : Bool) → is_over now (due c.phase) ≡ a
        → cond a (Some c) (find (is_late now) cs) ≡ None → (b : Bool) → cond b (Some c.phase) (phase_at id cs) ≡ Some p → is_over now (due p) ≡ false
    split more true l f b e = cc
    split more false l f true e = let q : c.phase ≡ p = cc in ap (λ x. is_over now (due x)) (sym q) ∙ l
    split more false l f false e = more f e

pub on_time : (s : State) → IsOnTime s
on_time s id u p still e d =
    let h = stillness s still.0 still.1 in
    let f = nobody (find (is_late s.now) s.connections) (λ c. Settle c.id (late s.now (limits_now s) c.door c.phase))
    (λ c e. settle_something c.id (late s.now (limits_now s) c.door c.phase)) h.expiry_is in
    let l = none_late s.now id s.connections p f e in
    let l' : nat_le u s.now ≡ false = ap (is_over s.now) (sym d) ∙ l in
    grind (arith, nat_tests, l')

pub gives_way : (s : State) → GivesWay s
gives_way s x c t still (a, g, k, fa, fg, ea, ew, ei, eg) =
    let h = stillness s still.0 still.1 in
    let w : yield_to s.now a.id x t (Unanswered c k) ≡ Nothing = sym (given (way_given s) refl) ∙ h.way_given_is in
    let n = not_yet (is_to_yield s.now x c t) refl w in
    grind (arith, nat_tests, n)
  where
    given : (w : Choice) → way_given s ≡ w → w ≡ yield_to s.now a.id x t (Unanswered c k)
    given w e = sym e ∙ rw (fa, fg, ea, eg, ew) refl

    not_yet : (b : Bool) → is_to_yield s.now x c t ≡ b → (if b then Settle a.id (yielded c) else Nothing) ≡ Nothing → nat_le c.partner.pause (s.now - max x.begun t) ≡ false
    not_yet true e w = cc
    not_yet false e w = sym (ap (λ i. if is_awaited i then nat_le c.partner.pause (s.now - max x.begun t) else false) ei) ∙ e

-- 5. Every moment that is told is to come

abbrev IsAhead : ℕ → Option ℕ → Type 0
IsAhead now None = Unit {0}
IsAhead now (Some t) = now < t

ahead_earlier : (now : ℕ) (a b : Option ℕ) → IsAhead now a → IsAhead now b → IsAhead now (earlier a b)
ahead_earlier now None b h k = k
ahead_earlier now (Some u) None h k = h
ahead_earlier now (Some u) (Some v) h k = omega (arith, h, k)

ahead_come : (now t : ℕ) → IsAhead now (to_come now t)
ahead_come now t = cases (nat_lt now t) refl
  where
    cases : (b : Bool) → nat_lt now t ≡ b → IsAhead now (if b then Some t else None)
    cases true h = grind (arith, nat_tests, h)
    cases false h = tt

ahead_due : (now : ℕ) (cs : List Connection) → find (is_late now) cs ≡ None → IsAhead now (first_due cs)
ahead_due now [] f = tt
ahead_due now (c ∷ cs) f = split (ahead_due now cs) (is_over now (due c.phase)) refl f
  where
    one : (o : Option ℕ) → is_over now o ≡ false → IsAhead now o
    one None h = tt
    one (Some u) h = let n : nat_le u now ≡ false = h in grind (arith, nat_tests, n)

    split : (find (is_late now) cs ≡ None → IsAhead now (first_due cs)) → (a : Bool) → is_over now (due c.phase) ≡ a → cond a (Some c) (find (is_late now) cs) ≡ None
        → IsAhead now (earlier (due c.phase) (first_due cs))
    split more true l f = cc
    split more false l f = ahead_earlier now (due c.phase) (first_due cs) (one (due c.phase) l) (more f)

ahead_ripe : (now : ℕ) (cs : List Connection) → IsAhead now (first_ripe now cs)
ahead_ripe now [] = tt
ahead_ripe now (c ∷ cs) = ahead_earlier now (ripe_time now c.phase) (first_ripe now cs) (one c.phase) (ahead_ripe now cs)
  where
    one : (p : Phase) → IsAhead now (ripe_time now p)
    one (Stranger u r) = ahead_come now r
    one p = tt

ahead_clock : (now : ℕ) (c : Clock) → IsAhead now (clock_time now c)
ahead_clock now (At t) = ahead_come now t
ahead_clock now c = tt

ahead_way : (s : State) → IsStill s → s.now < 2 ^ 63 → IsAhead s.now (way_time s)
ahead_way s still small = by_session (find (in_phase is_between_phase) s.connections) refl
  where
    by_way : (c g : Connection) (x : Session) (t : ℕ) (w : Way) → find (in_phase is_between_phase) s.connections ≡ Some c → find (in_phase is_guest_phase) s.connections ≡ Some g
        → c.phase ≡ Between x → g.phase ≡ Guest t → x.way ≡ w → IsAhead s.now (yield_time x w t)
    by_way c g x t (Unanswered k n) fc fg ec eg ew = by_input x.input refl
      where
        by_input : (i : Input) → x.input ≡ i → IsAhead s.now (if is_awaited i then Some (min (max x.begun t + k.partner.pause) (2 ^ 64 - 1)) else None)
        by_input Awaited ei = let h = gives_way s x k t still (c, g, n, fc, fg, ec, ew, ei, eg) in omega (arith, h, small)
        by_input i ei = tt
    by_way c g x t In fc fg ec eg ew = tt
    by_way c g x t (Out k) fc fg ec eg ew = tt

    by_phases : (c g : Connection) (p q : Phase) → find (in_phase is_between_phase) s.connections ≡ Some c → find (in_phase is_guest_phase) s.connections ≡ Some g
        → c.phase ≡ p → g.phase ≡ q → IsAhead s.now (yield_time_of p q)
    by_phases c g (Between x) (Guest t) fc fg ec eg = by_way c g x t x.way fc fg ec eg refl
    by_phases c g p q fc fg ec eg = tt

    by_guest : (c : Connection) (at : Option Connection) → find (in_phase is_between_phase) s.connections ≡ Some c → find (in_phase is_guest_phase) s.connections ≡ at
        → IsAhead s.now (time_of at (λ g. yield_time_of c.phase g.phase))
    by_guest c None fc fg = tt
    by_guest c (Some g) fc fg = by_phases c g c.phase g.phase fc fg refl refl

    by_session : (at : Option Connection) → find (in_phase is_between_phase) s.connections ≡ at
        → IsAhead s.now (time_of at (λ c. time_of (find (in_phase is_guest_phase) s.connections) (λ g. yield_time_of c.phase g.phase)))
    by_session None fc = tt
    by_session (Some c) fc = by_guest c (find (in_phase is_guest_phase) s.connections) fc refl

ahead_quiet : (s : State) → IsAhead s.now (quiet_time s)
ahead_quiet s = by_office (is_busy s)
  where
    by_choice : (c : Choice) → IsAhead s.now (quiet_until s.now s.quiet c)
    by_choice (Consult id) = ahead_come s.now s.quiet
    by_choice c = tt

    by_session : (at : Option Connection) → IsAhead s.now (time_of at (λ c. quiet_until s.now s.quiet (consult s)))
    by_session None = tt
    by_session (Some c) = by_choice (consult s)

    by_office : (b : Bool) → IsAhead s.now (if b then None else time_of (find (in_phase is_between_phase) s.connections) (λ c. quiet_until s.now s.quiet (consult s)))
    by_office true = tt
    by_office false = by_session (find (in_phase is_between_phase) s.connections)

-- a door that rests does so until a moment that is to come
abbrev RestsOn : ℕ → ℕ → Gate → Type 0
RestsOn now rest g = 0 < rest → IsAhead now (rest_over g)

abbrev pub DoorsRest : State → Type 0
DoorsRest s = RestsOn s.now s.limits.rest s.partners × RestsOn s.now s.limits.rest s.commands × RestsOn s.now s.limits.rest s.requests

replied_at_rest : (s : State) (at : Option Connection) (f : Connection → Reply) → DoorsRest s → DoorsRest (replied_at s at f).0
replied_at_rest s None f h = h
replied_at_rest s (Some c) f h = h

gate_rest : (s : State) (d : Door) (g : Gate) → RestsOn s.now s.limits.rest g → DoorsRest s → DoorsRest (with_gate s d g)
gate_rest s Partners g k (a, b, c) = (k, b, c)
gate_rest s Commands g k (a, b, c) = (a, k, c)
gate_rest s Requests g k (a, b, c) = (a, b, k)
gate_rest s Calls g k h = h

rests_at : (s : State) (d : Door) → DoorsRest s → RestsOn s.now s.limits.rest (gate s d)
rests_at s Partners h = h.0
rests_at s Commands h = h.1
rests_at s Requests h = h.2
rests_at s Calls h = λ l. tt

knocked_rest : (now rest : ℕ) (g : Gate) → RestsOn now rest g → RestsOn now rest (knocked g)
knocked_rest now rest (Resting u) h = h
knocked_rest now rest g h = λ l. tt

rested_rest : (now rest : ℕ) (g : Gate) → RestsOn now rest (rested now g)
rested_rest now rest (Resting u) l = cases (nat_le u now) refl
  where
    cases : (b : Bool) → nat_le u now ≡ b → IsAhead now (rest_over (if b then Knocked else Resting u))
    cases true h = tt
    cases false h = grind (arith, nat_tests, h)
rested_rest now rest Quiet l = tt
rested_rest now rest Knocked l = tt

accepted_rest : (s : State) (c : Connection) (a : Arrival) → DoorsRest s → DoorsRest (accepted s c a).0
accepted_rest s c Somebody h =
    let t = with_connections s (map (became c.id (first_phase s.now s.limits c.door)) s.connections) in replied_at_rest t (makes_room t c.door) (λ c. Leave Evicted) h
accepted_rest s c Nobody h = gate_rest (with_connections s (filter (is_other c.id) s.connections)) c.door Quiet (λ l. tt) h
accepted_rest s c Later h = gate_rest (with_connections s (filter (is_other c.id) s.connections)) c.door (Resting (s.now + s.limits.rest)) (λ l. omega (arith, l)) h
accepted_rest s c Never h = h

accepted_at_rest : (s : State) (at : Option Connection) (a : Arrival) → DoorsRest s → DoorsRest (accepted_at s at a).0
accepted_at_rest s None a h = h
accepted_at_rest s (Some c) a h = elim (is_arriving_phase c.phase) as (λ b. DoorsRest (if b then accepted s c a else (s, [])).0) [ true ↦ accepted_rest s c a h | false ↦ h ]

due_rest : (s : State) (n : Partner) → DoorsRest s → DoorsRest (due_to s n)
due_rest s n h = cases (list_any (calls n.number) s.connections) (nat_lt s.next (2 ^ 63))
  where
    cases : (b d : Bool) → DoorsRest (if b then s else (if d then with_call s n else s))
    cases true d = h
    cases false true = h
    cases false false = h

reviewed_rest : (s : State) (c : Clock) → DoorsRest s → DoorsRest (reviewed s c)
reviewed_rest s Reviewing h = h
reviewed_rest s c h = h

received_rest : (s : State) (e : Event) → DoorsRest s → DoorsRest (received s e).0
received_rest s (Knock d) h = gate_rest s d (knocked (gate s d)) (knocked_rest s.now s.limits.rest (gate s d) (rests_at s d h)) h
received_rest s (Accepted id a) h = accepted_at_rest s (connection_at id s.connections) a h
received_rest s (Passed t) h =
    let now = max s.now t in (rested_rest now s.limits.rest s.partners, rested_rest now s.limits.rest s.commands, rested_rest now s.limits.rest s.requests)
received_rest s (Told id g) h = replied_at_rest s (connection_at id s.connections) (λ c. rule s.now (limits_now s) c.door c.phase g) h
received_rest s (Due p) h = due_rest s p h
received_rest s Reviewed h = reviewed_rest s s.clock h
received_rest s (Over st) h = h

chosen_rest : (s : State) (c : Choice) → DoorsRest s → DoorsRest (chosen s c).0
chosen_rest s (Settle id r) h = replied_at_rest s (connection_at id s.connections) (λ c. r) h
chosen_rest s (Admit d) h = elim (nat_lt s.next (2 ^ 63)) as (λ b. DoorsRest (if b then welcomed s d else (s, [])).0) [ true ↦ h | false ↦ h ]
chosen_rest s c h = h

step_rest : (s : State) (m : Move) → DoorsRest s → DoorsRest (step s m).0
step_rest s (Tell e) h = received_rest s e h
step_rest s Ask h = chosen_rest s (choice s) h

to_come_of : (s : State) → DoorsRest s → IsToCome s
to_come_of s h t still some small e =
    let f = nobody (find (is_late s.now) s.connections) (λ c. Settle c.id (late s.now (limits_now s) c.door c.phase))
    (λ c e. settle_something c.id (late s.now (limits_now s) c.door c.phase)) (stillness s still.0 still.1).expiry_is in
    let doors = ahead_earlier s.now (rest_over s.partners) (earlier (rest_over s.commands) (rest_over s.requests)) (h.0 some)
    (ahead_earlier s.now (rest_over s.commands) (rest_over s.requests) (h.1 some) (h.2 some)) in
    let way = ahead_earlier s.now (way_time s) (quiet_time s) (ahead_way s still small) (ahead_quiet s) in
    let rest = ahead_earlier s.now (clock_time s.now s.clock) (earlier (waits_for_room s) (ways s)) (ahead_clock s.now s.clock)
    (ahead_earlier s.now (waits_for_room s) (ways s) room way) in
    let all = ahead_earlier s.now (first_due s.connections) (earlier (rests s) (others s)) (ahead_due s.now s.connections f) (ahead_earlier s.now (rests s) (others s) doors rest) in
    subst (IsAhead s.now) e all
  where
    room : IsAhead s.now (waits_for_room s)
    room = elim (is_knocked s.partners) as (λ b. IsAhead s.now (if b then first_ripe s.now s.connections else None)) [ true ↦ ahead_ripe s.now s.connections | false ↦ tt ]

pub is_to_come : (l : Limits) (ms : List Move) → IsToCome (run (start l) ms)
is_to_come l ms = to_come_of (run (start l) ms) (run_keeps DoorsRest (λ s m o h. step_rest s m h) (start l) ms tt (λ k. tt, λ k. tt, λ k. tt))
