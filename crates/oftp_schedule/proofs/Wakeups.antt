-- Nothing waits for nothing.
use Rattle.std.proofs.Common.{◌||◌, inl, inr, ◌⊎◌, ◌≡◌, ◌≢◌, ◌^◌, ℕ, zero, suc, ◌+◌, ◌-◌, ◌<◌, ◌≤◌, ◌==◌, nat_lt, nat_le, not, Bool, true, false, cond, if◌then◌else◌, List, [], ◌∷◌, Option, Some, None, find, refl, ap, sym, ◌∙◌, min, arith}
use Rattle.std.proofs.lemmas.Bool.Decides.{nat_tests}
use Rattle.std.specs.List.{list_any}
use Rattle.oftp_schedule.specs.declared.connection.Door.{Door}
use Rattle.oftp_schedule.specs.declared.connection.Door.TheVariants.{Partners, Commands, Requests, Calls}
use Rattle.oftp_schedule.specs.declared.connection.Request.TheVariants.{Query, Update, Backup}
use Rattle.oftp_schedule.specs.declared.connection.Phase.{Phase}
use Rattle.oftp_schedule.specs.declared.connection.Phase.TheVariants.{Arriving, Stranger, Guest, Stepping, Between, Parting, Asking, Ready, Served, Calling, Copying, Answered, Wanted, Resolving, Dialing, Connected}
use Rattle.oftp_schedule.specs.declared.connection.Status.{Status}
use Rattle.oftp_schedule.specs.declared.connection.Status.TheVariants.{Stopped}
use Rattle.oftp_schedule.specs.declared.connection.Reply.TheVariants.{Respond}
use Rattle.oftp_schedule.specs.declared.connection.Kind.{Kind}
use Rattle.oftp_schedule.specs.declared.connection.Kind.TheVariants.{Queries, Sessions, Updates}
use Rattle.oftp_schedule.specs.declared.connection.Choice.{Choice}
use Rattle.oftp_schedule.specs.declared.connection.Choice.TheVariants.{Nothing, Finish, Settle, Admit, Inspect, Start, Proceed, Consult}
use Rattle.oftp_schedule.specs.declared.connection.Gate.TheVariants.{Knocked}
use Rattle.oftp_schedule.specs.declared.connection.Clock.TheVariants.{At}
use Rattle.oftp_schedule.specs.declared.connection.Course.{Course}
use Rattle.oftp_schedule.specs.declared.connection.Course.TheVariants.{Serving, Called, Ending, Past}
use Rattle.oftp_schedule.specs.declared.connection.Session.{Session}
use Rattle.oftp_schedule.specs.declared.connection.Connection.{Connection}
use Rattle.oftp_schedule.specs.declared.connection.Limits.{Limits}
use Rattle.oftp_schedule.specs.Rules.{is_hearable, answered, due, dismissal, is_dismissed, concerns, at_office, in_session, is_between_phase, is_guest_phase, is_query_phase, is_update_phase, is_owed_phase, is_copying_phase, is_wanted_phase, is_connected_phase, is_up_phase, is_arriving_phase, in_phase, call_in, phase_at, told_phase, is_to_tell, is_parting_phase, goes_on, answer_octets, room_left}
use Rattle.oftp_schedule.specs.Machine.{State, limits_now, gate, or_else, choice_of, is_enough, finish, dismissed, is_ending, is_knocked, has_place, admit, is_reviewing, is_busy, may_dial, sought, consult, consult_within, within, requested, update, new_session, guest_session, called_session, call_session, in_turn, inspection, between_jobs, job_for, is_past, departed, departure, Move, start, run}
use Rattle.oftp_schedule.specs.declared.connection.Way.TheVariants.{In}
use Rattle.oftp_schedule.specs.Deadlines.{IsStill}
use Rattle.oftp_schedule.specs.Wakeups.{IsAtWork, IsAny, Waits, IsHeldBack, holds_office, holds_room, holds_calls, is_resolving_phase, IsAwake, GuestsAreAwake, UpdatesAreAwake, UpsAreAwake, ClockIsAwake, QueriesAreAwake, SessionIsAwake, CallsAreAwake, CommandsAreAwake, DoorsAreAwake, EndIsAwake, has_time, EndComes}
use Rattle.oftp_schedule.proofs.Numbers.{known}
use Rattle.oftp_schedule.proofs.Places.{found}
use Rattle.oftp_schedule.proofs.Fitting.{IsDistinct, run_distinct}
use Rattle.oftp_schedule.proofs.Within.{Each, Bounded, at_phase, run_within}
use Rattle.oftp_schedule.proofs.Still.{both, nobody, Stillness, stillness, settle_something, start_something}
use Rattle.oftp_schedule.proofs.Deadlines.{knows_deadlines, knows_quiet, on_time}

-- 1. Who is there

-- none in the table passes a test by which none is found
none_there : (t : Phase → Bool) (id : ℕ) (cs : List Connection) (p : Phase) → find (in_phase t) cs ≡ None → phase_at id cs ≡ Some p → t p ≡ true → ⊥
none_there t id [] p f e h = cc
none_there t id (c ∷ cs) p f e h = split (λ g k. none_there t id cs p g k h) (t c.phase) refl f (c.id == id) e
  where
    split : (find (in_phase t) cs ≡ None → phase_at id cs ≡ Some p → ⊥) → (a : Bool) → t c.phase ≡ a → cond a (Some c) (find (in_phase t) cs) ≡ None → (b : Bool)
        → cond b (Some c.phase) (phase_at id cs) ≡ Some p → ⊥
    split more true y f b e = cc
    split more false n f true e = let q : c.phase ≡ p = cc in let bad : true ≡ false = sym h ∙ (ap t (sym q) ∙ n) in cc
    split more false n f false e = more f e

-- who is there and passes a test is somebody who does
any_there : (t : Phase → Bool) (id : ℕ) (cs : List Connection) (p : Phase) → phase_at id cs ≡ Some p → t p ≡ true → list_any (in_phase t) cs ≡ true
any_there t id [] p e h = cc
any_there t id (c ∷ cs) p e h = split (λ k. any_there t id cs p k h) (c.id == id) e
  where
    or_true : (b : Bool) → (b || true) ≡ true
    or_true true = refl
    or_true false = refl

    split : (phase_at id cs ≡ Some p → list_any (in_phase t) cs ≡ true) → (b : Bool) → cond b (Some c.phase) (phase_at id cs) ≡ Some p → (t c.phase || list_any (in_phase t) cs) ≡ true
    split more true e = let q : c.phase ≡ p = cc in rw (q, h) refl
    split more false e = rw (more e) (or_true (t c.phase))

-- where somebody does, one is found
pub any_found : (t : Phase → Bool) (cs : List Connection) → list_any (in_phase t) cs ≡ true → (c : Connection) × (find (in_phase t) cs ≡ Some c)
any_found t [] e = cc
any_found t (c ∷ cs) e = split (any_found t cs) (t c.phase) e
  where
    split : (list_any (in_phase t) cs ≡ true → (d : Connection) × (find (in_phase t) cs ≡ Some d)) → (b : Bool) → (b || list_any (in_phase t) cs) ≡ true
        → (d : Connection) × (cond b (Some c) (find (in_phase t) cs) ≡ Some d)
    split more true e = (c, refl)
    split more false e = more e

-- one who is found, and has a deadline
awaited : (s : State) (t q : Phase → Bool) (c : Connection) (u : ℕ) → IsDistinct s → IsStill s → find (in_phase t) s.connections ≡ Some c → q c.phase ≡ true → due c.phase ≡ Some u → Waits q s
awaited s t q c u o still f h d =
    let e = (found (in_phase t) s.next s.connections c f o).0 in
    (c.id, u, c.phase, e, h, d, on_time s c.id u c.phase still e d, knows_deadlines s c.id u c.phase e d)

-- what a test lets pass has a deadline
abbrev HasDue : (Phase → Bool) → Phase → Type 0
HasDue q p = (u : ℕ) × (q p ≡ true) × (due p ≡ Some u)

waits_by : (s : State) (t q : Phase → Bool) → IsDistinct s → IsStill s → ((p : Phase) → t p ≡ true → HasDue q p) → IsAny t s → Waits q s
waits_by s t q o still k any =
    let f = any_found t s.connections any in
    let h = found (in_phase t) s.next s.connections f.0 f.1 o in
    let d = k f.0.phase h.1 in
    awaited s t q f.0 d.0 o still f.1 d.1 d.2

between_holds : (p : Phase) → is_between_phase p ≡ true → HasDue holds_office p
between_holds (Between x) h = (min x.until x.ends, refl, refl)
between_holds p h = cc

copying_holds : (p : Phase) → is_copying_phase p ≡ true → HasDue holds_office p
copying_holds (Copying u) h = (u, refl, refl)
copying_holds p h = cc

-- 2. What the choice leaves

-- a station that ends, and isn't over, doesn't serve
ends : (s : State) (co : Course) → finish s co ≡ Nothing → is_past co ≡ false → is_ending co ≡ true → (st : Status) × (co ≡ Ending st)
ends s Serving f n e = cc
ends s (Called st) f n e = cc
ends s (Ending st) f n e = (st, refl)
ends s Past f n e = cc

-- then whom its end concerns isn't there any more
undismissed : (s : State) (id : ℕ) (p : Phase) → IsStill s → is_ending s.course ≡ true → ((st : Status) → is_dismissed st p ≡ true) → phase_at id s.connections ≡ Some p → ⊥
undismissed s id p still e k h =
    let w = stillness s still.0 still.1 in
    let c = ends s s.course w.finish_is still.1 e in
    let d : dismissed s (Ending c.0) ≡ Nothing = ap (dismissed s) (sym c.1) ∙ w.dismissed_is in
    let f = nobody (find (concerns c.0) s.connections) (λ d. Settle d.id (dismissal s.now s.limits d.door d.phase)) (λ d e. settle_something d.id (dismissal s.now s.limits d.door d.phase)) d in
    none_there (is_dismissed c.0) id s.connections p f h (k c.0)

turn_nothing : (k : Kind) (q g u : Choice) → in_turn k q g u ≡ Nothing → (q ≡ Nothing) × (g ≡ Nothing) × (u ≡ Nothing)
turn_nothing Queries q g u e = let a = both g (or_else u q) e in let b = both u q a.1 in (b.1, a.0, b.0)
turn_nothing Sessions q g u e = let a = both u (or_else q g) e in let b = both q g a.1 in (b.0, b.1, a.0)
turn_nothing Updates q g u e = let a = both q (or_else g u) e in let b = both g u a.1 in (a.0, b.0, b.1)

-- each of the jobs outside a session is nothing
abbrev NoJobs : State → Type 0
NoJobs s = (inspection s s.clock ≡ Nothing) × (call_session s ≡ Nothing) × (consult s ≡ Nothing) × (guest_session s ≡ Nothing) × (update s is_update_phase ≡ Nothing)

no_jobs : (s : State) → between_jobs s ≡ Nothing → NoJobs s
no_jobs s e =
    let turn = in_turn s.last (consult s) (guest_session s) (update s is_update_phase) in
    let a = both (inspection s s.clock) (or_else (update s is_owed_phase) (or_else (call_session s) turn)) e in
    let b = both (update s is_owed_phase) (or_else (call_session s) turn) a.1 in
    let c = both (call_session s) turn b.1 in
    let d = turn_nothing s.last (consult s) (guest_session s) (update s is_update_phase) c.1 in
    (a.0, c.0, d.0, d.1, d.2)

-- the office is at work, a session or a backup holds it, the station ends, or there is no job
abbrev Left : State → Type 0
Left s = IsAwake s ⊎ ((is_ending s.course ≡ true) ⊎ NoJobs s)

what_is_left : (s : State) → IsDistinct s → IsStill s → Left s
what_is_left s o still = by_office (is_busy s) refl (stillness s still.0 still.1).job_is
  where
    by_end : (b : Bool) → is_ending s.course ≡ b → (if b then Nothing else between_jobs s) ≡ Nothing → Left s
    by_end true e j = inr (inl e)
    by_end false e j = inr (inr (no_jobs s j))

    by_copy : (b : Bool) → list_any (in_phase is_copying_phase) s.connections ≡ b → (if b then consult s else (if is_ending s.course then Nothing else between_jobs s)) ≡ Nothing → Left s
    by_copy true e j = inl (inr (waits_by s is_copying_phase holds_office o still copying_holds e))
    by_copy false e j = by_end (is_ending s.course) refl j

    by_session : (at : Option Connection) → find (in_phase is_between_phase) s.connections ≡ at → job_for s at ≡ Nothing → Left s
    by_session (Some c) f j =
        let h = found (in_phase is_between_phase) s.next s.connections c f o in
        let d = between_holds c.phase h.1 in
        inl (inr (awaited s is_between_phase holds_office c d.0 o still f d.1 d.2))
    by_session None f j = by_copy (list_any (in_phase is_copying_phase) s.connections) refl j

    by_office : (b : Bool) → is_busy s ≡ b → (if b then Nothing else job_for s (find (in_phase is_between_phase) s.connections)) ≡ Nothing → Left s
    by_office true e j = inl (inl e)
    by_office false e j = by_session (find (in_phase is_between_phase) s.connections) refl j

-- one whom the end of the station concerns, and for whom there would be a job
awake : (s : State) (id : ℕ) (p : Phase) → IsDistinct s → IsStill s → phase_at id s.connections ≡ Some p → ((st : Status) → is_dismissed st p ≡ true) → (NoJobs s → ⊥) → IsAwake s
awake s id p o still e k never = cases (what_is_left s o still)
  where
    cases : Left s → IsAwake s
    cases (inl h) = h
    cases (inr (inl h)) = absurd (undismissed s id p still h k e)
    cases (inr (inr h)) = absurd (never h)

-- 3. Who waits

pub guests_are_awake : (s : State) → IsDistinct s → GuestsAreAwake s
guests_are_awake s o id t still e =
    awake s id (Guest t) o still e (λ st. refl) (λ j.
    let x = new_session s.now s.limits In s.limits.patience s.limits.longest in
    let f = nobody (find (in_phase is_guest_phase) s.connections) (λ c. Start c.id x) (λ c e. start_something c.id x) j.3 in
    none_there is_guest_phase id s.connections (Guest t) f e refl)

requested_something : (id : ℕ) (p : Phase) → is_update_phase p ≡ true → requested id p ≢ Nothing
requested_something id (Ready Update k) h e = cc
requested_something id (Ready Backup k) h e = cc
requested_something id p h e = cc

update_concerns : (p : Phase) → is_update_phase p ≡ true → (st : Status) → is_dismissed st p ≡ true
update_concerns (Ready r k) h st = refl
update_concerns p h st = cc

pub updates_are_awake : (s : State) → IsDistinct s → UpdatesAreAwake s
updates_are_awake s o id p still e h =
    awake s id p o still e (update_concerns p h) (λ j. cases (find (in_phase is_update_phase) s.connections) refl j.4)
  where
    cases : (at : Option Connection) → find (in_phase is_update_phase) s.connections ≡ at → choice_of at (λ c. requested c.id c.phase) ≡ Nothing → ⊥
    cases None f j = none_there is_update_phase id s.connections p f e h
    cases (Some c) f j = requested_something c.id c.phase (found (in_phase is_update_phase) s.next s.connections c f o).1 j

called_something : (s : State) (id : ℕ) (p : Phase) → is_connected_phase p ≡ true → called_session s.now s.limits id (call_in p) ≢ Nothing
called_something s id (Connected c u) h e = cc
called_something s id p h e = cc

pub ups_are_awake : (s : State) → IsDistinct s → UpsAreAwake s
ups_are_awake s o id u k still e = awake s id (Connected k u) o still e (λ st. refl) (λ j. cases (find (in_phase is_connected_phase) s.connections) refl j.1)
  where
    cases : (at : Option Connection) → find (in_phase is_connected_phase) s.connections ≡ at → choice_of at (λ c. called_session s.now s.limits c.id (call_in c.phase)) ≡ Nothing → ⊥
    cases None f j = none_there is_connected_phase id s.connections (Connected k u) f e refl
    cases (Some c) f j = called_something s c.id c.phase (found (in_phase is_connected_phase) s.next s.connections c f o).1 j

pub clock_is_awake : (s : State) → IsDistinct s → ClockIsAwake s
clock_is_awake s o t still e le n = cases (what_is_left s o still)
  where
    come : (b : Bool) → nat_le t s.now ≡ b → (if b then Inspect else Nothing) ≡ Nothing → ⊥
    come true y j = cc
    come false y j = let bad : s.now < t = grind (arith, nat_tests, y) in absurd (omega (arith, bad, le))

    cases : Left s → IsAwake s
    cases (inl h) = h
    cases (inr (inl h)) = let bad : true ≡ false = sym h ∙ n in cc
    cases (inr (inr h)) = let j : inspection s (At t) ≡ Nothing = ap (inspection s) (sym e) ∙ h.0 in absurd (come (nat_le t s.now) refl j)

-- 4. Look-ups

room_kept : (k o : ℕ) → nat_lt 0 o ≡ false → k - o ≡ k
room_kept k o e = let h : o ≤ 0 = grind (arith, nat_tests, e) in omega (arith, h)

-- where no room is left, an answer holds it
holder : (k : ℕ) (cs : List Connection) → 0 < k → nat_lt 0 (room_left k cs) ≡ false → list_any (in_phase holds_room) cs ≡ true
holder k [] l e = let bad : k ≤ 0 = grind (arith, nat_tests, e) in absurd (omega (arith, l, bad))
holder k (c ∷ cs) l e = split (λ g. holder k cs l g) (holds_room c.phase) refl
  where
    split : (nat_lt 0 (room_left k cs) ≡ false → list_any (in_phase holds_room) cs ≡ true) → (b : Bool) → nat_lt 0 (answer_octets c.phase) ≡ b → (b || list_any (in_phase holds_room) cs) ≡ true
    split more true y = refl
    split more false n = more (ap (λ j. nat_lt 0 (room_left j cs)) (sym (room_kept k (answer_octets c.phase) n)) ∙ e)

room_holds : (p : Phase) → holds_room p ≡ true → HasDue holds_room p
room_holds (Answered u o) h = (u, h, refl)
room_holds p h = cc

consult_something : (id : ℕ) → Consult id ≢ Nothing
consult_something id e = cc

-- nothing, or a look-up
abbrev IsConsult : Choice → Type 0
IsConsult Nothing = Unit {0}
IsConsult (Consult id) = Unit {0}
IsConsult c = ⊥

consult_is : (s : State) → IsConsult (consult s)
consult_is s = by_room (nat_lt 0 (room_left s.limits.held s.connections))
  where
    by_query : (at : Option Connection) → IsConsult (choice_of at (λ c. Consult c.id))
    by_query None = tt
    by_query (Some c) = tt

    by_room : (b : Bool) → IsConsult (if b then choice_of (find (in_phase is_query_phase) s.connections) (λ c. Consult c.id) else Nothing)
    by_room true = by_query (find (in_phase is_query_phase) s.connections)
    by_room false = tt

pub queries_are_awake : (s : State) → IsDistinct s → QueriesAreAwake s
queries_are_awake s o id k still l e = by_office (is_busy s) refl (stillness s still.0 still.1).job_is
  where
    Room : Type 0
    Room = Waits holds_room s ⊎ IsHeldBack s

    by_room : (b : Bool) → nat_lt 0 (room_left s.limits.held s.connections) ≡ b → (if b then choice_of (find (in_phase is_query_phase) s.connections) (λ c. Consult c.id) else Nothing) ≡ Nothing → Room
    by_room true y j =
        let f = nobody (find (in_phase is_query_phase) s.connections) (λ c. Consult c.id) (λ c e. consult_something c.id) j in absurd
        (none_there is_query_phase id s.connections (Ready Query k) f e refl)
    by_room false n j = inl (waits_by s holds_room holds_room o still room_holds (holder s.limits.held s.connections l n))

    by_consult : consult s ≡ Nothing → Room
    by_consult j = by_room (nat_lt 0 (room_left s.limits.held s.connections)) refl j

    proceeds : (i : ℕ) (x : Session) → Proceed i x ≢ Nothing
    proceeds i x j = cc

    -- it would be done but for the rest
    by_rest : is_busy s ≡ false → IsAny is_between_phase s → s.now < s.quiet → Room
    by_rest n any l = by_choice (consult s) refl (consult_is s)
      where
        by_choice : (c : Choice) → consult s ≡ c → IsConsult c → Room
        by_choice Nothing q h = by_consult q
        by_choice (Consult i) q h = inr (any, l, knows_quiet s i n any q l)
        by_choice c q h = elim h [ ]

    by_consult_within : is_busy s ≡ false → IsAny is_between_phase s → (b : Bool) → nat_le s.quiet s.now ≡ b → (if b then consult s else Nothing) ≡ Nothing → Room
    by_consult_within n any true y j = by_consult j
    by_consult_within n any false y j = by_rest n any (grind (arith, nat_tests, y))

    by_piece : is_busy s ≡ false → IsAny is_between_phase s → (i : ℕ) (p : Phase) → is_between_phase p ≡ true → within s i p ≡ Nothing → Room
    by_piece n any i (Between x) h j = pieces (is_hearable s.limits x) (x.share == 0) j
      where
        pieces : (a b : Bool) → (if a then (if b then or_else (consult_within s) (Proceed i x) else Proceed i x) else consult_within s) ≡ Nothing → Room
        pieces true true j = absurd (proceeds i x (both (consult_within s) (Proceed i x) j).1)
        pieces true false j = absurd (proceeds i x j)
        pieces false b j = by_consult_within n any (nat_le s.quiet s.now) refl j
    by_piece n any i p h j = cc

    by_end : (b : Bool) → is_ending s.course ≡ b → (if b then Nothing else between_jobs s) ≡ Nothing → Room
    by_end true h j = absurd (undismissed s id (Ready Query k) still h (λ st. refl) e)
    by_end false h j = by_consult (no_jobs s j).2

    by_copy : (b : Bool) → (if b then consult s else (if is_ending s.course then Nothing else between_jobs s)) ≡ Nothing → Room
    by_copy true j = by_consult j
    by_copy false j = by_end (is_ending s.course) refl j

    by_session : is_busy s ≡ false → (at : Option Connection) → find (in_phase is_between_phase) s.connections ≡ at → job_for s at ≡ Nothing → Room
    by_session n (Some c) f j =
        let h = found (in_phase is_between_phase) s.next s.connections c f o in
        by_piece n (any_there is_between_phase c.id s.connections c.phase h.0 h.1) c.id c.phase h.1 j
    by_session n None f j = by_copy (list_any (in_phase is_copying_phase) s.connections) j

    by_office : (b : Bool) → is_busy s ≡ b → (if b then Nothing else job_for s (find (in_phase is_between_phase) s.connections)) ≡ Nothing → IsAtWork s ⊎ Room
    by_office true h j = inl h
    by_office false h j = inr (by_session h (find (in_phase is_between_phase) s.connections) refl j)

-- 5. A session

pub session_is_awake : (s : State) → SessionIsAwake s
session_is_awake s c x still f e h = by_office (is_busy s) refl (stillness s still.0 still.1).job_is
  where
    pieces : (b : Bool) → (if b then or_else (consult_within s) (Proceed c.id x) else Proceed c.id x) ≡ Nothing → ⊥
    pieces true j = let k : Proceed c.id x ≡ Nothing = (both (consult_within s) (Proceed c.id x) j).1 in cc
    pieces false j = cc

    by_office : (b : Bool) → is_busy s ≡ b → (if b then Nothing else job_for s (find (in_phase is_between_phase) s.connections)) ≡ Nothing → IsAtWork s
    by_office true y j = y
    by_office false n j =
        let a : job_for s (Some c) ≡ Nothing = ap (job_for s) (sym f) ∙ j in
        let b : within s c.id (Between x) ≡ Nothing = ap (within s c.id) (sym e) ∙ a in
        let d : (if true then (if x.share == 0 then or_else (consult_within s) (Proceed c.id x) else Proceed c.id x) else consult_within s) ≡ Nothing = ap
        (λ t. cond t (cond (x.share == 0) (or_else (consult_within s) (Proceed c.id x)) (Proceed c.id x)) (consult_within s)) (sym h) ∙ b in
        absurd (pieces (x.share == 0) d)

-- 6. Calls

at_work : (s : State) (id : ℕ) (p : Phase) → phase_at id s.connections ≡ Some p → at_office p ≡ true → IsAtWork s
at_work s id p e h = cases (is_reviewing s.clock)
  where
    cases : (b : Bool) → (if b then true else list_any (in_phase at_office) s.connections) ≡ true
    cases true = refl
    cases false = any_there at_office id s.connections p e h

abbrev Held : State → Type 0
Held s = IsAtWork s ⊎ (IsAny is_resolving_phase s ⊎ Waits holds_calls s)

-- what holds the office holds calls
more_calls : (s : State) → IsAwake s → Held s
more_calls s (inl h) = inl h
more_calls s (inr (id, u, p, e, h, d, l, m)) = inr (inr (id, u, p, e, more p h, d, l, m))
  where
    more : (p : Phase) → holds_office p ≡ true → holds_calls p ≡ true
    more (Between x) h = refl
    more (Copying u) h = refl
    more p h = cc

copying_calls : (p : Phase) → is_copying_phase p ≡ true → HasDue holds_calls p
copying_calls (Copying u) h = (u, refl, refl)
copying_calls p h = cc

sought_something : (c : Connection) (p : Phase) → is_wanted_phase p ≡ true → sought c (call_in p) ≢ Nothing
sought_something c (Wanted k) h e = cc
sought_something c p h e = cc

pub calls_are_awake : (s : State) → IsDistinct s → CallsAreAwake s
calls_are_awake s o id k still e = by_dial (may_dial s) refl (stillness s still.0 still.1).dial_is
  where
    by_wanted : (at : Option Connection) → find (in_phase is_wanted_phase) s.connections ≡ at → choice_of at (λ c. sought c (call_in c.phase)) ≡ Nothing → ⊥
    by_wanted None f j = none_there is_wanted_phase id s.connections (Wanted k) f e refl
    by_wanted (Some c) f j = sought_something c c.phase (found (in_phase is_wanted_phase) s.next s.connections c f o).1 j

    session : (c : Connection) (p : Phase) → c.phase ≡ p → find (in_phase in_session) s.connections ≡ Some c → in_session p ≡ true → Held s
    session c (Stepping x) q f h = inl (at_work s c.id c.phase (found (in_phase in_session) s.next s.connections c f o).0 (rw q refl))
    session c (Between x) q f h = inr (inr (awaited s in_session holds_calls c (min x.until x.ends) o still f (rw q refl) (rw q refl)))
    session c p q f h = cc

    up : (c : Connection) (p : Phase) → c.phase ≡ p → find (in_phase is_up_phase) s.connections ≡ Some c → is_up_phase p ≡ true → Held s
    up c (Resolving d) q f h = inr (inl (any_there is_resolving_phase c.id s.connections c.phase (found (in_phase is_up_phase) s.next s.connections c f o).0 (rw q refl)))
    up c (Dialing d u) q f h = inr (inr (awaited s is_up_phase holds_calls c u o still f (rw q refl) (rw q refl)))
    up c (Connected d u) q f h = inr (inr (awaited s is_up_phase holds_calls c u o still f (rw q refl) (rw q refl)))
    up c p q f h = cc

    guest : (c : Connection) (p : Phase) → c.phase ≡ p → find (in_phase is_guest_phase) s.connections ≡ Some c → is_guest_phase p ≡ true → Held s
    guest c (Guest t) q f h = more_calls s (guests_are_awake s o c.id t still ((found (in_phase is_guest_phase) s.next s.connections c f o).0 ∙ ap Some q))
    guest c p q f h = cc

    one : (t : Phase → Bool) → ((c : Connection) (p : Phase) → c.phase ≡ p → find (in_phase t) s.connections ≡ Some c → t p ≡ true → Held s) → IsAny t s → Held s
    one t k any = let f = any_found t s.connections any in k f.0 f.0.phase refl f.1 (found (in_phase t) s.next s.connections f.0 f.1 o).1

    may : (a b d g h i : Bool) → is_ending s.course ≡ a → list_any (in_phase in_session) s.connections ≡ b → list_any (in_phase is_up_phase) s.connections ≡ d
        → list_any (in_phase is_copying_phase) s.connections ≡ g → list_any (in_phase is_guest_phase) s.connections ≡ i
        → (if a then false else (if b then false else (if d then false else (if g then false else (if h then not i else true))))) ≡ false → Held s
    may true b d g h i ea eb ed eg ei m = absurd (undismissed s id (Wanted k) still ea (λ st. refl) e)
    may false true d g h i ea eb ed eg ei m = one in_session session eb
    may false false true g h i ea eb ed eg ei m = one is_up_phase up ed
    may false false false true h i ea eb ed eg ei m = inr (inr (waits_by s is_copying_phase holds_calls o still copying_calls eg))
    may false false false false true true ea eb ed eg ei m = one is_guest_phase guest ei
    may false false false false true false ea eb ed eg ei m = cc
    may false false false false false i ea eb ed eg ei m = cc

    by_dial : (b : Bool) → may_dial s ≡ b → (if b then choice_of (find (in_phase is_wanted_phase) s.connections) (λ c. sought c (call_in c.phase)) else Nothing) ≡ Nothing → Held s
    by_dial true m j = absurd (by_wanted (find (in_phase is_wanted_phase) s.connections) refl j)
    by_dial false m j =
        may (is_ending s.course) (list_any (in_phase in_session) s.connections) (list_any (in_phase is_up_phase) s.connections) (list_any (in_phase is_copying_phase) s.connections)
        s.guest_first (list_any (in_phase is_guest_phase) s.connections)
        refl refl refl refl refl m

pub commands_are_awake : (s : State) → CommandsAreAwake s
commands_are_awake s id i still e = cases (list_any (goes_on i) s.connections) refl
  where
    cases : (b : Bool) → list_any (goes_on i) s.connections ≡ b → b ≡ true
    cases true h = refl
    cases false h =
        let w = stillness s still.0 still.1 in
        let f = nobody (find (is_to_tell s.connections) s.connections) (λ c. Settle c.id (Respond (answered s.now (limits_now s) c.door 0)))
        (λ c e. settle_something c.id (Respond (answered s.now (limits_now s) c.door 0))) w.call_over_is in
        absurd (none_there (told_phase s.connections) id s.connections (Calling i) f e (rw h refl))

-- 7. Doors, and the end

pub doors_are_awake : (s : State) → DoorsAreAwake s
doors_are_awake s d still n l k p = by_arriving (list_any (in_phase is_arriving_phase) s.connections) refl rest
  where
    numbers : nat_lt s.next (2 ^ 63) ≡ true
    numbers = grind (arith, nat_tests, l)

    Rest : Bool → Choice
    Rest b = if b then Nothing else or_else (admit s Partners) (or_else (admit s Commands) (admit s Requests))

    rest : Rest (list_any (in_phase is_arriving_phase) s.connections) ≡ Nothing
    rest =
        let any = list_any (in_phase is_arriving_phase) s.connections in
        ap (λ b. if b then Rest any else Nothing) (sym numbers) ∙
        (ap (λ b. if b then Nothing else (if nat_lt s.next (2 ^ 63) then Rest any else Nothing)) (sym n) ∙ (stillness s still.0 still.1).admission_is)

    not_admitted : (d : Door) → gate s d ≡ Knocked → has_place s d ≡ true → admit s d ≡ Nothing → ⊥
    not_admitted d k p j =
        let b : Admit d ≡ Nothing = ap (λ b. if b then Admit d else Nothing) (sym p) ∙ (ap (λ g. if is_knocked g then (if has_place s d then Admit d else Nothing) else Nothing) (sym k) ∙ j) in cc

    by_door : (d : Door) → gate s d ≡ Knocked → has_place s d ≡ true → or_else (admit s Partners) (or_else (admit s Commands) (admit s Requests)) ≡ Nothing → ⊥
    by_door Partners k p j = not_admitted Partners k p (both (admit s Partners) (or_else (admit s Commands) (admit s Requests)) j).0
    by_door Commands k p j = not_admitted Commands k p (both (admit s Commands) (admit s Requests) (both (admit s Partners) (or_else (admit s Commands) (admit s Requests)) j).1).0
    by_door Requests k p j = not_admitted Requests k p (both (admit s Commands) (admit s Requests) (both (admit s Partners) (or_else (admit s Commands) (admit s Requests)) j).1).1
    by_door Calls k p j = cc

    by_arriving : (b : Bool) → list_any (in_phase is_arriving_phase) s.connections ≡ b → Rest b ≡ Nothing → b ≡ true
    by_arriving true e j = refl
    by_arriving false e j = absurd (by_door d k p j)

pub end_is_awake : (s : State) → EndIsAwake s
end_is_awake s still = (λ st e. called (sym (ap (finish s) e) ∙ w.finish_is), λ e. serving (is_enough s) (sym (ap (finish s) e) ∙ w.finish_is))
  where
    w : Stillness s
    w = stillness s still.0 still.1

    called : {st : Status} → Finish st ≡ Nothing → ⊥
    called e = cc

    serving : (b : Bool) → (if b then Finish Stopped else Nothing) ≡ Nothing → b ≡ false
    serving true e = cc
    serving false e = refl

goes_somewhere : (i : ℕ) (cs : List Connection) → list_any (goes_on i) cs ≡ true → (q : Phase) × (phase_at i cs ≡ Some q)
goes_somewhere i [] e = cc
goes_somewhere i (c ∷ cs) e = split (goes_somewhere i cs) (c.id == i) e
  where
    split : (list_any (goes_on i) cs ≡ true → (q : Phase) × (phase_at i cs ≡ Some q)) → (b : Bool)
        → ((if b then not (is_parting_phase c.phase) else false) || list_any (goes_on i) cs) ≡ true → (q : Phase) × (cond b (Some c.phase) (phase_at i cs) ≡ Some q)
    split more true e = (c.phase, refl)
    split more false e = more e

-- what is left of a station that ends
abbrev Leftover : State → Type 0
Leftover s = IsAtWork s ⊎ (IsAny is_arriving_phase s ⊎ Waits has_time s)

-- a command waits for a call that came after it, and so on: at last for one that has a session
leftover : (s : State) (n id : ℕ) (p : Phase) → IsDistinct s → Each (Bounded s.now s.limits) s.connections → IsStill s → is_ending s.course ≡ true → s.next ≤ id + n
    → phase_at id s.connections ≡ Some p → Leftover s
leftover s zero id p o w still en le e =
    let k = known id s.next s.connections p e o in
    let less : id < s.next = grind (arith, nat_tests, k) in absurd (omega (arith, less, le))
leftover s (suc n) id p o w still en le e = cases p e (λ i q f g. leftover s n i q o w still en f g)
  where
    timed : (p : Phase) (u : ℕ) → phase_at id s.connections ≡ Some p → has_time p ≡ true → due p ≡ Some u → Leftover s
    timed p u e h d = inr (inr (id, u, p, e, h, d, on_time s id u p still e d, knows_deadlines s id u p e d))

    cases : (p : Phase) → phase_at id s.connections ≡ Some p → ((i : ℕ) (q : Phase) → s.next ≤ i + n → phase_at i s.connections ≡ Some q → Leftover s) → Leftover s
    cases Arriving e more = inr (inl (any_there is_arriving_phase id s.connections Arriving e refl))
    cases (Stranger u r) e more = absurd (undismissed s id (Stranger u r) still en (λ st. refl) e)
    cases (Guest t) e more = absurd (undismissed s id (Guest t) still en (λ st. refl) e)
    cases (Stepping x) e more = inl (at_work s id (Stepping x) e refl)
    cases (Between x) e more = timed (Between x) (min x.until x.ends) e refl refl
    cases (Parting u) e more = timed (Parting u) u e refl refl
    cases (Asking u) e more = absurd (undismissed s id (Asking u) still en (λ st. refl) e)
    cases (Ready r k) e more = absurd (undismissed s id (Ready r k) still en (λ st. refl) e)
    cases (Served r) e more = inl (at_work s id (Served r) e refl)
    cases (Calling i) e more =
        let g = goes_somewhere i s.connections (commands_are_awake s id i still e) in
        let t = at_phase s.now s.limits id s.connections (Calling i) e w in
        let less : id < i = t.1 in
        more i g.0 (omega (arith, less, le)) g.1
    cases (Copying u) e more = timed (Copying u) u e refl refl
    cases (Answered u k) e more = timed (Answered u k) u e refl refl
    cases (Wanted c) e more = absurd (undismissed s id (Wanted c) still en (λ st. refl) e)
    cases (Resolving c) e more = absurd (undismissed s id (Resolving c) still en (λ st. refl) e)
    cases (Dialing c u) e more = absurd (undismissed s id (Dialing c u) still en (λ st. refl) e)
    cases (Connected c u) e more = absurd (undismissed s id (Connected c u) still en (λ st. refl) e)

end_comes_of : (s : State) → IsDistinct s → Each (Bounded s.now s.limits) s.connections → EndComes s
end_comes_of s o w st still en = by_review (is_reviewing s.clock) refl (sym (ap (departure s) en) ∙ (stillness s still.0 still.1).departure_is)
  where
    ending : is_ending s.course ≡ true
    ending = rw en refl

    at_head : (c : Connection) (cs : List Connection) → phase_at c.id (c ∷ cs) ≡ Some c.phase
    at_head c cs = grind (arith, nat_tests)

    by_list : (cs : List Connection) → s.connections ≡ cs → departed st cs ≡ Nothing → Leftover s
    by_list [] e j = cc
    by_list (c ∷ cs) e j = leftover s s.next c.id c.phase o w still ending (omega arith) (ap (phase_at c.id) e ∙ at_head c cs)

    by_review : (b : Bool) → is_reviewing s.clock ≡ b → (if b then Nothing else departed st s.connections) ≡ Nothing → Leftover s
    by_review true h j = inl (rw h refl)
    by_review false h j = by_list s.connections refl j

pub end_comes : (l : Limits) (ms : List Move) → EndComes (run (start l) ms)
end_comes l ms = end_comes_of (run (start l) ms) (run_distinct (start l) ms tt) (run_within (start l) ms tt tt)
