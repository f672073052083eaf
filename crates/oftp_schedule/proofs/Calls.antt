-- Whom a call calls never changes, and it hangs up as often as the limits say. The clock has one call of a partner at a time.
use Rattle.std.proofs.Common.{◌||◌, inl, inr, ◌⊎◌, nat_lt, subst, ◌≡◌, ◌≢◌, ℕ, zero, suc, ◌+◌, ◌-◌, ◌≤◌, ◌==◌, ◌^◌, Bool, true, false, cond, if◌then◌else◌, List, [], ◌∷◌, ◌++◌, Option, Some, None, map, filter, find, refl, ap, sym, ◌∙◌, arith}
use Rattle.std.proofs.lemmas.Bool.Decides.{nat_tests, eqb_tells}
use Rattle.std.proofs.lemmas.List.Sums.{sum_by-cons, sum_by-append}
use Rattle.std.specs.List.{list_any}
use Rattle.oftp_schedule.specs.declared.connection.Door.{Door}
use Rattle.oftp_schedule.specs.declared.connection.Door.TheVariants.{Partners, Commands, Requests, Calls}
use Rattle.oftp_schedule.specs.declared.connection.Request.TheVariants.{Query, Update}
use Rattle.oftp_schedule.specs.declared.connection.Asker.{Asker}
use Rattle.oftp_schedule.specs.declared.connection.Asker.TheVariants.{ByClock, By}
use Rattle.oftp_schedule.specs.declared.connection.Way.{Way}
use Rattle.oftp_schedule.specs.declared.connection.Way.TheVariants.{In, Out, Unanswered}
use Rattle.oftp_schedule.specs.declared.connection.Input.{Input}
use Rattle.oftp_schedule.specs.declared.connection.Input.TheVariants.{Here, Last, Gone}
use Rattle.oftp_schedule.specs.declared.connection.End.TheVariants.{Own, Other}
use Rattle.oftp_schedule.specs.declared.connection.Phase.{Phase}
use Rattle.oftp_schedule.specs.declared.connection.Phase.TheVariants.{Arriving, Stranger, Guest, Stepping, Between, Parting, Asking, Ready, Served, Calling, Copying, Answered, Wanted, Resolving, Dialing, Connected}
use Rattle.oftp_schedule.specs.declared.connection.Signal.{Signal}
use Rattle.oftp_schedule.specs.declared.connection.Signal.TheVariants.{LetIn, Rejected, Asked, Wants, Waits, Ended, Done, Came, Went, Ends, Lost, Resolved, Up, Failed}
use Rattle.oftp_schedule.specs.declared.connection.Arrival.{Arrival}
use Rattle.oftp_schedule.specs.declared.connection.Arrival.TheVariants.{Somebody, Nobody, Later, Never}
use Rattle.oftp_schedule.specs.declared.connection.Event.{Event}
use Rattle.oftp_schedule.specs.declared.connection.Event.TheVariants.{Knock, Accepted, Passed, Told, Due, Reviewed, Over}
use Rattle.oftp_schedule.specs.declared.connection.Reason.TheVariants.{Evicted, TimedOut, Stopping, Finished}
use Rattle.oftp_schedule.specs.declared.connection.Action.{Action}
use Rattle.oftp_schedule.specs.declared.connection.Action.TheVariants.{Accept, Close, Part, Begin, Hear, Look, Change, Copy, Review, Resolve, Shut, Exit}
use Rattle.oftp_schedule.specs.declared.connection.Reply.{Reply}
use Rattle.oftp_schedule.specs.declared.connection.Reply.TheVariants.{Stay, Become, Queue, Want, Respond, Refuse, Connect, Redial, Yield, Farewell, Leave, Break}
use Rattle.oftp_schedule.specs.declared.connection.Choice.{Choice}
use Rattle.oftp_schedule.specs.declared.connection.Choice.TheVariants.{Nothing, Finish, Settle, Admit, Inspect, Start, Proceed, Consult, Perform, Lend, Seek, Depart}
use Rattle.oftp_schedule.specs.declared.connection.Gate.{Gate}
use Rattle.oftp_schedule.specs.declared.connection.Gate.TheVariants.{Quiet, Resting}
use Rattle.oftp_schedule.specs.declared.connection.Clock.{Clock}
use Rattle.oftp_schedule.specs.declared.connection.Clock.TheVariants.{Reviewing}
use Rattle.oftp_schedule.specs.declared.connection.Partner.{Partner}
use Rattle.oftp_schedule.specs.declared.connection.Call.{Call}
use Rattle.oftp_schedule.specs.declared.connection.Session.{Session}
use Rattle.oftp_schedule.specs.declared.connection.Step.{Step}
use Rattle.oftp_schedule.specs.declared.connection.Connection.{Connection}
use Rattle.oftp_schedule.specs.declared.connection.Limits.{Limits}
use Rattle.oftp_schedule.specs.Rules.{heard_on, after_step, at_end, answered_whole, went, rule, hurried_phase, hurried, is_arriving_phase, is_guest_phase, is_connected_phase, in_phase, call_of, call_in, call_at, is_clock, is_by_clock, calls, has_line, line, leaves_line, orders, ends_session, has_id, is_other, connection_at, phase_at, became, owed_phase, owed, shared_phase, shared}
use Rattle.oftp_schedule.specs.Machine.{State, Turn, with_connections, limits_now, new_call, at_door, edited, after_session, replied, in_numbers, replied_at, gate, with_gate, knocked, first_phase, makes_room, evicted, came, accepted, accepted_at, with_call, due_to, reviewed, received, called_session, choice, welcomed, chosen, start, Move, step, run, Tell, Ask}
use Rattle.oftp_schedule.specs.Apart.{one_if, how_many}
use Rattle.oftp_schedule.specs.History.{Note, Heard, Ordered, history}
use Rattle.oftp_schedule.specs.Life.{is_about, is_ordered}
use Rattle.oftp_schedule.specs.Deadlines.{HasOneLess, IsOnceLess}
use Rattle.oftp_schedule.specs.Calls.{is_clocks_call, HasOneEach, call_of_number, hangs_up, hang_ups, IsSameCall, KeepsCalls}
use Rattle.oftp_schedule.proofs.Numbers.{Distinct, same, differs, known, at_number}
use Rattle.oftp_schedule.proofs.Places.{absent, map_found, mapped, became_here, became_elsewhere, moved_here, removed, removed_elsewhere, or_at_end, pushed_at, pushed_elsewhere, unborn_at, found_at, found}
use Rattle.oftp_schedule.proofs.Fitting.{IsDistinct, step_distinct, settles, Settles, ChoiceFits, choice_fits, run_keeps, run_distinct}
use Rattle.oftp_schedule.proofs.Counting.{none_found}
use Rattle.oftp_schedule.proofs.Within.{step_limits}
use Rattle.oftp_schedule.proofs.Editing.{edit_holds, any_reply}
use Rattle.oftp_schedule.proofs.Choices.{IsHead, IsGuests, IsCalls, May, whoever, head_there, head_passes, of_choice}
use Rattle.oftp_schedule.proofs.Timely.{choice_less}

-- 1. What may become of a call

-- the call with a number in a table
abbrev At : ℕ → List Connection → Option Call
At id cs = call_at (connection_at id cs)

-- while it hangs up k times a call goes on, or ends
abbrev Goes : ℕ → Option Call → Option Call → Type 0
Goes k None None = k ≡ 0
Goes k None (Some d) = ⊥
Goes k (Some c) None = k ≤ c.times
Goes k (Some c) (Some d) = IsSameCall k c d

goes_on : (o : Option Call) → Goes 0 o o
goes_on None = refl
goes_on (Some c) = (refl, refl, omega arith)

ends : (o : Option Call) → Goes 0 o None
ends None = refl
ends (Some c) = omega arith

join : (j k : ℕ) (a b c : Option Call) → Goes j a b → Goes k b c → Goes (j + k) a c
join j k None None None g h = omega (arith, g, h)
join j k None None (Some z) g h = elim h [ ]
join j k None (Some y) c g h = elim g [ ]
join j k (Some x) None None g h = omega (arith, g, h)
join j k (Some x) None (Some z) g h = elim h [ ]
join j k (Some x) (Some y) None g h = let e = g.2 in omega (arith, e, h)
join j k (Some x) (Some y) (Some z) g h = let e = g.2 in let f = h.2 in (h.0 ∙ g.0, h.1 ∙ g.1, omega (arith, e, f))

-- 2. How often an order hangs up

abbrev hung : ℕ → List Action → ℕ
hung id acts = hang_ups id (map Ordered acts)

abbrev hangs : Reply → ℕ
hangs (Redial q) = 1
hangs (Yield q) = 1
hangs r = 0

hung_own : (id : ℕ) (p : Phase) (r : Reply) → hung id (orders id p r) ≡ hangs r
hung_own id p Stay = refl
hung_own id p (Become q) = refl
hung_own id p (Queue q) = refl
hung_own id p (Want n) = refl
hung_own id p (Respond q) = rw (same id) refl
hung_own id p (Refuse q why) = rw (same id) refl
hung_own id p (Connect q) = rw (same id) refl
hung_own id p (Redial q) = rw (same id) refl
hung_own id p (Yield q) = rw (same id) refl
hung_own id p (Farewell q) = elim (has_line p) as (λ b. hung id (line id Finished b ++ Part id ∷ []) ≡ 0) [ true ↦ rw (same id) refl | false ↦ rw (same id) refl ]
hung_own id p (Leave why) = elim (leaves_line p why) as (λ b. hung id (line id why b ++ Close id why ∷ []) ≡ 0) [ true ↦ rw (same id) refl | false ↦ rw (same id) refl ]
hung_own id p (Break why) = rw (same id) refl

hung_other : (id i : ℕ) (p : Phase) (r : Reply) → (i == id) ≡ false → hung id (orders i p r) ≡ 0
hung_other id i p Stay n = refl
hung_other id i p (Become q) n = refl
hung_other id i p (Queue q) n = refl
hung_other id i p (Want m) n = refl
hung_other id i p (Respond q) n = rw n refl
hung_other id i p (Refuse q why) n = rw n refl
hung_other id i p (Connect q) n = rw n refl
hung_other id i p (Redial q) n = rw n refl
hung_other id i p (Yield q) n = rw n refl
hung_other id i p (Farewell q) n = elim (has_line p) as (λ b. hung id (line i Finished b ++ Part i ∷ []) ≡ 0) [ true ↦ rw n refl | false ↦ rw n refl ]
hung_other id i p (Leave why) n = elim (leaves_line p why) as (λ b. hung id (line i why b ++ Close i why ∷ []) ≡ 0) [ true ↦ rw n refl | false ↦ rw n refl ]
hung_other id i p (Break why) n = rw n refl

-- an action that is no hanging up
silent : (id : ℕ) (a : Action) → hangs_up a ≡ false → hung id (a ∷ []) ≡ 0
silent id a n = elim (is_about id a) as (λ b. 0 + cond (if b then hangs_up a else false) 1 0 ≡ 0) [ true ↦ rw n refl | false ↦ refl ]

-- 3. The call with a number, after each edit of the table

edited_at : (f : Connection → Connection) → ((c : Connection) → (f c).id ≡ c.id) → ((c : Connection) → call_in (f c).phase ≡ call_in c.phase) → (id : ℕ) (cs : List Connection)
    → At id (map f cs) ≡ At id cs
edited_at f k h id cs = ap call_at (mapped f k id cs) ∙ cases (connection_at id cs)
  where
    cases : (at : Option Connection) → call_at (map_found f at) ≡ call_at at
    cases None = refl
    cases (Some c) = h c

owed_call : (p : Phase) → call_in (owed_phase p) ≡ call_in p
owed_call (Ready r k) = refl
owed_call p = refl

shared_call : (k : ℕ) (p : Phase) → call_in (shared_phase k p) ≡ call_in p
shared_call k (Between x) = refl
shared_call k p = refl

hurried_call : (v : ℕ) (p : Phase) → call_in (hurried_phase v p) ≡ call_in p
hurried_call v (Answered u o) = refl
hurried_call v p = refl

after_at : (b : Bool) (id : ℕ) (cs : List Connection) → At id (after_session b cs) ≡ At id cs
after_at true id cs = edited_at owed (λ _. refl) (λ c. owed_call c.phase) id cs
after_at false id cs = refl

-- the call of one to whom something was replied
abbrev call_after : Option Call → Reply → Option Call
call_after o Stay = o
call_after o (Become q) = call_in q
call_after o (Queue q) = call_in q
call_after o (Want n) = None
call_after o (Respond q) = call_in q
call_after o (Refuse q why) = call_in q
call_after o (Connect q) = call_in q
call_after o (Redial q) = call_in q
call_after o (Yield q) = call_in q
call_after o (Farewell q) = call_in q
call_after o (Leave why) = None
call_after o (Break why) = None

edited_own : (s : State) (c : Connection) (r : Reply) → connection_at c.id s.connections ≡ Some c → At c.id (edited s c r) ≡ call_after (call_in c.phase) r
edited_own s c r e = cases r
  where
    set : (q : Phase) → At c.id (map (became c.id q) s.connections) ≡ call_in q
    set q = ap call_at (became_here c q s.connections e)

    moved : (q : Phase) → At c.id (filter (is_other c.id) s.connections ++ at_door c.id c.door q ∷ []) ≡ call_in q
    moved q = ap call_at (moved_here c q s.connections)

    out : At c.id (filter (is_other c.id) s.connections) ≡ None
    out = ap call_at (removed c.id s.connections)

    cases : (r : Reply) → At c.id (edited s c r) ≡ call_after (call_in c.phase) r
    cases Stay = ap call_at e
    cases (Become q) = set q
    cases (Queue q) = moved q
    cases (Want n) =
        let d = at_door s.next Calls (Wanted (new_call s.limits n (By c.id))) in
        ap call_at (pushed_at c.id (map (became c.id (Calling s.next)) s.connections) d ∙ ap (λ at. or_at_end at (s.next == c.id) d) (became_here c (Calling s.next) s.connections e))
    cases (Respond q) = set q
    cases (Refuse q why) = set q
    cases (Connect q) = set q
    cases (Redial q) = set q
    cases (Yield q) = moved q
    cases (Farewell q) = set q
    cases (Leave why) = out
    cases (Break why) = out

-- a new call has all its times, and one by the clock is the only one of its partner
abbrev IsFirstCall : State → Option Call → Type 0
IsFirstCall s None = Unit {0}
IsFirstCall s (Some d) = (d.times ≡ s.limits.times) × ((n : ℕ) → is_by_clock n (Some d) ≡ true → list_any (calls n) s.connections ≡ false)

-- nothing is another call than before, but a new one, which has the next number
abbrev OrNew : ℕ → State → List Connection → Type 0
OrNew id s cs = (At id cs ≡ At id s.connections) ⊎ ((s.next ≡ id) × IsFirstCall s (At id cs))

pushed_new : (id : ℕ) (s : State) (cs : List Connection) (d : Connection) → IsDistinct s → connection_at id cs ≡ connection_at id s.connections → d.id ≡ s.next
    → IsFirstCall s (call_in d.phase) → OrNew id s (cs ++ d ∷ [])
pushed_new id s cs d o e i f = elim (eqb_tells s.next id) as (λ _. OrNew id s (cs ++ d ∷ [])) [
  | inl y ↦
      (let unknown : nat_lt id s.next ≡ false = let q = y.1 in grind (arith, nat_tests, q) in
      let is : (d.id == id) ≡ true = ap (λ j. j == id) i ∙ y.0 in
      let new : connection_at id (cs ++ d ∷ []) ≡ Some d =
      pushed_at id cs d ∙ ap (λ at. or_at_end at (d.id == id) d) (e ∙ unborn_at id s.next s.connections o unknown) ∙ ap (λ b. or_at_end None b d) is in
      inr (y.1, subst (IsFirstCall s) (sym (ap call_at new)) f))
  | inr n ↦ inl (ap call_at (pushed_elsewhere id cs d (ap (λ j. j == id) i ∙ n.0) ∙ e))
]

edited_other : (s : State) (id : ℕ) (c : Connection) (r : Reply) → IsDistinct s → c.id ≢ id → OrNew id s (edited s c r)
edited_other s id c r o ne =
    edit_holds (OrNew id s) (λ q. Unit {0}) s c (inl refl) (λ q k. set q) (λ q k. moved q)
    (λ n. pushed_new id s (map (became c.id (Calling s.next)) s.connections) (at_door s.next Calls (Wanted (new_call s.limits n (By c.id)))) o
    (became_elsewhere c.id id (Calling s.next) s.connections ne) refl (refl, λ m y. cc)) out r (any_reply r)
  where
    set : (q : Phase) → OrNew id s (map (became c.id q) s.connections)
    set q = inl (ap call_at (became_elsewhere c.id id q s.connections ne))

    moved : (q : Phase) → OrNew id s (filter (is_other c.id) s.connections ++ at_door c.id c.door q ∷ [])
    moved q = inl (ap call_at (pushed_elsewhere id (filter (is_other c.id) s.connections) (at_door c.id c.door q) (differs c.id id ne) ∙ removed_elsewhere c.id id s.connections ne))

    out : OrNew id s (filter (is_other c.id) s.connections)
    out = inl (ap call_at (removed_elsewhere c.id id s.connections ne))

-- 4. What a reply makes of a call

-- whoever has a number, one move takes no number back, and its call goes on, or ends, or is new
abbrev Moves : ℕ → State → Turn → Type 0
Moves id s t =
    (s.next ≤ t.0.next) × (Goes (hung id t.1) (At id s.connections) (At id t.0.connections)
    ⊎ ((s.next ≡ id) × (hung id t.1 ≡ 0) × IsFirstCall s (At id t.0.connections)))

abbrev ReplyGoes : Option Call → Reply → Type 0
ReplyGoes o r = Goes (hangs r) o (call_after o r)

moves_or_new : (id : ℕ) (s t : State) (acts : List Action) → hung id acts ≡ 0 → s.next ≤ t.next → OrNew id s t.connections → Moves id s (t, acts)
moves_or_new id s t acts h le (inl e) =
    (le, inl (subst (λ (k : ℕ). Goes k (At id s.connections) (At id t.connections)) (sym h) (subst (Goes 0 (At id s.connections)) (sym e) (goes_on (At id s.connections)))))
moves_or_new id s t acts h le (inr f) = (le, inr (f.0, h, f.1))

moves_goes : (id : ℕ) (s t : State) (acts : List Action) → hung id acts ≡ 0 → s.next ≤ t.next → Goes 0 (At id s.connections) (At id t.connections) → Moves id s (t, acts)
moves_goes id s t acts h le g = (le, inl (subst (λ (k : ℕ). Goes k (At id s.connections) (At id t.connections)) (sym h) g))

after_new : (b : Bool) (id : ℕ) (s : State) (cs : List Connection) → OrNew id s cs → OrNew id s (after_session b cs)
after_new b id s cs (inl e) = inl (after_at b id cs ∙ e)
after_new b id s cs (inr f) = inr (f.0, subst (IsFirstCall s) (sym (after_at b id cs)) f.1)

replied_moves : (id : ℕ) (s : State) (c : Connection) (r : Reply) → IsDistinct s → connection_at c.id s.connections ≡ Some c → ReplyGoes (call_in c.phase) r → Moves id s (replied s c r)
replied_moves id s c r o e g = elim (eqb_tells c.id id) as (λ _. Moves id s (replied s c r)) [
  | inl y ↦ subst (λ (i : ℕ). Moves i s (replied s c r)) y.1 (omega arith, inl own)
  | inr n ↦ moves_or_new id s (replied s c r).0 (orders c.id c.phase r) (hung_other id c.id c.phase r n.0) (omega arith)
      (after_new (ends_session c.phase r) id s (edited s c r) (edited_other s id c r o n.1))
]
  where
    after : At c.id (replied s c r).0.connections ≡ call_after (call_in c.phase) r
    after = after_at (ends_session c.phase r) c.id (edited s c r) ∙ edited_own s c r e

    own : Goes (hung c.id (orders c.id c.phase r)) (At c.id s.connections) (At c.id (replied s c r).0.connections)
    own =
        subst (λ (k : ℕ). Goes k (At c.id s.connections) (At c.id (replied s c r).0.connections)) (sym (hung_own c.id c.phase r))
        (subst (λ (a : Option Call). Goes (hangs r) a (At c.id (replied s c r).0.connections)) (sym (ap call_at e)) (subst (Goes (hangs r) (call_in c.phase)) (sym after) g))

numbers_go : (o : Option Call) (next : ℕ) (r : Reply) → ReplyGoes o r → ReplyGoes o (in_numbers next r)
numbers_go o next (Want n) g = elim (nat_lt next (2 ^ 63)) as (λ b. ReplyGoes o (if b then Want n else Leave Stopping)) [ true ↦ ends o | false ↦ ends o ]
numbers_go o next r g = g

still : (id : ℕ) (s : State) → Moves id s (s, [])
still id s = moves_or_new id s s [] refl (omega arith) (inl refl)

replied_at_moves : (id : ℕ) (s : State) (t : Connection → Bool) (at : Option Connection) (f : Connection → Reply) → IsDistinct s → find t s.connections ≡ at
    → ((c : Connection) → at ≡ Some c → ReplyGoes (call_in c.phase) (f c)) → Moves id s (replied_at s at f)
replied_at_moves id s t None f o e k = still id s
replied_at_moves id s t (Some c) f o e k =
    replied_moves id s c (in_numbers s.next (f c)) o (found_at t s.next s.connections c e o) (numbers_go (call_in c.phase) s.next (f c) (k c refl))

-- 5. What is told

heard_call : (w : Way) (k : ℕ) → call_of (heard_on w k) ≡ call_of w
heard_call In k = refl
heard_call (Out c) k = refl
heard_call (Unanswered c j) k = elim (nat_lt k j) as (λ b. call_of (if b then Unanswered c (j - k) else Out c) ≡ Some c) [ true ↦ refl | false ↦ refl ]

step_goes : (now : ℕ) (x : Session) (w : Step) (i : Input) → ReplyGoes (call_of x.way) (after_step now x w i)
step_goes now x w Gone = ends (call_of x.way)
step_goes now x w i = subst (Goes 0 (call_of x.way)) (sym (heard_call x.way w.heard)) (goes_on (call_of x.way))

end_goes : (x : Session) (i : Input) → ReplyGoes (call_of x.way) (at_end x i)
end_goes x Here = goes_on (call_of x.way)
end_goes x Last = goes_on (call_of x.way)
end_goes x i = ends (call_of x.way)

whole_goes : (now : ℕ) (l : Limits) (d : Door) → ReplyGoes None (answered_whole now l d)
whole_goes now l Requests = refl
whole_goes now l d = refl

went_goes : (now : ℕ) (l : Limits) (d : Door) (u k : ℕ) → ReplyGoes None (went now l d u k)
went_goes now l d u zero = whole_goes now l d
went_goes now l d u (suc k) = refl

rule_goes : (now : ℕ) (l : Limits) (d : Door) (p : Phase) (g : Signal) → ReplyGoes (call_in p) (rule now l d p g)
rule_goes now l d (Stranger u r) LetIn = refl
rule_goes now l d (Stranger u r) Rejected = refl
rule_goes now l d (Stranger u r) Ends = refl
rule_goes now l d (Stranger u r) Lost = refl
rule_goes now l d (Guest t) Lost = refl
rule_goes now l d (Stepping x) (Waits w) = step_goes now x w w.input
rule_goes now l d (Stepping x) (Ended Own) = ends (call_of x.way)
rule_goes now l d (Stepping x) (Ended Other) = ends (call_of x.way)
rule_goes now l d (Between x) Came = goes_on (call_of x.way)
rule_goes now l d (Between x) (Went k) = goes_on (call_of x.way)
rule_goes now l d (Between x) Ends = end_goes x x.input
rule_goes now l d (Between x) Lost = ends (call_of x.way)
rule_goes now l d (Parting u) Ends = refl
rule_goes now l d (Parting u) Lost = refl
rule_goes now l d (Asking u) (Asked r) = refl
rule_goes now l d (Asking u) (Wants n) = refl
rule_goes now l d (Asking u) Rejected = refl
rule_goes now l d (Asking u) Ends = refl
rule_goes now l d (Asking u) Lost = refl
rule_goes now l d (Ready r k) Lost = refl
rule_goes now l d (Served r) (Done o) = refl
rule_goes now l d (Calling i) Lost = refl
rule_goes now l d (Copying u) Ends = refl
rule_goes now l d (Copying u) Lost = refl
rule_goes now l d (Answered u o) (Went k) = went_goes now l d u k
rule_goes now l d (Answered u o) Lost = refl
rule_goes now l d (Resolving c) Resolved = goes_on (Some c)
rule_goes now l d (Resolving c) Failed = ends (Some c)
rule_goes now l d (Dialing c u) Up = goes_on (Some c)
rule_goes now l d (Dialing c u) Failed = ends (Some c)
rule_goes now l d (Connected c u) Lost = ends (Some c)
rule_goes now l d p g = goes_on (call_in p)

filter_goes : (id i : ℕ) (cs : List Connection) → Goes 0 (At id cs) (At id (filter (is_other i) cs))
filter_goes id i cs = elim (eqb_tells i id) as (λ _. Goes 0 (At id cs) (At id (filter (is_other i) cs))) [
  | inl y ↦
      (let none : At id (filter (is_other i) cs) ≡ None = ap (λ j. At id (filter (is_other j) cs)) y.1 ∙ ap call_at (removed id cs) in
      subst (Goes 0 (At id cs)) (sym none) (ends (At id cs)))
  | inr n ↦ subst (Goes 0 (At id cs)) (sym (ap call_at (removed_elsewhere i id cs n.1))) (goes_on (At id cs))
]

became_goes : (id i : ℕ) (q : Phase) (cs : List Connection) → ((c : Connection) → connection_at i cs ≡ Some c → Goes 0 (call_in c.phase) (call_in q))
    → Goes 0 (At id cs) (At id (map (became i q) cs))
became_goes id i q cs k = elim (eqb_tells i id) as (λ _. Goes 0 (At id cs) (At id (map (became i q) cs))) [
  | inl y ↦ subst (λ (j : ℕ). Goes 0 (At j cs) (At j (map (became i q) cs))) y.1 (own (connection_at i cs) refl)
  | inr n ↦ subst (Goes 0 (At id cs)) (sym (ap call_at (became_elsewhere i id q cs n.1))) (goes_on (At id cs))
]
  where
    own : (at : Option Connection) → connection_at i cs ≡ at → Goes 0 (At i cs) (At i (map (became i q) cs))
    own None e =
        let after : At i (map (became i q) cs) ≡ None = ap call_at (mapped (became i q) (λ _. refl) i cs ∙ ap (map_found (became i q)) e) in
        subst (Goes 0 (At i cs)) (sym after) (ends (At i cs))
    own (Some c) e =
        let n = (at_number i cs c e).0 in
        let after : At i (map (became i q) cs) ≡ call_in q =
        ap (λ j. At j (map (became j q) cs)) (sym n) ∙ ap call_at (became_here c q cs (ap (λ j. connection_at j cs) n ∙ e)) in
        subst (λ (a : Option Call). Goes 0 a (At i (map (became i q) cs))) (sym (ap call_at e)) (subst (Goes 0 (call_in c.phase)) (sym after) (k c e))

hung_leave : (id i : ℕ) (p : Phase) → hung id (orders i p (Leave Evicted)) ≡ 0
hung_leave id i p = elim (eqb_tells i id) as (λ _. hung id (orders i p (Leave Evicted)) ≡ 0) [
  | inl y ↦ ap (λ j. hung id (orders j p (Leave Evicted))) y.1 ∙ hung_own id p (Leave Evicted)
  | inr n ↦ hung_other id i p (Leave Evicted) n.0
]

-- one is closed for another
evicted_goes : (id : ℕ) (s : State) (at : Option Connection)
    → (s.next ≤ (evicted s at).0.next) × Goes (hung id (evicted s at).1) (At id s.connections) (At id (evicted s at).0.connections)
evicted_goes id s None = (omega arith, goes_on (At id s.connections))
evicted_goes id s (Some c) =
    let out = filter (is_other c.id) s.connections in (
      omega arith,
      subst (λ (k : ℕ). Goes k (At id s.connections) (At id (after_session (ends_session c.phase (Leave Evicted)) out))) (sym (hung_leave id c.id c.phase))
          (subst (Goes 0 (At id s.connections)) (sym (after_at (ends_session c.phase (Leave Evicted)) id out)) (filter_goes id c.id s.connections)),
    )

first_call : (now : ℕ) (l : Limits) (d : Door) → call_in (first_phase now l d) ≡ None
first_call now l Partners = refl
first_call now l Requests = refl
first_call now l Commands = refl
first_call now l Calls = refl

came_moves : (id : ℕ) (s : State) (c : Connection) → Moves id s (came s c)
came_moves id s c =
    let q = first_phase s.now s.limits c.door in
    let t = with_connections s (map (became c.id q) s.connections) in
    let u = came s c in
    let h = evicted_goes id t (makes_room t c.door) in
    let g = became_goes id c.id q s.connections (λ d e. subst (Goes 0 (call_in d.phase)) (sym (first_call s.now s.limits c.door)) (ends (call_in d.phase))) in
    let none : 0 + hung id u.1 ≡ hung id u.1 = omega arith in (
      h.0,
      inl (subst (λ (k : ℕ). Goes k (At id s.connections) (At id u.0.connections)) none
          (join 0 (hung id u.1) (At id s.connections) (At id t.connections) (At id u.0.connections) g h.1)),
    )

gate_moves : (id : ℕ) (s t : State) (d : Door) (g : Gate) → s.next ≤ t.next → Goes 0 (At id s.connections) (At id t.connections) → Moves id s (with_gate t d g, [])
gate_moves id s t Partners g le h = (le, inl h)
gate_moves id s t Commands g le h = (le, inl h)
gate_moves id s t Requests g le h = (le, inl h)
gate_moves id s t Calls g le h = (le, inl h)

accepted_moves : (id : ℕ) (s : State) (c : Connection) (a : Arrival) → Moves id s (accepted s c a)
accepted_moves id s c Somebody = came_moves id s c
accepted_moves id s c Nobody = gate_moves id s (with_connections s (filter (is_other c.id) s.connections)) c.door Quiet (omega arith) (filter_goes id c.id s.connections)
accepted_moves id s c Later =
    gate_moves id s (with_connections s (filter (is_other c.id) s.connections)) c.door (Resting (s.now + s.limits.rest)) (omega arith) (filter_goes id c.id s.connections)
accepted_moves id s c Never = (omega arith, inl (filter_goes id c.id s.connections))

accepted_at_moves : (id : ℕ) (s : State) (at : Option Connection) (a : Arrival) → Moves id s (accepted_at s at a)
accepted_at_moves id s None a = still id s
accepted_at_moves id s (Some c) a = elim (is_arriving_phase c.phase) as (λ b. Moves id s (if b then accepted s c a else (s, []))) [ true ↦ accepted_moves id s c a | false ↦ still id s ]

due_moves : (id : ℕ) (s : State) (n : Partner) → IsDistinct s → Moves id s (due_to s n, [])
due_moves id s n o = cases (list_any (calls n.number) s.connections) refl (nat_lt s.next (2 ^ 63))
  where
    -- it is of this partner, of whom the clock has none
    first : list_any (calls n.number) s.connections ≡ false → IsFirstCall s (Some (new_call s.limits n ByClock))
    first none =
        (refl, λ m y. let is : n.number ≡ m = grind (arith, nat_tests, y) in subst (λ (k : ℕ). list_any (calls k) s.connections ≡ false) is none)

    cases : (b : Bool) → list_any (calls n.number) s.connections ≡ b → (d : Bool) → Moves id s (if b then s else (if d then with_call s n else s), [])
    cases true e d = still id s
    cases false e true =
        moves_or_new id s (with_call s n) [] refl (omega arith)
        (pushed_new id s s.connections (at_door s.next Calls (Wanted (new_call s.limits n ByClock))) o refl refl (first e))
    cases false e false = still id s

reviewed_moves : (id : ℕ) (s : State) (c : Clock) → Moves id s (reviewed s c, [])
reviewed_moves id s Reviewing = moves_or_new id s (reviewed s Reviewing) [] refl (omega arith) (inl refl)
reviewed_moves id s c = still id s

received_moves : (id : ℕ) (s : State) (e : Event) → IsDistinct s → Moves id s (received s e)
received_moves id s (Knock d) o = gate_moves id s s d (knocked (gate s d)) (omega arith) (goes_on (At id s.connections))
received_moves id s (Accepted i a) o = accepted_at_moves id s (connection_at i s.connections) a
received_moves id s (Passed t) o = (omega arith, inl (goes_on (At id s.connections)))
received_moves id s (Told i g) o =
    replied_at_moves id s (has_id i) (connection_at i s.connections) (λ c. rule s.now (limits_now s) c.door c.phase g) o refl
    (λ c e. rule_goes s.now (limits_now s) c.door c.phase g)
received_moves id s (Due n) o = due_moves id s n o
received_moves id s Reviewed o = reviewed_moves id s s.clock
received_moves id s (Over st) o = (omega arith, inl (goes_on (At id s.connections)))

-- 6. What is chosen

-- a call that hangs up may do so once less
less_goes : (s : State) (id : ℕ) (p q : Phase) → call_at (connection_at id s.connections) ≡ call_in p → HasOneLess s id q → Goes 1 (call_in p) (call_in q)
less_goes s id p q e (c, f, l, is) =
    subst (λ (o : Option Call). Goes 1 o (call_in q)) (sym f ∙ e) (subst (λ (z : Phase). Goes 1 (Some c) (call_in z)) (sym is) (refl, refl, omega (arith, l)))

-- what may become of one without anything that is told
settled_goes : (s : State) (id : ℕ) (p : Phase) (r : Reply) → call_at (connection_at id s.connections) ≡ call_in p → settles p r ≡ true → IsOnceLess s (Settle id r)
    → ReplyGoes (call_in p) r
settled_goes s id (Stranger u r) (Leave why) e h l = refl
settled_goes s id (Guest t) (Leave why) e h l = refl
settled_goes s id (Between x) (Break why) e h l = ends (call_of x.way)
settled_goes s id (Between x) (Yield q) e h l = less_goes s id (Between x) q e l
settled_goes s id (Parting u) (Leave why) e h l = refl
settled_goes s id (Asking u) (Leave why) e h l = refl
settled_goes s id (Asking v) (Refuse (Answered u o) Stopping) e h l = refl
settled_goes s id (Ready r k) (Refuse (Answered u o) Stopping) e h l = refl
settled_goes s id (Calling i) (Respond (Answered u o)) e h l = refl
settled_goes s id (Copying v) (Refuse (Answered u o) TimedOut) e h l = refl
settled_goes s id (Answered u o) (Leave why) e h l = refl
settled_goes s id (Wanted c) (Leave why) e h l = ends (Some c)
settled_goes s id (Resolving c) (Leave why) e h l = ends (Some c)
settled_goes s id (Dialing c u) (Leave why) e h l = ends (Some c)
settled_goes s id (Connected c u) (Redial q) e h l = less_goes s id (Connected c u) q e l
settled_goes s id (Connected c u) (Leave why) e h l = ends (Some c)
settled_goes s id p r e h l = cc

-- a session that begins is a guest's, or that of the call for which it begins
abbrev IsOfItsCall : State → Choice → Type 0
IsOfItsCall s (Start id x) = At id s.connections ≡ call_of x.way
IsOfItsCall s c = Unit {0}

head_call : (t : Phase → Bool) (s : State) (id : ℕ) (p : Phase) → IsDistinct s → IsHead t s id p → At id s.connections ≡ call_in p
head_call t s id p o h = ap call_at (head_there t s id p o h) ∙ ap call_in h.phase_is

guest_starts : (s : State) (id : ℕ) (x : Session) → IsDistinct s → IsGuests s id x → IsOfItsCall s (Start id x)
guest_starts s id x o g =
    head_call is_guest_phase s id g.phase o g.first ∙ no_call g.phase (head_passes is_guest_phase s id g.phase g.first) ∙ sym (ap (λ (y : Session). call_of y.way) g.session_is)
  where
    no_call : (p : Phase) → is_guest_phase p ≡ true → call_in p ≡ None
    no_call (Guest t) h = refl
    no_call p h = cc

call_starts : (s : State) (id : ℕ) (x : Session) → IsDistinct s → IsCalls s id x → IsOfItsCall s (Start id x)
call_starts s id x o g = subst (IsOfItsCall s) (sym g.session_is) (one (Some g.call) (head_call is_connected_phase s id g.phase o g.first ∙ g.call_is))
  where
    one : (k : Option Call) → At id s.connections ≡ k → IsOfItsCall s (called_session s.now s.limits id k)
    one None e = tt
    one (Some k) e = e

may_start : (s : State) (c : Choice) → IsDistinct s → May s c → IsOfItsCall s c
may_start s (Start id x) o m = by m.2
  where
    by : IsGuests s id x ⊎ IsCalls s id x → IsOfItsCall s (Start id x)
    by (inl g) = guest_starts s id x o g
    by (inr g) = call_starts s id x o g
may_start s c o m = tt

choice_starts : (s : State) → IsDistinct s → IsOfItsCall s (choice s)
choice_starts s o = of_choice (IsOfItsCall s) s (whoever (IsOfItsCall s) s (λ id r. tt)) (λ c m. may_start s c o m)

chosen_moves : (id : ℕ) (s : State) (c : Choice) → IsDistinct s → ChoiceFits s.connections c → IsOnceLess s c → IsOfItsCall s c → Moves id s (chosen s c)
chosen_moves id s c o f l b = cases c f l b
  where
    -- connection i comes into this phase
    set : (i : ℕ) (q : Phase) → ((c : Connection) → connection_at i s.connections ≡ Some c → Goes 0 (call_in c.phase) (call_in q))
        → Goes 0 (At id s.connections) (At id (map (became i q) s.connections))
    set i q k = became_goes id i q s.connections k

    there : (i : ℕ) (c : Connection) → connection_at i s.connections ≡ Some c → phase_at i s.connections ≡ Some c.phase
    there i c e = (at_number i s.connections c e).1

    cases : (c : Choice) → ChoiceFits s.connections c → IsOnceLess s c → IsOfItsCall s c → Moves id s (chosen s c)
    cases Nothing f l b = still id s
    cases (Finish st) f l b =
        moves_or_new id s (chosen s (Finish st)).0 (Shut ∷ []) (silent id Shut refl) (omega arith)
        (inl (edited_at (hurried (s.now + s.limits.farewell)) (λ _. refl) (λ c. hurried_call (s.now + s.limits.farewell) c.phase) id s.connections))
    cases (Settle i r) f l b =
        replied_at_moves id s (has_id i) (connection_at i s.connections) (λ c. r) o refl
        (λ c e. settled_goes s i c.phase r (ap call_at e) (subst (λ at. Settles at r) (there i c e) f) l)
    cases (Admit d) f l b = elim (nat_lt s.next (2 ^ 63)) as (λ b. Moves id s (if b then welcomed s d else (s, []))) [
      | true ↦ moves_or_new id s (welcomed s d).0 (Accept s.next d ∷ []) (silent id (Accept s.next d) refl) (omega arith)
          (pushed_new id s s.connections (at_door s.next d Arriving) o refl refl tt)
      | false ↦ still id s
    ]
    cases Inspect f l b = moves_or_new id s (chosen s Inspect).0 (Review ∷ []) (silent id Review refl) (omega arith) (inl refl)
    cases (Start i x) f l b =
        moves_goes id s (chosen s (Start i x)).0 (Begin i ∷ []) (silent id (Begin i) refl) (omega arith)
        (set i (Stepping x) (λ c e. subst (Goes 0 (call_in c.phase)) (sym (ap call_at e) ∙ b) (goes_on (call_in c.phase))))
    cases (Proceed i x) f l b =
        moves_goes id s (chosen s (Proceed i x)).0 (Hear i ∷ []) (silent id (Hear i) refl) (omega arith)
        (set i (Stepping x) (λ c e. let is : Some c.phase ≡ Some (Between x) = sym (there i c e) ∙ f in
        let q : c.phase ≡ Between x = cc in subst (Goes 0 (call_in c.phase)) (ap call_in q) (goes_on (call_in c.phase))))
    cases (Consult i) f l b =
        moves_goes id s (chosen s (Consult i)).0 (Look i ∷ []) (silent id (Look i) refl) (omega arith)
        (subst (Goes 0 (At id s.connections)) (sym (edited_at (shared s.limits.share) (λ _. refl) (λ c. shared_call s.limits.share c.phase) id (map (became i (Served Query)) s.connections)))
        (set i (Served Query) (λ c e. ends (call_in c.phase))))
    cases (Perform i) f l b =
        moves_goes id s (chosen s (Perform i)).0 (Change i ∷ []) (silent id (Change i) refl) (omega arith) (set i (Served Update) (λ c e. ends (call_in c.phase)))
    cases (Lend i) f l b =
        moves_goes id s (chosen s (Lend i)).0 (Copy i ∷ []) (silent id (Copy i) refl) (omega arith)
        (set i (Copying (s.now + s.limits.copying)) (λ c e. ends (call_in c.phase)))
    cases (Seek i k) f l b =
        moves_goes id s (chosen s (Seek i k)).0 (Resolve i ∷ []) (silent id (Resolve i) refl) (omega arith)
        (set i (Resolving k) (λ c e. let is : Some c.phase ≡ Some (Wanted k) = sym (there i c e) ∙ f in
        let q : c.phase ≡ Wanted k = cc in subst (Goes 0 (call_in c.phase)) (ap call_in q) (goes_on (call_in c.phase))))
    cases (Depart st) f l b = moves_or_new id s (chosen s (Depart st)).0 (Exit st ∷ []) (silent id (Exit st) refl) (omega arith) (inl refl)

step_moves : (id : ℕ) (s : State) (m : Move) → IsDistinct s → Moves id s (step s m)
step_moves id s (Tell e) o = received_moves id s e o
step_moves id s Ask o = chosen_moves id s (choice s) o (choice_fits s o) (choice_less s o) (choice_starts s o)

-- 7. Over every list of moves

-- what a move tells and orders, and what comes after it
history_hung : (id : ℕ) (s : State) (m : Move) (ms : List Move) → hang_ups id (history s (m ∷ ms)) ≡ hung id (step s m).1 + hang_ups id (history (step s m).0 ms)
history_hung id s m ms = by m
  where
    one : Note → ℕ
    one n = cond (is_ordered hangs_up id n) 1 0

    by : (m : Move) → hang_ups id (history s (m ∷ ms)) ≡ hung id (step s m).1 + hang_ups id (history (step s m).0 ms)
    by (Tell e) =
        let t = received s e in
        let told = sum_by-cons one (Heard e) (map Ordered t.1 ++ history t.0 ms) in
        let both = sum_by-append one (map Ordered t.1) (history t.0 ms) in
        omega (arith, told, both)
    by Ask = let t = chosen s (choice s) in sum_by-append one (map Ordered t.1) (history t.0 ms)

-- a number that was given stays so
stays_known : (id : ℕ) (s t : State) → s.next ≤ t.next → nat_lt id s.next ≡ true → nat_lt id t.next ≡ true
stays_known id s t le k = grind (arith, nat_tests, le, k)

-- the call of a number that was given goes on, or ends
goes : (id : ℕ) (s : State) (ms : List Move) → IsDistinct s → nat_lt id s.next ≡ true → Goes (hang_ups id (history s ms)) (At id s.connections) (At id (run s ms).connections)
goes id s [] o k = goes_on (At id s.connections)
goes id s (m ∷ ms) o k = by (λ j. goes id (step s m).0 ms (step_distinct s m o) j) (step_moves id s m o)
  where
    t : State
    t = (step s m).0

    by : (nat_lt id t.next ≡ true → Goes (hang_ups id (history t ms)) (At id t.connections) (At id (run t ms).connections)) → Moves id s (step s m)
        → Goes (hang_ups id (history s (m ∷ ms))) (At id s.connections) (At id (run t ms).connections)
    by rest (le, inl g) =
        subst (λ (j : ℕ). Goes j (At id s.connections) (At id (run t ms).connections)) (sym (history_hung id s m ms))
        (join (hung id (step s m).1) (hang_ups id (history t ms)) (At id s.connections) (At id t.connections) (At id (run t ms).connections) g
        (rest (stays_known id s t le k)))
    by rest (le, inr f) = let e = f.0 in let bad : nat_lt id id ≡ true = subst (λ (j : ℕ). nat_lt id j ≡ true) e k in absurd (never bad)
      where
        never : nat_lt id id ≡ true → ⊥
        never h = let n : nat_lt id id ≡ false = grind (arith, nat_tests) in let bad : true ≡ false = sym h ∙ n in cc

pub keeps_calls : (s : State) (during : List Move) → IsDistinct s → KeepsCalls s during
keeps_calls s during o id c d e f =
    subst (λ (a : Option Call). Goes (hang_ups id (history s during)) a (Some d)) e
    (subst (Goes (hang_ups id (history s during)) (At id s.connections)) f (goes id s during o (given (connection_at id s.connections) refl)))
  where
    given : (at : Option Connection) → connection_at id s.connections ≡ at → nat_lt id s.next ≡ true
    given (Some k) q = known id s.next s.connections k.phase (at_number id s.connections k q).1 o
    given None q = let bad : None ≡ Some c = sym (ap call_at q) ∙ e in cc

-- how often it hung up, and may do so still
abbrev pub Left : ℕ → ℕ → Option Call → Type 0
Left most k None = k ≤ most
Left most k (Some c) = k + c.times ≡ most

-- nobody hung up whose number wasn't given
abbrev Counts : ℕ → ℕ → ℕ → State → Type 0
Counts most id k s = (nat_lt id s.next ≡ false → k ≡ 0) × Left most k (At id s.connections)

left_goes : (most j k : ℕ) (a b : Option Call) → Left most j a → Goes k a b → Left most (j + k) b
left_goes most j k None None h g = omega (arith, h, g)
left_goes most j k None (Some d) h g = elim g [ ]
left_goes most j k (Some c) None h g = omega (arith, h, g)
left_goes most j k (Some c) (Some d) h g = let e = g.2 in omega (arith, h, e)

left_first : (s : State) (k : ℕ) (a : Option Call) → k ≡ 0 → IsFirstCall s a → Left s.limits.times k a
left_first s k None z f = omega (arith, z)
left_first s k (Some d) z f = let e = f.0 in omega (arith, z, e)

counts_step : (id k : ℕ) (s : State) (m : Move) → IsDistinct s → Counts s.limits.times id k s → Counts s.limits.times id (k + hung id (step s m).1) (step s m).0
counts_step id k s m o (new, left) = by (step_moves id s m o)
  where
    t : State
    t = (step s m).0

    before : s.next ≤ t.next → nat_lt id t.next ≡ false → nat_lt id s.next ≡ false
    before le n = grind (arith, nat_tests, le, n)

    by : Moves id s (step s m) → Counts s.limits.times id (k + hung id (step s m).1) t
    by (le, inl g) = (none, left_goes s.limits.times k (hung id (step s m).1) (At id s.connections) (At id t.connections) left g)
      where
        none : nat_lt id t.next ≡ false → k + hung id (step s m).1 ≡ 0
        none n =
            let b = before le n in
            let z = new b in
            let e : At id s.connections ≡ None = ap call_at (unborn_at id s.next s.connections o b) in
            let h = still_none (hung id (step s m).1) (At id t.connections) (subst (λ (a : Option Call). Goes (hung id (step s m).1) a (At id t.connections)) e g) in
            omega (arith, z, h)
          where
            still_none : (j : ℕ) (b : Option Call) → Goes j None b → j ≡ 0
            still_none j None g = g
            still_none j (Some d) g = elim g [ ]
    by (le, inr f) =
        let e = f.0 in
        let b : nat_lt id s.next ≡ false = grind (arith, nat_tests, e) in
        let z = new b in
        let h = f.1 in
        let sum : k + hung id (step s m).1 ≡ 0 = omega (arith, z, h) in
        (λ n. sum, left_first s (k + hung id (step s m).1) (At id t.connections) sum f.2)

counts_run : (id k most : ℕ) (s : State) (ms : List Move) → IsDistinct s → s.limits.times ≡ most → Counts most id k s → Counts most id (k + hang_ups id (history s ms)) (run s ms)
counts_run id k most s [] o e h = let z : k ≡ k + 0 = omega arith in subst (λ (j : ℕ). Counts most id j s) z h
counts_run id k most s (m ∷ ms) o e h =
    let t = (step s m).0 in
    let now : Counts s.limits.times id (k + hung id (step s m).1) t = counts_step id k s m o (subst (λ (j : ℕ). Counts j id k s) (sym e) h) in
    let same_limits : t.limits.times ≡ most = ap (λ (l : Limits). l.times) (step_limits s m) ∙ e in
    let sum = history_hung id s m ms in
    let all : k + hung id (step s m).1 + hang_ups id (history t ms) ≡ k + hang_ups id (history s (m ∷ ms)) = omega (arith, sum) in
    subst (λ (j : ℕ). Counts most id j (run t ms)) all
    (counts_run id (k + hung id (step s m).1) most t ms (step_distinct s m o) same_limits (subst (λ (j : ℕ). Counts j id (k + hung id (step s m).1) t) e now))

pub always_left : (l : Limits) (ms : List Move) (id : ℕ) → Left l.times (hang_ups id (history (start l) ms)) (call_of_number id (run (start l) ms))
always_left l ms id =
    let h = counts_run id 0 l.times (start l) ms tt refl (λ n. refl, omega arith) in
    let z : 0 + hang_ups id (history (start l) ms) ≡ hang_ups id (history (start l) ms) = omega arith in
    subst (λ (j : ℕ). Left l.times j (call_of_number id (run (start l) ms))) z h.1

pub left_most : (most k : ℕ) (a : Option Call) → Left most k a → k ≤ most
left_most most k None h = h
left_most most k (Some c) h = omega (arith, h)

-- 8. One call of a partner by the clock

-- whoever has a call of partner n by the clock is one
abbrev IsOneOf : ℕ → List Connection → Type 0
IsOneOf n cs = (i j : ℕ) → is_by_clock n (At i cs) ≡ true → is_by_clock n (At j cs) ≡ true → i ≡ j

went_on : (n k : ℕ) (a b : Option Call) → Goes k a b → is_by_clock n b ≡ true → is_by_clock n a ≡ true
went_on n k a None g y = cc
went_on n k None (Some d) g y = elim g [ ]
went_on n k (Some c) (Some d) (p, a, t) y =
    ap (λ (x : Partner). if is_clock c.asker then x.number == n else false) (sym p) ∙ ap (λ (x : Asker). if is_clock x then d.partner.number == n else false) (sym a) ∙ y

none_of : (n i : ℕ) (cs : List Connection) → list_any (calls n) cs ≡ false → is_by_clock n (At i cs) ≡ true → ⊥
none_of n i [] e y = cc
none_of n i (c ∷ cs) e y = by (none_of n i cs) (is_by_clock n (call_in c.phase)) refl (c.id == i) e y
  where
    by : (list_any (calls n) cs ≡ false → is_by_clock n (At i cs) ≡ true → ⊥) → (b : Bool) → is_by_clock n (call_in c.phase) ≡ b → (d : Bool)
        → (b || list_any (calls n) cs) ≡ false → is_by_clock n (call_at (cond d (Some c) (connection_at i cs))) ≡ true → ⊥
    by rest true h d e y = cc
    by rest false h true e y = let bad : true ≡ false = sym y ∙ h in cc
    by rest false h false e y = rest e y

one_after : (n : ℕ) (s : State) (m : Move) → IsDistinct s → IsOneOf n s.connections → IsOneOf n (step s m).0.connections
one_after n s m o h i j y z = by (was i y) (was j z)
  where
    Was : ℕ → Type 0
    Was i = (is_by_clock n (At i s.connections) ≡ true) ⊎ ((s.next ≡ i) × (list_any (calls n) s.connections ≡ false))

    first : (i : ℕ) (b : Option Call) → s.next ≡ i → IsFirstCall s b → is_by_clock n b ≡ true → Was i
    first i None e f y = cc
    first i (Some d) e f y = inr (e, f.1 n y)

    was : (i : ℕ) → is_by_clock n (At i (step s m).0.connections) ≡ true → Was i
    was i y = of_moves (step_moves i s m o)
      where
        of_moves : Moves i s (step s m) → Was i
        of_moves (le, inl g) = inl (went_on n (hung i (step s m).1) (At i s.connections) (At i (step s m).0.connections) g y)
        of_moves (le, inr f) = first i (At i (step s m).0.connections) f.0 f.2 y

    by : Was i → Was j → i ≡ j
    by (inl y) (inl z) = h i j y z
    by (inl y) (inr (e, none)) = absurd (none_of n i s.connections none y)
    by (inr (e, none)) (inl z) = absurd (none_of n j s.connections none z)
    by (inr (e, none)) (inr (f, none')) = sym e ∙ f

counted_one : (n hi : ℕ) (cs : List Connection) → Distinct hi cs → IsOneOf n cs → how_many (is_clocks_call n) cs ≤ 1
counted_one n hi [] o u = omega arith
counted_one n hi (c ∷ cs) o u = by (counted_one n hi cs o.1.1) (is_by_clock n (call_in c.phase)) refl
  where
    -- one of the rest is in the whole
    more : (i : ℕ) → is_by_clock n (At i cs) ≡ true → is_by_clock n (At i (c ∷ cs)) ≡ true
    more i y = split (c.id == i) refl
      where
        split : (b : Bool) → (c.id == i) ≡ b → is_by_clock n (call_at (cond b (Some c) (connection_at i cs))) ≡ true
        split true q =
            let is : c.id ≡ i = grind (arith, nat_tests, q) in
            let none : connection_at i cs ≡ None = ap (λ j. connection_at j cs) (sym is) ∙ absent c.id cs o.1.0 in
            let bad : false ≡ true = sym (ap (λ at. is_by_clock n (call_at at)) none) ∙ y in cc
        split false q = y

    -- no other is, if this one is
    alone : is_by_clock n (call_in c.phase) ≡ true → (at : Option Connection) → find (in_phase (is_clocks_call n)) cs ≡ at → how_many (is_clocks_call n) cs ≡ 0
    alone y None e = none_found (is_clocks_call n) cs e
    alone y (Some d) e =
        let there = found_at (in_phase (is_clocks_call n)) hi cs d e o.1.1 in
        let yes : is_by_clock n (At d.id cs) ≡ true = ap (λ at. is_by_clock n (call_at at)) there ∙ (found (in_phase (is_clocks_call n)) hi cs d e o.1.1).1 in
        let head : is_by_clock n (At c.id (c ∷ cs)) ≡ true = ap (λ b. is_by_clock n (call_at (cond b (Some c) (connection_at c.id cs)))) (same c.id) ∙ y in
        let is : c.id ≡ d.id = u c.id d.id head (more d.id yes) in
        let bad : None ≡ Some d = sym (absent c.id cs o.1.0) ∙ ap (λ i. connection_at i cs) is ∙ there in cc

    by : (IsOneOf n cs → how_many (is_clocks_call n) cs ≤ 1) → (b : Bool) → is_by_clock n (call_in c.phase) ≡ b → one_if b + how_many (is_clocks_call n) cs ≤ 1
    by rest true y = let z = alone y (find (in_phase (is_clocks_call n)) cs) refl in omega (arith, z)
    by rest false y = let h = rest (λ i j y z. u i j (more i y) (more j z)) in omega (arith, h)

pub has_one_each : (l : Limits) (ms : List Move) → HasOneEach (run (start l) ms)
has_one_each l ms n =
    let s = run (start l) ms in counted_one n s.next s.connections (run_distinct (start l) ms tt) (run_keeps (λ s. IsOneOf n s.connections) (one_after n) (start l) ms tt (λ i j y z. cc))
