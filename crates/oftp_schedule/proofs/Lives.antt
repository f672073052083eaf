-- The life of each connection: what the schedule orders is what its phase allows.
use Rattle.std.proofs.Common.{inl, inr, subst, ◌≡◌, ◌≢◌, ◌+◌, ◌^◌, ◌==◌, add-zero, ℕ, zero, suc, nat_lt, Bool, true, false, cond, if◌then◌else◌, List, [], ◌∷◌, ◌++◌, Option, Some, None, map, filter, find, count_by, refl, ap, sym, ◌∙◌, arith}
use Rattle.std.specs.List.{list_any}
use Rattle.std.proofs.lemmas.Bool.Decides.{nat_tests, eqb_tells}
use Rattle.oftp_schedule.specs.declared.connection.Door.{Door}
use Rattle.oftp_schedule.specs.declared.connection.Door.TheVariants.{Partners, Commands, Requests, Calls}
use Rattle.oftp_schedule.specs.declared.connection.Request.TheVariants.{Query, Update, Backup}
use Rattle.oftp_schedule.specs.declared.connection.Asker.TheVariants.{ByClock, By}
use Rattle.oftp_schedule.specs.declared.connection.Input.{Input}
use Rattle.oftp_schedule.specs.declared.connection.Input.TheVariants.{Here, Last, Gone}
use Rattle.oftp_schedule.specs.declared.connection.Phase.{Phase}
use Rattle.oftp_schedule.specs.declared.connection.Phase.TheVariants.{Arriving, Stranger, Guest, Stepping, Between, Parting, Asking, Ready, Served, Calling, Copying, Answered, Wanted, Resolving, Dialing, Connected}
use Rattle.oftp_schedule.specs.declared.connection.Arrival.{Arrival}
use Rattle.oftp_schedule.specs.declared.connection.Arrival.TheVariants.{Somebody, Nobody, Later, Never}
use Rattle.oftp_schedule.specs.declared.connection.End.TheVariants.{Own, Other}
use Rattle.oftp_schedule.specs.declared.connection.Signal.{Signal}
use Rattle.oftp_schedule.specs.declared.connection.Signal.TheVariants.{LetIn, Rejected, Asked, Wants, Waits, Ended, Done, Came, Went, Ends, Lost, Resolved, Up, Failed}
use Rattle.oftp_schedule.specs.declared.connection.Event.{Event}
use Rattle.oftp_schedule.specs.declared.connection.Event.TheVariants.{Knock, Accepted, Passed, Told, Due, Reviewed, Over}
use Rattle.oftp_schedule.specs.declared.connection.Reason.TheVariants.{Evicted, TimedOut, Stalled, Finished, Unreached, Orphaned, Stopping}
use Rattle.oftp_schedule.specs.declared.connection.Action.{Action}
use Rattle.oftp_schedule.specs.declared.connection.Action.TheVariants.{Accept, Close, Part, Begin, Hear, Look, Change, Copy, Resolve}
use Rattle.oftp_schedule.specs.declared.connection.Reply.{Reply}
use Rattle.oftp_schedule.specs.declared.connection.Reply.TheVariants.{Stay, Become, Queue, Want, Respond, Refuse, Connect, Redial, Yield, Farewell, Leave, Break}
use Rattle.oftp_schedule.specs.declared.connection.Choice.{Choice}
use Rattle.oftp_schedule.specs.declared.connection.Choice.TheVariants.{Nothing, Finish, Settle, Admit, Inspect, Start, Proceed, Consult, Perform, Lend, Seek, Depart}
use Rattle.oftp_schedule.specs.declared.connection.Gate.{Gate}
use Rattle.oftp_schedule.specs.declared.connection.Gate.TheVariants.{Quiet, Resting}
use Rattle.oftp_schedule.specs.declared.connection.Clock.{Clock}
use Rattle.oftp_schedule.specs.declared.connection.Clock.TheVariants.{Reviewing}
use Rattle.oftp_schedule.specs.declared.connection.Partner.{Partner}
use Rattle.oftp_schedule.specs.declared.connection.Call.{Call}
use Rattle.oftp_schedule.specs.declared.connection.Session.{Session}
use Rattle.oftp_schedule.specs.declared.connection.Step.{Step}
use Rattle.oftp_schedule.specs.declared.connection.Connection.{Connection}
use Rattle.oftp_schedule.specs.declared.connection.Limits.{Limits}
use Rattle.oftp_schedule.specs.Rules.{at_end, after_step, went, rule, line, has_line, leaves_line, orders, hurried, hurried_phase, is_ripe, is_ripe_phase, is_at, is_arriving_phase, calls, ends_session, has_id, is_other, connection_at, phase_at, became, owed, owed_phase, shared, shared_phase}
use Rattle.oftp_schedule.specs.Machine.{State, Turn, with_connections, limits_now, new_call, at_door, edited, after_session, numbers, replied, in_numbers, replied_at, places, gate, with_gate, knocked, first_phase, makes_room, evicted, accepted, accepted_at, with_call, due_to, reviewed, received, choice, welcomed, chosen, start, Move, run, Tell, Ask}
use Rattle.oftp_schedule.specs.History.{Note, Heard, Ordered, history, watch}
use Rattle.oftp_schedule.specs.Life.{Stage, Unbegun, Coming, Between_steps, Awaits_call, Has_answer, Closed, Broken, entered, heard, closed, ordered, life, stage_in, stage_from, stage_of}
use Rattle.oftp_schedule.proofs.Numbers.{Distinct, Distinct-map, known, at_number}
use Rattle.oftp_schedule.proofs.Places.{map_found, mapped, became_here, became_elsewhere, moved_here, removed, removed_elsewhere, or_at_end, pushed_at, pushed_elsewhere, unborn_at, phase_of, phase_found, found_at, found}
use Rattle.oftp_schedule.proofs.Fitting.{IsDistinct, received_distinct, chosen_distinct, settles, Settles, Begins, Asks, ChoiceFits, choice_fits}

-- what these actions do to the life of id is what they do to its place in the table
abbrev pub Lives : ℕ → Stage → Turn → Type 0
Lives id st t = watch (life id) st (map Ordered t.1) ≡ stage_of id t.0

-- 1. The orders of a reply

-- the stage after actions that all concern it
abbrev pub acted : Stage → List Action → Stage
acted st [] = st
acted st (a ∷ rest) = acted (ordered a st) rest

-- the stage after actions that all concern it, or all don't
abbrev pub seen : Bool → Stage → List Action → Stage
seen b st [] = st
seen b st (a ∷ rest) = seen b (if b then ordered a st else st) rest

seen_own : (st : Stage) (rest : List Action) → seen true st rest ≡ acted st rest
seen_own st [] = refl
seen_own st (a ∷ rest) = seen_own (ordered a st) rest

seen_other : (st : Stage) (rest : List Action) → seen false st rest ≡ st
seen_other st [] = refl
seen_other st (a ∷ rest) = seen_other st rest

orders_seen : (id i : ℕ) (st : Stage) (p : Phase) (r : Reply) → watch (life id) st (map Ordered (orders i p r)) ≡ seen (i == id) st (orders i p r)
orders_seen id i st p Stay = refl
orders_seen id i st p (Become q) = refl
orders_seen id i st p (Queue q) = refl
orders_seen id i st p (Want n) = refl
orders_seen id i st p (Respond q) = refl
orders_seen id i st p (Refuse q why) = refl
orders_seen id i st p (Connect q) = refl
orders_seen id i st p (Redial q) = refl
orders_seen id i st p (Yield q) = refl
orders_seen id i st p (Farewell q) = elim (has_line p) as (λ b. watch (life id) st (map Ordered (line i Finished b ++ Part i ∷ [])) ≡ seen (i == id) st (line i Finished b ++ Part i ∷ []))
    [ true ↦ refl | false ↦ refl ]
orders_seen id i st p (Leave why) = elim (leaves_line p why) as (λ b. watch (life id) st (map Ordered (line i why b ++ Close i why ∷ [])) ≡ seen (i == id) st (line i why b ++ Close i why ∷ []))
    [ true ↦ refl | false ↦ refl ]
orders_seen id i st p (Break why) = refl

-- where a connection stands after a reply
abbrev pub after_reply : Door → Phase → Reply → Stage
after_reply d p Stay = stage_in d p
after_reply d p (Become q) = stage_in d q
after_reply d p (Queue q) = stage_in d q
after_reply d p (Want n) = Awaits_call
after_reply d p (Respond q) = stage_in d q
after_reply d p (Refuse q why) = stage_in d q
after_reply d p (Connect q) = stage_in d q
after_reply d p (Redial q) = stage_in d q
after_reply d p (Yield q) = stage_in d q
after_reply d p (Farewell q) = stage_in d q
after_reply d p (Leave why) = Closed
after_reply d p (Break why) = Closed

-- 2. The table after a reply

owed_stage : (d : Door) (p : Phase) → stage_in d (owed_phase p) ≡ stage_in d p
owed_stage d (Ready r k) = refl
owed_stage d p = refl

shared_stage : (d : Door) (k : ℕ) (p : Phase) → stage_in d (shared_phase k p) ≡ stage_in d p
shared_stage d k (Between x) = refl
shared_stage d k p = refl

hurried_stage : (d : Door) (v : ℕ) (p : Phase) → stage_in d (hurried_phase v p) ≡ stage_in d p
hurried_stage d v (Answered u o) = refl
hurried_stage d v p = refl

-- an edit that changes no stage
same_stage : (f : Connection → Connection) → ((c : Connection) → (f c).id ≡ c.id) → ((c : Connection) → stage_in (f c).door (f c).phase ≡ stage_in c.door c.phase)
    → (id : ℕ) (b : Bool) (cs : List Connection) → stage_from b (connection_at id (map f cs)) ≡ stage_from b (connection_at id cs)
same_stage f k h id b cs = ap (stage_from b) (mapped f k id cs) ∙ cases b (connection_at id cs)
  where
    cases : (b : Bool) (at : Option Connection) → stage_from b (map_found f at) ≡ stage_from b at
    cases b (Some c) = h c
    cases true None = refl
    cases false None = refl

session_stage : (id : ℕ) (b known : Bool) (cs : List Connection) → stage_from known (connection_at id (after_session b cs)) ≡ stage_from known (connection_at id cs)
session_stage id true known cs = same_stage owed (λ _. refl) (λ c. owed_stage c.door c.phase) id known cs
session_stage id false known cs = refl

known_at : (s : State) (c : Connection) → IsDistinct s → connection_at c.id s.connections ≡ Some c → nat_lt c.id s.next ≡ true
known_at s c o e = known c.id s.next s.connections c.phase (at_number c.id s.connections c e).1 o

became_own : (c : Connection) (q : Phase) (b : Bool) (cs : List Connection) → connection_at c.id cs ≡ Some c → stage_from b (connection_at c.id (map (became c.id q) cs)) ≡ stage_in c.door q
became_own c q b cs e = ap (stage_from b) (became_here c q cs e)

moved_own : (c : Connection) (q : Phase) (b : Bool) (cs : List Connection) → stage_from b (connection_at c.id (filter (is_other c.id) cs ++ at_door c.id c.door q ∷ [])) ≡ stage_in c.door q
moved_own c q b cs = ap (stage_from b) (moved_here c q cs)

gone_own : (id : ℕ) (b : Bool) (cs : List Connection) → b ≡ true → stage_from b (connection_at id (filter (is_other id) cs)) ≡ Closed
gone_own id b cs k = ap (stage_from b) (removed id cs) ∙ ap (λ b. stage_from b None) k

-- one who is there is no other that comes
stays_there : (id : ℕ) (b : Bool) (c d : Connection) (cs : List Connection) → connection_at id cs ≡ Some c → stage_from b (connection_at id (cs ++ d ∷ [])) ≡ stage_in c.door c.phase
stays_there id b c d cs e = ap (stage_from b) (pushed_at id cs d ∙ ap (λ at. or_at_end at (d.id == id) d) e)

edited_own : (s : State) (c : Connection) (r : Reply) (b : Bool) → b ≡ true → connection_at c.id s.connections ≡ Some c
    → stage_from b (connection_at c.id (edited s c r)) ≡ after_reply c.door c.phase r
edited_own s c Stay b k e = ap (stage_from b) e
edited_own s c (Become q) b k e = became_own c q b s.connections e
edited_own s c (Queue q) b k e = moved_own c q b s.connections
edited_own s c (Want n) b k e =
    stays_there c.id b (at_door c.id c.door (Calling s.next)) (at_door s.next Calls (Wanted (new_call s.limits n (By c.id)))) (map (became c.id (Calling s.next)) s.connections)
    (became_here c (Calling s.next) s.connections e)
edited_own s c (Respond q) b k e = became_own c q b s.connections e
edited_own s c (Refuse q why) b k e = became_own c q b s.connections e
edited_own s c (Connect q) b k e = became_own c q b s.connections e
edited_own s c (Redial q) b k e = became_own c q b s.connections e
edited_own s c (Yield q) b k e = moved_own c q b s.connections
edited_own s c (Farewell q) b k e = became_own c q b s.connections e
edited_own s c (Leave why) b k e = gone_own c.id b s.connections k
edited_own s c (Break why) b k e = gone_own c.id b s.connections k

replied_own : (s : State) (c : Connection) (r : Reply) → IsDistinct s → connection_at c.id s.connections ≡ Some c → stage_of c.id (replied s c r).0 ≡ after_reply c.door c.phase r
replied_own s c r o e =
    let k = known_at s c o e in
    let more : nat_lt c.id (s.next + numbers r) ≡ true = grind (arith, nat_tests, k) in
    session_stage c.id (ends_session c.phase r) (nat_lt c.id (s.next + numbers r)) (edited s c r)
    ∙ edited_own s c r (nat_lt c.id (s.next + numbers r)) more e

-- a number that is given to a call that isn't begun
called_stage : (id hi : ℕ) (k : Call) (cs : List Connection) → Distinct hi cs
    → stage_from (nat_lt id (hi + 1)) (connection_at id (cs ++ at_door hi Calls (Wanted k) ∷ [])) ≡ stage_from (nat_lt id hi) (connection_at id cs)
called_stage id hi k cs o =
    ap (stage_from (nat_lt id (hi + 1))) (pushed_at id cs (at_door hi Calls (Wanted k))) ∙
    (elim (eqb_tells hi id) as (λ _. stage_from (nat_lt id (hi + 1)) (or_at_end (connection_at id cs) (hi == id) (at_door hi Calls (Wanted k))) ≡ stage_from (nat_lt id hi) (connection_at id cs)) [
      | inl y ↦
          (let new : nat_lt id hi ≡ false = grind (arith, nat_tests, y.1) in
          rw (y.0, unborn_at id hi cs o new, new) refl)
      | inr n ↦
          (let as_before : nat_lt id (hi + 1) ≡ nat_lt id hi = grind (arith, nat_tests, n.1) in
          rw (n.0, as_before) (none_new (nat_lt id hi) (connection_at id cs) (at_door hi Calls (Wanted k))))
    ])
  where
    none_new : (b : Bool) (at : Option Connection) (d : Connection) → stage_from b (or_at_end at false d) ≡ stage_from b at
    none_new b None d = refl
    none_new b (Some c) d = refl

moved_other : (i id : ℕ) (d : Connection) (b : Bool) (cs : List Connection) → d.id ≡ i → i ≢ id
    → stage_from b (connection_at id (filter (is_other i) cs ++ d ∷ [])) ≡ stage_from b (connection_at id cs)
moved_other i id d b cs q ne =
    let n : (d.id == id) ≡ false = grind (arith, nat_tests, q, ne) in
    ap (stage_from b) (pushed_elsewhere id (filter (is_other i) cs) d n ∙ removed_elsewhere i id cs ne)

no_number_given : (id hi : ℕ) (b : Stage) (cs : List Connection) → stage_from (nat_lt id hi) (connection_at id cs) ≡ b → stage_from (nat_lt id (hi + 0)) (connection_at id cs) ≡ b
no_number_given id hi b cs h = ap (λ n. stage_from (nat_lt id n) (connection_at id cs)) (add-zero hi) ∙ h

edited_other : (s : State) (id : ℕ) (c : Connection) (r : Reply) → IsDistinct s → c.id ≢ id → stage_from (nat_lt id (s.next + numbers r)) (connection_at id (edited s c r)) ≡ stage_of id s
edited_other s id c Stay o ne = no_number_given id s.next (stage_of id s) s.connections refl
edited_other s id c (Become q) o ne = no_number_given id s.next (stage_of id s) (map (became c.id q) s.connections) (ap (stage_from (nat_lt id s.next)) (became_elsewhere c.id id q s.connections ne))
edited_other s id c (Queue q) o ne =
    no_number_given id s.next (stage_of id s) (filter (is_other c.id) s.connections ++ at_door c.id c.door q ∷ [])
    (moved_other c.id id (at_door c.id c.door q) (nat_lt id s.next) s.connections refl ne)
edited_other s id c (Want n) o ne =
    called_stage id s.next (new_call s.limits n (By c.id)) (map (became c.id (Calling s.next)) s.connections) (Distinct-map (became c.id (Calling s.next)) (λ _. refl) s.next s.connections o)
    ∙ ap (stage_from (nat_lt id s.next)) (became_elsewhere c.id id (Calling s.next) s.connections ne)
edited_other s id c (Respond q) o ne = no_number_given id s.next (stage_of id s) (map (became c.id q) s.connections) (ap (stage_from (nat_lt id s.next)) (became_elsewhere c.id id q s.connections ne))
edited_other s id c (Refuse q why) o ne =
    no_number_given id s.next (stage_of id s) (map (became c.id q) s.connections) (ap (stage_from (nat_lt id s.next)) (became_elsewhere c.id id q s.connections ne))
edited_other s id c (Connect q) o ne = no_number_given id s.next (stage_of id s) (map (became c.id q) s.connections) (ap (stage_from (nat_lt id s.next)) (became_elsewhere c.id id q s.connections ne))
edited_other s id c (Redial q) o ne = no_number_given id s.next (stage_of id s) (map (became c.id q) s.connections) (ap (stage_from (nat_lt id s.next)) (became_elsewhere c.id id q s.connections ne))
edited_other s id c (Yield q) o ne =
    no_number_given id s.next (stage_of id s) (filter (is_other c.id) s.connections ++ at_door c.id c.door q ∷ [])
    (moved_other c.id id (at_door c.id c.door q) (nat_lt id s.next) s.connections refl ne)
edited_other s id c (Farewell q) o ne = no_number_given id s.next (stage_of id s) (map (became c.id q) s.connections) (ap (stage_from (nat_lt id s.next)) (became_elsewhere c.id id q s.connections ne))
edited_other s id c (Leave why) o ne = no_number_given id s.next (stage_of id s) (filter (is_other c.id) s.connections)
    (ap (stage_from (nat_lt id s.next)) (removed_elsewhere c.id id s.connections ne))
edited_other s id c (Break why) o ne = no_number_given id s.next (stage_of id s) (filter (is_other c.id) s.connections)
    (ap (stage_from (nat_lt id s.next)) (removed_elsewhere c.id id s.connections ne))

replied_other : (s : State) (id : ℕ) (c : Connection) (r : Reply) → IsDistinct s → c.id ≢ id → stage_of id (replied s c r).0 ≡ stage_of id s
replied_other s id c r o ne = session_stage id (ends_session c.phase r) (nat_lt id (s.next + numbers r)) (edited s c r) ∙ edited_other s id c r o ne

-- a reply to one who is there, seen from any number
replied_lives : (id : ℕ) (s : State) (c : Connection) (r : Reply) (st : Stage) → IsDistinct s → connection_at c.id s.connections ≡ Some c
    → (c.id ≡ id → acted st (orders c.id c.phase r) ≡ after_reply c.door c.phase r) → (c.id ≢ id → st ≡ stage_of id s) → Lives id st (replied s c r)
replied_lives id s c r st o e own other =
    orders_seen id c.id st c.phase r ∙
    (elim (eqb_tells c.id id) as (λ _. seen (c.id == id) st (orders c.id c.phase r) ≡ stage_of id (replied s c r).0) [
      | inl y ↦ ap (λ b. seen b st (orders c.id c.phase r)) y.0 ∙ seen_own st (orders c.id c.phase r) ∙ own y.1 ∙ sym (replied_own s c r o e) ∙ ap (λ i. stage_of i (replied s c r).0) y.1
      | inr n ↦ ap (λ b. seen b st (orders c.id c.phase r)) n.0 ∙ seen_other st (orders c.id c.phase r) ∙ other n.1 ∙ sym (replied_other s id c r o n.1)
    ])

-- a reply to whoever is found first
replied_at_lives : (id : ℕ) (s : State) (t : Connection → Bool) (f : Connection → Reply) (at : Option Connection) → find t s.connections ≡ at → IsDistinct s
    → ((c : Connection) → connection_at c.id s.connections ≡ Some c → t c ≡ true
    → acted (stage_in c.door c.phase) (orders c.id c.phase (in_numbers s.next (f c))) ≡ after_reply c.door c.phase (in_numbers s.next (f c))) → Lives id (stage_of id s) (replied_at s at f)
replied_at_lives id s t f None e o own = refl
replied_at_lives id s t f (Some c) e o own =
    let there = found_at t s.next s.connections c e o in
    let r = in_numbers s.next (f c) in
    replied_lives id s c r (stage_of id s) o there
    (λ q. ap (λ st. acted st (orders c.id c.phase r)) (ap (λ i. stage_of i s) (sym q) ∙ ap (stage_from (nat_lt c.id s.next)) there) ∙ own c there (found t s.next s.connections c e o).1)
    (λ n. refl)

-- 3. What is told of a connection

steps : (i now : ℕ) (d : Door) (x : Session) (w : Step) (n : Input)
    → acted Between_steps (orders i (Stepping x) (after_step now x w n)) ≡ after_reply d (Stepping x) (after_step now x w n)
steps i now d x w Gone = refl
steps i now d x w n = refl

ends_input : (i : ℕ) (d : Door) (x : Session) (n : Input) → acted Between_steps (orders i (Between x) (at_end x n)) ≡ after_reply d (Between x) (at_end x n)
ends_input i d x Here = refl
ends_input i d x Last = refl
ends_input i d x n = refl

goes_out : (i now : ℕ) (l : Limits) (d : Door) (u o k : ℕ) → acted (heard Has_answer (Went k)) (orders i (Answered u o) (went now l d u k)) ≡ after_reply d (Answered u o) (went now l d u k)
goes_out i now l Requests u o zero = refl
goes_out i now l d u o zero = refl
goes_out i now l d u o (suc k) = refl

-- each line of the rules is a step of a life
rule_lives : (i now : ℕ) (l : Limits) (d : Door) (p : Phase) (g : Signal) → acted (heard (stage_in d p) g) (orders i p (rule now l d p g)) ≡ after_reply d p (rule now l d p g)
rule_lives i now l d (Stranger u r) LetIn = refl
rule_lives i now l d (Stranger u r) Rejected = refl
rule_lives i now l d (Stranger u r) Ends = refl
rule_lives i now l d (Stranger u r) Lost = refl
rule_lives i now l d (Guest t) Lost = refl
rule_lives i now l d (Stepping x) (Waits w) = steps i now d x w w.input
rule_lives i now l d (Stepping x) (Ended Own) = refl
rule_lives i now l d (Stepping x) (Ended Other) = refl
rule_lives i now l d (Between x) Came = refl
rule_lives i now l d (Between x) (Went k) = refl
rule_lives i now l d (Between x) Ends = ends_input i d x x.input
rule_lives i now l d (Between x) Lost = refl
rule_lives i now l d (Parting u) Ends = refl
rule_lives i now l d (Parting u) Lost = refl
rule_lives i now l d (Asking u) (Asked r) = refl
rule_lives i now l d (Asking u) (Wants p) = refl
rule_lives i now l d (Asking u) Rejected = refl
rule_lives i now l d (Asking u) Ends = refl
rule_lives i now l d (Asking u) Lost = refl
rule_lives i now l d (Ready r k) Lost = refl
rule_lives i now l d (Served r) (Done o) = refl
rule_lives i now l d (Calling j) Lost = refl
rule_lives i now l d (Copying u) Ends = refl
rule_lives i now l d (Copying u) Lost = refl
rule_lives i now l d (Answered u o) (Went k) = goes_out i now l d u o k
rule_lives i now l d (Answered u o) Lost = refl
rule_lives i now l d (Resolving c) Resolved = refl
rule_lives i now l d (Resolving c) Failed = refl
rule_lives i now l d (Dialing c u) Up = refl
rule_lives i now l d (Dialing c u) Failed = refl
rule_lives i now l d (Connected c u) Lost = refl
rule_lives i now l d p g = refl

-- where no number is left, a call is not made
counted_lives : (i next : ℕ) (d : Door) (p : Phase) (r : Reply) (st : Stage) → acted st (orders i p r) ≡ after_reply d p r
    → acted st (orders i p (in_numbers next r)) ≡ after_reply d p (in_numbers next r)
counted_lives i next d p (Want n) st h = elim (nat_lt next (2 ^ 63)) as (λ b. acted st (orders i p (if b then Want n else Leave Stopping)) ≡ after_reply d p (if b then Want n else Leave Stopping)) [
  | true ↦ h
  | false ↦ (elim (has_line p) as (λ b. acted st (line i Stopping (if b then false else false) ++ Close i Stopping ∷ []) ≡ Closed) [ true ↦ ap (closed Stopping) h | false ↦ ap (closed Stopping) h ])
]
counted_lives i next d p r st h = h

unheard : (b : Bool) (g : Signal) → heard (stage_from b None) g ≡ stage_from b None
unheard true g = refl
unheard false g = refl

-- who isn't there hears nothing
heard_by_none : (id i : ℕ) (s : State) (f : Stage → Stage) → ((b : Bool) → f (stage_from b None) ≡ stage_from b None) → connection_at i s.connections ≡ None
    → (if i == id then f (stage_of id s) else stage_of id s) ≡ stage_of id s
heard_by_none id i s f k e =
    elim (eqb_tells i id) as (λ _. (if i == id then f (stage_of id s) else stage_of id s) ≡ stage_of id s) [
      | inl y ↦
          (let e' : connection_at id s.connections ≡ None = ap (λ i. connection_at i s.connections) (sym y.1) ∙ e in
          rw (y.0, e') (k (nat_lt id s.next)))
      | inr n ↦ rw n.0 refl
    ]

signal_lives : (id i : ℕ) (s : State) (g : Signal) (at : Option Connection) → connection_at i s.connections ≡ at → IsDistinct s
    → Lives id (if i == id then heard (stage_of id s) g else stage_of id s) (replied_at s at (λ c. rule s.now (limits_now s) c.door c.phase g))
signal_lives id i s g None e o = heard_by_none id i s (λ st. heard st g) (λ b. unheard b g) e
signal_lives id i s g (Some c) e o =
    let n = (at_number i s.connections c e).0 in
    let there : connection_at c.id s.connections ≡ Some c = ap (λ i. connection_at i s.connections) n ∙ e in
    let r = in_numbers s.next (rule s.now (limits_now s) c.door c.phase g) in
    replied_lives id s c r (if i == id then heard (stage_of id s) g else stage_of id s) o there
    (λ q.
    let y : (i == id) ≡ true = grind (arith, nat_tests, n, q) in
    ap (λ b. acted (cond b (heard (stage_of id s) g) (stage_of id s)) (orders c.id c.phase r)) y
    ∙ ap (λ st. acted (heard st g) (orders c.id c.phase r)) (ap (λ i. stage_of i s) (sym q) ∙ ap (stage_from (nat_lt c.id s.next)) there)
    ∙ counted_lives c.id s.next c.door c.phase (rule s.now (limits_now s) c.door c.phase g) (heard (stage_in c.door c.phase) g) (rule_lives c.id s.now (limits_now s) c.door c.phase g))
    (λ ne.
    let y : (i == id) ≡ false = grind (arith, nat_tests, n, ne) in
    ap (λ b. cond b (heard (stage_of id s) g) (stage_of id s)) y)

-- 4. Somebody comes, or nobody

entered_still : (d : Door) (p : Phase) (a : Arrival) → is_arriving_phase p ≡ false → entered (stage_in d p) a ≡ stage_in d p
entered_still d Arriving a h = cc
entered_still d p a h = refl

never_entered : (b : Bool) (a : Arrival) → entered (stage_from b None) a ≡ stage_from b None
never_entered true a = refl
never_entered false a = refl

is_arriving : (p : Phase) → is_arriving_phase p ≡ true → p ≡ Arriving
is_arriving Arriving h = refl
is_arriving p h = cc

ripe_lives : (i now : ℕ) (d : Door) (p : Phase) → is_ripe_phase now p ≡ true → acted (stage_in d p) (orders i p (Leave Evicted)) ≡ Closed
ripe_lives i now d (Stranger u r) h = refl
ripe_lives i now d p h = cc

-- who is closed for another is a stranger
room_lives : (id : ℕ) (s : State) (d : Door) → IsDistinct s → Lives id (stage_of id s) (evicted s (makes_room s d))
room_lives id s d o = cases (nat_lt (places s.limits d) (count_by (is_at d) s.connections))
  where
    cases : (b : Bool) → Lives id (stage_of id s) (evicted s (if b then find (is_ripe s.now) s.connections else None))
    cases true = replied_at_lives id s (is_ripe s.now) (λ c. Leave Evicted) (find (is_ripe s.now) s.connections) refl o (λ c e h. ripe_lives c.id s.now c.door c.phase h)
    cases false = refl

gated_stage : (id : ℕ) (s : State) (d : Door) (g : Gate) → stage_of id (with_gate s d g) ≡ stage_of id s
gated_stage id s Partners g = refl
gated_stage id s Commands g = refl
gated_stage id s Requests g = refl
gated_stage id s Calls g = refl

first_stage : (now : ℕ) (l : Limits) (d : Door) → entered (Coming d) Somebody ≡ stage_in d (first_phase now l d)
first_stage now l Partners = refl
first_stage now l Commands = refl
first_stage now l Requests = refl
first_stage now l Calls = refl

nobody_came : (d : Door) → (entered (Coming d) Nobody ≡ Closed) × ((entered (Coming d) Later ≡ Closed) × (entered (Coming d) Never ≡ Closed))
nobody_came Partners = (refl, (refl, refl))
nobody_came Commands = (refl, (refl, refl))
nobody_came Requests = (refl, (refl, refl))
nobody_came Calls = (refl, (refl, refl))

-- one connection moves, and nobody else does
moves : (id i : ℕ) (s : State) (c : Connection) (f : Stage → Stage) (after : Stage) (cs : List Connection) → c.id ≡ i → connection_at i s.connections ≡ Some c
    → f (stage_in c.door c.phase) ≡ after → stage_from (nat_lt i s.next) (connection_at i cs) ≡ after → (i ≢ id → connection_at id cs ≡ connection_at id s.connections)
    → (if i == id then f (stage_of id s) else stage_of id s) ≡ stage_from (nat_lt id s.next) (connection_at id cs)
moves id i s c f after cs n e h own other =
    elim (eqb_tells i id) as (λ _. (if i == id then f (stage_of id s) else stage_of id s) ≡ stage_from (nat_lt id s.next) (connection_at id cs)) [
      | inl y ↦ ap (λ b. cond b (f (stage_of id s)) (stage_of id s)) y.0 ∙ ap (λ i. f (stage_of i s)) (sym y.1) ∙ ap (λ at. f (stage_from (nat_lt i s.next) at)) e ∙ h ∙ sym own ∙
          ap (λ i. stage_from (nat_lt i s.next) (connection_at i cs)) y.1
      | inr n ↦ ap (λ b. cond b (f (stage_of id s)) (stage_of id s)) n.0 ∙ ap (stage_from (nat_lt id s.next)) (sym (other n.1))
    ]

arrival_lives : (id i : ℕ) (s : State) (c : Connection) (a : Arrival) → IsDistinct s → connection_at i s.connections ≡ Some c → c.phase ≡ Arriving
    → Lives id (if i == id then entered (stage_of id s) a else stage_of id s) (accepted s c a)
arrival_lives id i s c a o e h =
    let n = (at_number i s.connections c e).0 in
    let there : connection_at c.id s.connections ≡ Some c = ap (λ i. connection_at i s.connections) n ∙ e in
    ap (λ i. watch (life id) (if i == id then entered (stage_of id s) a else stage_of id s) (map Ordered (accepted s c a).1)) (sym n) ∙ by a there (known_at s c o there)
  where
    known_by : (a : Arrival) → entered (stage_in c.door c.phase) a ≡ entered (Coming c.door) a
    known_by a = ap (λ p. entered (stage_in c.door p) a) h

    left : (a : Arrival) → entered (Coming c.door) a ≡ Closed → connection_at c.id s.connections ≡ Some c → nat_lt c.id s.next ≡ true
        → (if c.id == id then entered (stage_of id s) a else stage_of id s) ≡ stage_of id (with_connections s (filter (is_other c.id) s.connections))
    left a z there k =
        moves id c.id s c (λ st. entered st a) Closed (filter (is_other c.id) s.connections) refl there (known_by a ∙ z)
        (gone_own c.id (nat_lt c.id s.next) s.connections k) (λ ne. removed_elsewhere c.id id s.connections ne)

    by : (a : Arrival) → connection_at c.id s.connections ≡ Some c → nat_lt c.id s.next ≡ true → Lives id (if c.id == id then entered (stage_of id s) a else stage_of id s) (accepted s c a)
    by Somebody there k =
        let q = first_phase s.now s.limits c.door in
        let t = with_connections s (map (became c.id q) s.connections) in
        ap (λ st. watch (life id) st (map Ordered (evicted t (makes_room t c.door)).1))
        (moves id c.id s c (λ st. entered st Somebody) (stage_in c.door q) (map (became c.id q) s.connections) refl there (known_by Somebody ∙ first_stage s.now s.limits c.door)
        (became_own c q (nat_lt c.id s.next) s.connections there) (λ ne. became_elsewhere c.id id q s.connections ne))
        ∙ room_lives id t c.door (Distinct-map (became c.id q) (λ _. refl) s.next s.connections o)
    by Nobody there k = left Nobody (nobody_came c.door).0 there k ∙ sym (gated_stage id (with_connections s (filter (is_other c.id) s.connections)) c.door Quiet)
    by Later there k = left Later (nobody_came c.door).1.0 there k ∙ sym (gated_stage id (with_connections s (filter (is_other c.id) s.connections)) c.door (Resting (s.now + s.limits.rest)))
    by Never there k = left Never (nobody_came c.door).1.1 there k

accepted_lives : (id i : ℕ) (s : State) (a : Arrival) (at : Option Connection) → connection_at i s.connections ≡ at → IsDistinct s
    → Lives id (if i == id then entered (stage_of id s) a else stage_of id s) (accepted_at s at a)
accepted_lives id i s a None e o = heard_by_none id i s (λ st. entered st a) (λ b. never_entered b a) e
accepted_lives id i s a (Some c) e o = cases (is_arriving_phase c.phase) refl
  where
    cases : (b : Bool) → is_arriving_phase c.phase ≡ b → Lives id (if i == id then entered (stage_of id s) a else stage_of id s) (if b then accepted s c a else (s, []))
    cases true h = arrival_lives id i s c a o e (is_arriving c.phase h)
    cases false h =
        moves id i s c (λ st. entered st a) (stage_in c.door c.phase) s.connections (at_number i s.connections c e).0 e (entered_still c.door c.phase a h)
        (ap (stage_from (nat_lt i s.next)) e) (λ _. refl)

-- 5. Whatever is told

due_stage : (id : ℕ) (s : State) (p : Partner) → IsDistinct s → stage_of id s ≡ stage_of id (due_to s p)
due_stage id s p o = cases (list_any (calls p.number) s.connections) (nat_lt s.next (2 ^ 63))
  where
    cases : (b d : Bool) → stage_of id s ≡ stage_of id (if b then s else (if d then with_call s p else s))
    cases true d = refl
    cases false true = sym (called_stage id s.next (new_call s.limits p ByClock) s.connections o)
    cases false false = refl

reviewed_stage : (id : ℕ) (s : State) (c : Clock) → stage_of id s ≡ stage_of id (reviewed s c)
reviewed_stage id s Reviewing = refl
reviewed_stage id s c = refl

received_lives : (id : ℕ) (s : State) (e : Event) → IsDistinct s → Lives id (life id (stage_of id s) (Heard e)) (received s e)
received_lives id s (Knock d) o = sym (gated_stage id s d (knocked (gate s d)))
received_lives id s (Accepted i a) o = accepted_lives id i s a (connection_at i s.connections) refl o
received_lives id s (Passed t) o = refl
received_lives id s (Told i g) o = signal_lives id i s g (connection_at i s.connections) refl o
received_lives id s (Due p) o = due_stage id s p o
received_lives id s Reviewed o = reviewed_stage id s s.clock
received_lives id s (Over st) o = refl

-- 6. What is done next

settled_lives : (i : ℕ) (d : Door) (p : Phase) (r : Reply) → settles p r ≡ true → acted (stage_in d p) (orders i p r) ≡ after_reply d p r
settled_lives i d (Stranger u r) (Leave TimedOut) h = refl
settled_lives i d (Stranger u r) (Leave Stopping) h = refl
settled_lives i d (Guest t) (Leave Stopping) h = refl
settled_lives i d (Between x) (Break TimedOut) h = refl
settled_lives i d (Between x) (Break Stalled) h = refl
settled_lives i d (Between x) (Break Stopping) h = refl
settled_lives i d (Between x) (Yield (Wanted c)) h = refl
settled_lives i d (Parting u) (Leave TimedOut) h = refl
settled_lives i d (Asking u) (Leave TimedOut) h = refl
settled_lives i d (Asking u) (Leave Stopping) h = refl
settled_lives i d (Asking v) (Refuse (Answered u o) Stopping) h = refl
settled_lives i d (Ready r k) (Refuse (Answered u o) Stopping) h = refl
settled_lives i d (Calling j) (Respond (Answered u o)) h = refl
settled_lives i d (Copying v) (Refuse (Answered u o) TimedOut) h = refl
settled_lives i d (Answered u o) (Leave TimedOut) h = refl
settled_lives i d (Wanted c) (Leave Orphaned) h = refl
settled_lives i d (Wanted c) (Leave Stopping) h = refl
settled_lives i d (Resolving c) (Leave Stopping) h = refl
settled_lives i d (Dialing c u) (Leave Unreached) h = refl
settled_lives i d (Dialing c u) (Leave Orphaned) h = refl
settled_lives i d (Dialing c u) (Leave Stopping) h = refl
settled_lives i d (Connected c u) (Redial (Wanted k)) h = refl
settled_lives i d (Connected c u) (Leave TimedOut) h = refl
settled_lives i d (Connected c u) (Leave Orphaned) h = refl
settled_lives i d (Connected c u) (Leave Stopping) h = refl
settled_lives i d p r h = cc

-- none that settles asks for a number
settled_number : (next : ℕ) (p : Phase) (r : Reply) → settles p r ≡ true → in_numbers next r ≡ r
settled_number next (Stranger u r) (Want n) h = cc
settled_number next p (Want n) h = cc
settled_number next p r h = refl

settles_found : (i : ℕ) (s : State) (c : Connection) (r : Reply) → Settles (phase_at i s.connections) r → connection_at c.id s.connections ≡ Some c → (c.id == i) ≡ true → settles c.phase r ≡ true
settles_found i s c r f e h =
    let q : c.id ≡ i = grind (arith, nat_tests, h) in
    let there : phase_at i s.connections ≡ Some c.phase = phase_found i s.connections ∙ ap (λ i. phase_of (connection_at i s.connections)) (sym q) ∙ ap phase_of e in
    subst (λ at. Settles at r) there f

settle_lives : (id i : ℕ) (s : State) (r : Reply) → IsDistinct s → Settles (phase_at i s.connections) r → Lives id (stage_of id s) (replied_at s (connection_at i s.connections) (λ c. r))
settle_lives id i s r o f =
    replied_at_lives id s (has_id i) (λ c. r) (connection_at i s.connections) refl o
    (λ c e h.
    let k = settles_found i s c r f e h in
    let n = settled_number s.next c.phase r k in
    rw n (settled_lives c.id c.door c.phase r k))

-- where this order leads from a phase
abbrev pub Leads : (Stage → Stage) → Phase → Option Phase → Type 0
Leads f q None = ⊥
Leads f q (Some p) = (d : Door) → f (stage_in d p) ≡ stage_in d q

begin_leads : (i : ℕ) (x : Session) (at : Option Phase) → Begins at → Leads (ordered (Begin i)) (Stepping x) at
begin_leads i x (Some (Guest t)) h = λ d. refl
begin_leads i x (Some (Connected c u)) h = λ d. refl
begin_leads i x (Some p) h = cc
begin_leads i x None h = h

hear_leads : (i : ℕ) (x : Session) (at : Option Phase) → at ≡ Some (Between x) → Leads (ordered (Hear i)) (Stepping x) at
hear_leads i x at e = rw e (λ d. refl)

look_leads : (i : ℕ) (at : Option Phase) → Asks Query at → Leads (ordered (Look i)) (Served Query) at
look_leads i (Some (Ready Query k)) h = λ d. refl
look_leads i (Some p) h = cc
look_leads i None h = h

change_leads : (i : ℕ) (at : Option Phase) → Asks Update at → Leads (ordered (Change i)) (Served Update) at
change_leads i (Some (Ready Update k)) h = λ d. refl
change_leads i (Some p) h = cc
change_leads i None h = h

copy_leads : (i u : ℕ) (at : Option Phase) → Asks Backup at → Leads (ordered (Copy i)) (Copying u) at
copy_leads i u (Some (Ready Backup k)) h = λ d. refl
copy_leads i u (Some p) h = cc
copy_leads i u None h = h

resolve_leads : (i : ℕ) (c : Call) (at : Option Phase) → at ≡ Some (Wanted c) → Leads (ordered (Resolve i)) (Resolving c) at
resolve_leads i c at e = rw e (λ d. refl)

became_lives : (id i : ℕ) (s : State) (f : Stage → Stage) (q : Phase) → IsDistinct s → Leads f q (phase_at i s.connections)
    → (if i == id then f (stage_of id s) else stage_of id s) ≡ stage_from (nat_lt id s.next) (connection_at id (map (became i q) s.connections))
became_lives id i s f q o h = cases (connection_at i s.connections) refl (subst (Leads f q) (phase_found i s.connections) h)
  where
    cases : (at : Option Connection) → connection_at i s.connections ≡ at → Leads f q (phase_of at)
        → (if i == id then f (stage_of id s) else stage_of id s) ≡ stage_from (nat_lt id s.next) (connection_at id (map (became i q) s.connections))
    cases None e h = elim h [ ]
    cases (Some c) e h =
        let n = (at_number i s.connections c e).0 in
        let y : (c.id == i) ≡ true = grind (arith, nat_tests, n) in
        moves id i s c f (stage_in c.door q) (map (became i q) s.connections) n e (h c.door)
        (ap (stage_from (nat_lt i s.next)) (mapped (became i q) (λ _. refl) i s.connections ∙ ap (map_found (became i q)) e)
        ∙ ap (λ b. stage_in c.door (cond b q c.phase)) y)
        (λ ne. became_elsewhere i id q s.connections ne)

accept_lives : (id : ℕ) (s : State) (d : Door) → IsDistinct s
    → (if s.next == id then ordered (Accept s.next d) (stage_of id s) else stage_of id s) ≡ stage_from (nat_lt id (s.next + 1)) (connection_at id (s.connections ++ at_door s.next d Arriving ∷ []))
accept_lives id s d o =
    elim (eqb_tells s.next id) as (λ _. (if s.next == id then ordered (Accept s.next d) (stage_of id s) else stage_of id s) ≡ stage_from (nat_lt id (s.next + 1))
    (connection_at id (s.connections ++ at_door s.next d Arriving ∷ []))) [
      | inl y ↦
          (let new : nat_lt id s.next ≡ false = grind (arith, nat_tests, y.1) in
          let none = unborn_at id s.next s.connections o new in
          ap (λ b. cond b (ordered (Accept s.next d) (stage_of id s)) (stage_of id s)) y.0
          ∙ ap (λ b. ordered (Accept s.next d) (stage_from b (connection_at id s.connections))) new ∙ ap (λ at. ordered (Accept s.next d) (stage_from false at)) none
          ∙ sym (ap (stage_from (nat_lt id (s.next + 1))) (pushed_at id s.connections (at_door s.next d Arriving) ∙ ap
          (λ at. or_at_end at (s.next == id) (at_door s.next d Arriving)) none ∙ ap (λ b. or_at_end None b (at_door s.next d Arriving)) y.0)))
      | inr n ↦
          (let as_before : nat_lt id (s.next + 1) ≡ nat_lt id s.next = grind (arith, nat_tests, n.1) in
          ap (λ b. cond b (ordered (Accept s.next d) (stage_of id s)) (stage_of id s)) n.0
          ∙ none_new (nat_lt id s.next) (connection_at id s.connections) (at_door s.next d Arriving)
          ∙ ap (λ b. stage_from b (or_at_end (connection_at id s.connections) false (at_door s.next d Arriving))) (sym as_before)
          ∙ sym (ap (stage_from (nat_lt id (s.next + 1))) (pushed_at id s.connections (at_door s.next d Arriving) ∙ ap
          (λ b. or_at_end (connection_at id s.connections) b (at_door s.next d Arriving)) n.0)))
    ]
  where
    none_new : (b : Bool) (at : Option Connection) (d : Connection) → stage_from b at ≡ stage_from b (or_at_end at false d)
    none_new b None d = refl
    none_new b (Some c) d = refl

chosen_lives : (id : ℕ) (s : State) (c : Choice) → IsDistinct s → ChoiceFits s.connections c → Lives id (stage_of id s) (chosen s c)
chosen_lives id s Nothing o f = refl
chosen_lives id s (Finish st) o f =
    sym (same_stage (hurried (s.now + s.limits.farewell)) (λ _. refl) (λ c. hurried_stage c.door (s.now + s.limits.farewell) c.phase) id (nat_lt id s.next) s.connections)
chosen_lives id s (Settle i r) o f = settle_lives id i s r o f
chosen_lives id s (Admit d) o f = cases (nat_lt s.next (2 ^ 63))
  where
    cases : (b : Bool) → Lives id (stage_of id s) (if b then welcomed s d else (s, []))
    cases true = accept_lives id s d o
    cases false = refl
chosen_lives id s Inspect o f = refl
chosen_lives id s (Start i x) o f = became_lives id i s (ordered (Begin i)) (Stepping x) o (begin_leads i x (phase_at i s.connections) f)
chosen_lives id s (Proceed i x) o f = became_lives id i s (ordered (Hear i)) (Stepping x) o (hear_leads i x (phase_at i s.connections) f)
chosen_lives id s (Consult i) o f =
    became_lives id i s (ordered (Look i)) (Served Query) o (look_leads i (phase_at i s.connections) f)
    ∙ sym (same_stage (shared s.limits.share) (λ _. refl) (λ c. shared_stage c.door s.limits.share c.phase) id (nat_lt id s.next) (map (became i (Served Query)) s.connections))
chosen_lives id s (Perform i) o f = became_lives id i s (ordered (Change i)) (Served Update) o (change_leads i (phase_at i s.connections) f)
chosen_lives id s (Lend i) o f =
    became_lives id i s (ordered (Copy i)) (Copying (s.now + s.limits.copying)) o (copy_leads i (s.now + s.limits.copying) (phase_at i s.connections) f)
chosen_lives id s (Seek i c) o f = became_lives id i s (ordered (Resolve i)) (Resolving c) o (resolve_leads i c (phase_at i s.connections) f)
chosen_lives id s (Depart st) o f = refl

-- 7. Over every list of moves

pub watch-append : {S : Type 0} (f : S → Note → S) (st : S) (xs ys : List Note) → watch f st (xs ++ ys) ≡ watch f (watch f st xs) ys
watch-append f st [] ys = refl
watch-append f st (x ∷ xs) ys = watch-append f (f st x) xs ys

pub history_lives : (id : ℕ) (s : State) (ms : List Move) → IsDistinct s → watch (life id) (stage_of id s) (history s ms) ≡ stage_of id (run s ms)
history_lives id s [] o = refl
history_lives id s (Tell e ∷ ms) o =
    let t = received s e in
    let st = life id (stage_of id s) (Heard e) in
    watch-append (life id) st (map Ordered t.1) (history t.0 ms)
    ∙ ap (λ st. watch (life id) st (history t.0 ms)) (received_lives id s e o)
    ∙ history_lives id t.0 ms (received_distinct s e o)
history_lives id s (Ask ∷ ms) o =
    let t = chosen s (choice s) in
    watch-append (life id) (stage_of id s) (map Ordered t.1) (history t.0 ms)
    ∙ ap (λ st. watch (life id) st (history t.0 ms)) (chosen_lives id s (choice s) o (choice_fits s o))
    ∙ history_lives id t.0 ms (chosen_distinct s (choice s) o)

-- what an observer of connection id saw is where it stands
pub every_life : (l : Limits) (ms : List Move) (id : ℕ) → watch (life id) Unbegun (history (start l) ms) ≡ stage_of id (run (start l) ms)
every_life l ms id = ap (λ st. watch (life id) st (history (start l) ms)) (unborn id) ∙ history_lives id (start l) ms tt
  where
    unborn : (id : ℕ) → Unbegun ≡ stage_from (nat_lt id 0) None
    unborn id = ap (λ b. stage_from b None) (sym (none_below id))
      where
        none_below : (id : ℕ) → nat_lt id 0 ≡ false
        none_below id = grind (arith, nat_tests)

stage_ok : (d : Door) (p : Phase) → stage_in d p ≢ Broken
stage_ok d Arriving e = cc
stage_ok d p e = cc

unbroken_from : (b : Bool) (at : Option Connection) → stage_from b at ≢ Broken
unbroken_from b (Some c) = stage_ok c.door c.phase
unbroken_from true None = λ e. cc
unbroken_from false None = λ e. cc

pub never_broken : (l : Limits) (ms : List Move) (id : ℕ) → watch (life id) Unbegun (history (start l) ms) ≢ Broken
never_broken l ms id e = unbroken_from (nat_lt id (run (start l) ms).next) (connection_at id (run (start l) ms).connections) (sym (every_life l ms id) ∙ e)
