-- One thing at a time: what is told keeps it, and what is chosen has room.
use Rattle.std.proofs.Common.{◌^◌, ◌≡◌, ◌≤◌, ◌+◌, [], ◌∷◌, ◌++◌, ◌∙◌, if◌then◌else◌, ℕ, Bool, true, false, nat_lt, List, Option, Some, None, map, filter, find, max, min, zero, suc, subst, refl, ap, sym, arith}
use Rattle.std.proofs.lemmas.Bool.Decides.{nat_tests}
use Rattle.oftp_schedule.specs.declared.connection.Door.{Door}
use Rattle.oftp_schedule.specs.declared.connection.Door.TheVariants.{Partners, Commands, Requests, Calls}
use Rattle.oftp_schedule.specs.declared.connection.Request.{Request}
use Rattle.oftp_schedule.specs.declared.connection.Request.TheVariants.{Query, Update}
use Rattle.oftp_schedule.specs.declared.connection.Rank.{Rank}
use Rattle.oftp_schedule.specs.declared.connection.Rank.TheVariants.{Usual, Owed}
use Rattle.oftp_schedule.specs.declared.connection.Asker.TheVariants.{ByClock, By}
use Rattle.oftp_schedule.specs.declared.connection.Input.{Input}
use Rattle.oftp_schedule.specs.declared.connection.Input.TheVariants.{Awaited, Here, Last, Gone}
use Rattle.oftp_schedule.specs.declared.connection.Phase.{Phase}
use Rattle.oftp_schedule.specs.declared.connection.Phase.TheVariants.{Arriving, Stranger, Guest, Stepping, Between, Parting, Asking, Ready, Served, Calling, Copying, Answered, Wanted, Resolving, Dialing, Connected}
use Rattle.oftp_schedule.specs.declared.connection.End.TheVariants.{Own, Other}
use Rattle.oftp_schedule.specs.declared.connection.Signal.{Signal}
use Rattle.oftp_schedule.specs.declared.connection.Signal.TheVariants.{LetIn, Rejected, Asked, Wants, Waits, Ended, Done, Came, Went, Ends, Lost, Resolved, Up, Failed}
use Rattle.oftp_schedule.specs.declared.connection.Event.{Event}
use Rattle.oftp_schedule.specs.declared.connection.Reason.TheVariants.{Evicted, TimedOut, Stalled, Unreached, Orphaned, Stopping}
use Rattle.oftp_schedule.specs.declared.connection.Reply.{Reply}
use Rattle.oftp_schedule.specs.declared.connection.Reply.TheVariants.{Stay, Become, Queue, Want, Respond, Refuse, Connect, Redial, Yield, Farewell, Leave, Break}
use Rattle.oftp_schedule.specs.declared.connection.Choice.{Choice}
use Rattle.oftp_schedule.specs.declared.connection.Choice.TheVariants.{Nothing, Finish, Settle, Admit, Inspect, Start, Proceed, Consult, Perform, Lend, Seek, Depart}
use Rattle.oftp_schedule.specs.declared.connection.Call.{Call}
use Rattle.oftp_schedule.specs.declared.connection.Session.{Session}
use Rattle.oftp_schedule.specs.declared.connection.Connection.{Connection}
use Rattle.oftp_schedule.specs.declared.connection.Step.{Step}
use Rattle.oftp_schedule.specs.declared.connection.Limits.{Limits}
use Rattle.oftp_schedule.specs.Rules.{stepped, after_step, with_octets, with_backlog, with_last, at_end, with_share, answering, answered, parting, went, dialing_time, rule, hurried_phase, is_ripe, ends_session, has_id, is_other, connection_at, phase_at, became, owed_phase, shared_phase}
use Rattle.oftp_schedule.specs.Machine.{State, Turn, limits_now, new_call, at_door, edited, after_session, replied, in_numbers, replied_at, first_phase, received, welcomed, chosen}
use Rattle.oftp_schedule.specs.Apart.{one_if, how_many}
use Rattle.oftp_schedule.proofs.Numbers.{Distinct, Distinct-map}
use Rattle.oftp_schedule.proofs.Places.{found}
use Rattle.oftp_schedule.proofs.Events.{Edits, received_holds}
use Rattle.oftp_schedule.proofs.Fitting.{IsDistinct, settles, Settles, ChoiceFits}
use Rattle.oftp_schedule.proofs.Counting.{untouched, counted_became, counted_removed, counted_pushed, counted_edited}

-- 1. What a rule keeps: it brings nobody into a phase of which there may be one, but from such a phase

abbrev pub phase_of : Reply → Option Phase
phase_of (Become p) = Some p
phase_of (Queue p) = Some p
phase_of (Respond p) = Some p
phase_of (Refuse p why) = Some p
phase_of (Connect p) = Some p
phase_of (Redial p) = Some p
phase_of (Yield p) = Some p
phase_of (Farewell p) = Some p
phase_of r = None

abbrev pub leads : (Phase → Bool) → Phase → Option Phase → Bool
leads t p None = true
leads t p (Some q) = if t q then t p else true

-- what a test of phases has to say where there may be one such connection
pub record IsRare (t : Phase → Bool) : Type 0 where
  pub wanted : (c : Call) → t (Wanted c) ≡ false
  pub calling : (i : ℕ) → t (Calling i) ≡ false
  pub guest : (n : ℕ) → t (Guest n) ≡ false
  pub parting : (u : ℕ) → t (Parting u) ≡ false
  pub ready : (r : Request) (k : Rank) → t (Ready r k) ≡ false
  pub answered : (u o : ℕ) → t (Answered u o) ≡ false
  pub stranger : (u r : ℕ) → t (Stranger u r) ≡ false
  pub asking : (u : ℕ) → t (Asking u) ≡ false
  pub alike : (x y : Session) → t (Between x) ≡ t (Between y)
  pub stepped : (x y : Session) → leads t (Stepping x) (Some (Between y)) ≡ true
  pub between : (x y : Session) → leads t (Between x) (Some (Between y)) ≡ true
  pub dialing : (c k : Call) (u : ℕ) → leads t (Resolving c) (Some (Dialing k u)) ≡ true
  pub connected : (c k : Call) (u v : ℕ) → leads t (Dialing c u) (Some (Connected k v)) ≡ true

-- no edit of all phases changes what such a test says
rare_owed : (t : Phase → Bool) → IsRare t → (p : Phase) → t (owed_phase p) ≡ t p
rare_owed t rare (Ready r k) = rare.ready r Owed ∙ sym (rare.ready r k)
rare_owed t rare p = refl

rare_hurried : (t : Phase → Bool) → IsRare t → (v : ℕ) (p : Phase) → t (hurried_phase v p) ≡ t p
rare_hurried t rare v (Answered u o) = rare.answered (min u v) o ∙ sym (rare.answered u o)
rare_hurried t rare v p = refl

rare_shared : (t : Phase → Bool) → IsRare t → (k : ℕ) (p : Phase) → t (shared_phase k p) ≡ t p
rare_shared t rare k (Between x) = rare.alike (with_share k x) x
rare_shared t rare k p = refl

-- the number in a phase after a reply
moved_le : (a b x y z : ℕ) → x + a ≡ y + b → b ≤ a → x ≤ y
moved_le a b x y z e l = omega arith

leads_le : (t : Phase → Bool) (p q : Phase) → leads t p (Some q) ≡ true → one_if (t q) ≤ one_if (t p)
leads_le t p q h = cases (t q) (t p) h
  where
    cases : (b a : Bool) → (if b then a else true) ≡ true → one_if b ≤ one_if a
    cases true true h = omega arith
    cases true false h = cc
    cases false true h = omega arith
    cases false false h = omega arith

became_le : (t : Phase → Bool) (hi : ℕ) (cs : List Connection) (c : Connection) (q : Phase) → Distinct hi cs → phase_at c.id cs ≡ Some c.phase
    → leads t c.phase (Some q) ≡ true → how_many t (map (became c.id q) cs) ≤ how_many t cs
became_le t hi cs c q o e k =
    moved_le (one_if (t c.phase)) (one_if (t q)) (how_many t (map (became c.id q) cs)) (how_many t cs) 0 (counted_became t c.id c.phase q hi cs o e) (leads_le t c.phase q k)

queued_le : (t : Phase → Bool) (hi : ℕ) (cs : List Connection) (c : Connection) (q : Phase) → Distinct hi cs → phase_at c.id cs ≡ Some c.phase
    → leads t c.phase (Some q) ≡ true → how_many t (filter (is_other c.id) cs ++ at_door c.id c.door q ∷ []) ≤ how_many t cs
queued_le t hi cs c q o e k =
    let r = counted_removed t c.id c.phase hi cs o e in
    let p = counted_pushed t (filter (is_other c.id) cs) (at_door c.id c.door q) in
    let l = leads_le t c.phase q k in
    sum (how_many t (filter (is_other c.id) cs ++ at_door c.id c.door q ∷ [])) (how_many t (filter (is_other c.id) cs)) (one_if (t q)) (one_if (t c.phase)) (how_many t cs) p r l
  where
    sum : (x f b a y : ℕ) → x ≡ f + b → f + a ≡ y → b ≤ a → x ≤ y
    sum x f b a y p r l = omega arith

removed_le : (t : Phase → Bool) (hi : ℕ) (cs : List Connection) (c : Connection) → Distinct hi cs → phase_at c.id cs ≡ Some c.phase → how_many t (filter (is_other c.id) cs) ≤ how_many t cs
removed_le t hi cs c o e = sum (how_many t (filter (is_other c.id) cs)) (one_if (t c.phase)) (how_many t cs) (counted_removed t c.id c.phase hi cs o e)
  where
    sum : (f a y : ℕ) → f + a ≡ y → f ≤ y
    sum f a y r = omega arith

false_leads : (t : Phase → Bool) (p q : Phase) → t q ≡ false → leads t p (Some q) ≡ true
false_leads t p q h = ap (λ b. if b then t p else true) h

pushed_same : (t : Phase → Bool) (cs : List Connection) (d : Connection) → t d.phase ≡ false → how_many t (cs ++ d ∷ []) ≡ how_many t cs
pushed_same t cs d h = sum (how_many t (cs ++ d ∷ [])) (how_many t cs) (one_if (t d.phase)) (counted_pushed t cs d) (ap one_if h)
  where
    sum : (x y b : ℕ) → x ≡ y + b → b ≡ 0 → x ≡ y
    sum x y b p e = omega arith

edited_le : (t : Phase → Bool) → IsRare t → (s : State) (c : Connection) (r : Reply) → IsDistinct s → phase_at c.id s.connections ≡ Some c.phase
    → leads t c.phase (phase_of r) ≡ true → how_many t (edited s c r) ≤ how_many t s.connections
edited_le t rare s c Stay o e k = omega arith
edited_le t rare s c (Become p) o e k = became_le t s.next s.connections c p o e k
edited_le t rare s c (Queue p) o e k = queued_le t s.next s.connections c p o e k
edited_le t rare s c (Want n) o e k =
    let cs = map (became c.id (Calling s.next)) s.connections in
    let d = at_door s.next Calls (Wanted (new_call s.limits n (By c.id))) in
    let same = pushed_same t cs d (rare.wanted (new_call s.limits n (By c.id))) in
    let le = became_le t s.next s.connections c (Calling s.next) o e (false_leads t c.phase (Calling s.next) (rare.calling s.next)) in
    sum (how_many t (cs ++ d ∷ [])) (how_many t cs) (how_many t s.connections) same le
  where
    sum : (x y z : ℕ) → x ≡ y → y ≤ z → x ≤ z
    sum x y z e l = omega arith
edited_le t rare s c (Respond p) o e k = became_le t s.next s.connections c p o e k
edited_le t rare s c (Refuse p why) o e k = became_le t s.next s.connections c p o e k
edited_le t rare s c (Connect p) o e k = became_le t s.next s.connections c p o e k
edited_le t rare s c (Redial p) o e k = became_le t s.next s.connections c p o e k
edited_le t rare s c (Yield p) o e k = queued_le t s.next s.connections c p o e k
edited_le t rare s c (Farewell p) o e k = became_le t s.next s.connections c p o e k
edited_le t rare s c (Leave why) o e k = removed_le t s.next s.connections c o e
edited_le t rare s c (Break why) o e k = removed_le t s.next s.connections c o e

owed_same : (t : Phase → Bool) → IsRare t → (b : Bool) (cs : List Connection) → how_many t (after_session b cs) ≡ how_many t cs
owed_same t rare true cs = counted_edited t owed_phase (rare_owed t rare) cs
owed_same t rare false cs = refl

pub replied_le : (t : Phase → Bool) → IsRare t → (s : State) (c : Connection) (r : Reply) → IsDistinct s → phase_at c.id s.connections ≡ Some c.phase
    → leads t c.phase (phase_of r) ≡ true → how_many t (replied s c r).0.connections ≤ how_many t s.connections
replied_le t rare s c r o e k =
    subst (λ (n : ℕ). n ≤ how_many t s.connections) (sym (owed_same t rare (ends_session c.phase r) (edited s c r))) (edited_le t rare s c r o e k)

in_numbers_leads : (t : Phase → Bool) (next : ℕ) (p : Phase) (r : Reply) → leads t p (phase_of r) ≡ true → leads t p (phase_of (in_numbers next r)) ≡ true
in_numbers_leads t next p (Want n) k = elim (nat_lt next (2 ^ 63)) as (λ b. leads t p (phase_of (if b then Want n else Leave Stopping)) ≡ true) [ true ↦ refl | false ↦ refl ]
in_numbers_leads t next p r k = k

-- who is found, and what a reply to it leaves
pub replied_at_le : (t : Phase → Bool) → IsRare t → (s : State) (u : Connection → Bool) (f : Connection → Reply) (at : Option Connection) → find u s.connections ≡ at
    → IsDistinct s → ((c : Connection) → u c ≡ true → phase_at c.id s.connections ≡ Some c.phase → leads t c.phase (phase_of (f c)) ≡ true)
    → how_many t (replied_at s at f).0.connections ≤ how_many t s.connections
replied_at_le t rare s u f None e o k = omega arith
replied_at_le t rare s u f (Some c) e o k =
    let h = found u s.next s.connections c e o in
    replied_le t rare s c (in_numbers s.next (f c)) o h.0 (in_numbers_leads t s.next c.phase (f c) (k c h.1 h.0))

-- 2. The tests of which there may be one

stepped_leads : (t : Phase → Bool) → ((x y : Session) → leads t (Stepping x) (Some (Between y)) ≡ true) → (now : ℕ) (x : Session) (w : Step) (i : Input)
    → leads t (Stepping x) (phase_of (after_step now x w i)) ≡ true
stepped_leads t k now x w Gone = refl
stepped_leads t k now x w Awaited = k x (stepped now x w)
stepped_leads t k now x w Here = k x (stepped now x w)
stepped_leads t k now x w Last = k x (stepped now x w)

ended_leads : (t : Phase → Bool) → ((x y : Session) → leads t (Between x) (Some (Between y)) ≡ true) → (x : Session) (i : Input) → leads t (Between x) (phase_of (at_end x i)) ≡ true
ended_leads t k x Here = k x (with_last x)
ended_leads t k x Last = refl
ended_leads t k x Awaited = refl
ended_leads t k x Gone = refl

went_leads : (t : Phase → Bool) (p : Phase) → ((u o : ℕ) → t (Answered u o) ≡ false) → ((u : ℕ) → t (Parting u) ≡ false) → (now : ℕ) (l : Limits) (d : Door) (u k : ℕ)
    → leads t p (phase_of (went now l d u k)) ≡ true
went_leads t p ka kp now l Requests u zero = false_leads t p (parting now l) (kp (now + l.farewell))
went_leads t p ka kp now l Partners u zero = refl
went_leads t p ka kp now l Commands u zero = refl
went_leads t p ka kp now l Calls u zero = refl
went_leads t p ka kp now l d u (suc k) = false_leads t p (Answered (max u (now + answering l d)) (suc k)) (ka (max u (now + answering l d)) (suc k))

rule_leads : (t : Phase → Bool) → IsRare t → (now : ℕ) (l : Limits) (d : Door) (p : Phase) (g : Signal) → leads t p (phase_of (rule now l d p g)) ≡ true
rule_leads t k now l d (Stranger u r) LetIn = false_leads t (Stranger u r) (Guest now) (k.guest now)
rule_leads t k now l d (Stranger u r) Rejected = false_leads t (Stranger u r) (parting now l) (k.parting (now + l.farewell))
rule_leads t k now l d (Stranger u r) Ends = refl
rule_leads t k now l d (Stranger u r) Lost = refl
rule_leads t k now l d (Guest n) Lost = refl
rule_leads t k now l d (Stepping x) (Waits w) = stepped_leads t k.stepped now x w w.input
rule_leads t k now l d (Stepping x) (Ended Own) = false_leads t (Stepping x) (parting now l) (k.parting (now + l.farewell))
rule_leads t k now l d (Stepping x) (Ended Other) = refl
rule_leads t k now l d (Between x) Came = k.between x (with_octets now x)
rule_leads t k now l d (Between x) (Went m) = k.between x (with_backlog now x m)
rule_leads t k now l d (Between x) Ends = ended_leads t k.between x x.input
rule_leads t k now l d (Between x) Lost = refl
rule_leads t k now l d (Parting u) Ends = refl
rule_leads t k now l d (Parting u) Lost = refl
rule_leads t k now l d (Asking u) (Asked r) = false_leads t (Asking u) (Ready r Usual) (k.ready r Usual)
rule_leads t k now l d (Asking u) (Wants n) = refl
rule_leads t k now l d (Asking u) Rejected = refl
rule_leads t k now l d (Asking u) Ends = refl
rule_leads t k now l d (Asking u) Lost = refl
rule_leads t k now l d (Ready r j) Lost = refl
rule_leads t k now l d (Served r) (Done o) = false_leads t (Served r) (answered now l d o) (k.answered (now + max (answering l d) l.farewell) o)
rule_leads t k now l d (Calling i) Lost = refl
rule_leads t k now l d (Copying u) Ends = false_leads t (Copying u) (answered now l d 0) (k.answered (now + max (answering l d) l.farewell) 0)
rule_leads t k now l d (Copying u) Lost = refl
rule_leads t k now l d (Answered u o) (Went m) = went_leads t (Answered u o) k.answered k.parting now l d u m
rule_leads t k now l d (Answered u o) Lost = refl
rule_leads t k now l d (Resolving c) Resolved = k.dialing c c (now + dialing_time l c)
rule_leads t k now l d (Resolving c) Failed = refl
rule_leads t k now l d (Dialing c u) Up = k.connected c c u (now + l.standing)
rule_leads t k now l d (Dialing c u) Failed = refl
rule_leads t k now l d (Connected c u) Lost = refl
rule_leads t k now l d p g = refl

-- what settles a connection leads nowhere else
settled_leads : (t : Phase → Bool) → IsRare t → (p : Phase) (r : Reply) → settles p r ≡ true → leads t p (phase_of r) ≡ true
settled_leads t k (Stranger u r) (Leave TimedOut) h = refl
settled_leads t k (Stranger u r) (Leave Stopping) h = refl
settled_leads t k (Guest n) (Leave Stopping) h = refl
settled_leads t k (Between x) (Break TimedOut) h = refl
settled_leads t k (Between x) (Break Stalled) h = refl
settled_leads t k (Between x) (Break Stopping) h = refl
settled_leads t k (Between x) (Yield (Wanted c)) h = false_leads t (Between x) (Wanted c) (k.wanted c)
settled_leads t k (Parting u) (Leave TimedOut) h = refl
settled_leads t k (Asking u) (Leave TimedOut) h = refl
settled_leads t k (Asking u) (Leave Stopping) h = refl
settled_leads t k (Asking v) (Refuse (Answered u o) Stopping) h = false_leads t (Asking v) (Answered u o) (k.answered u o)
settled_leads t k (Ready r j) (Refuse (Answered u o) Stopping) h = false_leads t (Ready r j) (Answered u o) (k.answered u o)
settled_leads t k (Calling i) (Respond (Answered u o)) h = false_leads t (Calling i) (Answered u o) (k.answered u o)
settled_leads t k (Copying v) (Refuse (Answered u o) TimedOut) h = false_leads t (Copying v) (Answered u o) (k.answered u o)
settled_leads t k (Answered u o) (Leave TimedOut) h = refl
settled_leads t k (Wanted c) (Leave Orphaned) h = refl
settled_leads t k (Wanted c) (Leave Stopping) h = refl
settled_leads t k (Resolving c) (Leave Stopping) h = refl
settled_leads t k (Dialing c u) (Leave Unreached) h = refl
settled_leads t k (Dialing c u) (Leave Orphaned) h = refl
settled_leads t k (Dialing c u) (Leave Stopping) h = refl
settled_leads t k (Connected c u) (Redial (Wanted j)) h = false_leads t (Connected c u) (Wanted j) (k.wanted j)
settled_leads t k (Connected c u) (Leave TimedOut) h = refl
settled_leads t k (Connected c u) (Leave Orphaned) h = refl
settled_leads t k (Connected c u) (Leave Stopping) h = refl
settled_leads t k p r h = cc

-- 3. What is told leaves no more than there was

pub through : (x y z : ℕ) → x ≤ y → y ≤ z → x ≤ z
through x y z l m = omega arith

came_leads : (t : Phase → Bool) → IsRare t → (p : Phase) (now : ℕ) (l : Limits) (d : Door) → leads t p (Some (first_phase now l d)) ≡ true
came_leads t rare p now l Partners = false_leads t p (Stranger (now + l.admission) (now + l.shelter)) (rare.stranger (now + l.admission) (now + l.shelter))
came_leads t rare p now l Commands = false_leads t p (Asking (now + l.asking)) (rare.asking (now + l.asking))
came_leads t rare p now l Requests = false_leads t p (Asking (now + l.requesting)) (rare.asking (now + l.requesting))
came_leads t rare p now l Calls = false_leads t p (Asking (now + l.asking)) (rare.asking (now + l.asking))

abbrev pub NoMoreIn : (Phase → Bool) → State → State → Type 0
NoMoreIn t s u = how_many t u.connections ≤ how_many t s.connections

edits_le : (t : Phase → Bool) → IsRare t → Edits IsDistinct (NoMoreIn t)
edits_le t rare = record {
  stays = λ s. omega arith;
  after = λ s u v h k. through (how_many t v.connections) (how_many t u.connections) (how_many t s.connections) k h;
  gates = λ s a b c. omega arith;
  later = λ s now l. omega arith;
  reviewed_at = λ s n. omega arith;
  ends = λ s st. omega arith;
  wants = λ s p o.
      let k = new_call s.limits p ByClock in
      let e = pushed_same t s.connections (at_door s.next Calls (Wanted k)) (rare.wanted k) in omega arith;
  comes = λ s u c o e.
      let q = first_phase s.now s.limits c.door in
      let le = became_le t s.next s.connections c q o (found u s.next s.connections c e o).0 (came_leads t rare c.phase s.now s.limits c.door) in
      (le, Distinct-map (became c.id q) (λ _. refl) s.next s.connections o);
  goes = λ s u c o e. removed_le t s.next s.connections c o (found u s.next s.connections c e o).0;
  closes = λ s c o e. replied_le t rare s c (Leave Evicted) o (found (is_ripe s.now) s.next s.connections c e o).0 refl;
  hears = λ s u c g o e.
      let r = rule s.now (limits_now s) c.door c.phase g in
      replied_le t rare s c (in_numbers s.next r) o (found u s.next s.connections c e o).0 (in_numbers_leads t s.next c.phase r (rule_leads t rare s.now (limits_now s) c.door c.phase g));
}

pub received_le : (t : Phase → Bool) → IsRare t → (s : State) (e : Event) → IsDistinct s → NoMoreIn t s (received s e).0
received_le t rare s e o = received_holds IsDistinct (NoMoreIn t) (edits_le t rare) s e o

-- 4. What is chosen adds one at most

-- whom a choice brings into a phase
abbrev pub target : State → Choice → Option Phase
target s (Admit d) = Some Arriving
target s (Start id x) = Some (Stepping x)
target s (Proceed id x) = Some (Stepping x)
target s (Consult id) = Some (Served Query)
target s (Perform id) = Some (Served Update)
target s (Lend id) = Some (Copying (s.now + s.limits.copying))
target s (Seek id c) = Some (Resolving c)
target s c = None

abbrev pub gain : (Phase → Bool) → Option Phase → ℕ
gain t None = 0
gain t (Some p) = one_if (t p)

became_gain : (t : Phase → Bool) (hi id : ℕ) (cs : List Connection) (q : Phase) → Distinct hi cs → how_many t (map (became id q) cs) ≤ how_many t cs + one_if (t q)
became_gain t hi id cs q o = cases (phase_at id cs) refl
  where
    cases : (at : Option Phase) → phase_at id cs ≡ at → how_many t (map (became id q) cs) ≤ how_many t cs + one_if (t q)
    cases None e = let h = untouched t id q cs e in omega arith
    cases (Some p) e = let h = counted_became t id p q hi cs o e in omega arith

pub chosen_gain : (t : Phase → Bool) → IsRare t → (s : State) (c : Choice) → IsDistinct s → ChoiceFits s.connections c
    → how_many t (chosen s c).0.connections ≤ how_many t s.connections + gain t (target s c)
chosen_gain t rare s Nothing o f = omega arith
chosen_gain t rare s (Finish st) o f = let h = counted_edited t (hurried_phase (s.now + s.limits.farewell)) (rare_hurried t rare (s.now + s.limits.farewell)) s.connections in omega arith
chosen_gain t rare s (Settle id r) o f =
    let h = replied_at_le t rare s (has_id id) (λ c. r) (connection_at id s.connections) refl o (λ c y e. settled_leads t rare c.phase r (fits c y e)) in omega arith
  where
    fits : (c : Connection) → has_id id c ≡ true → phase_at c.id s.connections ≡ Some c.phase → settles c.phase r ≡ true
    fits c y e =
        let is : c.id ≡ id = grind (arith, nat_tests, y) in
        let e' : phase_at id s.connections ≡ Some c.phase = ap (λ i. phase_at i s.connections) (sym is) ∙ e in
        subst (λ (at : Option Phase). Settles at r) e' f
chosen_gain t rare s (Admit d) o f = cases (nat_lt s.next (2 ^ 63))
  where
    cases : (b : Bool) → how_many t (let u : Turn = if b then welcomed s d else (s, []) in u.0.connections) ≤ how_many t s.connections + one_if (t Arriving)
    cases true = let h = counted_pushed t s.connections (at_door s.next d Arriving) in omega arith
    cases false = omega arith
chosen_gain t rare s Inspect o f = omega arith
chosen_gain t rare s (Start id x) o f = became_gain t s.next id s.connections (Stepping x) o
chosen_gain t rare s (Proceed id x) o f = became_gain t s.next id s.connections (Stepping x) o
chosen_gain t rare s (Consult id) o f =
    let h = counted_edited t (shared_phase s.limits.share) (rare_shared t rare s.limits.share) (map (became id (Served Query)) s.connections) in
    let g = became_gain t s.next id s.connections (Served Query) o in omega arith
chosen_gain t rare s (Perform id) o f = became_gain t s.next id s.connections (Served Update) o
chosen_gain t rare s (Lend id) o f = became_gain t s.next id s.connections (Copying (s.now + s.limits.copying)) o
chosen_gain t rare s (Seek id c) o f = became_gain t s.next id s.connections (Resolving c) o
chosen_gain t rare s (Depart st) o f = omega arith
