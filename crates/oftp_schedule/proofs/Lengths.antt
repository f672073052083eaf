-- Nothing moves the begin and the end of a session, and once the station ends nothing gives an answer more time.
use Rattle.std.proofs.Common.{inl, inr, subst, ◌≡◌, ℕ, zero, suc, ◌+◌, ◌==◌, ◌≤◌, max, Bool, true, false, if◌then◌else◌, List, [], ◌∷◌, ◌++◌, Option, Some, None, map, filter, refl, ap, sym, ◌∙◌, arith}
use Rattle.std.proofs.lemmas.Bool.Decides.{eqb_tells}
use Rattle.oftp_schedule.specs.declared.connection.Door.{Door}
use Rattle.oftp_schedule.specs.declared.connection.Door.TheVariants.{Partners, Commands, Requests, Calls}
use Rattle.oftp_schedule.specs.declared.connection.Request.{Request}
use Rattle.oftp_schedule.specs.declared.connection.Request.TheVariants.{Query, Update, Backup}
use Rattle.oftp_schedule.specs.declared.connection.Asker.TheVariants.{By}
use Rattle.oftp_schedule.specs.declared.connection.Input.{Input}
use Rattle.oftp_schedule.specs.declared.connection.Input.TheVariants.{Here, Last, Gone}
use Rattle.oftp_schedule.specs.declared.connection.End.TheVariants.{Own, Other}
use Rattle.oftp_schedule.specs.declared.connection.Phase.{Phase}
use Rattle.oftp_schedule.specs.declared.connection.Phase.TheVariants.{Arriving, Stepping, Between, Ready, Calling, Answered, Wanted}
use Rattle.oftp_schedule.specs.declared.connection.Signal.{Signal}
use Rattle.oftp_schedule.specs.declared.connection.Signal.TheVariants.{Waits, Ended, Came, Went, Ends, Lost}
use Rattle.oftp_schedule.specs.declared.connection.Arrival.{Arrival}
use Rattle.oftp_schedule.specs.declared.connection.Event.{Event}
use Rattle.oftp_schedule.specs.declared.connection.Event.TheVariants.{Knock, Accepted, Passed, Told, Due, Reviewed, Over}
use Rattle.oftp_schedule.specs.declared.connection.Reply.{Reply}
use Rattle.oftp_schedule.specs.declared.connection.Reply.TheVariants.{Yield, Leave, Break}
use Rattle.oftp_schedule.specs.declared.connection.Choice.{Choice}
use Rattle.oftp_schedule.specs.declared.connection.Choice.TheVariants.{Finish, Settle, Start, Proceed, Consult, Perform, Lend, Seek}
use Rattle.oftp_schedule.specs.declared.connection.Course.{Course}
use Rattle.oftp_schedule.specs.declared.connection.Session.{Session}
use Rattle.oftp_schedule.specs.declared.connection.Step.{Step}
use Rattle.oftp_schedule.specs.declared.connection.Connection.{Connection}
use Rattle.oftp_schedule.specs.declared.connection.Limits.{Limits}
use Rattle.oftp_schedule.specs.declared.connection.Partner.{Partner}
use Rattle.oftp_schedule.specs.declared.connection.Call.{Call}
use Rattle.oftp_schedule.specs.Rules.{after_step, at_end, answering, answered_whole, went, rule, hurried_phase, is_arriving_phase, ends_session, is_other, connection_at, phase_at, became, owed_phase, shared_phase}
use Rattle.oftp_schedule.specs.Machine.{State, is_ending, hasty, limits_in, limits_now, new_call, at_door, edited, after_session, replied, in_numbers, replied_at, accepted_at, received, choice, chosen, Move, step, Tell, Ask}
use Rattle.oftp_schedule.specs.Deadlines.{session_of, KeepsEnds, IsHastened, is_of, is_for, IsLeft, left_by}
use Rattle.oftp_schedule.proofs.Numbers.{same, differs, became_same, pushed, map_phase, edited_phase, at_number}
use Rattle.oftp_schedule.proofs.Editing.{ReplyHolds, numbers_hold, edit_holds}
use Rattle.oftp_schedule.proofs.Fitting.{IsDistinct, settles, Settles, begins, Begins, asks, Asks, ChoiceFits, choice_fits}
use Rattle.oftp_schedule.proofs.Deadlines.{Spared, unmoved_by, chosen_spares}
use Rattle.oftp_schedule.proofs.Places.{other_same}

-- a session of this phase began and ends when x did and does
abbrev SameEnds : Session → Option Session → Type 0
SameEnds x None = Unit {0}
SameEnds x (Some y) = (y.begun ≡ x.begun) × (y.ends ≡ x.ends)

abbrev Keeps : Session → Phase → Type 0
Keeps x q = SameEnds x (session_of q)

-- what holds of the phase of one who is there
abbrev HoldsAt : (Phase → Type 0) → Option Phase → Type 0
HoldsAt K None = Unit {0}
HoldsAt K (Some q) = K q

abbrev KeepsAt : Session → Option Phase → Type 0
KeepsAt x o = HoldsAt (Keeps x) o

itself : (p : Phase) (x : Session) → session_of p ≡ Some x → Keeps x p
itself p x e = rw e (refl, refl)

owed_keeps : (x : Session) (q : Phase) → Keeps x q → Keeps x (owed_phase q)
owed_keeps x (Ready r k) h = h
owed_keeps x q h = h

hurried_keeps : (x : Session) (v : ℕ) (q : Phase) → Keeps x q → Keeps x (hurried_phase v q)
hurried_keeps x v (Answered u o) h = h
hurried_keeps x v q h = h

shared_keeps : (x : Session) (k : ℕ) (q : Phase) → Keeps x q → Keeps x (shared_phase k q)
shared_keeps x k (Between y) h = h
shared_keeps x k q h = h

-- 1. A reply to its own connection

abbrev ReplyKeeps : Session → Reply → Type 0
ReplyKeeps x r = ReplyHolds (Keeps x) r

-- it holds of a command that waits for its call, and of a request whatever its rank
abbrev IsFirm : (Phase → Type 0) → Type 0
IsFirm K = ((i : ℕ) → K (Calling i)) × ((q : Phase) → K q → K (owed_phase q))

keeps_firm : (x : Session) → IsFirm (Keeps x)
keeps_firm x = (λ i. tt, owed_keeps x)

edited_holds : (K : Phase → Type 0) → IsFirm K → (s : State) (c : Connection) (r : Reply) → phase_at c.id s.connections ≡ Some c.phase → K c.phase → ReplyHolds K r
    → HoldsAt K (phase_at c.id (edited s c r))
edited_holds K firm s c r e f k = edit_holds (λ cs. HoldsAt K (phase_at c.id cs)) K s c same_phase set moved wants out r k
  where
    set : (q : Phase) → K q → HoldsAt K (phase_at c.id (map (became c.id q) s.connections))
    set q k = rw (became_same c.id q s.connections, e) k

    out : HoldsAt K (phase_at c.id (filter (is_other c.id) s.connections))
    out = rw (other_same c.id s.connections) tt

    moved : (q : Phase) → K q → HoldsAt K (phase_at c.id (filter (is_other c.id) s.connections ++ at_door c.id c.door q ∷ []))
    moved q k = rw (pushed c.id (filter (is_other c.id) s.connections) (at_door c.id c.door q), other_same c.id s.connections, same c.id) k

    wants : (n : Partner) → HoldsAt K (phase_at c.id (map (became c.id (Calling s.next)) s.connections ++ at_door s.next Calls (Wanted (new_call s.limits n (By c.id))) ∷ []))
    wants n = rw (
      pushed c.id (map (became c.id (Calling s.next)) s.connections) (at_door s.next Calls (Wanted (new_call s.limits n (By c.id)))),
      became_same c.id (Calling s.next) s.connections,
      e,
    ) (firm.0 s.next)

    same_phase : HoldsAt K (phase_at c.id s.connections)
    same_phase = rw e f

after_holds : (K : Phase → Type 0) → IsFirm K → (b : Bool) (id : ℕ) (cs : List Connection) → HoldsAt K (phase_at id cs) → HoldsAt K (phase_at id (after_session b cs))
after_holds K firm true id cs h = rw (edited_phase owed_phase id cs) (less (phase_at id cs) h)
  where
    less : (o : Option Phase) → HoldsAt K o → HoldsAt K (map_phase owed_phase o)
    less None h = tt
    less (Some q) h = firm.1 q h
after_holds K firm false id cs h = h

replied_holds : (K : Phase → Type 0) → IsFirm K → (id : ℕ) (s : State) (at : Option Connection) (f : Connection → Reply) (p : Phase) → connection_at id s.connections ≡ at
    → phase_at id s.connections ≡ Some p → K p → ((c : Connection) → c.phase ≡ p → ReplyHolds K (f c)) → HoldsAt K (phase_at id (replied_at s at f).0.connections)
replied_holds K firm id s None f p a e g k = rw e g
replied_holds K firm id s (Some c) f p a e g k =
    let h = at_number id s.connections c a in
    let there : Some c.phase ≡ Some p = sym h.1 ∙ e in
    let q : c.phase ≡ p = cc in
    let e' : phase_at c.id s.connections ≡ Some c.phase = ap (λ i. phase_at i s.connections) h.0 ∙ h.1 in
    let r = in_numbers s.next (f c) in
    subst (λ (i : ℕ). HoldsAt K (phase_at i (replied s c r).0.connections)) h.0
    (after_holds K firm (ends_session c.phase r) c.id (edited s c r) (edited_holds K firm s c r e' (subst K (sym q) g) (numbers_hold K s.next (f c) (k c q))))

replied_keeps : (id : ℕ) (s : State) (at : Option Connection) (f : Connection → Reply) (p : Phase) (x : Session) → connection_at id s.connections ≡ at
    → phase_at id s.connections ≡ Some p → session_of p ≡ Some x → ((c : Connection) → c.phase ≡ p → ReplyKeeps x (f c)) → KeepsAt x (phase_at id (replied_at s at f).0.connections)
replied_keeps id s at f p x a e g k = replied_holds (Keeps x) (keeps_firm x) id s at f p a e (itself p x g) k

-- 2. What is told

step_keeps : (now : ℕ) (x : Session) (w : Step) (i : Input) → ReplyKeeps x (after_step now x w i)
step_keeps now x w Gone = tt
step_keeps now x w i = (refl, refl)

end_keeps : (x : Session) (i : Input) → ReplyKeeps x (at_end x i)
end_keeps x Here = (refl, refl)
end_keeps x Last = tt
end_keeps x i = tt

rule_keeps : (now : ℕ) (l : Limits) (d : Door) (p : Phase) (g : Signal) (x : Session) → session_of p ≡ Some x → ReplyKeeps x (rule now l d p g)
rule_keeps now l d (Stepping y) g x e = let q : y ≡ x = cc in subst (λ (z : Session). ReplyKeeps z (rule now l d (Stepping y) g)) q (own g)
  where
    own : (g : Signal) → ReplyKeeps y (rule now l d (Stepping y) g)
    own (Waits w) = step_keeps now y w w.input
    own (Ended Own) = tt
    own (Ended Other) = tt
    own g = tt
rule_keeps now l d (Between y) g x e = let q : y ≡ x = cc in subst (λ (z : Session). ReplyKeeps z (rule now l d (Between y) g)) q (own g)
  where
    own : (g : Signal) → ReplyKeeps y (rule now l d (Between y) g)
    own Came = (refl, refl)
    own (Went k) = (refl, refl)
    own Ends = end_keeps y y.input
    own Lost = tt
    own g = tt
rule_keeps now l d p g x e = cc

left_holds : (K : Phase → Type 0) → IsFirm K → (now : ℕ) (p : Phase) (o : Option Phase) → K p → IsLeft now p o → HoldsAt K o
left_holds K firm now p None k h = tt
left_holds K firm now p (Some q) k (inl f) = rw f k
left_holds K firm now p (Some q) k (inr f) = rw f (firm.1 p k)

accepted_holds : (K : Phase → Type 0) (id : ℕ) (s : State) (at : Option Connection) (a : Arrival) (p : Phase) → connection_at id s.connections ≡ at → phase_at id s.connections ≡ Some p
    → is_arriving_phase p ≡ false → K p → HoldsAt K (phase_at id (accepted_at s at a).0.connections)
accepted_holds K id s None a p f e n k = rw e k
accepted_holds K id s (Some c) a p f e n k =
    let h = at_number id s.connections c f in
    let there : Some c.phase ≡ Some p = sym h.1 ∙ e in
    let q : c.phase ≡ p = cc in
    rw (ap is_arriving_phase q ∙ n, e) k

-- what holds of one who is there, and of what each signal makes of it, holds after any event
received_holds : (K : Phase → Type 0) → IsFirm K → (id : ℕ) (s : State) (e : Event) (p : Phase) → IsDistinct s → phase_at id s.connections ≡ Some p → is_arriving_phase p ≡ false → K p
    → ((d : Door) (g : Signal) → ReplyHolds K (rule s.now (limits_now s) d p g)) → HoldsAt K (phase_at id (received s e).0.connections)
received_holds K firm id s e p o f n k rules = cases e
  where
    another : (e : Event) → is_of id e ≡ false → HoldsAt K (phase_at id (received s e).0.connections)
    another e m = left_holds K firm s.now p (phase_at id (received s e).0.connections) k (unmoved_by s e o id p m f)

    cases : (e : Event) → HoldsAt K (phase_at id (received s e).0.connections)
    cases (Accepted i a) = elim (eqb_tells i id) as (λ _. HoldsAt K (phase_at id (received s (Accepted i a)).0.connections)) [
      | inl y ↦
          subst (λ (i : ℕ). HoldsAt K (phase_at id (received s (Accepted i a)).0.connections)) (sym y.1)
          (accepted_holds K id s (connection_at id s.connections) a p refl f n k)
      | inr m ↦ another (Accepted i a) (differs i id m.1)
    ]
    cases (Told i t) = elim (eqb_tells i id) as (λ _. HoldsAt K (phase_at id (received s (Told i t)).0.connections)) [
      | inl y ↦
          subst (λ (i : ℕ). HoldsAt K (phase_at id (received s (Told i t)).0.connections)) (sym y.1)
          (replied_holds K firm id s (connection_at id s.connections) (λ c. rule s.now (limits_now s) c.door c.phase t) p refl f k
          (λ c q. subst (λ (z : Phase). ReplyHolds K (rule s.now (limits_now s) c.door z t)) (sym q) (rules c.door t)))
      | inr m ↦ another (Told i t) (differs i id m.1)
    ]
    cases (Knock d) = another (Knock d) refl
    cases (Passed t) = another (Passed t) refl
    cases (Due m) = another (Due m) refl
    cases Reviewed = another Reviewed refl
    cases (Over st) = another (Over st) refl

not_arriving : (p : Phase) (x : Session) → session_of p ≡ Some x → is_arriving_phase p ≡ false
not_arriving Arriving x e = cc
not_arriving p x e = refl

received_keeps : (id : ℕ) (s : State) (e : Event) (p : Phase) (x : Session) → IsDistinct s → phase_at id s.connections ≡ Some p → session_of p ≡ Some x
    → KeepsAt x (phase_at id (received s e).0.connections)
received_keeps id s e p x o f g =
    received_holds (Keeps x) (keeps_firm x) id s e p o f (not_arriving p x g) (itself p x g) (λ d t. rule_keeps s.now (limits_now s) d p t x g)

-- 3. What is chosen

settled_keeps : (p : Phase) (r : Reply) (x : Session) → session_of p ≡ Some x → settles p r ≡ true → ReplyKeeps x r
settled_keeps (Between y) r x e h = own r h
  where
    again : (q : Phase) → settles (Between y) (Yield q) ≡ true → Keeps x q
    again (Wanted c) h = tt
    again q h = cc

    own : (r : Reply) → settles (Between y) r ≡ true → ReplyKeeps x r
    own (Break why) h = tt
    own (Yield q) h = again q h
    own r h = cc
settled_keeps (Stepping y) r x e h = cc
settled_keeps p r x e h = cc

begins_none : (p : Phase) (x : Session) → session_of p ≡ Some x → begins p ≡ true → ⊥
begins_none (Stepping y) x e h = cc
begins_none (Between y) x e h = cc
begins_none p x e h = cc

asks_none : (r : Request) (p : Phase) (x : Session) → session_of p ≡ Some x → asks r p ≡ true → ⊥
asks_none Query (Stepping y) x e h = cc
asks_none Query (Between y) x e h = cc
asks_none Update (Stepping y) x e h = cc
asks_none Update (Between y) x e h = cc
asks_none Backup (Stepping y) x e h = cc
asks_none Backup (Between y) x e h = cc
asks_none r p x e h = cc

left_by_keeps : (s : State) (c : Choice) (p : Phase) (x : Session) → session_of p ≡ Some x → Keeps x (left_by s c p)
left_by_keeps s (Finish st) p x e = hurried_keeps x (s.now + s.limits.farewell) p (itself p x e)
left_by_keeps s (Consult i) p x e = shared_keeps x s.limits.share p (itself p x e)
left_by_keeps s c p x e = itself p x e

-- K holds of the phase p of one who is there, and of whatever is chosen for it
record Lasts (K : Phase → Type 0) (s : State) (p : Phase) : Type 0 where
  firm : IsFirm K
  own : K p
  left : (c : Choice) → K (left_by s c p)
  settled : (r : Reply) → settles p r ≡ true → ReplyHolds K r
  not_begun : begins p ≡ true → ⊥
  not_asked : (r : Request) → asks r p ≡ true → ⊥
  proceeds : (y : Session) → Between y ≡ p → K (Stepping y)
  not_wanted : (c : Call) → Wanted c ≡ p → ⊥

spared_holds : (K : Phase → Type 0) → IsFirm K → (s : State) (c : Choice) (p : Phase) (o : Option Phase) → K p → K (left_by s c p) → Spared s c p o → HoldsAt K o
spared_holds K firm s c p o k l (inl f) = rw f l
spared_holds K firm s c p o k l (inr f) = rw f (firm.1 p k)

chosen_holds : (K : Phase → Type 0) (id : ℕ) (s : State) (c : Choice) (p : Phase) → Lasts K s p → ChoiceFits s.connections c → phase_at id s.connections ≡ Some p
    → HoldsAt K (phase_at id (chosen s c).0.connections)
chosen_holds K id s c p h fit f = cases c fit
  where
    After : Choice → Type 0
    After c = HoldsAt K (phase_at id (chosen s c).0.connections)

    another : (c : Choice) → is_for id c ≡ false → After c
    another c n = spared_holds K h.firm s c p (phase_at id (chosen s c).0.connections) h.own (h.left c) (chosen_spares id s c p n f)

    -- it is chosen for another, or for it
    either_way : (i : ℕ) (c : ℕ → Choice) → ((j : ℕ) → is_for id (c j) ≡ (j == id)) → (i ≡ id → After (c i)) → After (c i)
    either_way i c k own = elim (eqb_tells i id) as (λ _. After (c i)) [ inl y ↦ own y.1 | inr n ↦ another (c i) (k i ∙ differs i id n.1) ]

    there : (i : ℕ) → i ≡ id → phase_at i s.connections ≡ Some p
    there i e = ap (λ j. phase_at j s.connections) e ∙ f

    begun : (i : ℕ) → Begins (phase_at i s.connections) → i ≡ id → ⊥
    begun i fit e = let b : begins p ≡ true = subst Begins (there i e) fit in h.not_begun b

    asked : (r : Request) (i : ℕ) → Asks r (phase_at i s.connections) → i ≡ id → ⊥
    asked r i fit e = let a : asks r p ≡ true = subst (Asks r) (there i e) fit in h.not_asked r a

    cases : (c : Choice) → ChoiceFits s.connections c → After c
    cases (Settle i r) fit = either_way i (λ j. Settle j r) (λ j. refl) (λ e.
        let k : settles p r ≡ true = subst (λ o. Settles o r) (there i e) fit in
        subst (λ (j : ℕ). After (Settle j r)) (sym e)
        (replied_holds K h.firm id s (connection_at id s.connections) (λ c. r) p refl f h.own (λ c q. h.settled r k)))
    cases (Start i y) fit = either_way i (λ j. Start j y) (λ j. refl) (λ e. absurd (begun i fit e))
    cases (Proceed i y) fit = either_way i (λ j. Proceed j y) (λ j. refl) (λ e.
        let same_phase : Some (Between y) ≡ Some p = sym fit ∙ there i e in
        let q : Between y ≡ p = cc in
        let own : HoldsAt K (phase_at id (map (became id (Stepping y)) s.connections)) = rw (became_same id (Stepping y) s.connections, f) (h.proceeds y q) in
        subst (λ (j : ℕ). HoldsAt K (phase_at id (map (became j (Stepping y)) s.connections))) (sym e) own)
    cases (Consult i) fit = either_way i Consult (λ j. refl) (λ e. absurd (asked Query i fit e))
    cases (Perform i) fit = either_way i Perform (λ j. refl) (λ e. absurd (asked Update i fit e))
    cases (Lend i) fit = either_way i Lend (λ j. refl) (λ e. absurd (asked Backup i fit e))
    cases (Seek i c) fit = either_way i (λ j. Seek j c) (λ j. refl) (λ e.
        let same_phase : Some (Wanted c) ≡ Some p = sym fit ∙ there i e in
        let q : Wanted c ≡ p = cc in absurd (h.not_wanted c q))
    cases c fit = another c refl

keeps_lasts : (s : State) (p : Phase) (x : Session) → session_of p ≡ Some x → Lasts (Keeps x) s p
keeps_lasts s p x g = record {
  firm = keeps_firm x;
  own = itself p x g;
  left = λ c. left_by_keeps s c p x g;
  settled = λ r h. settled_keeps p r x g h;
  not_begun = λ h. begins_none p x g h;
  not_asked = λ r h. asks_none r p x g h;
  proceeds = λ y q.
      let is : Some y ≡ Some x = ap session_of q ∙ g in
      let z : y ≡ x = cc in (ap (λ (v : Session). v.begun) z, ap (λ (v : Session). v.ends) z);
  not_wanted = λ c q. let bad : None ≡ Some x = ap session_of q ∙ g in cc;
}

chosen_keeps : (id : ℕ) (s : State) (c : Choice) (p : Phase) (x : Session) → ChoiceFits s.connections c → phase_at id s.connections ≡ Some p → session_of p ≡ Some x
    → KeepsAt x (phase_at id (chosen s c).0.connections)
chosen_keeps id s c p x fit f g = chosen_holds (Keeps x) id s c p (keeps_lasts s p x g) fit f

pub keeps_ends : (s : State) (m : Move) → IsDistinct s → KeepsEnds s m
keeps_ends s m o id p q x y e f g h = ends m g
  where
    kept : KeepsAt x (Some q) → (y.begun ≡ x.begun) × (y.ends ≡ x.ends)
    kept k = subst (SameEnds x) h k

    ends : (m : Move) → phase_at id (step s m).0.connections ≡ Some q → (y.begun ≡ x.begun) × (y.ends ≡ x.ends)
    ends (Tell t) g = kept (subst (KeepsAt x) g (received_keeps id s t p x o e f))
    ends Ask g = kept (subst (KeepsAt x) g (chosen_keeps id s (choice s) p x (choice_fits s o) e f))

-- 4. An answer, once the station ends

-- an answer has no longer than until b
abbrev IsBy : ℕ → Phase → Type 0
IsBy b (Answered v k) = v ≤ b
IsBy b q = Unit {0}

by_firm : (b : ℕ) → IsFirm (IsBy b)
by_firm b = (λ i. tt, owed_by)
  where
    owed_by : (q : Phase) → IsBy b q → IsBy b (owed_phase q)
    owed_by (Ready r k) h = h
    owed_by q h = h

hasty_now : (co : Course) (l : Limits) → is_ending co ≡ true → limits_in co l ≡ hasty l
hasty_now co l e = ap (λ b. if b then hasty l else l) e

hasty_answering : (l : Limits) (d : Door) → answering (hasty l) d ≡ 0
hasty_answering l Partners = refl
hasty_answering l Commands = refl
hasty_answering l Requests = refl
hasty_answering l Calls = refl

went_by : (now : ℕ) (l : Limits) (d : Door) (u k : ℕ) → ReplyHolds (IsBy (max u now)) (went now (hasty l) d u k)
went_by now l d u zero = whole d
  where
    whole : (d : Door) → ReplyHolds (IsBy (max u now)) (answered_whole now (hasty l) d)
    whole Requests = tt
    whole Partners = tt
    whole Commands = tt
    whole Calls = tt
went_by now l d u (suc k) = let z = hasty_answering l d in omega (arith, z)

rule_by : (now : ℕ) (l : Limits) (u o : ℕ) (d : Door) (g : Signal) → ReplyHolds (IsBy (max u now)) (rule now (hasty l) d (Answered u o) g)
rule_by now l u o d (Went k) = went_by now l d u k
rule_by now l u o d Lost = tt
rule_by now l u o d g = tt

received_by : (id : ℕ) (s : State) (e : Event) (u o : ℕ) → IsDistinct s → is_ending s.course ≡ true → phase_at id s.connections ≡ Some (Answered u o)
    → HoldsAt (IsBy (max u s.now)) (phase_at id (received s e).0.connections)
received_by id s e u o w n f =
    let b = max u s.now in
    let le : u ≤ b = omega arith in
    received_holds (IsBy b) (by_firm b) id s e (Answered u o) w f refl le
    (λ d g. subst (λ (l : Limits). ReplyHolds (IsBy b) (rule s.now l d (Answered u o) g)) (sym (hasty_now s.course s.limits n)) (rule_by s.now s.limits u o d g))

settled_by : (u o b : ℕ) (r : Reply) → settles (Answered u o) r ≡ true → ReplyHolds (IsBy b) r
settled_by u o b (Leave why) h = tt
settled_by u o b r h = cc

left_by_by : (s : State) (c : Choice) (u o : ℕ) → IsBy (max u s.now) (left_by s c (Answered u o))
left_by_by s (Finish st) u o = omega arith
left_by_by s c u o = omega arith

by_lasts : (s : State) (u o : ℕ) → Lasts (IsBy (max u s.now)) s (Answered u o)
by_lasts s u o = record {
  firm = by_firm (max u s.now);
  own = omega arith;
  left = λ c. left_by_by s c u o;
  settled = λ r h. settled_by u o (max u s.now) r h;
  not_begun = λ h. cc;
  not_asked = no;
  proceeds = λ y q. tt;
  not_wanted = λ c q. cc;
}
  where
    no : (r : Request) → asks r (Answered u o) ≡ true → ⊥
    no Query h = cc
    no Update h = cc
    no Backup h = cc

chosen_by : (id : ℕ) (s : State) (c : Choice) (u o : ℕ) → ChoiceFits s.connections c → phase_at id s.connections ≡ Some (Answered u o)
    → HoldsAt (IsBy (max u s.now)) (phase_at id (chosen s c).0.connections)
chosen_by id s c u o fit f = chosen_holds (IsBy (max u s.now)) id s c (Answered u o) (by_lasts s u o) fit f

pub is_hastened : (s : State) (m : Move) → IsDistinct s → IsHastened s m
is_hastened s m w id u v o k n f g = by_move m g
  where
    by_move : (m : Move) → phase_at id (step s m).0.connections ≡ Some (Answered v k) → v ≤ max u s.now
    by_move (Tell e) g = subst (HoldsAt (IsBy (max u s.now))) g (received_by id s e u o w n f)
    by_move Ask g = subst (HoldsAt (IsBy (max u s.now))) g (chosen_by id s (choice s) u o (choice_fits s w) f)
