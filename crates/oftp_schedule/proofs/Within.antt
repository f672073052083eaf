-- Every deadline lies within its limit, and a session within its own.
use Rattle.std.proofs.Common.{min, max, nat_lt, subst, ◌≡◌, ℕ, zero, suc, ◌+◌, ◌-◌, ◌<◌, ◌≤◌, ◌==◌, ◌^◌, Bool, true, false, cond, if◌then◌else◌, List, [], ◌∷◌, ◌++◌, Option, Some, None, map, filter, find, refl, sym, ◌∙◌, arith, ◌⊎◌, inl, inr}
use Rattle.std.proofs.lemmas.Bool.Decides.{nat_tests}
use Rattle.oftp_schedule.specs.declared.connection.Door.{Door}
use Rattle.oftp_schedule.specs.declared.connection.Door.TheVariants.{Partners, Commands, Requests, Calls}
use Rattle.oftp_schedule.specs.declared.connection.Request.TheVariants.{Query, Update}
use Rattle.oftp_schedule.specs.declared.connection.Asker.TheVariants.{ByClock, By}
use Rattle.oftp_schedule.specs.declared.connection.Way.{Way}
use Rattle.oftp_schedule.specs.declared.connection.Way.TheVariants.{In, Out, Unanswered}
use Rattle.oftp_schedule.specs.declared.connection.Input.{Input}
use Rattle.oftp_schedule.specs.declared.connection.Input.TheVariants.{Here, Last, Gone}
use Rattle.oftp_schedule.specs.declared.connection.End.TheVariants.{Own, Other}
use Rattle.oftp_schedule.specs.declared.connection.Phase.{Phase}
use Rattle.oftp_schedule.specs.declared.connection.Phase.TheVariants.{Arriving, Stranger, Guest, Stepping, Between, Parting, Asking, Ready, Served, Calling, Copying, Answered, Wanted, Resolving, Dialing, Connected}
use Rattle.oftp_schedule.specs.declared.connection.Signal.{Signal}
use Rattle.oftp_schedule.specs.declared.connection.Signal.TheVariants.{LetIn, Rejected, Asked, Wants, Waits, Ended, Done, Came, Went, Ends, Lost, Resolved, Up, Failed}
use Rattle.oftp_schedule.specs.declared.connection.Event.{Event}
use Rattle.oftp_schedule.specs.declared.connection.Reason.TheVariants.{Evicted, Orphaned, TimedOut}
use Rattle.oftp_schedule.specs.declared.connection.Action.TheVariants.{Accept}
use Rattle.oftp_schedule.specs.declared.connection.Reply.{Reply}
use Rattle.oftp_schedule.specs.declared.connection.Reply.TheVariants.{Respond, Redial, Yield, Leave, Break}
use Rattle.oftp_schedule.specs.declared.connection.Choice.{Choice}
use Rattle.oftp_schedule.specs.declared.connection.Choice.TheVariants.{Nothing, Finish, Settle, Admit, Inspect, Start, Proceed, Consult, Perform, Lend, Seek, Depart}
use Rattle.oftp_schedule.specs.declared.connection.Course.{Course}
use Rattle.oftp_schedule.specs.declared.connection.Call.{Call}
use Rattle.oftp_schedule.specs.declared.connection.Session.{Session}
use Rattle.oftp_schedule.specs.declared.connection.Step.{Step}
use Rattle.oftp_schedule.specs.declared.connection.Connection.{Connection}
use Rattle.oftp_schedule.specs.declared.connection.Limits.{Limits}
use Rattle.oftp_schedule.specs.Rules.{heard_on, wait_after, stepped, after_step, at_end, answering, answered, answered_whole, went, dialing_time, rule, due, is_late, once_less, redialed, late, dismissal, concerns, hurried_phase, hurried, is_ripe, ends_session, has_id, is_other, connection_at, phase_at, became, owed_phase, owed, shared_phase, shared, is_orphan, is_to_tell}
use Rattle.oftp_schedule.specs.Machine.{State, Turn, hasty, limits_in, limits_now, with_next, with_connections, new_call, at_door, edited, after_session, replied, in_numbers, replied_at, first_phase, received, yielded, is_ending, called_session, choice, welcomed, chosen, Move, step, start, run, Tell, Ask}
use Rattle.oftp_schedule.specs.Deadlines.{patience_of, longest_of, time_limit, IsWithin, session_of, SessionsEnd}
use Rattle.oftp_schedule.proofs.Cases.{each_door}
use Rattle.oftp_schedule.proofs.Numbers.{Distinct, known, at_number, Distinct-map}
use Rattle.oftp_schedule.proofs.Places.{absent, found_at}
use Rattle.oftp_schedule.proofs.Editing.{ReplyHolds, numbers_hold, edit_holds}
use Rattle.oftp_schedule.proofs.Choices.{guests_session, IsGuests, IsCalls, May, Settling, dismissal_holds, of_choice}
use Rattle.oftp_schedule.proofs.Events.{Edits, received_holds, received_steady}
use Rattle.oftp_schedule.proofs.Fitting.{IsDistinct, run_keeps, ChoiceFits, choice_fits}

-- 1. What holds of each connection

abbrev pub Each : (Connection → Type 0) → List Connection → Type 0
Each P [] = Unit {0}
Each P (c ∷ cs) = P c × Each P cs

each_at : (P : Connection → Type 0) (id : ℕ) (cs : List Connection) (c : Connection) → Each P cs → connection_at id cs ≡ Some c → P c
each_at P id [] c h e = cc
each_at P id (d ∷ cs) c h e = split (λ f. each_at P id cs c h.1 f) (d.id == id) e
  where
    split : (connection_at id cs ≡ Some c → P c) → (b : Bool) → cond b (Some d) (connection_at id cs) ≡ Some c → P c
    split more true e = let q : d ≡ c = cc in subst P q h.0
    split more false e = more e

each_filter : (P : Connection → Type 0) (t : Connection → Bool) (cs : List Connection) → Each P cs → Each P (filter t cs)
each_filter P t [] h = h
each_filter P t (c ∷ cs) h =
    let rest = each_filter P t cs h.1 in
    elim (t c) as (λ b. Each P (cond b (c ∷ filter t cs) (filter t cs))) [ true ↦ (h.0, rest) | false ↦ rest ]

each_push : (P : Connection → Type 0) (cs : List Connection) (d : Connection) → Each P cs → P d → Each P (cs ++ d ∷ [])
each_push P [] d h p = (p, tt)
each_push P (c ∷ cs) d h p = (h.0, each_push P cs d h.1 p)

each_map : (P Q : Connection → Type 0) (f : Connection → Connection) → ((c : Connection) → P c → Q (f c)) → (cs : List Connection) → Each P cs → Each Q (map f cs)
each_map P Q f k [] h = h
each_map P Q f k (c ∷ cs) h = (k c h.0, each_map P Q f k cs h.1)

each_weaker : (P Q : Connection → Type 0) → ((c : Connection) → P c → Q c) → (cs : List Connection) → Each P cs → Each Q cs
each_weaker P Q k [] h = tt
each_weaker P Q k (c ∷ cs) h = (k c h.0, each_weaker P Q k cs h.1)

-- a phase for one who isn't there
each_absent : (P : Connection → Type 0) (i : ℕ) (q : Phase) (cs : List Connection) → connection_at i cs ≡ None → Each P cs → Each P (map (became i q) cs)
each_absent P i q [] e h = h
each_absent P i q (c ∷ cs) e h = split (λ f. each_absent P i q cs f h.1) (c.id == i) e
  where
    split : (connection_at i cs ≡ None → Each P (map (became i q) cs)) → (b : Bool) → cond b (Some c) (connection_at i cs) ≡ None
        → P (record { id = c.id; door = c.door; phase = cond b q c.phase }) × Each P (map (became i q) cs)
    split more true e = cc
    split more false e = (h.0, more e)

-- a phase for the one who is there, which is right at its door
each_became : (P : Connection → Type 0) (i : ℕ) (q : Phase) (hi : ℕ) (cs : List Connection) (c : Connection) → Distinct hi cs → connection_at i cs ≡ Some c → Each P cs
    → P (record { id = c.id; door = c.door; phase = q }) → Each P (map (became i q) cs)
each_became P i q hi [] c o e h p = h
each_became P i q hi (d ∷ cs) c o e h p = split (λ f. each_became P i q hi cs c o.1.1 f h.1 p) (d.id == i) refl e
  where
    split : (connection_at i cs ≡ Some c → Each P (map (became i q) cs)) → (b : Bool) → (d.id == i) ≡ b → cond b (Some d) (connection_at i cs) ≡ Some c
        → P (record { id = d.id; door = d.door; phase = cond b q d.phase }) × Each P (map (became i q) cs)
    split more true y e =
        let same : c ≡ d = cc in
        let is_i : d.id ≡ i = grind (arith, nat_tests, y) in
        let none : connection_at i cs ≡ None = subst (λ (j : ℕ). connection_at j cs ≡ None) is_i (absent d.id cs o.1.0) in
        (subst (λ (x : Connection). P (record { id = x.id; door = x.door; phase = q })) same p, each_absent P i q cs none h.1)
    split more false n e = (h.0, more e)

-- 2. What a reply gives a connection lies within the limits, and a command waits for a call that came after it

-- a session: its wait, its patience, its begin and its end
abbrev pub IsTimed : ℕ → Limits → Session → Type 0
IsTimed now l x = (x.until ≤ now + patience_of l x.way) × (x.patience ≡ patience_of l x.way) × (x.begun ≤ now) × (x.ends ≤ x.begun + longest_of l x.way)

abbrev pub Within : ℕ → Limits → ℕ → Door → Phase → Type 0
Within now l me d Arriving = Unit {0}
Within now l me d (Stranger u r) = u ≤ now + l.admission
Within now l me d (Guest t) = Unit {0}
Within now l me d (Stepping x) = IsTimed now l x
Within now l me d (Between x) = IsTimed now l x
Within now l me d (Parting u) = u ≤ now + l.farewell
Within now l me d (Asking u) = u ≤ now + answering l d
Within now l me d (Ready r k) = Unit {0}
Within now l me d (Served r) = Unit {0}
Within now l me d (Calling i) = me < i
Within now l me d (Copying u) = u ≤ now + l.copying
Within now l me d (Answered u o) = u ≤ now + max (answering l d) l.farewell
Within now l me d (Wanted c) = Unit {0}
Within now l me d (Resolving c) = Unit {0}
Within now l me d (Dialing c u) = u ≤ now + dialing_time l c
Within now l me d (Connected c u) = u ≤ now + l.standing

abbrev pub Bounded : ℕ → Limits → Connection → Type 0
Bounded now l c = Within now l c.id c.door c.phase

timed_later : (now later : ℕ) (l : Limits) (x : Session) → now ≤ later → IsTimed now l x → IsTimed later l x
timed_later now later l x le (u, p, b, e) = (omega (arith, le, u), p, omega (arith, le, b), e)

within_later : (now later : ℕ) (l : Limits) (me : ℕ) (d : Door) (p : Phase) → now ≤ later → Within now l me d p → Within later l me d p
within_later now later l me d (Stranger u r) le w = omega (arith, le, w)
within_later now later l me d (Stepping x) le w = timed_later now later l x le w
within_later now later l me d (Between x) le w = timed_later now later l x le w
within_later now later l me d (Parting u) le w = omega (arith, le, w)
within_later now later l me d (Asking u) le w = omega (arith, le, w)
within_later now later l me d (Copying u) le w = omega (arith, le, w)
within_later now later l me d (Answered u o) le w = omega (arith, le, w)
within_later now later l me d (Dialing c u) le w = omega (arith, le, w)
within_later now later l me d (Connected c u) le w = omega (arith, le, w)
within_later now later l me d p le w = w

abbrev pub ReplyWithin : ℕ → Limits → ℕ → Door → Reply → Type 0
ReplyWithin now l me d r = ReplyHolds (Within now l me d) r

heard_patience : (l : Limits) (w : Way) (k : ℕ) → patience_of l (heard_on w k) ≡ patience_of l w
heard_patience l In k = refl
heard_patience l (Out c) k = refl
heard_patience l (Unanswered c j) k = elim (nat_lt k j) as (λ b. patience_of l (if b then Unanswered c (j - k) else Out c) ≡ c.partner.patience) [ true ↦ refl | false ↦ refl ]

heard_longest : (l : Limits) (w : Way) (k : ℕ) → longest_of l (heard_on w k) ≡ longest_of l w
heard_longest l In k = refl
heard_longest l (Out c) k = refl
heard_longest l (Unanswered c j) k = elim (nat_lt k j) as (λ b. longest_of l (if b then Unanswered c (j - k) else Out c) ≡ c.partner.longest) [ true ↦ refl | false ↦ refl ]

-- a wait that goes on, or begins anew
wait_timed : (now : ℕ) (l : Limits) (x : Session) (k : ℕ) → IsTimed now l x → wait_after now x k ≤ now + patience_of l x.way
wait_timed now l x zero (u, p, b, e) = omega (arith, p)
wait_timed now l x (suc k) (u, p, b, e) =
    let again : now + x.patience ≤ now + patience_of l x.way = omega (arith, p) in
    elim (x.backlog == 0) as (λ b. (if b then now + x.patience else x.until) ≤ now + patience_of l x.way) [ true ↦ again | false ↦ u ]

stepped_timed : (now : ℕ) (l : Limits) (x : Session) (w : Step) → IsTimed now l x → IsTimed now l (stepped now x w)
stepped_timed now l x w (u, p, b, e) =
    let hp = heard_patience l x.way w.heard in
    let hl = heard_longest l x.way w.heard in
    let t = wait_timed now l x w.backlog (u, p, b, e) in
    (subst (λ (k : ℕ). wait_after now x w.backlog ≤ now + k) (sym hp) t, p ∙ sym hp, b, omega (arith, hl, e))

after_within : (now : ℕ) (l : Limits) (me : ℕ) (d : Door) (x : Session) (w : Step) (i : Input) → IsTimed now l x → ReplyWithin now l me d (after_step now x w i)
after_within now l me d x w Gone h = tt
after_within now l me d x w i h = stepped_timed now l x w h

end_within : (now : ℕ) (l : Limits) (me : ℕ) (d : Door) (x : Session) (i : Input) → IsTimed now l x → ReplyWithin now l me d (at_end x i)
end_within now l me d x Here h = h
end_within now l me d x Last h = tt
end_within now l me d x i h = tt

-- the limits k give an answer no more time than l do, and all else what l do
abbrev IsNoMore : Limits → Limits → Type 0
IsNoMore k l = ((d : Door) → answering k d ≤ answering l d) × (k.farewell ≡ l.farewell) × (k.dialing ≡ l.dialing) × (k.standing ≡ l.standing)

no_more : (co : Course) (l : Limits) → IsNoMore (limits_in co l) l
no_more co l = elim (is_ending co) as (λ b. IsNoMore (if b then hasty l else l) l) [
  | true ↦ (each_door (λ d. answering (hasty l) d ≤ answering l d) (omega arith) (omega arith) (omega arith) (omega arith), refl, refl, refl)
  | false ↦ (λ d. omega arith, refl, refl, refl)
]

answered_within : (now : ℕ) (k l : Limits) (me : ℕ) (d : Door) (o : ℕ) → IsNoMore k l → Within now l me d (answered now k d o)
answered_within now k l me d o (a, f, g, h) = let le = a d in omega (arith, le, f)

whole_within : (now : ℕ) (k l : Limits) (me : ℕ) (d : Door) → IsNoMore k l → ReplyWithin now l me d (answered_whole now k d)
whole_within now k l me Requests (a, f, g, h) = omega (arith, f)
whole_within now k l me d n = tt

went_within : (now : ℕ) (k l : Limits) (me : ℕ) (d : Door) (u o : ℕ) → IsNoMore k l → u ≤ now + max (answering l d) l.farewell → ReplyWithin now l me d (went now k d u o)
went_within now k l me d u zero n w = whole_within now k l me d n
went_within now k l me d u (suc o) (a, f, g, h) w = let le = a d in omega (arith, le, w)

again_timed : (now : ℕ) (l : Limits) (x : Session) → IsTimed now l x
    → (now + x.patience ≤ now + patience_of l x.way) × (x.patience ≡ patience_of l x.way) × (x.begun ≤ now) × (x.ends ≤ x.begun + longest_of l x.way)
again_timed now l x (u, p, b, e) = (omega (arith, p), p, b, e)

came_timed : (now : ℕ) (l : Limits) (x : Session) → IsTimed now l x
    → (wait_after now x x.backlog ≤ now + patience_of l x.way) × (x.patience ≡ patience_of l x.way) × (x.begun ≤ now) × (x.ends ≤ x.begun + longest_of l x.way)
came_timed now l x (u, p, b, e) = (wait_timed now l x x.backlog (u, p, b, e), p, b, e)

rule_within : (now : ℕ) (k l : Limits) (me : ℕ) (d : Door) (p : Phase) (g : Signal) → IsNoMore k l → Within now l me d p → ReplyWithin now l me d (rule now k d p g)
rule_within now k l me d (Stranger u r) LetIn n h = tt
rule_within now k l me d (Stranger u r) Rejected n h = let f = n.1 in omega (arith, f)
rule_within now k l me d (Stranger u r) Ends n h = tt
rule_within now k l me d (Stranger u r) Lost n h = tt
rule_within now k l me d (Guest t) Lost n h = tt
rule_within now k l me d (Stepping x) (Waits w) n h = after_within now l me d x w w.input h
rule_within now k l me d (Stepping x) (Ended Own) n h = let f = n.1 in omega (arith, f)
rule_within now k l me d (Stepping x) (Ended Other) n h = tt
rule_within now k l me d (Between x) Came n h = came_timed now l x h
rule_within now k l me d (Between x) (Went o) n h = again_timed now l x h
rule_within now k l me d (Between x) Ends n h = end_within now l me d x x.input h
rule_within now k l me d (Between x) Lost n h = tt
rule_within now k l me d (Parting u) Ends n h = tt
rule_within now k l me d (Parting u) Lost n h = tt
rule_within now k l me d (Asking u) (Asked r) n h = tt
rule_within now k l me d (Asking u) (Wants p) n h = tt
rule_within now k l me d (Asking u) Rejected n h = tt
rule_within now k l me d (Asking u) Ends n h = tt
rule_within now k l me d (Asking u) Lost n h = tt
rule_within now k l me d (Ready r j) Lost n h = tt
rule_within now k l me d (Served r) (Done o) n h = answered_within now k l me d o n
rule_within now k l me d (Calling i) Lost n h = tt
rule_within now k l me d (Copying u) Ends n h = answered_within now k l me d 0 n
rule_within now k l me d (Copying u) Lost n h = tt
rule_within now k l me d (Answered u o) (Went j) n h = went_within now k l me d u j n h
rule_within now k l me d (Answered u o) Lost n h = tt
rule_within now k l me d (Resolving c) Resolved n h = let f = n.2 in omega (arith, f)
rule_within now k l me d (Resolving c) Failed n h = tt
rule_within now k l me d (Dialing c u) Up n h = let f = n.3 in omega (arith, f)
rule_within now k l me d (Dialing c u) Failed n h = tt
rule_within now k l me d (Connected c u) Lost n h = tt
rule_within now k l me d p g n h = tt

redialed_within : (now : ℕ) (l : Limits) (me : ℕ) (d : Door) (c : Call) → ReplyWithin now l me d (redialed c)
redialed_within now l me d c = elim (nat_lt 0 c.times) as (λ b. ReplyWithin now l me d (if b then Redial (Wanted (once_less c)) else Leave TimedOut)) [ true ↦ tt | false ↦ tt ]

late_within : (now : ℕ) (k l : Limits) (me : ℕ) (d : Door) (p : Phase) → IsNoMore k l → ReplyWithin now l me d (late now k d p)
late_within now k l me d (Between x) n = tt
late_within now k l me d (Copying u) n = answered_within now k l me d 0 n
late_within now k l me d (Dialing c u) n = tt
late_within now k l me d (Connected c u) n = redialed_within now l me d c
late_within now k l me d p n = tt

dismissal_within : (now : ℕ) (l : Limits) (me : ℕ) (d : Door) (p : Phase) → ReplyWithin now l me d (dismissal now l d p)
dismissal_within now l me d p = dismissal_holds (ReplyWithin now l me d) now l (omega arith) tt tt d p

-- 3. The table stays within the limits

abbrev pub AllWithin : State → Type 0
AllWithin s = Each (Bounded s.now s.limits) s.connections

-- a phase that is right at each door
anywhere : (now : ℕ) (l : Limits) (i : ℕ) (q : Phase) → ((me : ℕ) (d : Door) → Within now l me d q) → (cs : List Connection) → Each (Bounded now l) cs → Each (Bounded now l) (map (became i q) cs)
anywhere now l i q w cs h =
    each_map (Bounded now l) (Bounded now l) (became i q)
    (λ c p. elim (c.id == i) as (λ b. Within now l c.id c.door (cond b q c.phase)) [ true ↦ w c.id c.door | false ↦ p ]) cs h

owed_within : (now : ℕ) (l : Limits) (me : ℕ) (d : Door) (p : Phase) → Within now l me d p → Within now l me d (owed_phase p)
owed_within now l me d (Ready r k) h = h
owed_within now l me d p h = h

shared_within : (now : ℕ) (l : Limits) (k me : ℕ) (d : Door) (p : Phase) → Within now l me d p → Within now l me d (shared_phase k p)
shared_within now l k me d (Between x) h = h
shared_within now l k me d p h = h

hurried_within : (now : ℕ) (l : Limits) (v me : ℕ) (d : Door) (p : Phase) → Within now l me d p → Within now l me d (hurried_phase v p)
hurried_within now l v me d (Answered u o) h = omega (arith, h)
hurried_within now l v me d p h = h

after_all : (now : ℕ) (l : Limits) (b : Bool) (cs : List Connection) → Each (Bounded now l) cs → Each (Bounded now l) (after_session b cs)
after_all now l true cs h = each_map (Bounded now l) (Bounded now l) owed (λ c p. owed_within now l c.id c.door c.phase p) cs h
after_all now l false cs h = h

edited_within : (s : State) (c : Connection) (r : Reply) → IsDistinct s → connection_at c.id s.connections ≡ Some c → ReplyWithin s.now s.limits c.id c.door r → AllWithin s
    → Each (Bounded s.now s.limits) (edited s c r)
edited_within s c r o e w h =
    edit_holds (Each P) (Within s.now s.limits c.id c.door) s c h set moved
    (λ n. each_push P (map (became c.id (Calling s.next)) s.connections) (at_door s.next Calls (Wanted (new_call s.limits n (By c.id)))) (set (Calling s.next) given) tt) out r w
  where
    P : Connection → Type 0
    P = Bounded s.now s.limits

    set : (q : Phase) → Within s.now s.limits c.id c.door q → Each P (map (became c.id q) s.connections)
    set q w = each_became P c.id q s.next s.connections c o e h w

    out : Each P (filter (is_other c.id) s.connections)
    out = each_filter P (is_other c.id) s.connections h

    moved : (q : Phase) → Within s.now s.limits c.id c.door q → Each P (filter (is_other c.id) s.connections ++ at_door c.id c.door q ∷ [])
    moved q w = each_push P (filter (is_other c.id) s.connections) (at_door c.id c.door q) out w

    given : c.id < s.next
    given = let h = known c.id s.next s.connections c.phase (at_number c.id s.connections c e).1 o in grind (arith, nat_tests, h)

replied_within : (s : State) (c : Connection) (r : Reply) → IsDistinct s → connection_at c.id s.connections ≡ Some c → ReplyWithin s.now s.limits c.id c.door r → AllWithin s
    → AllWithin (replied s c r).0
replied_within s c r o e w h = after_all s.now s.limits (ends_session c.phase r) (edited s c r) (edited_within s c r o e w h)

replied_at_within : (s : State) (t : Connection → Bool) (at : Option Connection) (f : Connection → Reply) → IsDistinct s → find t s.connections ≡ at
    → ((c : Connection) → at ≡ Some c → ReplyWithin s.now s.limits c.id c.door (f c)) → AllWithin s → AllWithin (replied_at s at f).0
replied_at_within s t None f o e w h = h
replied_at_within s t (Some c) f o e w h =
    replied_within s c (in_numbers s.next (f c)) o (found_at t s.next s.connections c e o) (numbers_hold (Within s.now s.limits c.id c.door) s.next (f c) (w c refl)) h

first_within : (now : ℕ) (l : Limits) (me : ℕ) (d : Door) → Within now l me d (first_phase now l d)
first_within now l me Partners = omega arith
first_within now l me Requests = omega arith
first_within now l me Commands = omega arith
first_within now l me Calls = omega arith

abbrev KeepsWithin : State → State → Type 0
KeepsWithin s t = AllWithin s → AllWithin t

edits_within : Edits IsDistinct KeepsWithin
edits_within = record {
  stays = λ s h. h;
  after = λ s t u f g h. g (f h);
  gates = λ s a b c h. h;
  later = λ s now l h. each_weaker (Bounded s.now s.limits) (Bounded now s.limits) (λ c p. within_later s.now now s.limits c.id c.door c.phase l p) s.connections h;
  reviewed_at = λ s t h. h;
  ends = λ s st h. h;
  wants = λ s p o h. each_push (Bounded s.now s.limits) s.connections (at_door s.next Calls (Wanted (new_call s.limits p ByClock))) h tt;
  comes = λ s t c o e.
      let q = first_phase s.now s.limits c.door in (
        λ h. each_became (Bounded s.now s.limits) c.id q s.next s.connections c o (found_at t s.next s.connections c e o) h (first_within s.now s.limits c.id c.door),
        Distinct-map (became c.id q) (λ _. refl) s.next s.connections o,
      );
  goes = λ s t c o e h. each_filter (Bounded s.now s.limits) (is_other c.id) s.connections h;
  closes = λ s c o e h. replied_within s c (Leave Evicted) o (found_at (is_ripe s.now) s.next s.connections c e o) tt h;
  hears = λ s t c g o e h.
      let there = found_at t s.next s.connections c e o in
      let r = rule s.now (limits_now s) c.door c.phase g in
      let fine = rule_within s.now (limits_now s) s.limits c.id c.door c.phase g (no_more s.course s.limits) (each_at (Bounded s.now s.limits) c.id s.connections c h there) in
      replied_within s c (in_numbers s.next r) o there (numbers_hold (Within s.now s.limits c.id c.door) s.next r fine) h;
}

received_within : (s : State) (e : Event) → IsDistinct s → AllWithin s → AllWithin (received s e).0
received_within s e o = received_holds IsDistinct KeepsWithin edits_within s e o

-- 4. What is chosen lies within the limits

abbrev ChoiceWithin : State → Choice → Type 0
ChoiceWithin s (Settle id r) = (c : Connection) → connection_at id s.connections ≡ Some c → ReplyWithin s.now s.limits c.id c.door r
ChoiceWithin s (Start id x) = IsTimed s.now s.limits x
ChoiceWithin s c = Unit {0}

settled : (s : State) (c : Connection) (r : Reply) → connection_at c.id s.connections ≡ Some c → ReplyWithin s.now s.limits c.id c.door r → ChoiceWithin s (Settle c.id r)
settled s c r e w d f =
    let same : Some c ≡ Some d = sym e ∙ f in
    let q : c ≡ d = cc in
    subst (λ (x : Connection). ReplyWithin s.now s.limits x.id x.door r) q w

yielded_within : (s : State) (id : ℕ) (c : Call) → ChoiceWithin s (Settle id (yielded c))
yielded_within s id c d e = elim (nat_lt 0 c.times) as (λ b. ReplyWithin s.now s.limits d.id d.door
    (if b then Yield (Wanted (once_less c)) else Break TimedOut))
    [ true ↦ tt | false ↦ tt ]

called_within : (s : State) (id : ℕ) (k : Option Call) → ChoiceWithin s (called_session s.now s.limits id k)
called_within s id None = tt
called_within s id (Some k) = (omega arith, refl, omega arith, omega arith)

settling_within : (s : State) → IsDistinct s → Settling (ChoiceWithin s) s
settling_within s o = record {
  expires = λ c e. one (is_late s.now) c (late s.now (limits_now s) c.door c.phase) e (late_within s.now (limits_now s) s.limits c.id c.door c.phase (no_more s.course s.limits));
  is_dismissed = λ st c e. one (concerns st) c (dismissal s.now s.limits c.door c.phase) e (dismissal_within s.now s.limits c.id c.door c.phase);
  loses_asker = λ c e. one (is_orphan s.connections) c (Leave Orphaned) e tt;
  loses_call = λ c e. one (is_to_tell s.connections) c (Respond (answered s.now (limits_now s) c.door 0)) e
      (answered_within s.now (limits_now s) s.limits c.id c.door 0 (no_more s.course s.limits));
  gives_way = λ c g x k n t e f ex ew eg y. yielded_within s c.id k;
}
  where
    one : (t : Connection → Bool) (c : Connection) (r : Reply) → find t s.connections ≡ Some c → ReplyWithin s.now s.limits c.id c.door r → ChoiceWithin s (Settle c.id r)
    one t c r e w = settled s c r (found_at t s.next s.connections c e o) w

begun_within : (s : State) (id : ℕ) (x : Session) → IsGuests s id x ⊎ IsCalls s id x → IsTimed s.now s.limits x
begun_within s id x (inl g) =
    let timed : IsTimed s.now s.limits (guests_session s) = (omega arith, refl, omega arith, omega arith) in subst (IsTimed s.now s.limits) (sym g.session_is) timed
begun_within s id x (inr g) = subst (ChoiceWithin s) (sym g.session_is) (called_within s id (Some g.call))

may_within : (s : State) (c : Choice) → May s c → ChoiceWithin s c
may_within s (Settle id r) m = elim m [ ]
may_within s (Start id x) m = begun_within s id x m.2
may_within s c m = tt

choice_within : (s : State) → IsDistinct s → ChoiceWithin s (choice s)
choice_within s o = of_choice (ChoiceWithin s) s (settling_within s o) (may_within s)

-- of a phase that is there, what holds of each connection holds at some door
pub at_phase : (now : ℕ) (l : Limits) (id : ℕ) (cs : List Connection) (p : Phase) → phase_at id cs ≡ Some p → Each (Bounded now l) cs → (d : Door) × Within now l id d p
at_phase now l id [] p e h = cc
at_phase now l id (c ∷ cs) p e h = split (λ f. at_phase now l id cs p f h.1) (c.id == id) refl e
  where
    split : (phase_at id cs ≡ Some p → (d : Door) × Within now l id d p) → (b : Bool) → (c.id == id) ≡ b → cond b (Some c.phase) (phase_at id cs) ≡ Some p → (d : Door) × Within now l id d p
    split more true y e =
        let q : c.phase ≡ p = cc in
        let i : c.id ≡ id = grind (arith, nat_tests, y) in
        (c.door, subst (λ (j : ℕ). Within now l j c.door p) i (subst (Within now l c.id c.door) q h.0))
    split more false n e = more e

chosen_within : (s : State) (c : Choice) → IsDistinct s → ChoiceFits s.connections c → ChoiceWithin s c → AllWithin s → AllWithin (chosen s c).0
chosen_within s Nothing o f w h = h
chosen_within s (Finish st) o f w h =
    let v = s.now + s.limits.farewell in each_map (Bounded s.now s.limits) (Bounded s.now s.limits) (hurried v) (λ c p. hurried_within s.now s.limits v c.id c.door c.phase p) s.connections h
chosen_within s (Settle id r) o f w h = replied_at_within s (has_id id) (connection_at id s.connections) (λ c. r) o refl w h
chosen_within s (Admit d) o f w h = cases (nat_lt s.next (2 ^ 63))
  where
    cases : (b : Bool) → AllWithin (let t : Turn = if b then (with_next (with_connections s (s.connections ++ at_door s.next d Arriving ∷ [])) (s.next + 1), Accept s.next d ∷ []) else (s, []) in t.0)
    cases true = each_push (Bounded s.now s.limits) s.connections (at_door s.next d Arriving) h tt
    cases false = h
chosen_within s Inspect o f w h = h
chosen_within s (Start id x) o f w h = anywhere s.now s.limits id (Stepping x) (λ me d. w) s.connections h
chosen_within s (Proceed id x) o f w h = let t = at_phase s.now s.limits id s.connections (Between x) f h in anywhere s.now s.limits id (Stepping x) (λ me d. t.1) s.connections h
chosen_within s (Consult id) o f w h =
    let k = s.limits.share in
    each_map (Bounded s.now s.limits) (Bounded s.now s.limits) (shared k) (λ c p. shared_within s.now s.limits k c.id c.door c.phase p) (map (became id (Served Query)) s.connections)
    (anywhere s.now s.limits id (Served Query) (λ me d. tt) s.connections h)
chosen_within s (Perform id) o f w h = anywhere s.now s.limits id (Served Update) (λ me d. tt) s.connections h
chosen_within s (Lend id) o f w h = anywhere s.now s.limits id (Copying (s.now + s.limits.copying)) (λ me d. omega arith) s.connections h
chosen_within s (Seek id c) o f w h = anywhere s.now s.limits id (Resolving c) (λ me d. tt) s.connections h
chosen_within s (Depart st) o f w h = h

step_within : (s : State) (m : Move) → IsDistinct s → AllWithin s → AllWithin (step s m).0
step_within s (Tell e) o h = received_within s e o h
step_within s Ask o h = chosen_within s (choice s) o (choice_fits s o) (choice_within s o) h

pub run_within : (s : State) (ms : List Move) → IsDistinct s → AllWithin s → AllWithin (run s ms)
run_within s ms o h = run_keeps AllWithin step_within s ms o h

-- 5. The limits stay

chosen_limits : (s : State) (c : Choice) → (chosen s c).0.limits ≡ s.limits
chosen_limits s (Settle id r) = by (connection_at id s.connections)
  where
    by : (at : Option Connection) → (replied_at s at (λ c. r)).0.limits ≡ s.limits
    by None = refl
    by (Some c) = refl
chosen_limits s (Admit d) = elim (nat_lt s.next (2 ^ 63)) as (λ b. (if b then welcomed s d else (s, [])).0.limits ≡ s.limits) [ true ↦ refl | false ↦ refl ]
chosen_limits s c = refl

pub step_limits : (s : State) (m : Move) → (step s m).0.limits ≡ s.limits
step_limits s (Tell e) = (received_steady s e).limits_is
step_limits s Ask = chosen_limits s (choice s)

pub run_limits : (s : State) (ms : List Move) → (run s ms).limits ≡ s.limits
run_limits s [] = refl
run_limits s (m ∷ ms) = run_limits (step s m).0 ms ∙ step_limits s m

-- 6. So each deadline lies within its limit, and each session within its own

some_is : (u v : ℕ) → Some u ≡ Some v → u ≡ v
some_is u v e = cc

due_within_limit : (now : ℕ) (l : Limits) (me : ℕ) (d : Door) (p : Phase) (u : ℕ) → Within now l me d p → due p ≡ Some u → u ≤ now + time_limit l d p
due_within_limit now l me d (Stranger v r) u h e = let q = some_is v u e in omega (arith, h, q)
due_within_limit now l me d (Between x) u (w, pt, b, en) e = let q = some_is (min x.until x.ends) u e in omega (arith, w, b, en, q)
due_within_limit now l me d (Parting v) u h e = let q = some_is v u e in omega (arith, h, q)
due_within_limit now l me d (Asking v) u h e = let q = some_is v u e in omega (arith, h, q)
due_within_limit now l me d (Copying v) u h e = let q = some_is v u e in omega (arith, h, q)
due_within_limit now l me d (Answered v o) u h e = let q = some_is v u e in omega (arith, h, q)
due_within_limit now l me d (Dialing c v) u h e = let q = some_is v u e in omega (arith, h, q)
due_within_limit now l me d (Connected c v) u h e = let q = some_is v u e in omega (arith, h, q)
due_within_limit now l me d p u h e = cc

session_timed : (now : ℕ) (l : Limits) (me : ℕ) (d : Door) (p : Phase) (x : Session) → Within now l me d p → session_of p ≡ Some x → IsTimed now l x
session_timed now l me d (Stepping y) x h e = let q : y ≡ x = cc in subst (IsTimed now l) q h
session_timed now l me d (Between y) x h e = let q : y ≡ x = cc in subst (IsTimed now l) q h
session_timed now l me d p x h e = cc

abbrev pub AllWithinOf : Limits → State → Type 0
AllWithinOf l s = Each (Bounded s.now l) s.connections

pub always_within : (l : Limits) (ms : List Move) → AllWithinOf l (run (start l) ms)
always_within l ms =
    let s = run (start l) ms in subst (λ (k : Limits). Each (Bounded s.now k) s.connections) (run_limits (start l) ms) (run_within (start l) ms tt tt)

pub is_within : (l : Limits) (ms : List Move) → IsWithin l (run (start l) ms)
is_within l ms id c u e d =
    let s = run (start l) ms in due_within_limit s.now l c.id c.door c.phase u (each_at (Bounded s.now l) id s.connections c (always_within l ms) e) d

pub sessions_end : (l : Limits) (ms : List Move) → SessionsEnd l (run (start l) ms)
sessions_end l ms id p x e f =
    let s = run (start l) ms in
    let h = at_phase s.now l id s.connections p e (always_within l ms) in
    let t = session_timed s.now l id h.0 p x h.1 f in (t.2, t.3)
