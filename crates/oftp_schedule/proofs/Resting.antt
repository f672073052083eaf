-- A look-up is followed by as long a time in which none begins within a session as it took.
use Rattle.std.proofs.Common.{inl, inr, max, nat_le, ◌⊎◌, nat_lt, subst, ◌≡◌, ℕ, zero, suc, ◌+◌, ◌-◌, ◌<◌, ◌≤◌, ◌==◌, ◌^◌, Bool, true, false, cond, if◌then◌else◌, List, [], ◌∷◌, Option, Some, None, map, filter, find, refl, ap, sym, ◌∙◌, arith}
use Rattle.std.proofs.lemmas.Bool.Decides.{nat_tests}
use Rattle.std.specs.List.{list_any}
use Rattle.oftp_schedule.specs.declared.connection.Door.{Door}
use Rattle.oftp_schedule.specs.declared.connection.Door.TheVariants.{Partners, Commands, Requests, Calls}
use Rattle.oftp_schedule.specs.declared.connection.Request.TheVariants.{Query, Update, Backup}
use Rattle.oftp_schedule.specs.declared.connection.Phase.{Phase}
use Rattle.oftp_schedule.specs.declared.connection.Phase.TheVariants.{Between, Served}
use Rattle.oftp_schedule.specs.declared.connection.Arrival.{Arrival}
use Rattle.oftp_schedule.specs.declared.connection.Arrival.TheVariants.{Somebody, Nobody, Later, Never}
use Rattle.oftp_schedule.specs.declared.connection.Signal.{Signal}
use Rattle.oftp_schedule.specs.declared.connection.Signal.TheVariants.{LetIn, Rejected, Asked, Wants, Waits, Ended, Done, Went, Ends, Lost, Resolved, Up, Failed}
use Rattle.oftp_schedule.specs.declared.connection.Event.{Event}
use Rattle.oftp_schedule.specs.declared.connection.Event.TheVariants.{Knock, Accepted, Passed, Told, Due, Reviewed, Over}
use Rattle.oftp_schedule.specs.declared.connection.Reason.{Reason}
use Rattle.oftp_schedule.specs.declared.connection.Reason.TheVariants.{Evicted, Invalid, TimedOut, Stalled, Quit, Vanished, Finished, Unreached, Orphaned, Stopping}
use Rattle.oftp_schedule.specs.declared.connection.Action.{Action}
use Rattle.oftp_schedule.specs.declared.connection.Action.TheVariants.{Accept, Print, Close, Part, Answer, Decline, Begin, Hear, Cut, Look, Change, Copy, Resolve, Dial, HangUp}
use Rattle.oftp_schedule.specs.declared.connection.Reply.{Reply}
use Rattle.oftp_schedule.specs.declared.connection.Reply.TheVariants.{Respond, Leave}
use Rattle.oftp_schedule.specs.declared.connection.Choice.{Choice}
use Rattle.oftp_schedule.specs.declared.connection.Choice.TheVariants.{Nothing, Finish, Settle, Admit, Inspect, Start, Proceed, Consult, Perform, Lend, Seek, Depart}
use Rattle.oftp_schedule.specs.declared.connection.Gate.{Gate}
use Rattle.oftp_schedule.specs.declared.connection.Gate.TheVariants.{Quiet, Resting}
use Rattle.oftp_schedule.specs.declared.connection.Clock.{Clock}
use Rattle.oftp_schedule.specs.declared.connection.Clock.TheVariants.{Reviewing}
use Rattle.oftp_schedule.specs.declared.connection.Partner.{Partner}
use Rattle.oftp_schedule.specs.declared.connection.Connection.{Connection}
use Rattle.oftp_schedule.specs.Rules.{rule, at_office, is_between_phase, is_arriving_phase, in_phase, calls, is_other, connection_at, phase_at, became, shared_phase}
use Rattle.oftp_schedule.specs.Machine.{State, limits_now, with_connections, quiet_after, in_numbers, replied_at, gate, with_gate, knocked, first_phase, makes_room, accepted, accepted_at, with_call, due_to, reviewed, received, choice, welcomed, chosen, Move, step, run, Tell, Ask}
use Rattle.oftp_schedule.specs.History.{Note, Heard, Ordered, history, watch}
use Rattle.oftp_schedule.specs.Life.{Stage, Unbegun, Coming, Unjudged, Let_in, In_step, Between_steps, Deserted, Cut_off, Ending, Going, Leaving, Unread, Whole, In_hand, Carried_out, In_copy, Awaits_call, Has_answer, Seeking, Located, Ringing, Standing, Closed, Broken, entered, heard, printed, closed, denied, ordered, is_about, life, stage_in, stage_from, stage_of}
use Rattle.oftp_schedule.specs.Apart.{one_if, how_many, IsRested, IsDated, IsBrief, IsPaced, ChosenApart, NoJob}
use Rattle.oftp_schedule.proofs.Numbers.{became_same, edited_phase, map_phase, set_to, at_number}
use Rattle.oftp_schedule.proofs.Places.{found, no_number}
use Rattle.oftp_schedule.proofs.Fitting.{IsDistinct, settles, Settles, Asks, ChoiceFits, choice_fits, step_distinct, run_distinct, run_keeps}
use Rattle.oftp_schedule.proofs.Alone.{choice_apart}
use Rattle.oftp_schedule.proofs.Pacing.{IsOther, choice_paced}
use Rattle.oftp_schedule.proofs.Lives.{history_lives}
use Rattle.oftp_schedule.proofs.Wakeups.{any_found}

-- 1. A look-up that was handed over isn't handed over again

-- how far its life is: it wasn't handed over, it is with the office, it was carried out
abbrev rank : Stage → ℕ
rank (In_hand Query) = 1
rank Carried_out = 2
rank Has_answer = 2
rank (Going why) = 2
rank Leaving = 2
rank Closed = 2
rank Broken = 2
rank st = 0

most : (st : Stage) → rank st ≤ 2
most (In_hand Query) = omega arith
most Carried_out = omega arith
most Has_answer = omega arith
most (Going why) = omega arith
most Leaving = omega arith
most Closed = omega arith
most Broken = omega arith
most st = omega arith

printed_on : (why : Reason) (st : Stage) → rank st ≤ rank (printed why st)
printed_on Quit (Ending Quit) = omega arith
printed_on Vanished (Ending Vanished) = omega arith
printed_on Finished (Ending Finished) = omega arith
printed_on Unreached (Ending Unreached) = omega arith
printed_on Evicted Unjudged = omega arith
printed_on TimedOut Unjudged = omega arith
printed_on TimedOut Standing = omega arith
printed_on Unreached Ringing = omega arith
printed_on TimedOut Cut_off = omega arith
printed_on Stalled Cut_off = omega arith
printed_on Quit Cut_off = omega arith
printed_on Stopping Cut_off = omega arith
printed_on why st = most st

closed_on : (why : Reason) (st : Stage) → rank st ≤ rank (closed why st)
closed_on Evicted (Going Evicted) = omega arith
closed_on Invalid (Going Invalid) = omega arith
closed_on TimedOut (Going TimedOut) = omega arith
closed_on Stalled (Going Stalled) = omega arith
closed_on Quit (Going Quit) = omega arith
closed_on Vanished (Going Vanished) = omega arith
closed_on Finished (Going Finished) = omega arith
closed_on Unreached (Going Unreached) = omega arith
closed_on Stopping (Going Stopping) = omega arith
closed_on TimedOut Unread = omega arith
closed_on TimedOut Has_answer = omega arith
closed_on TimedOut Leaving = omega arith
closed_on Orphaned Unbegun = omega arith
closed_on Orphaned Ringing = omega arith
closed_on Orphaned Standing = omega arith
closed_on Stopping Unbegun = omega arith
closed_on Stopping Unjudged = omega arith
closed_on Stopping Let_in = omega arith
closed_on Stopping Unread = omega arith
closed_on Stopping Seeking = omega arith
closed_on Stopping Ringing = omega arith
closed_on Stopping Standing = omega arith
closed_on Stopping Awaits_call = omega arith
closed_on why st = most st

denied_on : (why : Reason) (st : Stage) → rank st ≤ rank (denied why st)
denied_on Stopping (Whole r) = omega arith
denied_on Stopping Unread = omega arith
denied_on TimedOut In_copy = omega arith
denied_on why st = most st

ordered_on : (a : Action) (st : Stage) → rank st ≤ rank (ordered a st)
ordered_on (Accept i d) Unbegun = omega arith
ordered_on (Begin i) Let_in = omega arith
ordered_on (Begin i) Standing = omega arith
ordered_on (Hear i) Between_steps = omega arith
ordered_on (Cut i) Between_steps = omega arith
ordered_on (Cut i) Deserted = omega arith
ordered_on (Look i) (Whole Query) = omega arith
ordered_on (Change i) (Whole Update) = omega arith
ordered_on (Copy i) (Whole Backup) = omega arith
ordered_on (Answer i) Carried_out = omega arith
ordered_on (Answer i) Awaits_call = omega arith
ordered_on (Decline i why) st = denied_on why st
ordered_on (Resolve i) Unbegun = omega arith
ordered_on (Dial i) Located = omega arith
ordered_on (HangUp i) Cut_off = omega arith
ordered_on (HangUp i) Standing = omega arith
ordered_on (Print i why) st = printed_on why st
ordered_on (Part i) (Going Finished) = omega arith
ordered_on (Close i why) st = closed_on why st
ordered_on a st = most st

entered_on : (st : Stage) (a : Arrival) → rank st ≤ rank (entered st a)
entered_on (Coming Partners) Somebody = omega arith
entered_on (Coming d) Somebody = omega arith
entered_on (Coming d) a = omega arith
entered_on st a = omega arith

heard_on : (st : Stage) (g : Signal) → rank st ≤ rank (heard st g)
heard_on Unjudged LetIn = omega arith
heard_on Unjudged Rejected = omega arith
heard_on Unjudged Ends = omega arith
heard_on Unjudged Lost = omega arith
heard_on Let_in Lost = omega arith
heard_on In_step (Waits w) = omega arith
heard_on In_step (Ended e) = omega arith
heard_on Between_steps Lost = omega arith
heard_on Leaving Ends = omega arith
heard_on Leaving Lost = omega arith
heard_on Unread (Asked r) = omega arith
heard_on Unread (Wants p) = omega arith
heard_on Unread Rejected = omega arith
heard_on Unread Ends = omega arith
heard_on Unread Lost = omega arith
heard_on (Whole r) Lost = omega arith
heard_on (In_hand r) (Done o) = most (In_hand r)
heard_on In_copy Ends = omega arith
heard_on In_copy Lost = omega arith
heard_on Awaits_call Lost = omega arith
heard_on Has_answer (Went zero) = omega arith
heard_on Has_answer Lost = omega arith
heard_on Seeking Resolved = omega arith
heard_on Seeking Failed = omega arith
heard_on Ringing Up = omega arith
heard_on Ringing Failed = omega arith
heard_on Standing Lost = omega arith
heard_on st g = omega arith

note_on : (id : ℕ) (st : Stage) (n : Note) → rank st ≤ rank (life id st n)
note_on id st (Ordered a) = elim (is_about id a) as (λ b. rank st ≤ rank (if b then ordered a st else st)) [ true ↦ ordered_on a st | false ↦ omega arith ]
note_on id st (Heard (Accepted i a)) = elim (i == id) as (λ b. rank st ≤ rank (if b then entered st a else st)) [ true ↦ entered_on st a | false ↦ omega arith ]
note_on id st (Heard (Told i g)) = elim (i == id) as (λ b. rank st ≤ rank (if b then heard st g else st)) [ true ↦ heard_on st g | false ↦ omega arith ]
note_on id st (Heard e) = omega arith

notes_on : (id : ℕ) (st : Stage) (ns : List Note) → rank st ≤ rank (watch (life id) st ns)
notes_on id st [] = omega arith
notes_on id st (n ∷ ns) = let h = note_on id st n in let k = notes_on id (life id st n) ns in omega (arith, h, k)

step_on : (id : ℕ) (s : State) (m : Move) → IsDistinct s → rank (stage_of id s) ≤ rank (stage_of id (step s m).0)
step_on id s m o = subst (λ (st : Stage). rank (stage_of id s) ≤ rank st) (history_lives id s (m ∷ []) o) (notes_on id (stage_of id s) (history s (m ∷ [])))

-- 2. Only a look-up that is ordered sets its moment, and only its end lengthens the rest

abbrev KeepsRest : State → State → Type 0
KeepsRest s t = (t.looked ≡ s.looked) × (t.quiet ≡ s.quiet)

longer : (s : State) (p : Phase) (r : Reply) → s.quiet ≤ quiet_after s p r
longer s (Served Query) (Respond q) = omega arith
longer s p r = omega arith

replied_at_longer : (s : State) (at : Option Connection) (f : Connection → Reply) → s.quiet ≤ (replied_at s at f).0.quiet
replied_at_longer s None f = omega arith
replied_at_longer s (Some c) f = longer s c.phase (in_numbers s.next (f c))

replied_at_rest : (s : State) (at : Option Connection) (f : Connection → Reply) → ((c : Connection) → at ≡ Some c → quiet_after s c.phase (in_numbers s.next (f c)) ≡ s.quiet)
    → KeepsRest s (replied_at s at f).0
replied_at_rest s None f k = (refl, refl)
replied_at_rest s (Some c) f k = (refl, k c refl)

evicted_rest : (s : State) (p : Phase) → quiet_after s p (Leave Evicted) ≡ s.quiet
evicted_rest s (Served Query) = refl
evicted_rest s p = refl

-- nothing is settled of a look-up that is being done
settled_rest : (s : State) (p : Phase) (r : Reply) → settles p r ≡ true → quiet_after s p (in_numbers s.next r) ≡ s.quiet
settled_rest s (Served Query) r h = cc
settled_rest s p r h = refl

gate_rest : (s : State) (d : Door) (g : Gate) → KeepsRest s (with_gate s d g)
gate_rest s Partners g = (refl, refl)
gate_rest s Commands g = (refl, refl)
gate_rest s Requests g = (refl, refl)
gate_rest s Calls g = (refl, refl)

accepted_rest : (s : State) (c : Connection) (a : Arrival) → KeepsRest s (accepted s c a).0
accepted_rest s c Somebody =
    let t = with_connections s (map (became c.id (first_phase s.now s.limits c.door)) s.connections) in
    replied_at_rest t (makes_room t c.door) (λ c. Leave Evicted) (λ c e. evicted_rest t c.phase)
accepted_rest s c Nobody = gate_rest (with_connections s (filter (is_other c.id) s.connections)) c.door Quiet
accepted_rest s c Later = gate_rest (with_connections s (filter (is_other c.id) s.connections)) c.door (Resting (s.now + s.limits.rest))
accepted_rest s c Never = (refl, refl)

accepted_at_rest : (s : State) (at : Option Connection) (a : Arrival) → KeepsRest s (accepted_at s at a).0
accepted_at_rest s None a = (refl, refl)
accepted_at_rest s (Some c) a = elim (is_arriving_phase c.phase) as (λ b. KeepsRest s (if b then accepted s c a else (s, [])).0) [ true ↦ accepted_rest s c a | false ↦ (refl, refl) ]

due_rest : (s : State) (n : Partner) → KeepsRest s (due_to s n)
due_rest s n = cases (list_any (calls n.number) s.connections) (nat_lt s.next (2 ^ 63))
  where
    cases : (b d : Bool) → KeepsRest s (if b then s else (if d then with_call s n else s))
    cases true d = (refl, refl)
    cases false true = (refl, refl)
    cases false false = (refl, refl)

reviewed_rest : (s : State) (c : Clock) → KeepsRest s (reviewed s c)
reviewed_rest s Reviewing = (refl, refl)
reviewed_rest s c = (refl, refl)

-- nothing is told of a connection
abbrev IsGeneral : Event → Type 0
IsGeneral (Told id g) = ⊥
IsGeneral e = Unit {0}

received_rest : (s : State) (e : Event) → IsGeneral e → KeepsRest s (received s e).0
received_rest s (Knock d) n = gate_rest s d (knocked (gate s d))
received_rest s (Accepted id a) n = accepted_at_rest s (connection_at id s.connections) a
received_rest s (Passed t) n = (refl, refl)
received_rest s (Told id g) n = elim n [ ]
received_rest s (Due p) n = due_rest s p
received_rest s Reviewed n = reviewed_rest s s.clock
received_rest s (Over st) n = (refl, refl)

chosen_rest : (s : State) (c : Choice) → ChoiceFits s.connections c → IsOther c → KeepsRest s (chosen s c).0
chosen_rest s (Settle id r) f n = replied_at_rest s (connection_at id s.connections) (λ c. r)
    (λ c e. settled_rest s c.phase r (subst (λ (at : Option Phase). Settles at r) (at_number id s.connections c e).1 f))
chosen_rest s (Admit d) f n = elim (nat_lt s.next (2 ^ 63)) as (λ b. KeepsRest s (if b then welcomed s d else (s, [])).0) [ true ↦ (refl, refl) | false ↦ (refl, refl) ]
chosen_rest s Nothing f n = (refl, refl)
chosen_rest s (Finish st) f n = (refl, refl)
chosen_rest s Inspect f n = (refl, refl)
chosen_rest s (Start id x) f n = (refl, refl)
chosen_rest s (Proceed id x) f n = (refl, refl)
chosen_rest s (Consult id) f n = elim n [ ]
chosen_rest s (Perform id) f n = (refl, refl)
chosen_rest s (Lend id) f n = (refl, refl)
chosen_rest s (Seek id c) f n = (refl, refl)
chosen_rest s (Depart st) f n = (refl, refl)

chosen_quiet : (s : State) (c : Choice) → ChoiceFits s.connections c → (chosen s c).0.quiet ≡ s.quiet
chosen_quiet s (Consult id) f = refl
chosen_quiet s c f = (chosen_rest s c f tt).1

replied_at_looked : (s : State) (at : Option Connection) (f : Connection → Reply) → (replied_at s at f).0.looked ≡ s.looked
replied_at_looked s None f = refl
replied_at_looked s (Some c) f = refl

received_looked : (s : State) (e : Event) → (received s e).0.looked ≡ s.looked
received_looked s (Told id g) = replied_at_looked s (connection_at id s.connections) (λ c. rule s.now (limits_now s) c.door c.phase g)
received_looked s e = (received_rest s e tt).0

received_longer : (s : State) (e : Event) → s.quiet ≤ (received s e).0.quiet
received_longer s (Told id g) = replied_at_longer s (connection_at id s.connections) (λ c. rule s.now (limits_now s) c.door c.phase g)
received_longer s e = let h = (received_rest s e tt).1 in omega (arith, h)

step_longer : (s : State) (m : Move) → IsDistinct s → s.quiet ≤ (step s m).0.quiet
step_longer s (Tell e) o = received_longer s e
step_longer s Ask o = let h = chosen_quiet s (choice s) (choice_fits s o) in omega (arith, h)

run_longer : (s : State) (ms : List Move) → IsDistinct s → s.quiet ≤ (run s ms).quiet
run_longer s ms o = run_keeps (λ t. s.quiet ≤ t.quiet) (λ t m d h. let k = step_longer t m d in omega (arith, h, k)) s ms o (omega arith)

either_one : (a b : ℕ) → (max a b ≡ a) ⊎ (max a b ≡ b)
either_one a b = cases (nat_le b a) refl
  where
    cases : (c : Bool) → nat_le b a ≡ c → (max a b ≡ a) ⊎ (max a b ≡ b)
    cases true y = let l : b ≤ a = grind (arith, nat_tests, y) in inl (omega (arith, l))
    cases false n = let l : a < b = grind (arith, nat_tests, n) in inr (omega (arith, l))

-- it stays as it is, or this is the end of a look-up
abbrev EndsOne : State → Door → Phase → Signal → Type 0
EndsOne s d p g =
    let q = quiet_after s p (in_numbers s.next (rule s.now (limits_now s) d p g)) in
    (q ≡ s.quiet) ⊎ ((o : ℕ) × (g ≡ Done o) × (p ≡ Served Query) × (q ≡ s.now + (s.now - s.looked)))

ends_one : (s : State) (d : Door) (p : Phase) (g : Signal) → EndsOne s d p g
ends_one s d (Served Query) (Done o) = by (either_one s.quiet (s.now + (s.now - s.looked)))
  where
    by : (max s.quiet (s.now + (s.now - s.looked)) ≡ s.quiet) ⊎ (max s.quiet (s.now + (s.now - s.looked)) ≡ s.now + (s.now - s.looked)) → EndsOne s d (Served Query) (Done o)
    by (inl h) = inl h
    by (inr h) = inr (o, refl, refl, h)
ends_one s d (Served Query) g = inl refl
ends_one s d p g = inl refl

told_brief : (s : State) (id : ℕ) (g : Signal) → IsBrief s (Tell (Told id g))
told_brief s id g = cases (connection_at id s.connections) refl
  where
    Brief : State → Type 0
    Brief t = (t.quiet ≡ s.quiet)
        ⊎ ((i : ℕ) × (o : ℕ) × (Tell (Told id g) ≡ Tell (Told i (Done o))) × (phase_at i s.connections ≡ Some (Served Query)) × (t.quiet ≡ s.now + (s.now - s.looked)))

    cases : (at : Option Connection) → connection_at id s.connections ≡ at → Brief (replied_at s at (λ c. rule s.now (limits_now s) c.door c.phase g)).0
    cases None a = inl refl
    cases (Some c) a = by (ends_one s c.door c.phase g)
      where
        by : EndsOne s c.door c.phase g → Brief (replied_at s (Some c) (λ c. rule s.now (limits_now s) c.door c.phase g)).0
        by (inl h) = inl h
        by (inr (o, eg, ep, h)) = inr (id, o, ap (λ g. Tell (Told id g)) eg, (at_number id s.connections c a).1 ∙ ap Some ep, h)

pub is_brief : (s : State) (m : Move) → IsDistinct s → IsBrief s m
is_brief s Ask o = inl (chosen_quiet s (choice s) (choice_fits s o))
is_brief s (Tell (Told id g)) o = told_brief s id g
is_brief s (Tell e) o = inl (received_rest s e tt).1

-- 3. While it is being done, its moment stands

one_there : (t : Phase → Bool) (id : ℕ) (cs : List Connection) (p : Phase) → phase_at id cs ≡ Some p → t p ≡ true → 1 ≤ how_many t cs
one_there t id [] p e h = cc
one_there t id (c ∷ cs) p e h = split (λ k. one_there t id cs p k h) (c.id == id) e
  where
    split : (phase_at id cs ≡ Some p → 1 ≤ how_many t cs) → (b : Bool) → cond b (Some c.phase) (phase_at id cs) ≡ Some p → 1 ≤ one_if (t c.phase) + how_many t cs
    split more true e = let q : c.phase ≡ p = cc in rw (q, h) (omega arith)
    split more false e = let k = more e in omega (arith, k)

-- then no other begins
none_begins : (s : State) (id i : ℕ) → phase_at id s.connections ≡ Some (Served Query) → choice s ≡ Consult i → ⊥
none_begins s id i e q =
    let idle : NoJob s = subst (ChosenApart s) q (choice_apart s) in
    let one = one_there at_office id s.connections (Served Query) e refl in
    omega (arith, idle, one)

-- it is being done, and was ordered then; or it was carried out
abbrev Handed : ℕ → ℕ → State → Type 0
Handed id w s = ((phase_at id s.connections ≡ Some (Served Query)) × (s.looked ≡ w)) ⊎ (rank (stage_of id s) ≡ 2)

of_phase : (id : ℕ) (s : State) → phase_at id s.connections ≡ Some (Served Query) → rank (stage_of id s) ≡ 1
of_phase id s e = cases (connection_at id s.connections) refl
  where
    cases : (at : Option Connection) → connection_at id s.connections ≡ at → rank (stage_from (nat_lt id s.next) at) ≡ 1
    cases None a = let bad : None ≡ Some (Served Query) = sym (no_number id s.connections a) ∙ e in cc
    cases (Some c) a =
        let h : Some c.phase ≡ Some (Served Query) = sym (at_number id s.connections c a).1 ∙ e in
        let q : c.phase ≡ Served Query = cc in
        ap (λ p. rank (stage_in c.door p)) q

served : (d : Door) (p : Phase) → rank (stage_in d p) ≡ 1 → p ≡ Served Query
served d (Served Query) h = refl
served d p h = cc

of_rank : (id : ℕ) (s : State) → rank (stage_of id s) ≡ 1 → phase_at id s.connections ≡ Some (Served Query)
of_rank id s h = cases (connection_at id s.connections) refl (nat_lt id s.next) h
  where
    cases : (at : Option Connection) → connection_at id s.connections ≡ at → (b : Bool) → rank (stage_from b at) ≡ 1 → phase_at id s.connections ≡ Some (Served Query)
    cases (Some c) a b h = (at_number id s.connections c a).1 ∙ ap Some (served c.door c.phase h)
    cases None a true h = cc
    cases None a false h = cc

looked_step : (s : State) (m : Move) (id : ℕ) → IsDistinct s → phase_at id s.connections ≡ Some (Served Query) → (step s m).0.looked ≡ s.looked
looked_step s (Tell e) id o h = received_looked s e
looked_step s Ask id o h = by (choice s) refl (choice_fits s o)
  where
    by : (c : Choice) → choice s ≡ c → ChoiceFits s.connections c → (chosen s c).0.looked ≡ s.looked
    by (Consult i) q f = absurd (none_begins s id i h q)
    by c q f = (chosen_rest s c f tt).0

handed_step : (id w : ℕ) (s : State) (m : Move) → IsDistinct s → Handed id w s → Handed id w (step s m).0
handed_step id w s m o (inr h) =
    let k = step_on id s m o in
    let l = most (stage_of id (step s m).0) in inr (omega (arith, h, k, l))
handed_step id w s m o (inl (e, h)) = by (rank (stage_of id (step s m).0)) refl
  where
    before : rank (stage_of id s) ≡ 1
    before = of_phase id s e

    by : (k : ℕ) → rank (stage_of id (step s m).0) ≡ k → Handed id w (step s m).0
    by zero q = let l = step_on id s m o in absurd (omega (arith, before, l, q))
    by (suc zero) q = inl (of_rank id (step s m).0 q, looked_step s m id o e ∙ h)
    by (suc (suc k)) q = let l = most (stage_of id (step s m).0) in inr (omega (arith, l, q))

handed_run : (id w : ℕ) (s : State) (ms : List Move) → IsDistinct s → Handed id w s → Handed id w (run s ms)
handed_run id w s ms o h = run_keeps (Handed id w) (handed_step id w) s ms o h

-- it is handed over now
handed_now : (s : State) (id : ℕ) → IsDistinct s → choice s ≡ Consult id → Handed id s.now (step s Ask).0
handed_now s id o q = subst (λ (c : Choice). Handed id s.now (chosen s c).0) (sym q) (inl (phase, refl))
  where
    asked : (at : Option Phase) → Asks Query at → map_phase (shared_phase s.limits.share) (set_to (Served Query) at) ≡ Some (Served Query)
    asked (Some p) h = refl
    asked None h = elim h [ ]

    fits : Asks Query (phase_at id s.connections)
    fits = subst (ChoiceFits s.connections) q (choice_fits s o)

    phase : phase_at id (chosen s (Consult id)).0.connections ≡ Some (Served Query)
    phase =
        edited_phase (shared_phase s.limits.share) id (map (became id (Served Query)) s.connections)
        ∙ ap (map_phase (shared_phase s.limits.share)) (became_same id (Served Query) s.connections)
        ∙ asked (phase_at id s.connections) fits

-- 4. Its end

done_rests : (s : State) (id o : ℕ) → phase_at id s.connections ≡ Some (Served Query) → s.now + (s.now - s.looked) ≤ (received s (Told id (Done o))).0.quiet
done_rests s id o e = cases (connection_at id s.connections) refl
  where
    after : (c : Connection) (p : Phase) → p ≡ Served Query → s.now + (s.now - s.looked) ≤ quiet_after s p (in_numbers s.next (rule s.now (limits_now s) c.door p (Done o)))
    after c (Served Query) q = omega arith
    after c p q = cc

    cases : (at : Option Connection) → connection_at id s.connections ≡ at
        → s.now + (s.now - s.looked) ≤ (replied_at s at (λ c. rule s.now (limits_now s) c.door c.phase (Done o))).0.quiet
    cases None a = let bad : None ≡ Some (Served Query) = sym (no_number id s.connections a) ∙ e in cc
    cases (Some c) a =
        let h : Some c.phase ≡ Some (Served Query) = sym (at_number id s.connections c a).1 ∙ e in
        let q : c.phase ≡ Served Query = cc in
        after c c.phase q

-- a look-up that begins within a session begins after the rest
rested : (s : State) (i : ℕ) → IsDistinct s → choice s ≡ Consult i → list_any (in_phase is_between_phase) s.connections ≡ true → s.quiet ≤ s.now
rested s i o q any =
    let f = any_found is_between_phase s.connections any in
    by f.0 f.0.phase f.1 refl (found (in_phase is_between_phase) s.next s.connections f.0 f.1 o).1
  where
    paced : IsPaced s (Consult i)
    paced = subst (IsPaced s) q (choice_paced s)

    by : (c : Connection) (p : Phase) → find (in_phase is_between_phase) s.connections ≡ Some c → c.phase ≡ p → is_between_phase p ≡ true → s.quiet ≤ s.now
    by c (Between x) f e h = (paced c x f e).1
    by c p f e h = cc

pub is_dated : (s : State) (during : List Move) → IsDistinct s → IsDated s during
is_dated s during o id q e = by (run (step s Ask).0 during) e (handed_run id s.now (step s Ask).0 during (step_distinct s Ask o) (handed_now s id o q))
  where
    by : (t : State) → phase_at id t.connections ≡ Some (Served Query) → Handed id s.now t → t.looked ≡ s.now
    by t e (inl h) = h.1
    by t e (inr h) = let one = of_phase id t e in absurd (omega (arith, h, one))

pub is_rested : (s : State) (during after : List Move) → IsDistinct s → IsRested s during after
is_rested s during after o id k i q e p any =
    let t = run (step s Ask).0 during in
    let t' = (received t (Told id (Done k))).0 in
    let ot = run_distinct (step s Ask).0 during (step_distinct s Ask o) in
    let ot' = step_distinct t (Tell (Told id (Done k))) ot in
    let w = is_dated s during o id q e in
    let a = done_rests t id k e in
    let b = run_longer t' after ot' in
    let d = rested (run t' after) i (run_distinct t' after ot') p any in
    omega (arith, w, a, b, d)
