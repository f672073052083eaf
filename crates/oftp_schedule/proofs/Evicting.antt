-- Nobody is closed for another but the oldest stranger, for one who has come.
use Rattle.std.proofs.Common.{◌^◌, ◌≡◌, [], ◌∷◌, ◌++◌, ◌∙◌, if◌then◌else◌, ℕ, Bool, true, false, nat_lt, List, Option, Some, None, map, zero, suc, subst, refl, ap, sym}
use Rattle.oftp_schedule.specs.declared.connection.Door.{Door}
use Rattle.oftp_schedule.specs.declared.connection.Door.TheVariants.{Partners, Commands, Requests, Calls}
use Rattle.oftp_schedule.specs.declared.connection.Input.{Input}
use Rattle.oftp_schedule.specs.declared.connection.Input.TheVariants.{Awaited, Here, Last, Gone}
use Rattle.oftp_schedule.specs.declared.connection.Phase.{Phase}
use Rattle.oftp_schedule.specs.declared.connection.Phase.TheVariants.{Stranger, Guest, Stepping, Between, Parting, Asking, Ready, Served, Calling, Copying, Answered, Wanted, Resolving, Dialing, Connected}
use Rattle.oftp_schedule.specs.declared.connection.Arrival.{Arrival}
use Rattle.oftp_schedule.specs.declared.connection.Arrival.TheVariants.{Somebody, Nobody, Later, Never}
use Rattle.oftp_schedule.specs.declared.connection.End.TheVariants.{Own, Other}
use Rattle.oftp_schedule.specs.declared.connection.Signal.{Signal}
use Rattle.oftp_schedule.specs.declared.connection.Signal.TheVariants.{LetIn, Rejected, Asked, Wants, Waits, Ended, Done, Came, Went, Ends, Lost, Resolved, Up, Failed}
use Rattle.oftp_schedule.specs.declared.connection.Event.{Event}
use Rattle.oftp_schedule.specs.declared.connection.Event.TheVariants.{Knock, Accepted, Passed, Told, Due, Reviewed, Over}
use Rattle.oftp_schedule.specs.declared.connection.Reason.{Reason}
use Rattle.oftp_schedule.specs.declared.connection.Reason.TheVariants.{Evicted, TimedOut, Stalled, Finished, Unreached, Orphaned, Stopping}
use Rattle.oftp_schedule.specs.declared.connection.Action.{Action}
use Rattle.oftp_schedule.specs.declared.connection.Action.TheVariants.{Close, Part}
use Rattle.oftp_schedule.specs.declared.connection.Reply.{Reply}
use Rattle.oftp_schedule.specs.declared.connection.Reply.TheVariants.{Want, Respond, Refuse, Redial, Yield, Farewell, Leave, Break}
use Rattle.oftp_schedule.specs.declared.connection.Choice.{Choice}
use Rattle.oftp_schedule.specs.declared.connection.Choice.TheVariants.{Settle, Admit}
use Rattle.oftp_schedule.specs.declared.connection.Session.{Session}
use Rattle.oftp_schedule.specs.declared.connection.Connection.{Connection}
use Rattle.oftp_schedule.specs.declared.connection.Step.{Step}
use Rattle.oftp_schedule.specs.declared.connection.Limits.{Limits}
use Rattle.oftp_schedule.specs.Rules.{after_step, at_end, went, rule, is_arriving_phase, is_ripe_phase, has_line, line, leaves_line, orders, connection_at, became}
use Rattle.oftp_schedule.specs.Machine.{State, Turn, with_connections, limits_now, in_numbers, replied_at, first_phase, makes_room, evicted, accepted, accepted_at, received, choice, welcomed, chosen, Move, step, Tell, Ask}
use Rattle.oftp_schedule.specs.Doors.{evictions, number, leaver_by, leaver}
use Rattle.oftp_schedule.proofs.Numbers.{at_number}
use Rattle.oftp_schedule.proofs.Fitting.{IsDistinct, settles, Settles, ChoiceFits, choice_fits}

abbrev is_evicted : Reason → Bool
is_evicted Evicted = true
is_evicted why = false

abbrev pub is_eviction : Reply → Bool
is_eviction (Leave why) = is_evicted why
is_eviction (Break why) = is_evicted why
is_eviction r = false

line_evicts : (id : ℕ) (why : Reason) (b : Bool) (rest : List Action) → evictions (line id why b ++ rest) ≡ evictions rest
line_evicts id why true rest = refl
line_evicts id why false rest = refl

close_evicts : (id : ℕ) (why : Reason) → is_evicted why ≡ false → evictions (Close id why ∷ []) ≡ []
close_evicts id Evicted h = cc
close_evicts id why h = refl

orders_evict : (id : ℕ) (p : Phase) (r : Reply) → is_eviction r ≡ false → evictions (orders id p r) ≡ []
orders_evict id p (Farewell q) h = line_evicts id Finished (has_line p) (Part id ∷ [])
orders_evict id p (Leave why) h = line_evicts id why (leaves_line p why) (Close id why ∷ []) ∙ close_evicts id why h
orders_evict id p (Break why) h = close_evicts id why h
orders_evict id p r h = refl

numbers_evict : (next : ℕ) (r : Reply) → is_eviction r ≡ false → is_eviction (in_numbers next r) ≡ false
numbers_evict next (Want n) h = elim (nat_lt next (2 ^ 63)) as (λ b. is_eviction (if b then Want n else Leave Stopping) ≡ false) [ true ↦ refl | false ↦ refl ]
numbers_evict next r h = h

replied_at_evicts : (s : State) (at : Option Connection) (f : Connection → Reply) → ((c : Connection) → at ≡ Some c → is_eviction (f c) ≡ false) → evictions (replied_at s at f).1 ≡ []
replied_at_evicts s None f k = refl
replied_at_evicts s (Some c) f k = orders_evict c.id c.phase (in_numbers s.next (f c)) (numbers_evict s.next (f c) (k c refl))

step_evicts : (now : ℕ) (x : Session) (w : Step) (i : Input) → is_eviction (after_step now x w i) ≡ false
step_evicts now x w Gone = refl
step_evicts now x w Awaited = refl
step_evicts now x w Here = refl
step_evicts now x w Last = refl

end_evicts : (x : Session) (i : Input) → is_eviction (at_end x i) ≡ false
end_evicts x Here = refl
end_evicts x Last = refl
end_evicts x Awaited = refl
end_evicts x Gone = refl

went_evicts : (now : ℕ) (l : Limits) (d : Door) (u k : ℕ) → is_eviction (went now l d u k) ≡ false
went_evicts now l Requests u zero = refl
went_evicts now l Partners u zero = refl
went_evicts now l Commands u zero = refl
went_evicts now l Calls u zero = refl
went_evicts now l d u (suc k) = refl

rule_evicts : (now : ℕ) (l : Limits) (d : Door) (p : Phase) (g : Signal) → is_eviction (rule now l d p g) ≡ false
rule_evicts now l d (Stranger u r) LetIn = refl
rule_evicts now l d (Stranger u r) Rejected = refl
rule_evicts now l d (Stranger u r) Ends = refl
rule_evicts now l d (Stranger u r) Lost = refl
rule_evicts now l d (Guest t) Lost = refl
rule_evicts now l d (Stepping x) (Waits w) = step_evicts now x w w.input
rule_evicts now l d (Stepping x) (Ended Own) = refl
rule_evicts now l d (Stepping x) (Ended Other) = refl
rule_evicts now l d (Between x) Came = refl
rule_evicts now l d (Between x) (Went k) = refl
rule_evicts now l d (Between x) Ends = end_evicts x x.input
rule_evicts now l d (Between x) Lost = refl
rule_evicts now l d (Parting u) Ends = refl
rule_evicts now l d (Parting u) Lost = refl
rule_evicts now l d (Asking u) (Asked r) = refl
rule_evicts now l d (Asking u) (Wants p) = refl
rule_evicts now l d (Asking u) Rejected = refl
rule_evicts now l d (Asking u) Ends = refl
rule_evicts now l d (Asking u) Lost = refl
rule_evicts now l d (Ready r k) Lost = refl
rule_evicts now l d (Served r) (Done o) = refl
rule_evicts now l d (Calling i) Lost = refl
rule_evicts now l d (Copying u) Ends = refl
rule_evicts now l d (Copying u) Lost = refl
rule_evicts now l d (Answered u o) (Went k) = went_evicts now l d u k
rule_evicts now l d (Answered u o) Lost = refl
rule_evicts now l d (Resolving c) Resolved = refl
rule_evicts now l d (Resolving c) Failed = refl
rule_evicts now l d (Dialing c u) Up = refl
rule_evicts now l d (Dialing c u) Failed = refl
rule_evicts now l d (Connected c u) Lost = refl
rule_evicts now l d p g = refl

-- a stranger leaves for who has come
room_phase : (p : Phase) (now : ℕ) → is_ripe_phase now p ≡ true → leaves_line p Evicted ≡ true
room_phase (Stranger u r) now h = refl
room_phase p now h = cc

evicted_evicts : (s : State) (at : Option Connection) → evictions (evicted s at).1 ≡ number at
evicted_evicts s None = refl
evicted_evicts s (Some c) = line_evicts c.id Evicted (leaves_line c.phase Evicted) (Close c.id Evicted ∷ [])

accepted_evicts : (s : State) (c : Connection) (a : Arrival) → is_arriving_phase c.phase ≡ true → evictions (accepted s c a).1 ≡ number (leaver_by s (Some c) a)
accepted_evicts s c Somebody h =
    let t = with_connections s (map (became c.id (first_phase s.now s.limits c.door)) s.connections) in
    evicted_evicts t (makes_room t c.door) ∙ ap (λ b. number (if b then makes_room t c.door else None)) (sym h)
accepted_evicts s c Nobody h = refl
accepted_evicts s c Later h = refl
accepted_evicts s c Never h = refl

accepted_at_evicts : (s : State) (at : Option Connection) (a : Arrival) → evictions (accepted_at s at a).1 ≡ number (leaver_by s at a)
accepted_at_evicts s None Somebody = refl
accepted_at_evicts s None Nobody = refl
accepted_at_evicts s None Later = refl
accepted_at_evicts s None Never = refl
accepted_at_evicts s (Some c) a = cases (is_arriving_phase c.phase) refl
  where
    none_else : (a : Arrival) → is_arriving_phase c.phase ≡ false → [] ≡ number (leaver_by s (Some c) a)
    none_else Somebody h = ap (λ b. number (if b then makes_room (with_connections s (map (became c.id (first_phase s.now s.limits c.door)) s.connections)) c.door else None)) (sym h)
    none_else Nobody h = refl
    none_else Later h = refl
    none_else Never h = refl

    cases : (b : Bool) → is_arriving_phase c.phase ≡ b → evictions (let t : Turn = if b then accepted s c a else (s, []) in t.1) ≡ number (leaver_by s (Some c) a)
    cases true h = accepted_evicts s c a h
    cases false h = none_else a h

received_evicts : (s : State) (e : Event) → evictions (received s e).1 ≡ number (leaver s (Tell e))
received_evicts s (Knock d) = refl
received_evicts s (Accepted id Somebody) = accepted_at_evicts s (connection_at id s.connections) Somebody
received_evicts s (Accepted id Nobody) = accepted_at_evicts s (connection_at id s.connections) Nobody
received_evicts s (Accepted id Later) = accepted_at_evicts s (connection_at id s.connections) Later
received_evicts s (Accepted id Never) = accepted_at_evicts s (connection_at id s.connections) Never
received_evicts s (Passed u) = refl
received_evicts s (Told id g) = replied_at_evicts s (connection_at id s.connections) (λ c. rule s.now (limits_now s) c.door c.phase g) (λ c e. rule_evicts s.now (limits_now s) c.door c.phase g)
received_evicts s (Due p) = refl
received_evicts s Reviewed = refl
received_evicts s (Over st) = refl

settled_evicts : (p : Phase) (r : Reply) → settles p r ≡ true → is_eviction r ≡ false
settled_evicts (Stranger u r) (Leave TimedOut) h = refl
settled_evicts (Stranger u r) (Leave Stopping) h = refl
settled_evicts (Guest n) (Leave Stopping) h = refl
settled_evicts (Between x) (Break TimedOut) h = refl
settled_evicts (Between x) (Break Stalled) h = refl
settled_evicts (Between x) (Break Stopping) h = refl
settled_evicts (Between x) (Yield (Wanted c)) h = refl
settled_evicts (Parting u) (Leave TimedOut) h = refl
settled_evicts (Asking u) (Leave TimedOut) h = refl
settled_evicts (Asking u) (Leave Stopping) h = refl
settled_evicts (Asking v) (Refuse (Answered u o) Stopping) h = refl
settled_evicts (Ready r j) (Refuse (Answered u o) Stopping) h = refl
settled_evicts (Calling i) (Respond (Answered u o)) h = refl
settled_evicts (Copying v) (Refuse (Answered u o) TimedOut) h = refl
settled_evicts (Answered u o) (Leave TimedOut) h = refl
settled_evicts (Wanted c) (Leave Orphaned) h = refl
settled_evicts (Wanted c) (Leave Stopping) h = refl
settled_evicts (Resolving c) (Leave Stopping) h = refl
settled_evicts (Dialing c u) (Leave Unreached) h = refl
settled_evicts (Dialing c u) (Leave Orphaned) h = refl
settled_evicts (Dialing c u) (Leave Stopping) h = refl
settled_evicts (Connected c u) (Redial (Wanted j)) h = refl
settled_evicts (Connected c u) (Leave TimedOut) h = refl
settled_evicts (Connected c u) (Leave Orphaned) h = refl
settled_evicts (Connected c u) (Leave Stopping) h = refl
settled_evicts p r h = cc

chosen_evicts : (s : State) (c : Choice) → IsDistinct s → ChoiceFits s.connections c → evictions (chosen s c).1 ≡ []
chosen_evicts s (Settle id r) o f = replied_at_evicts s (connection_at id s.connections) (λ c. r) fits
  where
    fits : (c : Connection) → connection_at id s.connections ≡ Some c → is_eviction r ≡ false
    fits c e =
        let h = at_number id s.connections c e in
        settled_evicts c.phase r (subst (λ (at : Option Phase). Settles at r) h.1 f)
chosen_evicts s (Admit d) o f = cases (nat_lt s.next (2 ^ 63))
  where
    cases : (b : Bool) → evictions (let t : Turn = if b then welcomed s d else (s, []) in t.1) ≡ []
    cases true = refl
    cases false = refl
chosen_evicts s c o f = refl

pub move_evicts : (s : State) (m : Move) → IsDistinct s → evictions (step s m).1 ≡ number (leaver s m)
move_evicts s (Tell e) o = received_evicts s e
move_evicts s Ask o = chosen_evicts s (choice s) o (choice_fits s o)
