-- What is chosen stands where it may be chosen, and numbers stay their own.
use Rattle.std.proofs.Common.{◌^◌, ◌≡◌, ◌<◌, ◌+◌, ◌==◌, [], ◌∷◌, ◌++◌, if◌then◌else◌, ℕ, Bool, true, false, nat_lt, List, Option, Some, None, map, filter, find, max, subst, refl, arith, ◌⊎◌, sym, inl, inr}
use Rattle.std.proofs.lemmas.Bool.Decides.{nat_tests}
use Rattle.oftp_schedule.specs.declared.connection.Door.{Door}
use Rattle.oftp_schedule.specs.declared.connection.Door.TheVariants.{Calls}
use Rattle.oftp_schedule.specs.declared.connection.Request.{Request}
use Rattle.oftp_schedule.specs.declared.connection.Request.TheVariants.{Query, Update, Backup}
use Rattle.oftp_schedule.specs.declared.connection.Asker.TheVariants.{ByClock, By}
use Rattle.oftp_schedule.specs.declared.connection.Phase.{Phase}
use Rattle.oftp_schedule.specs.declared.connection.Phase.TheVariants.{Arriving, Stranger, Guest, Stepping, Between, Parting, Asking, Ready, Served, Calling, Copying, Answered, Wanted, Resolving, Dialing, Connected}
use Rattle.oftp_schedule.specs.declared.connection.Status.{Status}
use Rattle.oftp_schedule.specs.declared.connection.Status.TheVariants.{Stopped, DoorFailed, OfficeFailed}
use Rattle.oftp_schedule.specs.declared.connection.Event.{Event}
use Rattle.oftp_schedule.specs.declared.connection.Reason.TheVariants.{Evicted, TimedOut, Stalled, Unreached, Orphaned, Stopping}
use Rattle.oftp_schedule.specs.declared.connection.Reply.{Reply}
use Rattle.oftp_schedule.specs.declared.connection.Reply.TheVariants.{Stay, Become, Queue, Want, Respond, Refuse, Connect, Redial, Yield, Farewell, Leave, Break}
use Rattle.oftp_schedule.specs.declared.connection.Choice.{Choice}
use Rattle.oftp_schedule.specs.declared.connection.Choice.TheVariants.{Nothing, Finish, Settle, Admit, Inspect, Start, Proceed, Consult, Perform, Lend, Seek, Depart}
use Rattle.oftp_schedule.specs.declared.connection.Call.{Call}
use Rattle.oftp_schedule.specs.declared.connection.Session.{Session}
use Rattle.oftp_schedule.specs.declared.connection.Connection.{Connection}
use Rattle.oftp_schedule.specs.declared.connection.Limits.{Limits}
use Rattle.oftp_schedule.specs.Rules.{answering, answered, rule, due, is_over, is_late, once_less, late, dismissal, is_dismissed, concerns, hurried, is_between_phase, is_guest_phase, is_query_phase, is_update_phase, is_owed_phase, is_wanted_phase, is_connected_phase, in_phase, is_ripe, ends_session, has_id, is_other, connection_at, phase_at, became, owed, shared, orphan_phase, is_orphan, told_phase, is_to_tell}
use Rattle.oftp_schedule.specs.Machine.{State, Turn, limits_now, new_call, at_door, edited, after_session, numbers, replied, in_numbers, replied_at, first_phase, received, yielded, choice, welcomed, chosen, Move, step, run, Tell, Ask}
use Rattle.oftp_schedule.proofs.Numbers.{Distinct, Distinct-map, Distinct-filter, Distinct-push, Distinct-new, known}
use Rattle.oftp_schedule.proofs.Places.{found, other_same}
use Rattle.oftp_schedule.proofs.Events.{Edits, received_holds}
use Rattle.oftp_schedule.proofs.Cases.{each_door}
use Rattle.oftp_schedule.proofs.Choices.{IsHead, IsNext, IsUpdate, IsGuests, IsCalls, May, Settling, head_passes, head_at, of_choice}

-- 1. Numbers

abbrev pub IsDistinct : State → Type 0
IsDistinct s = Distinct s.next s.connections

owed_distinct : (b : Bool) (hi : ℕ) (cs : List Connection) → Distinct hi cs → Distinct hi (after_session b cs)
owed_distinct true hi cs o = Distinct-map owed (λ _. refl) hi cs o
owed_distinct false hi cs o = o

same_bound : (hi : ℕ) (cs : List Connection) → Distinct hi cs → Distinct (hi + 0) cs
same_bound hi cs o = subst (λ n. Distinct n cs) plus o
  where
    plus : hi ≡ hi + 0
    plus = omega arith

moved_distinct : (s : State) (c : Connection) (p : Phase) → IsDistinct s → c.id < s.next → Distinct (s.next + 0) (filter (is_other c.id) s.connections ++ at_door c.id c.door p ∷ [])
moved_distinct s c p o l =
    subst (λ n. Distinct n (filter (is_other c.id) s.connections ++ at_door c.id c.door p ∷ [])) plus
    (Distinct-push s.next (filter (is_other c.id) s.connections) (at_door c.id c.door p) (Distinct-filter (is_other c.id) s.next s.connections o) l (other_same c.id s.connections))
  where
    plus : s.next ≡ s.next + 0
    plus = omega arith

edited_distinct : (s : State) (c : Connection) (r : Reply) → IsDistinct s → c.id < s.next → Distinct (s.next + numbers r) (edited s c r)
edited_distinct s c Stay o l = same_bound s.next s.connections o
edited_distinct s c (Become p) o l = same_bound s.next (map (became c.id p) s.connections) (Distinct-map (became c.id p) (λ _. refl) s.next s.connections o)
edited_distinct s c (Queue p) o l = moved_distinct s c p o l
edited_distinct s c (Want n) o l =
    Distinct-new s.next (map (became c.id (Calling s.next)) s.connections) Calls (Wanted (new_call s.limits n (By c.id)))
    (Distinct-map (became c.id (Calling s.next)) (λ _. refl) s.next s.connections o)
edited_distinct s c (Respond p) o l = same_bound s.next (map (became c.id p) s.connections) (Distinct-map (became c.id p) (λ _. refl) s.next s.connections o)
edited_distinct s c (Refuse p why) o l = same_bound s.next (map (became c.id p) s.connections) (Distinct-map (became c.id p) (λ _. refl) s.next s.connections o)
edited_distinct s c (Connect p) o l = same_bound s.next (map (became c.id p) s.connections) (Distinct-map (became c.id p) (λ _. refl) s.next s.connections o)
edited_distinct s c (Redial p) o l = same_bound s.next (map (became c.id p) s.connections) (Distinct-map (became c.id p) (λ _. refl) s.next s.connections o)
edited_distinct s c (Yield p) o l = moved_distinct s c p o l
edited_distinct s c (Farewell p) o l = same_bound s.next (map (became c.id p) s.connections) (Distinct-map (became c.id p) (λ _. refl) s.next s.connections o)
edited_distinct s c (Leave why) o l = same_bound s.next (filter (is_other c.id) s.connections) (Distinct-filter (is_other c.id) s.next s.connections o)
edited_distinct s c (Break why) o l = same_bound s.next (filter (is_other c.id) s.connections) (Distinct-filter (is_other c.id) s.next s.connections o)

pub replied_distinct : (s : State) (c : Connection) (r : Reply) → IsDistinct s → c.id < s.next → IsDistinct (replied s c r).0
replied_distinct s c r o l = owed_distinct (ends_session c.phase r) (s.next + numbers r) (edited s c r) (edited_distinct s c r o l)

-- who is found has a number that was given
pub below : (s : State) (t : Connection → Bool) (c : Connection) → IsDistinct s → find t s.connections ≡ Some c → c.id < s.next
below s t c o e = let k = known c.id s.next s.connections c.phase (found t s.next s.connections c e o).0 o in grind (arith, nat_tests, k)

pub replied_at_distinct : (s : State) (t : Connection → Bool) (f : Connection → Reply) (at : Option Connection) → find t s.connections ≡ at → IsDistinct s → IsDistinct (replied_at s at f).0
replied_at_distinct s t f None e o = o
replied_at_distinct s t f (Some c) e o = replied_distinct s c (in_numbers s.next (f c)) o (below s t c o e)

abbrev KeepsDistinct : State → State → Type 0
KeepsDistinct s t = IsDistinct s → IsDistinct t

edits_distinct : Edits (λ s. Unit {0}) KeepsDistinct
edits_distinct = record {
  stays = λ s o. o;
  after = λ s t u h k o. k (h o);
  gates = λ s a b c o. o;
  later = λ s now l o. o;
  reviewed_at = λ s t o. o;
  ends = λ s st o. o;
  wants = λ s p i o. Distinct-new s.next s.connections Calls (Wanted (new_call s.limits p ByClock)) o;
  comes = λ s t c i e. (λ o. Distinct-map (became c.id (first_phase s.now s.limits c.door)) (λ _. refl) s.next s.connections o, tt);
  goes = λ s t c i e o. Distinct-filter (is_other c.id) s.next s.connections o;
  closes = λ s c i e o. replied_distinct s c (Leave Evicted) o (below s (is_ripe s.now) c o e);
  hears = λ s t c g i e o. replied_distinct s c (in_numbers s.next (rule s.now (limits_now s) c.door c.phase g)) o (below s t c o e);
}

pub received_distinct : (s : State) (e : Event) → IsDistinct s → IsDistinct (received s e).0
received_distinct s e = received_holds (λ s. Unit {0}) KeepsDistinct edits_distinct s e tt

pub chosen_distinct : (s : State) (c : Choice) → IsDistinct s → IsDistinct (chosen s c).0
chosen_distinct s Nothing o = o
chosen_distinct s (Finish st) o = Distinct-map (hurried (s.now + s.limits.farewell)) (λ _. refl) s.next s.connections o
chosen_distinct s (Settle id r) o = replied_at_distinct s (has_id id) (λ c. r) (connection_at id s.connections) refl o
chosen_distinct s (Admit d) o = cases (nat_lt s.next (2 ^ 63))
  where
    cases : (b : Bool) → IsDistinct (let t : Turn = if b then welcomed s d else (s, []) in t.0)
    cases true = Distinct-new s.next s.connections d Arriving o
    cases false = o
chosen_distinct s Inspect o = o
chosen_distinct s (Start id x) o = Distinct-map (became id (Stepping x)) (λ _. refl) s.next s.connections o
chosen_distinct s (Proceed id x) o = Distinct-map (became id (Stepping x)) (λ _. refl) s.next s.connections o
chosen_distinct s (Consult id) o =
    Distinct-map (shared s.limits.share) (λ _. refl) s.next (map (became id (Served Query)) s.connections) (Distinct-map (became id (Served Query)) (λ _. refl) s.next s.connections o)
chosen_distinct s (Perform id) o = Distinct-map (became id (Served Update)) (λ _. refl) s.next s.connections o
chosen_distinct s (Lend id) o = Distinct-map (became id (Copying (s.now + s.limits.copying))) (λ _. refl) s.next s.connections o
chosen_distinct s (Seek id c) o = Distinct-map (became id (Resolving c)) (λ _. refl) s.next s.connections o
chosen_distinct s (Depart st) o = o

pub step_distinct : (s : State) (m : Move) → IsDistinct s → IsDistinct (step s m).0
step_distinct s (Tell e) o = received_distinct s e o
step_distinct s Ask o = chosen_distinct s (choice s) o

-- what each move keeps is kept over all moves
pub run_keeps : (P : State → Type 0) → ((s : State) (m : Move) → IsDistinct s → P s → P (step s m).0) → (s : State) (ms : List Move) → IsDistinct s → P s → P (run s ms)
run_keeps P k s [] o h = h
run_keeps P k s (m ∷ ms) o h = run_keeps P k (step s m).0 ms (step_distinct s m o) (k s m o h)

pub run_distinct : (s : State) (ms : List Move) → IsDistinct s → IsDistinct (run s ms)
run_distinct s ms o = run_keeps IsDistinct (λ s m o h. step_distinct s m o) s ms o o

-- 2. What is chosen

-- what may become of one in this phase without anything that is told
abbrev pub settles : Phase → Reply → Bool
settles (Stranger u r) (Leave TimedOut) = true
settles (Stranger u r) (Leave Stopping) = true
settles (Guest t) (Leave Stopping) = true
settles (Between x) (Break TimedOut) = true
settles (Between x) (Break Stalled) = true
settles (Between x) (Break Stopping) = true
settles (Between x) (Yield (Wanted c)) = true
settles (Parting u) (Leave TimedOut) = true
settles (Asking u) (Leave TimedOut) = true
settles (Asking u) (Leave Stopping) = true
settles (Asking v) (Refuse (Answered u o) Stopping) = true
settles (Ready r k) (Refuse (Answered u o) Stopping) = true
settles (Calling i) (Respond (Answered u o)) = true
settles (Copying v) (Refuse (Answered u o) TimedOut) = true
settles (Answered u o) (Leave TimedOut) = true
settles (Wanted c) (Leave Orphaned) = true
settles (Wanted c) (Leave Stopping) = true
settles (Resolving c) (Leave Stopping) = true
settles (Dialing c u) (Leave Unreached) = true
settles (Dialing c u) (Leave Orphaned) = true
settles (Dialing c u) (Leave Stopping) = true
settles (Connected c u) (Redial (Wanted k)) = true
settles (Connected c u) (Leave TimedOut) = true
settles (Connected c u) (Leave Orphaned) = true
settles (Connected c u) (Leave Stopping) = true
settles p r = false

abbrev pub Settles : Option Phase → Reply → Type 0
Settles None r = ⊥
Settles (Some p) r = settles p r ≡ true

abbrev pub begins : Phase → Bool
begins (Guest t) = true
begins (Connected c u) = true
begins p = false

abbrev pub Begins : Option Phase → Type 0
Begins None = ⊥
Begins (Some p) = begins p ≡ true

abbrev pub asks : Request → Phase → Bool
asks Query (Ready Query k) = true
asks Update (Ready Update k) = true
asks Backup (Ready Backup k) = true
asks r p = false

abbrev pub Asks : Request → Option Phase → Type 0
Asks r None = ⊥
Asks r (Some p) = asks r p ≡ true

abbrev pub ChoiceFits : List Connection → Choice → Type 0
ChoiceFits cs Nothing = Unit {0}
ChoiceFits cs (Finish st) = Unit {0}
ChoiceFits cs (Settle id r) = Settles (phase_at id cs) r
ChoiceFits cs (Admit d) = Unit {0}
ChoiceFits cs Inspect = Unit {0}
ChoiceFits cs (Start id x) = Begins (phase_at id cs)
ChoiceFits cs (Proceed id x) = phase_at id cs ≡ Some (Between x)
ChoiceFits cs (Consult id) = Asks Query (phase_at id cs)
ChoiceFits cs (Perform id) = Asks Update (phase_at id cs)
ChoiceFits cs (Lend id) = Asks Backup (phase_at id cs)
ChoiceFits cs (Seek id c) = phase_at id cs ≡ Some (Wanted c)
ChoiceFits cs (Depart st) = Unit {0}

late_settles : (now : ℕ) (l : Limits) (d : Door) (p : Phase) → is_over now (due p) ≡ true → settles p (late now l d p) ≡ true
late_settles now l d Arriving h = cc
late_settles now l d (Stranger u r) h = refl
late_settles now l d (Guest t) h = cc
late_settles now l d (Stepping x) h = cc
late_settles now l d (Between x) h = elim (x.backlog == 0) as (λ b. settles (Between x) (Break (if b then TimedOut else Stalled)) ≡ true) [ true ↦ refl | false ↦ refl ]
late_settles now l d (Parting u) h = refl
late_settles now l d (Asking u) h = refl
late_settles now l d (Ready r k) h = cc
late_settles now l d (Served r) h = cc
late_settles now l d (Calling i) h = cc
late_settles now l d (Copying u) h = refl
late_settles now l d (Answered u o) h = refl
late_settles now l d (Wanted c) h = cc
late_settles now l d (Resolving c) h = cc
late_settles now l d (Dialing c u) h = refl
late_settles now l d (Connected c u) h = elim (nat_lt 0 c.times) as (λ b. settles (Connected c u) (if b then Redial (Wanted (once_less c)) else Leave TimedOut) ≡ true) [ true ↦ refl | false ↦ refl ]

dismissal_settles : (now : ℕ) (l : Limits) (d : Door) (st : Status) (p : Phase) → is_dismissed st p ≡ true → settles p (dismissal now l d p) ≡ true
dismissal_settles now l d st (Stranger u r) h = each_door (λ d. settles (Stranger u r) (dismissal now l d (Stranger u r)) ≡ true) refl refl refl refl d
dismissal_settles now l d st (Guest t) h = each_door (λ d. settles (Guest t) (dismissal now l d (Guest t)) ≡ true) refl refl refl refl d
dismissal_settles now l d st (Asking u) h = each_door (λ d. settles (Asking u) (dismissal now l d (Asking u)) ≡ true) refl refl refl refl d
dismissal_settles now l d st (Ready r k) h = refl
dismissal_settles now l d st (Wanted c) h = each_door (λ d. settles (Wanted c) (dismissal now l d (Wanted c)) ≡ true) refl refl refl refl d
dismissal_settles now l d st (Resolving c) h = each_door (λ d. settles (Resolving c) (dismissal now l d (Resolving c)) ≡ true) refl refl refl refl d
dismissal_settles now l d st (Dialing c u) h = each_door (λ d. settles (Dialing c u) (dismissal now l d (Dialing c u)) ≡ true) refl refl refl refl d
dismissal_settles now l d st (Connected c u) h = each_door (λ d. settles (Connected c u) (dismissal now l d (Connected c u)) ≡ true) refl refl refl refl d
dismissal_settles now l d st (Between x) h = each_door (λ d. settles (Between x) (dismissal now l d (Between x)) ≡ true) refl refl refl refl d
dismissal_settles now l d Stopped Arriving h = cc
dismissal_settles now l d DoorFailed Arriving h = cc
dismissal_settles now l d OfficeFailed Arriving h = cc
dismissal_settles now l d Stopped p h = cc
dismissal_settles now l d DoorFailed p h = cc
dismissal_settles now l d OfficeFailed p h = cc

orphan_settles : (cs : List Connection) (p : Phase) → orphan_phase cs p ≡ true → settles p (Leave Orphaned) ≡ true
orphan_settles cs (Wanted c) h = refl
orphan_settles cs (Dialing c u) h = refl
orphan_settles cs (Connected c u) h = refl
orphan_settles cs p h = cc

told_settles : (cs : List Connection) (p : Phase) (u k : ℕ) → told_phase cs p ≡ true → settles p (Respond (Answered u k)) ≡ true
told_settles cs (Calling i) u k h = refl
told_settles cs p u k h = cc

yielded_settles : (x : Session) (c : Call) → settles (Between x) (yielded c) ≡ true
yielded_settles x c = elim (nat_lt 0 c.times) as (λ b. settles (Between x) (if b then Yield (Wanted (once_less c)) else Break TimedOut) ≡ true)
    [ true ↦ refl | false ↦ refl ]

settling_fits : (s : State) → IsDistinct s → Settling (ChoiceFits s.connections) s
settling_fits s o = record {
  expires = λ c e. one (is_late s.now) c (late s.now (limits_now s) c.door c.phase) e (λ h. late_settles s.now (limits_now s) c.door c.phase h);
  is_dismissed = λ st c e. one (concerns st) c (dismissal s.now s.limits c.door c.phase) e (λ h. dismissal_settles s.now s.limits c.door st c.phase h);
  loses_asker = λ c e. one (is_orphan s.connections) c (Leave Orphaned) e (λ h. orphan_settles s.connections c.phase h);
  loses_call = λ c e. one (is_to_tell s.connections) c (Respond (answered s.now (limits_now s) c.door 0)) e
      (λ h. told_settles s.connections c.phase (s.now + max (answering (limits_now s) c.door) (limits_now s).farewell) 0 h);
  gives_way = λ c g x k n t e f ex ew eg y. one (in_phase is_between_phase) c (yielded k) e
      (λ h. subst (λ (p : Phase). settles p (yielded k) ≡ true) (sym ex) (yielded_settles x k));
}
  where
    -- of one who is found, what settles its phase fits
    one : (t : Connection → Bool) (c : Connection) (r : Reply) → find t s.connections ≡ Some c → (t c ≡ true → settles c.phase r ≡ true) → Settles (phase_at c.id s.connections) r
    one t c r e k = let h = found t s.next s.connections c e o in subst (λ (at : Option Phase). Settles at r) (sym h.0) (k h.1)

-- what fits the phase of the first in a phase
fits_head : (K : Option Phase → Type 0) (t : Phase → Bool) (s : State) (id : ℕ) (p : Phase) → IsDistinct s → IsHead t s id p → K (Some p) → K (phase_at id s.connections)
fits_head K t s id p o h k = subst K (sym (head_at t s id p o h)) k

fits_update : (r : Request) (s : State) (id : ℕ) (p : Phase) → IsDistinct s → IsUpdate s id p → asks r p ≡ true → Asks r (phase_at id s.connections)
fits_update r s id p o u k = by u.first
  where
    by : IsHead is_owed_phase s id p ⊎ IsNext s id p → Asks r (phase_at id s.connections)
    by (inl h) = fits_head (Asks r) is_owed_phase s id p o h k
    by (inr h) = fits_head (Asks r) is_update_phase s id p o h.first k

query_asks : (p : Phase) → is_query_phase p ≡ true → asks Query p ≡ true
query_asks (Ready Query k) h = refl
query_asks p h = cc

guest_begins : (p : Phase) → is_guest_phase p ≡ true → begins p ≡ true
guest_begins (Guest t) h = refl
guest_begins p h = cc

connected_begins : (p : Phase) → is_connected_phase p ≡ true → begins p ≡ true
connected_begins (Connected c u) h = refl
connected_begins p h = cc

begun_fits : (s : State) (id : ℕ) (x : Session) → IsDistinct s → IsGuests s id x ⊎ IsCalls s id x → Begins (phase_at id s.connections)
begun_fits s id x o (inl g) = fits_head Begins is_guest_phase s id g.phase o g.first (guest_begins g.phase (head_passes is_guest_phase s id g.phase g.first))
begun_fits s id x o (inr g) = fits_head Begins is_connected_phase s id g.phase o g.first (connected_begins g.phase (head_passes is_connected_phase s id g.phase g.first))

may_fit : (s : State) (c : Choice) → IsDistinct s → May s c → ChoiceFits s.connections c
may_fit s (Settle id r) o m = elim m [ ]
may_fit s (Start id x) o m = begun_fits s id x o m.2
may_fit s (Proceed id x) o m = head_at is_between_phase s id (Between x) o m.1
may_fit s (Consult id) o m = let h = m.1 in fits_head (Asks Query) is_query_phase s id h.0 o h.1 (query_asks h.0 (head_passes is_query_phase s id h.0 h.1))
may_fit s (Perform id) o m = fits_update Update s id (Ready Update m.0) o m.1 refl
may_fit s (Lend id) o m = fits_update Backup s id (Ready Backup m.0) o m.1 refl
may_fit s (Seek id k) o m = head_at is_wanted_phase s id (Wanted k) o m.1
may_fit s c o m = tt

pub choice_fits : (s : State) → IsDistinct s → ChoiceFits s.connections (choice s)
choice_fits s o = of_choice (ChoiceFits s.connections) s (settling_fits s o) (λ c m. may_fit s c o m)
