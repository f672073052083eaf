-- What holds of each choice where it may be made holds of what is chosen.
use Rattle.std.proofs.Common.{◌≡◌, ◌≢◌, ◌⊎◌, ◌∙◌, ◌^◌, ◌+◌, ◌≤◌, ◌==◌, [], ◌∷◌, if◌then◌else◌, ℕ, Bool, true, false, nat_lt, nat_le, not, List, Option, Some, None, find, inl, inr, refl, ap, sym, arith}
use Rattle.std.proofs.lemmas.Bool.Decides.{nat_tests}
use Rattle.std.specs.List.{list_any}
use Rattle.oftp_schedule.specs.declared.connection.Door.{Door}
use Rattle.oftp_schedule.specs.declared.connection.Door.TheVariants.{Partners, Commands, Requests, Calls}
use Rattle.oftp_schedule.specs.declared.connection.Request.TheVariants.{Update, Backup}
use Rattle.oftp_schedule.specs.declared.connection.Rank.{Rank}
use Rattle.oftp_schedule.specs.declared.connection.Rank.TheVariants.{Owed}
use Rattle.oftp_schedule.specs.declared.connection.Way.{Way}
use Rattle.oftp_schedule.specs.declared.connection.Way.TheVariants.{In, Out, Unanswered}
use Rattle.oftp_schedule.specs.declared.connection.Phase.{Phase}
use Rattle.oftp_schedule.specs.declared.connection.Phase.TheVariants.{Guest, Between, Asking, Ready, Answered, Wanted}
use Rattle.oftp_schedule.specs.declared.connection.Status.{Status}
use Rattle.oftp_schedule.specs.declared.connection.Status.TheVariants.{Stopped}
use Rattle.oftp_schedule.specs.declared.connection.Reason.TheVariants.{Orphaned, Stopping}
use Rattle.oftp_schedule.specs.declared.connection.Reply.{Reply}
use Rattle.oftp_schedule.specs.declared.connection.Reply.TheVariants.{Respond, Refuse, Leave, Break}
use Rattle.oftp_schedule.specs.declared.connection.Kind.{Kind}
use Rattle.oftp_schedule.specs.declared.connection.Kind.TheVariants.{Queries, Sessions, Updates}
use Rattle.oftp_schedule.specs.declared.connection.Choice.{Choice}
use Rattle.oftp_schedule.specs.declared.connection.Choice.TheVariants.{Nothing, Finish, Settle, Admit, Inspect, Start, Proceed, Consult, Perform, Lend, Seek, Depart}
use Rattle.oftp_schedule.specs.declared.connection.Clock.{Clock}
use Rattle.oftp_schedule.specs.declared.connection.Clock.TheVariants.{Off, At, Reviewing}
use Rattle.oftp_schedule.specs.declared.connection.Course.{Course}
use Rattle.oftp_schedule.specs.declared.connection.Course.TheVariants.{Serving, Called, Ending, Past}
use Rattle.oftp_schedule.specs.declared.connection.Call.{Call}
use Rattle.oftp_schedule.specs.declared.connection.Session.{Session}
use Rattle.oftp_schedule.specs.declared.connection.Connection.{Connection}
use Rattle.oftp_schedule.specs.declared.connection.Limits.{Limits}
use Rattle.oftp_schedule.specs.Rules.{is_hearable, answered, is_late, late, dismissal, concerns, in_session, is_between_phase, is_guest_phase, is_query_phase, is_update_phase, is_owed_phase, is_copying_phase, is_wanted_phase, is_connected_phase, is_up_phase, is_arriving_phase, in_phase, call_in, is_orphan, is_to_tell, room_left, connection_at, phase_at}
use Rattle.oftp_schedule.specs.Machine.{State, is_ending, limits_now, gate, is_reviewing, or_else, choice_of, is_enough, finish, dismissed, is_to_yield, yielded, yield_to, yield_for, way_given, is_knocked, has_place, admit, admission, is_busy, may_dial, sought, dial, consult, consult_within, within, requested, update, new_session, guest_session, called_session, call_session, in_turn, inspection, between_jobs, outside, job_for, job, departed, departure, choice}
use Rattle.oftp_schedule.specs.Order.{number_of, first_in, a_guest_waits}
use Rattle.oftp_schedule.proofs.Numbers.{Distinct, passes, at_number}
use Rattle.oftp_schedule.proofs.Places.{found_at}
use Rattle.oftp_schedule.proofs.Still.{taken, either, of_found, if_so, unless, nobody, start_something, each_choice}

-- 1. Where a choice may be made

-- the first in such a phase has this number, and is in this phase
pub record IsHead (t : Phase → Bool) (s : State) (id : ℕ) (p : Phase) : Type 0 where
  pub head : Connection
  pub head_is : find (in_phase t) s.connections ≡ Some head
  pub number_is : head.id ≡ id
  pub phase_is : head.phase ≡ p

abbrev pub NoneIn : (Phase → Bool) → State → Type 0
NoneIn t s = find (in_phase t) s.connections ≡ None

-- there is neither a job of the office, nor a session between two steps, nor a copy, and the station goes on
pub record IsFree (s : State) : Type 0 where
  pub idle : is_busy s ≡ false
  pub no_session : NoneIn is_between_phase s
  pub no_copy : list_any (in_phase is_copying_phase) s.connections ≡ false
  pub goes_on : is_ending s.course ≡ false

-- a call may be begun
pub record MayDial (s : State) : Type 0 where
  pub goes_on : is_ending s.course ≡ false
  pub no_session : list_any (in_phase in_session) s.connections ≡ false
  pub none_up : list_any (in_phase is_up_phase) s.connections ≡ false
  pub no_copy : list_any (in_phase is_copying_phase) s.connections ≡ false
  pub turn : a_guest_waits s ≡ true → s.guest_first ≡ false

-- a session has nothing to hear, or heard its share, and no rest is left
pub record LooksWithin (s : State) : Type 0 where
  pub one : Connection
  pub session : Session
  pub one_is : find (in_phase is_between_phase) s.connections ≡ Some one
  pub session_is : one.phase ≡ Between session
  pub pauses : (is_hearable s.limits session ≡ false) ⊎ (session.share ≡ 0)
  pub rested : s.quiet ≤ s.now

-- no session is between two steps, but files are copied, or no guest comes first
pub record LooksOutside (s : State) : Type 0 where
  pub no_session : NoneIn is_between_phase s
  pub turn : list_any (in_phase is_copying_phase) s.connections ≡ false → NoneIn is_guest_phase s ⊎ (s.last ≢ Queries)

-- a change or a backup is the first of all, where none is owed and no guest comes first
pub record IsNext (s : State) (id : ℕ) (p : Phase) : Type 0 where
  pub none_owed : NoneIn is_owed_phase s
  pub first : IsHead is_update_phase s id p
  pub turn : NoneIn is_guest_phase s ⊎ (s.last ≡ Sessions)

-- it is that, or the first that is owed
pub record IsUpdate (s : State) (id : ℕ) (p : Phase) : Type 0 where
  pub free : IsFree s
  pub first : IsHead is_owed_phase s id p ⊎ IsNext s id p

abbrev pub guests_session : State → Session
guests_session s = new_session s.now s.limits In s.limits.patience s.limits.longest

-- a session is that of the first guest, or of the first call that is up
pub record IsGuests (s : State) (id : ℕ) (x : Session) : Type 0 where
  pub phase : Phase
  pub first : IsHead is_guest_phase s id phase
  pub session_is : x ≡ guests_session s

pub record IsCalls (s : State) (id : ℕ) (x : Session) : Type 0 where
  pub phase : Phase
  pub call : Call
  pub first : IsHead is_connected_phase s id phase
  pub call_is : call_in phase ≡ Some call
  pub session_is : Start id x ≡ called_session s.now s.limits id (Some call)

-- what is so where a choice is made that settles nobody
abbrev pub May : State → Choice → Type 0
May s Nothing = Unit {0}
May s (Finish st) = Unit {0}
May s (Settle id r) = ⊥
May s (Admit d) = (is_ending s.course ≡ false) × (list_any (in_phase is_arriving_phase) s.connections ≡ false)
May s Inspect = IsFree s
May s (Start id x) = IsFree s × NoneIn is_owed_phase s × (IsGuests s id x ⊎ IsCalls s id x)
May s (Proceed id x) = (is_busy s ≡ false) × IsHead is_between_phase s id (Between x)
May s (Consult id) = (is_busy s ≡ false) × ((p : Phase) × IsHead is_query_phase s id p) × (LooksWithin s ⊎ LooksOutside s)
May s (Perform id) = (k : Rank) × IsUpdate s id (Ready Update k)
May s (Lend id) = (k : Rank) × IsUpdate s id (Ready Backup k)
May s (Seek id k) = MayDial s × IsHead is_wanted_phase s id (Wanted k)
May s (Depart st) = s.connections ≡ []

-- what holds of each choice that settles somebody, where it is made
pub record Settling (Q : Choice → Type 0) (s : State) : Type 0 where
  pub expires : (c : Connection) → find (is_late s.now) s.connections ≡ Some c → Q (Settle c.id (late s.now (limits_now s) c.door c.phase))
  pub is_dismissed : (st : Status) (c : Connection) → find (concerns st) s.connections ≡ Some c → Q (Settle c.id (dismissal s.now s.limits c.door c.phase))
  pub loses_asker : (c : Connection) → find (is_orphan s.connections) s.connections ≡ Some c → Q (Settle c.id (Leave Orphaned))
  pub loses_call : (c : Connection) → find (is_to_tell s.connections) s.connections ≡ Some c → Q (Settle c.id (Respond (answered s.now (limits_now s) c.door 0)))
  pub gives_way : (c g : Connection) (x : Session) (k : Call) (n t : ℕ) → find (in_phase is_between_phase) s.connections ≡ Some c → find (in_phase is_guest_phase) s.connections ≡ Some g
      → c.phase ≡ Between x → x.way ≡ Unanswered k n → g.phase ≡ Guest t → is_to_yield s.now x k t ≡ true → Q (Settle c.id (yielded k))

pub whoever : (Q : Choice → Type 0) (s : State) → ((id : ℕ) (r : Reply) → Q (Settle id r)) → Settling Q s
whoever Q s k = record {
  expires = λ c e. k c.id (late s.now (limits_now s) c.door c.phase);
  is_dismissed = λ st c e. k c.id (dismissal s.now s.limits c.door c.phase);
  loses_asker = λ c e. k c.id (Leave Orphaned);
  loses_call = λ c e. k c.id (Respond (answered s.now (limits_now s) c.door 0));
  gives_way = λ c g x m n t e f ex ew eg y. k c.id (yielded m);
}

-- 2. The first in a phase

head_of : (t : Phase → Bool) (s : State) (c : Connection) → find (in_phase t) s.connections ≡ Some c → IsHead t s c.id c.phase
head_of t s c e = record { head = c; head_is = e; number_is = refl; phase_is = refl }

pub head_number : (t : Phase → Bool) (s : State) (id : ℕ) (p : Phase) → IsHead t s id p → first_in t s ≡ Some id
head_number t s id p h = ap number_of h.head_is ∙ ap Some h.number_is

pub head_passes : (t : Phase → Bool) (s : State) (id : ℕ) (p : Phase) → IsHead t s id p → t p ≡ true
head_passes t s id p h = ap t (sym h.phase_is) ∙ passes (in_phase t) s.connections h.head h.head_is

pub head_there : (t : Phase → Bool) (s : State) (id : ℕ) (p : Phase) → Distinct s.next s.connections → (h : IsHead t s id p) → connection_at id s.connections ≡ Some h.head
head_there t s id p o h = ap (λ i. connection_at i s.connections) (sym h.number_is) ∙ found_at (in_phase t) s.next s.connections h.head h.head_is o

pub head_at : (t : Phase → Bool) (s : State) (id : ℕ) (p : Phase) → Distinct s.next s.connections → IsHead t s id p → phase_at id s.connections ≡ Some p
head_at t s id p o h =
    (at_number id s.connections h.head (head_there t s id p o h)).1 ∙ ap Some h.phase_is

-- 3. Who is settled

-- what becomes of one whom the end of the station concerns
pub dismissal_holds : (Q : Reply → Type 0) (now : ℕ) (l : Limits) → Q (Refuse (Answered (now + l.farewell) 0) Stopping) → Q (Break Stopping) → Q (Leave Stopping) → (d : Door) (p : Phase)
    → Q (dismissal now l d p)
dismissal_holds Q now l refused broken left Partners (Ready r k) = refused
dismissal_holds Q now l refused broken left Partners (Between x) = broken
dismissal_holds Q now l refused broken left Partners p = left
dismissal_holds Q now l refused broken left Commands (Ready r k) = refused
dismissal_holds Q now l refused broken left Commands (Asking u) = refused
dismissal_holds Q now l refused broken left Commands (Between x) = broken
dismissal_holds Q now l refused broken left Commands p = left
dismissal_holds Q now l refused broken left Requests (Ready r k) = refused
dismissal_holds Q now l refused broken left Requests (Between x) = broken
dismissal_holds Q now l refused broken left Requests p = left
dismissal_holds Q now l refused broken left Calls (Ready r k) = refused
dismissal_holds Q now l refused broken left Calls (Between x) = broken
dismissal_holds Q now l refused broken left Calls p = left

dismissed_holds : (Q : Choice → Type 0) (s : State) → Q Nothing → Settling Q s → (co : Course) → Q (dismissed s co)
dismissed_holds Q s n h Serving = n
dismissed_holds Q s n h (Called st) = n
dismissed_holds Q s n h Past = n
dismissed_holds Q s n h (Ending st) = of_found Q (λ c. Settle c.id (dismissal s.now s.limits c.door c.phase)) (find (concerns st) s.connections) n (h.is_dismissed st)

way_holds : (Q : Choice → Type 0) (s : State) → Q Nothing → Settling Q s → Q (way_given s)
way_holds Q s n h =
    of_found Q (λ c. choice_of (find (in_phase is_guest_phase) s.connections) (λ g. yield_for s.now c.id c.phase g.phase)) (find (in_phase is_between_phase) s.connections) n
    (λ c e. of_found Q (λ g. yield_for s.now c.id c.phase g.phase) (find (in_phase is_guest_phase) s.connections) n (λ g f. by_phases c g c.phase g.phase e f refl refl))
  where
    by_way : (c g : Connection) (x : Session) (t : ℕ) (w : Way) → find (in_phase is_between_phase) s.connections ≡ Some c → find (in_phase is_guest_phase) s.connections ≡ Some g
        → c.phase ≡ Between x → g.phase ≡ Guest t → x.way ≡ w → Q (yield_to s.now c.id x t w)
    by_way c g x t (Unanswered k m) e f ex eg ew = if_so Q (is_to_yield s.now x k t) (Settle c.id (yielded k)) n (λ y. h.gives_way c g x k m t e f ex ew eg y)
    by_way c g x t In e f ex eg ew = n
    by_way c g x t (Out k) e f ex eg ew = n

    by_phases : (c g : Connection) (p q : Phase) → find (in_phase is_between_phase) s.connections ≡ Some c → find (in_phase is_guest_phase) s.connections ≡ Some g
        → c.phase ≡ p → g.phase ≡ q → Q (yield_for s.now c.id p q)
    by_phases c g (Between x) (Guest t) e f ex eg = by_way c g x t x.way e f ex eg refl
    by_phases c g p q e f ex eg = n

-- 4. What else is chosen

finish_may : (s : State) (co : Course) → May s (finish s co)
finish_may s Serving = if_so (May s) (is_enough s) (Finish Stopped) tt (λ y. tt)
finish_may s (Called st) = tt
finish_may s (Ending st) = tt
finish_may s Past = tt

admission_may : (s : State) → May s (admission s)
admission_may s =
    let others = or_else (admit s Commands) (admit s Requests) in
    let all = or_else (admit s Partners) others in
    let room = if list_any (in_phase is_arriving_phase) s.connections then Nothing else all in
    unless (May s) (is_ending s.course) (if nat_lt s.next (2 ^ 63) then room else Nothing) tt
    (λ g. if_so (May s) (nat_lt s.next (2 ^ 63)) room tt
    (λ _. unless (May s) (list_any (in_phase is_arriving_phase) s.connections) all tt
    (λ a. either (May s) (admit s Partners) others (one Partners g a) (either (May s) (admit s Commands) (admit s Requests) (one Commands g a) (one Requests g a)))))
  where
    one : (d : Door) → is_ending s.course ≡ false → list_any (in_phase is_arriving_phase) s.connections ≡ false → May s (admit s d)
    one d g a =
        if_so (May s) (is_knocked (gate s d)) (if has_place s d then Admit d else Nothing) tt
        (λ _. if_so (May s) (has_place s d) (Admit d) tt (λ _. (g, a)))

dial_may : (s : State) → May s (dial s)
dial_may s =
    if_so (May s) (may_dial s) (choice_of (find (in_phase is_wanted_phase) s.connections) (λ c. sought c (call_in c.phase))) tt
    (λ y. of_found (May s) (λ c. sought c (call_in c.phase)) (find (in_phase is_wanted_phase) s.connections) tt (λ c e. one c c.phase e refl (may y)))
  where
    one : (c : Connection) (p : Phase) → find (in_phase is_wanted_phase) s.connections ≡ Some c → c.phase ≡ p → MayDial s → May s (sought c (call_in p))
    one c p e q m = by p (ap is_wanted_phase (sym q) ∙ passes (in_phase is_wanted_phase) s.connections c e) q
      where
        by : (p : Phase) → is_wanted_phase p ≡ true → c.phase ≡ p → May s (sought c (call_in p))
        by (Wanted k) h q = (m, record { head = c; head_is = e; number_is = refl; phase_is = q })
        by p h q = cc

    tests : (a b d e f g : Bool) → is_ending s.course ≡ a → list_any (in_phase in_session) s.connections ≡ b → list_any (in_phase is_up_phase) s.connections ≡ d
        → list_any (in_phase is_copying_phase) s.connections ≡ e → s.guest_first ≡ f → a_guest_waits s ≡ g
        → (if a then false else (if b then false else (if d then false else (if e then false else (if f then not g else true))))) ≡ true → MayDial s
    tests true b d e f g ea eb ed ee ef eg y = cc
    tests false true d e f g ea eb ed ee ef eg y = cc
    tests false false true e f g ea eb ed ee ef eg y = cc
    tests false false false true f g ea eb ed ee ef eg y = cc
    tests false false false false true true ea eb ed ee ef eg y = cc
    tests false false false false true false ea eb ed ee ef eg y =
        record { goes_on = ea; no_session = eb; none_up = ed; no_copy = ee; turn = λ w. let bad : true ≡ false = sym w ∙ eg in cc }
    tests false false false false false g ea eb ed ee ef eg y = record { goes_on = ea; no_session = eb; none_up = ed; no_copy = ee; turn = λ w. ef }

    may : may_dial s ≡ true → MayDial s
    may y =
        tests (is_ending s.course) (list_any (in_phase in_session) s.connections) (list_any (in_phase is_up_phase) s.connections) (list_any (in_phase is_copying_phase) s.connections) s.guest_first
        (a_guest_waits s) refl refl refl refl refl refl y

consult_may : (s : State) → is_busy s ≡ false → LooksWithin s ⊎ LooksOutside s → May s (consult s)
consult_may s idle l =
    if_so (May s) (nat_lt 0 (room_left s.limits.held s.connections)) (choice_of (find (in_phase is_query_phase) s.connections) (λ c. Consult c.id)) tt
    (λ _. of_found (May s) (λ c. Consult c.id) (find (in_phase is_query_phase) s.connections) tt (λ c e. (idle, (c.phase, head_of is_query_phase s c e), l)))

consult_within_may : (s : State) → is_busy s ≡ false → (s.quiet ≤ s.now → LooksWithin s) → May s (consult_within s)
consult_within_may s idle k = if_so (May s) (nat_le s.quiet s.now) (consult s) tt (λ y. let l : s.quiet ≤ s.now = grind (arith, nat_tests, y) in consult_may s idle (inl (k l)))

within_may : (s : State) (c : Connection) (p : Phase) → is_busy s ≡ false → find (in_phase is_between_phase) s.connections ≡ Some c → c.phase ≡ p → May s (within s c.id p)
within_may s c (Between x) idle e q = cases (is_hearable s.limits x) refl (x.share == 0) refl
  where
    looks : (is_hearable s.limits x ≡ false) ⊎ (x.share ≡ 0) → May s (consult_within s)
    looks h = consult_within_may s idle (λ l. record { one = c; session = x; one_is = e; session_is = q; pauses = h; rested = l })

    hears : May s (Proceed c.id x)
    hears = (idle, record { head = c; head_is = e; number_is = refl; phase_is = q })

    cases : (a : Bool) → is_hearable s.limits x ≡ a → (b : Bool) → (x.share == 0) ≡ b
        → May s (if a then (if b then or_else (consult_within s) (Proceed c.id x) else Proceed c.id x) else consult_within s)
    cases true ha true hb = let none : x.share ≡ 0 = grind (arith, nat_tests, hb) in either (May s) (consult_within s) (Proceed c.id x) (looks (inr none)) hears
    cases true ha false hb = hears
    cases false ha b hb = looks (inl ha)
within_may s c p idle e q = tt

requested_may : (s : State) (id : ℕ) (p : Phase) → IsUpdate s id p → May s (requested id p)
requested_may s id (Ready Update k) u = (k, u)
requested_may s id (Ready Backup k) u = (k, u)
requested_may s id p u = tt

owed_may : (s : State) → IsFree s → May s (update s is_owed_phase)
owed_may s free =
    of_found (May s) (λ c. requested c.id c.phase) (find (in_phase is_owed_phase) s.connections) tt
    (λ c e. requested_may s c.id c.phase (record { free = free; first = inl (head_of is_owed_phase s c e) }))

-- where nothing that is owed is chosen, nothing is owed
none_owed : (s : State) → update s is_owed_phase ≡ Nothing → NoneIn is_owed_phase s
none_owed s z =
    nobody (find (in_phase is_owed_phase) s.connections) (λ c. requested c.id c.phase) (λ c e. something c.id c.phase (passes (in_phase is_owed_phase) s.connections c e)) z
  where
    something : (id : ℕ) (p : Phase) → is_owed_phase p ≡ true → requested id p ≢ Nothing
    something id (Ready Update Owed) h e = cc
    something id (Ready Backup Owed) h e = cc
    something id p h e = cc

update_may : (s : State) → IsFree s → NoneIn is_owed_phase s → NoneIn is_guest_phase s ⊎ (s.last ≡ Sessions) → May s (update s is_update_phase)
update_may s free n w =
    of_found (May s) (λ c. requested c.id c.phase) (find (in_phase is_update_phase) s.connections) tt
    (λ c e. requested_may s c.id c.phase (record { free = free; first = inr (record { none_owed = n; first = head_of is_update_phase s c e; turn = w }) }))

guest_may : (s : State) → IsFree s → NoneIn is_owed_phase s → May s (guest_session s)
guest_may s free n =
    of_found (May s) (λ c. Start c.id (guests_session s)) (find (in_phase is_guest_phase) s.connections) tt
    (λ c e. (free, n, inl (record { phase = c.phase; first = head_of is_guest_phase s c e; session_is = refl })))

no_guest : (s : State) → guest_session s ≡ Nothing → NoneIn is_guest_phase s
no_guest s z = nobody (find (in_phase is_guest_phase) s.connections) (λ c. Start c.id (guests_session s)) (λ c e. start_something c.id (guests_session s)) z

call_may : (s : State) → IsFree s → NoneIn is_owed_phase s → May s (call_session s)
call_may s free n =
    of_found (May s) (λ c. called_session s.now s.limits c.id (call_in c.phase)) (find (in_phase is_connected_phase) s.connections) tt (λ c e. one c (call_in c.phase) e refl)
  where
    one : (c : Connection) (k : Option Call) → find (in_phase is_connected_phase) s.connections ≡ Some c → call_in c.phase ≡ k → May s (called_session s.now s.limits c.id k)
    one c None e q = tt
    one c (Some k) e q = (free, n, inr (record { phase = c.phase; call = k; first = head_of is_connected_phase s c e; call_is = q; session_is = refl }))

turn_may : (s : State) (k : Kind) → IsFree s → NoneIn is_owed_phase s → s.last ≡ k → May s (in_turn k (consult s) (guest_session s) (update s is_update_phase))
turn_may s k free n e = by k e
  where
    looks : NoneIn is_guest_phase s ⊎ (s.last ≢ Queries) → May s (consult s)
    looks w = consult_may s free.idle (inr (record { no_session = free.no_session; turn = λ c. w }))

    after : (k : Kind) → s.last ≡ k → k ≢ Queries → s.last ≢ Queries
    after k e ne q = ne (sym e ∙ q)

    by : (k : Kind) → s.last ≡ k → May s (in_turn k (consult s) (guest_session s) (update s is_update_phase))
    by Queries e =
        taken (May s) (guest_session s) (or_else (update s is_update_phase) (consult s)) (guest_may s free n)
        (λ z. either (May s) (update s is_update_phase) (consult s) (update_may s free n (inl (no_guest s z))) (looks (inl (no_guest s z))))
    by Sessions e =
        either (May s) (update s is_update_phase) (or_else (consult s) (guest_session s)) (update_may s free n (inr e))
        (either (May s) (consult s) (guest_session s) (looks (inr (after Sessions e (λ q. cc)))) (guest_may s free n))
    by Updates e =
        either (May s) (consult s) (or_else (guest_session s) (update s is_update_phase)) (looks (inr (after Updates e (λ q. cc))))
        (taken (May s) (guest_session s) (update s is_update_phase) (guest_may s free n) (λ z. update_may s free n (inl (no_guest s z))))

inspection_may : (s : State) (c : Clock) → IsFree s → May s (inspection s c)
inspection_may s Off free = tt
inspection_may s Reviewing free = tt
inspection_may s (At t) free = if_so (May s) (nat_le t s.now) Inspect tt (λ _. free)

between_may : (s : State) → IsFree s → May s (between_jobs s)
between_may s free =
    let turn = in_turn s.last (consult s) (guest_session s) (update s is_update_phase) in
    either (May s) (inspection s s.clock) (or_else (update s is_owed_phase) (or_else (call_session s) turn)) (inspection_may s s.clock free)
    (taken (May s) (update s is_owed_phase) (or_else (call_session s) turn) (owed_may s free)
    (λ z. let n = none_owed s z in either (May s) (call_session s) turn (call_may s free n) (turn_may s s.last free n refl)))

outside_may : (s : State) → is_busy s ≡ false → NoneIn is_between_phase s → May s (outside s)
outside_may s idle n = cases (list_any (in_phase is_copying_phase) s.connections) refl (is_ending s.course) refl
  where
    cases : (a : Bool) → list_any (in_phase is_copying_phase) s.connections ≡ a → (b : Bool) → is_ending s.course ≡ b
        → May s (if a then consult s else (if b then Nothing else between_jobs s))
    cases true ea b eb = consult_may s idle (inr (record { no_session = n; turn = λ c. let bad : true ≡ false = sym ea ∙ c in cc }))
    cases false ea true eb = tt
    cases false ea false eb = between_may s (record { idle = idle; no_session = n; no_copy = ea; goes_on = eb })

job_may : (s : State) → May s (job s)
job_may s = unless (May s) (is_busy s) (job_for s (find (in_phase is_between_phase) s.connections)) tt (λ idle. by idle (find (in_phase is_between_phase) s.connections) refl)
  where
    by : is_busy s ≡ false → (at : Option Connection) → find (in_phase is_between_phase) s.connections ≡ at → May s (job_for s at)
    by idle (Some c) e = within_may s c c.phase idle e refl
    by idle None e = outside_may s idle e

departure_may : (s : State) (co : Course) → May s (departure s co)
departure_may s Serving = tt
departure_may s (Called st) = tt
departure_may s Past = tt
departure_may s (Ending st) = unless (May s) (is_reviewing s.clock) (departed st s.connections) tt (λ _. by s.connections refl)
  where
    by : (cs : List Connection) → s.connections ≡ cs → May s (departed st cs)
    by [] e = e
    by (c ∷ cs) e = tt

-- 5. What is chosen

pub of_choice : (Q : Choice → Type 0) (s : State) → Settling Q s → ((c : Choice) → May s c → Q c) → Q (choice s)
of_choice Q s h k =
    let n = k Nothing tt in
    each_choice Q s n (k (finish s s.course) (finish_may s s.course))
    (of_found Q (λ c. Settle c.id (late s.now (limits_now s) c.door c.phase)) (find (is_late s.now) s.connections) n h.expires)
    (dismissed_holds Q s n h s.course)
    (of_found Q (λ c. Settle c.id (Leave Orphaned)) (find (is_orphan s.connections) s.connections) n h.loses_asker)
    (of_found Q (λ c. Settle c.id (Respond (answered s.now (limits_now s) c.door 0))) (find (is_to_tell s.connections) s.connections) n h.loses_call)
    (way_holds Q s n h) (k (admission s) (admission_may s)) (k (dial s) (dial_may s)) (k (job s) (job_may s)) (k (departure s s.course) (departure_may s s.course))
