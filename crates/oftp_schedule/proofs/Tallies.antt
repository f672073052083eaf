-- How often a request is handed over and answered, and how often a line is printed, by where a life stands.
use Rattle.std.proofs.Common.{add-zero, ◌≡◌, ◌≢◌, ℕ, zero, suc, ◌+◌, ◌≤◌, ◌==◌, Bool, true, false, cond, if◌then◌else◌, List, [], ◌∷◌, ◌++◌, count_by, refl, ap, sym, ◌∙◌, arith}
use Rattle.std.proofs.lemmas.List.Sums.{sum_by-cons}
use Rattle.oftp_schedule.specs.declared.connection.Door.TheVariants.{Partners}
use Rattle.oftp_schedule.specs.declared.connection.Request.{Request}
use Rattle.oftp_schedule.specs.declared.connection.Request.TheVariants.{Query, Update, Backup}
use Rattle.oftp_schedule.specs.declared.connection.Arrival.{Arrival}
use Rattle.oftp_schedule.specs.declared.connection.Arrival.TheVariants.{Somebody}
use Rattle.oftp_schedule.specs.declared.connection.Signal.{Signal}
use Rattle.oftp_schedule.specs.declared.connection.Signal.TheVariants.{LetIn, Rejected, Asked, Wants, Waits, Ended, Done, Went, Ends, Lost, Resolved, Up, Failed}
use Rattle.oftp_schedule.specs.declared.connection.Event.TheVariants.{Accepted, Told}
use Rattle.oftp_schedule.specs.declared.connection.Reason.{Reason}
use Rattle.oftp_schedule.specs.declared.connection.Reason.TheVariants.{Evicted, Invalid, TimedOut, Stalled, Quit, Vanished, Finished, Unreached, Orphaned, Stopping}
use Rattle.oftp_schedule.specs.declared.connection.Action.{Action}
use Rattle.oftp_schedule.specs.declared.connection.Action.TheVariants.{Accept, Print, Close, Part, Answer, Decline, Begin, Hear, Cut, Look, Change, Copy, Resolve, Dial, HangUp}
use Rattle.oftp_schedule.specs.declared.connection.Limits.{Limits}
use Rattle.oftp_schedule.specs.Machine.{start, Move}
use Rattle.oftp_schedule.specs.History.{Note, Heard, Ordered, history, watch}
use Rattle.oftp_schedule.specs.Life.{Stage, Unbegun, Coming, Unjudged, Let_in, In_step, Between_steps, Deserted, Cut_off, Ending, Going, Leaving, Unread, Whole, In_hand, Carried_out, In_copy, Awaits_call, Has_answer, Seeking, Located, Ringing, Standing, Closed, Broken, entered, heard, printed, closed, denied, ordered, is_about, life, hands, answers, declines, refusals, prints, asks_for, wants_call, handing, is_ordered, is_told, times_ordered, times_told}
use Rattle.oftp_schedule.proofs.Cases.{each_reason}
use Rattle.oftp_schedule.proofs.Numbers.{same}
use Rattle.oftp_schedule.proofs.Lives.{never_broken, watch-append}

-- What was counted: handings over, answers, and what was declined, and so at the end of the station. Also lines, wishes for a call, and requests of
-- each kind.
pub record Counts : Type 0 where
  pub handed : ℕ
  pub answered : ℕ
  pub declined : ℕ
  pub refused : ℕ
  pub lines : ℕ
  pub wants : ℕ
  pub asked : Request → ℕ

-- none, or so many
abbrev pub Exactly : ℕ → ℕ → ℕ → Counts → Type 0
Exactly h a l k = (k.handed ≡ h) × ((k.answered ≡ a) × ((k.declined ≡ 0) × ((k.lines ≡ l) × (k.refused ≡ 0))))

abbrev pub AtMost : Counts → Type 0
AtMost k = (k.handed + k.refused ≤ 1) × ((k.answered + k.declined ≤ 1) × (k.lines ≤ 1))

-- what was counted where a life stands here
abbrev pub Tally : Stage → Counts → Type 0
Tally Broken k = Unit {0}
Tally Closed k = AtMost k
Tally Leaving k = AtMost k
Tally Has_answer k = AtMost k
Tally (Going why) k = AtMost k
Tally (Whole r) k = Exactly 0 0 0 k × (1 ≤ k.asked r)
Tally Awaits_call k = Exactly 0 0 0 k × (1 ≤ k.wants)
Tally (In_hand r) k = Exactly 1 0 0 k
Tally Carried_out k = Exactly 1 0 0 k
Tally In_copy k = Exactly 1 0 0 k
Tally st k = Exactly 0 0 0 k

abbrev pub more : Bool → ℕ → ℕ
more b k = cond b (suc k) k

-- one more note
abbrev pub after_order : Bool → Action → Counts → Counts
after_order b a k =
    record k {
      handed = more (cond b (hands a) false) k.handed;
      answered = more (cond b (answers a) false) k.answered;
      declined = more (cond b (declines a) false) k.declined;
      refused = more (cond b (refusals a) false) k.refused;
      lines = more (cond b (prints a) false) k.lines;
    }

abbrev pub after_signal : Bool → Signal → Counts → Counts
after_signal b g k = record k { wants = more (cond b (wants_call g) false) k.wants; asked = λ r. more (cond b (asks_for r g) false) (k.asked r) }

none_most : (k : Counts) → Exactly 0 0 0 k → AtMost k
none_most k t = (omega (arith, t.0, t.1.1.1.1), (omega (arith, t.1.0, t.1.1.0), omega (arith, t.1.1.1.0)))

handed_most : (k : Counts) → Exactly 1 0 0 k → AtMost k
handed_most k t = (omega (arith, t.0, t.1.1.1.1), (omega (arith, t.1.0, t.1.1.0), omega (arith, t.1.1.1.0)))

-- the line is the first
one_line : (k : Counts) → Exactly 0 0 0 k → AtMost (record k { lines = suc k.lines })
one_line k t = (omega (arith, t.0, t.1.1.1.1), (omega (arith, t.1.0, t.1.1.0), omega (arith, t.1.1.1.0)))

one_handing : (k : Counts) → Exactly 0 0 0 k → Exactly 1 0 0 (record k { handed = suc k.handed })
one_handing k t = (omega (arith, t.0), t.1)

one_answer : (k : Counts) (h : ℕ) → h ≤ 1 → Exactly h 0 0 k → AtMost (record k { answered = suc k.answered })
one_answer k h l t = (omega (arith, l, t.0, t.1.1.1.1), (omega (arith, t.1.0, t.1.1.0), omega (arith, t.1.1.1.0)))

one_refusal : (k : Counts) → Exactly 0 0 0 k → AtMost (record k { declined = suc k.declined; refused = suc k.refused })
one_refusal k t = (omega (arith, t.0, t.1.1.1.1), (omega (arith, t.1.0, t.1.1.0), omega (arith, t.1.1.1.0)))

-- a copy that was handed over is declined
one_delay : (k : Counts) → Exactly 1 0 0 k → AtMost (record k { declined = suc k.declined })
one_delay k t = (omega (arith, t.0, t.1.1.1.1), (omega (arith, t.1.0, t.1.1.0), omega (arith, t.1.1.1.0)))

tally_printed : (why : Reason) (st : Stage) (k : Counts) → Tally st k → Tally (printed why st) (record k { lines = suc k.lines })
tally_printed Quit (Ending Quit) k t = one_line k t
tally_printed Vanished (Ending Vanished) k t = one_line k t
tally_printed Finished (Ending Finished) k t = one_line k t
tally_printed Unreached (Ending Unreached) k t = one_line k t
tally_printed Evicted Unjudged k t = one_line k t
tally_printed TimedOut Unjudged k t = one_line k t
tally_printed TimedOut Standing k t = one_line k t
tally_printed Unreached Ringing k t = one_line k t
tally_printed TimedOut Cut_off k t = one_line k t
tally_printed Stalled Cut_off k t = one_line k t
tally_printed Quit Cut_off k t = one_line k t
tally_printed Stopping Cut_off k t = one_line k t
tally_printed why st k t = tt

tally_closed : (why : Reason) (st : Stage) (k : Counts) → Tally st k → Tally (closed why st) k
tally_closed Evicted (Going Evicted) k t = t
tally_closed Invalid (Going Invalid) k t = t
tally_closed TimedOut (Going TimedOut) k t = t
tally_closed Stalled (Going Stalled) k t = t
tally_closed Quit (Going Quit) k t = t
tally_closed Vanished (Going Vanished) k t = t
tally_closed Finished (Going Finished) k t = t
tally_closed Unreached (Going Unreached) k t = t
tally_closed Stopping (Going Stopping) k t = t
tally_closed TimedOut Unread k t = none_most k t
tally_closed TimedOut Has_answer k t = t
tally_closed TimedOut Leaving k t = t
tally_closed Orphaned Unbegun k t = none_most k t
tally_closed Orphaned Ringing k t = none_most k t
tally_closed Orphaned Standing k t = none_most k t
tally_closed Stopping Unbegun k t = none_most k t
tally_closed Stopping Unjudged k t = none_most k t
tally_closed Stopping Let_in k t = none_most k t
tally_closed Stopping Unread k t = none_most k t
tally_closed Stopping Seeking k t = none_most k t
tally_closed Stopping Ringing k t = none_most k t
tally_closed Stopping Standing k t = none_most k t
tally_closed Stopping Awaits_call k t = none_most k t.0
tally_closed why st k t = tt

tally_denied : (i : ℕ) (why : Reason) (st : Stage) (k : Counts) → Tally st k → Tally (denied why st) (after_order true (Decline i why) k)
tally_denied i Stopping (Whole r) k t = one_refusal k t.0
tally_denied i Stopping Unread k t = one_refusal k t
tally_denied i TimedOut In_copy k t = one_delay k t
tally_denied i why st k t = tt

tally_ordered : (a : Action) (st : Stage) (k : Counts) → Tally st k → Tally (ordered a st) (after_order true a k)
tally_ordered (Accept i d) Unbegun k t = t
tally_ordered (Begin i) Let_in k t = t
tally_ordered (Begin i) Standing k t = t
tally_ordered (Hear i) Between_steps k t = t
tally_ordered (Cut i) Between_steps k t = t
tally_ordered (Cut i) Deserted k t = t
tally_ordered (Look i) (Whole Query) k t = one_handing k t.0
tally_ordered (Change i) (Whole Update) k t = one_handing k t.0
tally_ordered (Copy i) (Whole Backup) k t = one_handing k t.0
tally_ordered (Answer i) Carried_out k t = one_answer k 1 (omega arith) t
tally_ordered (Answer i) Awaits_call k t = one_answer k 0 (omega arith) t.0
tally_ordered (Decline i why) st k t = tally_denied i why st k t
tally_ordered (Resolve i) Unbegun k t = t
tally_ordered (Dial i) Located k t = t
tally_ordered (HangUp i) Cut_off k t = t
tally_ordered (HangUp i) Standing k t = t
tally_ordered (Print i why) st k t = tally_printed why st k t
tally_ordered (Part i) (Going Finished) k t = t
tally_ordered (Close i why) st k t = tally_closed why st k t
tally_ordered a st k t = tt

tally_entered : (st : Stage) (a : Arrival) (k : Counts) → Tally st k → Tally (entered st a) k
tally_entered (Coming Partners) Somebody k t = t
tally_entered (Coming d) Somebody k t = t
tally_entered (Coming d) a k t = none_most k t
tally_entered st a k t = t

asked_one : (r : Request) (k : ℕ) → 1 ≤ more (asks_for r (Asked r)) k
asked_one Query k = omega arith
asked_one Update k = omega arith
asked_one Backup k = omega arith

asked_more : (b : Bool) (k : ℕ) → 1 ≤ k → 1 ≤ more b k
asked_more true k h = omega arith
asked_more false k h = h

tally_heard : (st : Stage) (g : Signal) (k : Counts) → Tally st k → Tally (heard st g) (after_signal true g k)
tally_heard Unjudged LetIn k t = t
tally_heard Unjudged Rejected k t = t
tally_heard Unjudged Ends k t = t
tally_heard Unjudged Lost k t = t
tally_heard Let_in Lost k t = t
tally_heard In_step (Waits w) k t = t
tally_heard In_step (Ended e) k t = t
tally_heard Between_steps Lost k t = t
tally_heard Leaving Ends k t = t
tally_heard Leaving Lost k t = t
tally_heard Unread (Asked r) k t = (t, asked_one r (k.asked r))
tally_heard Unread (Wants p) k t = (t, omega arith)
tally_heard Unread Rejected k t = none_most k t
tally_heard Unread Ends k t = none_most k t
tally_heard Unread Lost k t = none_most k t
tally_heard (Whole r) Lost k t = none_most k t.0
tally_heard (In_hand r) (Done o) k t = t
tally_heard In_copy Ends k t = t
tally_heard In_copy Lost k t = handed_most k t
tally_heard Awaits_call Lost k t = none_most k t.0
tally_heard Has_answer (Went zero) k t = t
tally_heard Has_answer Lost k t = t
tally_heard Seeking Resolved k t = t
tally_heard Seeking Failed k t = t
tally_heard Ringing Up k t = t
tally_heard Ringing Failed k t = t
tally_heard Standing Lost k t = t
tally_heard (Whole r) g k t = (t.0, asked_more (asks_for r g) (k.asked r) t.1)
tally_heard Awaits_call g k t = (t.0, asked_more (wants_call g) k.wants t.1)
tally_heard st g k t = t

-- one more note
abbrev pub noted : ℕ → Note → Counts → Counts
noted id (Ordered a) k = after_order (is_about id a) a k
noted id (Heard (Told i g)) k = after_signal (i == id) g k
noted id (Heard e) k = k

tally_note : (id : ℕ) (st : Stage) (n : Note) (k : Counts) → Tally st k → Tally (life id st n) (noted id n k)
tally_note id st (Ordered a) k t = elim (is_about id a) as (λ b. Tally (if b then ordered a st else st) (after_order b a k)) [ true ↦ tally_ordered a st k t | false ↦ t ]
tally_note id st (Heard (Accepted i a)) k t = elim (i == id) as (λ b. Tally (if b then entered st a else st) k) [ true ↦ tally_entered st a k t | false ↦ t ]
tally_note id st (Heard (Told i g)) k t = elim (i == id) as (λ b. Tally (if b then heard st g else st) (after_signal b g k)) [ true ↦ tally_heard st g k t | false ↦ t ]
tally_note id st (Heard e) k t = t

abbrev pub counted : ℕ → List Note → Counts → Counts
counted id [] k = k
counted id (n ∷ ns) k = counted id ns (noted id n k)

tally_notes : (id : ℕ) (st : Stage) (ns : List Note) (k : Counts) → Tally st k → Tally (watch (life id) st ns) (counted id ns k)
tally_notes id st [] k t = t
tally_notes id st (n ∷ ns) k t = tally_notes id (life id st n) ns (noted id n k) (tally_note id st n k t)

-- what was counted is how often it stands in the notes
count_is : (id : ℕ) (p : Counts → ℕ) (t : Note → Bool) → ((n : Note) (k : Counts) → p (noted id n k) ≡ more (t n) (p k)) → (ns : List Note) (k : Counts) → p (counted id ns k) ≡ p k + count_by t ns
count_is id p t one [] k = sym (add-zero (p k))
count_is id p t one (n ∷ ns) k =
    count_is id p t one ns (noted id n k) ∙ ap (λ m. m + count_by t ns) (one n k)
    ∙ head (t n) ∙ ap (λ m. p k + m) (sym (sum_by-cons (λ n. cond (t n) 1 0) n ns))
  where
    head : (b : Bool) → more b (p k) + count_by t ns ≡ p k + (cond b 1 0 + count_by t ns)
    head true = omega arith
    head false = omega arith

-- what one note adds
record IsNoted (id : ℕ) (n : Note) (k : Counts) : Type 0 where
  handed : (noted id n k).handed ≡ more (is_ordered hands id n) k.handed
  answered : (noted id n k).answered ≡ more (is_ordered answers id n) k.answered
  declined : (noted id n k).declined ≡ more (is_ordered declines id n) k.declined
  refused : (noted id n k).refused ≡ more (is_ordered refusals id n) k.refused
  lines : (noted id n k).lines ≡ more (is_ordered prints id n) k.lines
  wants : (noted id n k).wants ≡ more (is_told wants_call id n) k.wants
  asked : (r : Request) → (noted id n k).asked r ≡ more (is_told (asks_for r) id n) (k.asked r)

is_noted : (id : ℕ) (n : Note) (k : Counts) → IsNoted id n k
is_noted id (Ordered a) k = record { handed = refl; answered = refl; declined = refl; refused = refl; lines = refl; wants = refl; asked = λ r. refl }
is_noted id (Heard (Told i g)) k = record { handed = refl; answered = refl; declined = refl; refused = refl; lines = refl; wants = refl; asked = λ r. refl }
is_noted id (Heard e) k = record { handed = refl; answered = refl; declined = refl; refused = refl; lines = refl; wants = refl; asked = λ r. refl }

abbrev pub nothing : Counts
nothing = record { handed = 0; answered = 0; declined = 0; refused = 0; lines = 0; wants = 0; asked = λ _. 0 }

at_most : (st : Stage) (k : Counts) → st ≢ Broken → Tally st k → AtMost k
at_most Broken k ok t = absurd (ok refl)
at_most Closed k ok t = t
at_most Leaving k ok t = t
at_most Has_answer k ok t = t
at_most (Going why) k ok t = t
at_most (Whole r) k ok t = none_most k t.0
at_most Awaits_call k ok t = none_most k t.0
at_most (In_hand r) k ok t = handed_most k t
at_most Carried_out k ok t = handed_most k t
at_most In_copy k ok t = handed_most k t
at_most st k ok t = none_most k t

-- a request is handed over once, or declined at the end of the station; it is answered or declined, once; one line is printed
pub once : (l : Limits) (ms : List Move) (id : ℕ)
    → ((times_ordered hands id (history (start l) ms) ≤ 1) × (times_ordered hands id (history (start l) ms) + times_ordered refusals id (history (start l) ms) ≤ 1)) ×
    ((times_ordered answers id (history (start l) ms) + times_ordered declines id (history (start l) ms) ≤ 1) × (times_ordered prints id (history (start l) ms) ≤ 1))
once l ms id =
    let ns = history (start l) ms in
    let t = at_most (watch (life id) Unbegun ns) (counted id ns nothing) (never_broken l ms id) (tally_notes id Unbegun ns nothing (refl, (refl, (refl, (refl, refl))))) in
    let h = count_is id (λ k. k.handed) (is_ordered hands id) (λ n k. (is_noted id n k).handed) ns nothing in
    let a = count_is id (λ k. k.answered) (is_ordered answers id) (λ n k. (is_noted id n k).answered) ns nothing in
    let d = count_is id (λ k. k.declined) (is_ordered declines id) (λ n k. (is_noted id n k).declined) ns nothing in
    let r = count_is id (λ k. k.refused) (is_ordered refusals id) (λ n k. (is_noted id n k).refused) ns nothing in
    let p = count_is id (λ k. k.lines) (is_ordered prints id) (λ n k. (is_noted id n k).lines) ns nothing in
    ((omega (arith, t.0, h), omega (arith, t.0, h, r)), (omega (arith, t.1.0, a, d), omega (arith, t.1.1, p)))

-- 2. What stands before an order

broken_printed : (why : Reason) → printed why Broken ≡ Broken
broken_printed why = each_reason (λ why. printed why Broken ≡ Broken) refl refl refl refl refl refl refl refl refl refl why

pub broken_closed : (why : Reason) → closed why Broken ≡ Broken
broken_closed why = each_reason (λ why. closed why Broken ≡ Broken) refl refl refl refl refl refl refl refl refl refl why

broken_denied : (why : Reason) → denied why Broken ≡ Broken
broken_denied why = each_reason (λ why. denied why Broken ≡ Broken) refl refl refl refl refl refl refl refl refl refl why

broken_ordered : (a : Action) → ordered a Broken ≡ Broken
broken_ordered (Print i why) = broken_printed why
broken_ordered (Close i why) = broken_closed why
broken_ordered (Decline i why) = broken_denied why
broken_ordered a = refl

pub broken_note : (id : ℕ) (n : Note) → life id Broken n ≡ Broken
broken_note id (Ordered a) = elim (is_about id a) as (λ b. (if b then ordered a Broken else Broken) ≡ Broken) [ true ↦ broken_ordered a | false ↦ refl ]
broken_note id (Heard (Accepted i a)) = elim (i == id) as (λ b. (if b then entered Broken a else Broken) ≡ Broken) [ true ↦ refl | false ↦ refl ]
broken_note id (Heard (Told i g)) = elim (i == id) as (λ b. (if b then heard Broken g else Broken) ≡ Broken) [ true ↦ refl | false ↦ refl ]
broken_note id (Heard e) = refl

broken_notes : (id : ℕ) (ns : List Note) → watch (life id) Broken ns ≡ Broken
broken_notes id [] = refl
broken_notes id (n ∷ ns) = ap (λ st. watch (life id) st ns) (broken_note id n) ∙ broken_notes id ns

-- what is ordered may be ordered where a life stands
pub may_be : (l : Limits) (ms : List Move) (id : ℕ) (a : Action) (before after : List Note) → is_about id a ≡ true → history (start l) ms ≡ before ++ Ordered a ∷ after
    → ordered a (watch (life id) Unbegun before) ≢ Broken
may_be l ms id a before after y e b =
    never_broken l ms id
    (ap (watch (life id) Unbegun) e ∙ watch-append (life id) Unbegun before (Ordered a ∷ after)
    ∙ ap (λ t. watch (life id) (cond t (ordered a (watch (life id) Unbegun before)) (watch (life id) Unbegun before)) after) y
    ∙ ap (λ st. watch (life id) st after) b ∙ broken_notes id after)

handing_about : (r : Request) (id : ℕ) → is_about id (handing r id) ≡ true
handing_about Query id = same id
handing_about Update id = same id
handing_about Backup id = same id

handing_at : (r : Request) (id : ℕ) (st : Stage) (k : Counts) → ordered (handing r id) st ≢ Broken → Tally st k → 1 ≤ k.asked r
handing_at Query id (Whole Query) k ok t = t.1
handing_at Update id (Whole Update) k ok t = t.1
handing_at Backup id (Whole Backup) k ok t = t.1
handing_at r id st k ok t = absurd (ok refl)

-- what is handed over was asked for
pub asked_before : (l : Limits) (ms : List Move) (id : ℕ) (r : Request) (before after : List Note) → history (start l) ms ≡ before ++ Ordered (handing r id) ∷ after
    → 1 ≤ times_told (asks_for r) id before
asked_before l ms id r before after e =
    let ok = may_be l ms id (handing r id) before after (handing_about r id) e in
    let t = handing_at r id (watch (life id) Unbegun before) (counted id before nothing) ok (tally_notes id Unbegun before nothing (refl, (refl, (refl, (refl, refl))))) in
    let h = count_is id (λ k. k.asked r) (is_told (asks_for r) id) (λ n k. (is_noted id n k).asked r) before nothing in
    omega (arith, t, h)

answer_at : (id : ℕ) (st : Stage) (k : Counts) → ordered (Answer id) st ≢ Broken → Tally st k → 1 ≤ k.handed + k.wants
answer_at id Carried_out k ok t = omega (arith, t.0)
answer_at id Awaits_call k ok t = omega (arith, t.1)
answer_at id st k ok t = absurd (ok refl)

-- who is answered was handed over before, or wanted a call
pub handed_before : (l : Limits) (ms : List Move) (id : ℕ) (before after : List Note) → history (start l) ms ≡ before ++ Ordered (Answer id) ∷ after
    → 1 ≤ times_ordered hands id before + times_told wants_call id before
handed_before l ms id before after e =
    let ok = may_be l ms id (Answer id) before after (same id) e in
    let t = answer_at id (watch (life id) Unbegun before) (counted id before nothing) ok (tally_notes id Unbegun before nothing (refl, (refl, (refl, (refl, refl))))) in
    let h = count_is id (λ k. k.handed) (is_ordered hands id) (λ n k. (is_noted id n k).handed) before nothing in
    let w = count_is id (λ k. k.wants) (is_told wants_call id) (λ n k. (is_noted id n k).wants) before nothing in
    omega (arith, t, h, w)
