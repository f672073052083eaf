-- A request that is whole is answered or declined before it is closed, or its peer is gone.
use Rattle.std.proofs.Common.{inl, inr, ◌⊎◌, ◌≡◌, ◌≢◌, ◌≤◌, ◌+◌, ◌==◌, [], ◌∷◌, ◌++◌, ◌∙◌, if◌then◌else◌, ℕ, Bool, true, false, List, zero, subst, refl, ap, arith, cond}
use Rattle.std.proofs.lemmas.List.Sums.{sum_by-cons}
use Rattle.oftp_schedule.specs.declared.connection.Door.TheVariants.{Partners}
use Rattle.oftp_schedule.specs.declared.connection.Request.{Request}
use Rattle.oftp_schedule.specs.declared.connection.Request.TheVariants.{Query, Update, Backup}
use Rattle.oftp_schedule.specs.declared.connection.Arrival.{Arrival}
use Rattle.oftp_schedule.specs.declared.connection.Arrival.TheVariants.{Somebody}
use Rattle.oftp_schedule.specs.declared.connection.Signal.{Signal}
use Rattle.oftp_schedule.specs.declared.connection.Signal.TheVariants.{LetIn, Rejected, Asked, Wants, Waits, Ended, Done, Went, Ends, Lost, Resolved, Up, Failed}
use Rattle.oftp_schedule.specs.declared.connection.Event.TheVariants.{Accepted, Told}
use Rattle.oftp_schedule.specs.declared.connection.Reason.{Reason}
use Rattle.oftp_schedule.specs.declared.connection.Reason.TheVariants.{TimedOut, Finished, Stopping}
use Rattle.oftp_schedule.specs.declared.connection.Action.{Action}
use Rattle.oftp_schedule.specs.declared.connection.Action.TheVariants.{Accept, Print, Close, Part, Answer, Decline, Begin, Hear, Cut, Look, Change, Copy, Resolve, Dial, HangUp}
use Rattle.oftp_schedule.specs.declared.connection.Limits.{Limits}
use Rattle.oftp_schedule.specs.Machine.{start, Move}
use Rattle.oftp_schedule.specs.History.{Note, Heard, Ordered, history, watch}
use Rattle.oftp_schedule.specs.Life.{Stage, Unbegun, Coming, Unjudged, Let_in, In_step, Between_steps, Deserted, Cut_off, Going, Leaving, Unread, Whole, In_hand, Carried_out, In_copy, Awaits_call, Has_answer, Seeking, Located, Ringing, Standing, Broken, entered, heard, printed, closed, denied, ordered, is_about, life, answers, declines, is_lost, is_ordered, is_told, times_ordered, times_told}
use Rattle.oftp_schedule.proofs.Cases.{each_reason}
use Rattle.oftp_schedule.proofs.Numbers.{same}
use Rattle.oftp_schedule.proofs.Lives.{watch-append}
use Rattle.oftp_schedule.proofs.Tallies.{broken_closed, broken_note, may_be}

-- a request that is whole, and has no answer yet
abbrev pub is_open : Stage → Bool
is_open (Whole r) = true
is_open (In_hand r) = true
is_open Carried_out = true
is_open In_copy = true
is_open st = false

abbrev pub one : Bool → ℕ
one b = cond b 1 0

-- it is open, or k answers, refusals and losses were noted
abbrev pub IsKept : Stage → ℕ → Type 0
IsKept st k = (is_open st ≡ true) ⊎ ((1 ≤ k) ⊎ (st ≡ Broken))

-- 1. One note

open_printed : (why : Reason) (st : Stage) → is_open st ≡ true → printed why st ≡ Broken
open_printed why (Whole r) h = each_reason (λ why. printed why (Whole r) ≡ Broken) refl refl refl refl refl refl refl refl refl refl why
open_printed why (In_hand r) h = each_reason (λ why. printed why (In_hand r) ≡ Broken) refl refl refl refl refl refl refl refl refl refl why
open_printed why Carried_out h = each_reason (λ why. printed why Carried_out ≡ Broken) refl refl refl refl refl refl refl refl refl refl why
open_printed why In_copy h = each_reason (λ why. printed why In_copy ≡ Broken) refl refl refl refl refl refl refl refl refl refl why
open_printed why st h = cc

open_closed : (why : Reason) (st : Stage) → is_open st ≡ true → closed why st ≡ Broken
open_closed why (Whole r) h = each_reason (λ why. closed why (Whole r) ≡ Broken) refl refl refl refl refl refl refl refl refl refl why
open_closed why (In_hand r) h = each_reason (λ why. closed why (In_hand r) ≡ Broken) refl refl refl refl refl refl refl refl refl refl why
open_closed why Carried_out h = each_reason (λ why. closed why Carried_out ≡ Broken) refl refl refl refl refl refl refl refl refl refl why
open_closed why In_copy h = each_reason (λ why. closed why In_copy ≡ Broken) refl refl refl refl refl refl refl refl refl refl why
open_closed why st h = cc

open_denied : (i : ℕ) (why : Reason) (st : Stage) (k : ℕ) → is_open st ≡ true → IsKept (denied why st) (k + (one (answers (Decline i why)) + (one (declines (Decline i why)) + 0)))
open_denied i Stopping (Whole r) k h = inr (inl (omega arith))
open_denied i Stopping Unread k h = cc
open_denied i TimedOut In_copy k h = inr (inl (omega arith))
open_denied i why st k h = inr (inl (omega arith))

open_ordered : (a : Action) (st : Stage) (k : ℕ) → is_open st ≡ true → IsKept (ordered a st) (k + (one (answers a) + (one (declines a) + 0)))
open_ordered (Accept i d) Unbegun k h = cc
open_ordered (Begin i) Let_in k h = cc
open_ordered (Begin i) Standing k h = cc
open_ordered (Hear i) Between_steps k h = cc
open_ordered (Cut i) Between_steps k h = cc
open_ordered (Cut i) Deserted k h = cc
open_ordered (Look i) (Whole Query) k h = inl refl
open_ordered (Change i) (Whole Update) k h = inl refl
open_ordered (Copy i) (Whole Backup) k h = inl refl
open_ordered (Answer i) Carried_out k h = inr (inl (omega arith))
open_ordered (Answer i) Awaits_call k h = cc
open_ordered (Decline i why) st k h = open_denied i why st k h
open_ordered (Resolve i) Unbegun k h = cc
open_ordered (Dial i) Located k h = cc
open_ordered (HangUp i) Cut_off k h = cc
open_ordered (HangUp i) Standing k h = cc
open_ordered (Print i why) st k h = inr (inr (open_printed why st h))
open_ordered (Part i) (Going Finished) k h = cc
open_ordered (Close i why) st k h = inr (inr (open_closed why st h))
open_ordered a st k h = inr (inr refl)

open_heard : (st : Stage) (g : Signal) (k : ℕ) → is_open st ≡ true → IsKept (heard st g) (k + (0 + (0 + one (is_lost g))))
open_heard Unjudged LetIn k h = cc
open_heard Unjudged Rejected k h = cc
open_heard Unjudged Ends k h = cc
open_heard Unjudged Lost k h = cc
open_heard Let_in Lost k h = cc
open_heard In_step (Waits w) k h = cc
open_heard In_step (Ended e) k h = cc
open_heard Between_steps Lost k h = cc
open_heard Leaving Ends k h = cc
open_heard Leaving Lost k h = cc
open_heard Unread (Asked r) k h = cc
open_heard Unread (Wants p) k h = cc
open_heard Unread Rejected k h = cc
open_heard Unread Ends k h = cc
open_heard Unread Lost k h = cc
open_heard (Whole r) Lost k h = inr (inl (omega arith))
open_heard (In_hand r) (Done o) k h = inl refl
open_heard In_copy Ends k h = inl refl
open_heard In_copy Lost k h = inr (inl (omega arith))
open_heard Awaits_call Lost k h = cc
open_heard Has_answer (Went zero) k h = cc
open_heard Has_answer Lost k h = cc
open_heard Seeking Resolved k h = cc
open_heard Seeking Failed k h = cc
open_heard Ringing Up k h = cc
open_heard Ringing Failed k h = cc
open_heard Standing Lost k h = cc
open_heard (Whole r) g k h = inl refl
open_heard Awaits_call g k h = cc
open_heard st g k h = inl h

open_entered : (st : Stage) (a : Arrival) → is_open st ≡ true → entered st a ≡ st
open_entered (Coming Partners) Somebody h = cc
open_entered (Coming d) Somebody h = cc
open_entered (Coming d) a h = cc
open_entered st a h = refl

-- how many answers, refusals and losses a note is
abbrev pub noted : ℕ → Note → ℕ
noted id n = one (is_ordered answers id n) + (one (is_ordered declines id n) + one (is_told is_lost id n))

kept_note : (id : ℕ) (st : Stage) (n : Note) (k : ℕ) → IsKept st k → IsKept (life id st n) (k + noted id n)
kept_note id st n k (inr (inl h)) = inr (inl (omega (arith, h)))
kept_note id st n k (inr (inr e)) = inr (inr (ap (λ st. life id st n) e ∙ broken_note id n))
kept_note id st (Ordered a) k (inl h) =
    elim (is_about id a) as (λ b. IsKept (if b then ordered a st else st) (k + (one (if b then answers a else false) + (one (if b then declines a else false) + 0))))
    [ true ↦ open_ordered a st k h | false ↦ inl h ]
kept_note id st (Heard (Accepted i a)) k (inl h) = elim (i == id) as (λ b. IsKept (if b then entered st a else st) (k + 0))
    [ true ↦ inl (ap is_open (open_entered st a h) ∙ h) | false ↦ inl h ]
kept_note id st (Heard (Told i g)) k (inl h) = elim (i == id) as (λ b. IsKept (if b then heard st g else st) (k + (0 + (0 + one (if b then is_lost g else false)))))
    [ true ↦ open_heard st g k h | false ↦ inl h ]
kept_note id st (Heard e) k (inl h) = inl h

-- 2. Many notes

abbrev pub met : ℕ → List Note → ℕ
met id ns = times_ordered answers id ns + (times_ordered declines id ns + times_told is_lost id ns)

met_more : (id : ℕ) (n : Note) (ns : List Note) → met id (n ∷ ns) ≡ noted id n + met id ns
met_more id n ns =
    let a = sum_by-cons (λ n. one (is_ordered answers id n)) n ns in
    let d = sum_by-cons (λ n. one (is_ordered declines id n)) n ns in
    let l = sum_by-cons (λ n. one (is_told is_lost id n)) n ns in
    omega (arith, a, d, l)

kept_notes : (id : ℕ) (st : Stage) (ns : List Note) (k : ℕ) → IsKept st k → IsKept (watch (life id) st ns) (k + met id ns)
kept_notes id st [] k h = more (h)
  where
    more : IsKept st k → IsKept st (k + 0)
    more (inl h) = inl h
    more (inr (inl h)) = inr (inl (omega (arith, h)))
    more (inr (inr e)) = inr (inr e)
kept_notes id st (n ∷ ns) k h =
    let m = met_more id n ns in
    let e : k + noted id n + met id ns ≡ k + met id (n ∷ ns) = omega (arith, m) in
    subst (λ (j : ℕ). IsKept (watch (life id) (life id st n) ns) j) e (kept_notes id (life id st n) ns (k + noted id n) (kept_note id st n k h))

-- who asked and whose request is whole is closed only after an answer, a refusal, or the news that it is gone
pub kept_until : (l : Limits) (ms : List Move) (id : ℕ) (r : Request) (why : Reason) (before between after : List Note)
    → history (start l) ms ≡ (before ++ between) ++ Ordered (Close id why) ∷ after → watch (life id) Unbegun before ≡ Whole r → 1 ≤ met id between
kept_until l ms id r why before between after e w =
    by (kept_notes id (watch (life id) Unbegun before) between 0 (inl (ap is_open w)))
  where
    now : Stage
    now = watch (life id) (watch (life id) Unbegun before) between

    may : closed why now ≢ Broken
    may b = may_be l ms id (Close id why) (before ++ between) after (same id) e (ap (closed why) (watch-append (life id) Unbegun before between) ∙ b)

    by : IsKept now (0 + met id between) → 1 ≤ met id between
    by (inl h) = absurd (may (open_closed why now h))
    by (inr (inl h)) = omega (arith, h)
    by (inr (inr b)) = absurd (may (ap (closed why) b ∙ broken_closed why))
