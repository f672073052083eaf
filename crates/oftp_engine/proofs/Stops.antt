-- Which registers a crash may leave after a step: the one after it, and, if nothing was sent, those before.
use Rattle.std.proofs.Common.{◌≡◌, ◌⊎◌, ℕ, zero, suc, ◌+◌, ◌-◌, ◌<◌, ◌≤◌, List, [], ◌∷◌, ◌++◌, length, take, fold, Option, None, Some, Result, Ok, Err, refl, ap, sym, ◌∙◌, subst, inl, inr, arith}
use Rattle.std.proofs.lemmas.List.{length-append, take_all, take-append-le}
use Rattle.std.proofs.lemmas.Bool.{cases_lt}
use Rattle.std.specs.Result.{result_unwrap_or}
use Rattle.oftp_wire.specs.declared.command.Command.{Command}
use Rattle.oftp_codec.specs.Spelling.{Canon}
use Rattle.oftp_register.specs.declared.change.Change.{Change}
use Rattle.oftp_register.specs.declared.change.Cause.{Cause}
use Rattle.oftp_register.specs.Register.{Register}
use Rattle.oftp_register.specs.Changes.{apply_all, go_on_by}
use Rattle.oftp_session.specs.Calls.{Makes}
use Rattle.oftp_session.specs.Phases.{Step, register_after, frame_of}
use Rattle.oftp_engine.specs.Progress.{Counted}
use Rattle.oftp_engine.specs.Runs.{Course, Output, advance, answered, octets_of, with_change, with_output}
use Rattle.oftp_engine.specs.World.{latest}
use Rattle.oftp_engine.proofs.Standing.{MayLeave}
use Rattle.oftp_engine.proofs.Courses.{counted_more, counted_output, more_changes, octets-append, replay_step}
use Rattle.oftp_engine.proofs.Ending.{answered_most}
use Rattle.oftp_engine.proofs.Folding.{frame_length}

-- an output of which one octet is out is answered
answered_last : (outputs : List Output) (o : Output) (n : ℕ) → length (octets_of outputs) < n → o.after ≤ answered (outputs ++ o ∷ []) n
answered_last [] o zero h = absurd (omega (arith, h))
answered_last [] o (suc n) h = omega arith
answered_last (x ∷ outputs) o zero h = absurd (omega (arith, h))
answered_last (x ∷ outputs) o (suc n) h =
    let split = length-append x.octets (octets_of outputs) in
    let ih = answered_last outputs o (suc n - length x.octets) (omega (arith, split, h)) in
    omega (arith, ih)

-- more octets, and more outputs, answer no fewer changes
pub answered_more : (outputs later : List Output) (m n : ℕ) → m ≤ n → answered outputs m ≤ answered (outputs ++ later) n
answered_more [] later m n h = omega arith
answered_more (o ∷ outputs) later zero n h = omega arith
answered_more (o ∷ outputs) later (suc m) zero h = absurd (omega (arith, h))
answered_more (o ∷ outputs) later (suc m) (suc n) h =
    let ih = answered_more outputs later (suc m - length o.octets) (suc n - length o.octets) (omega (arith, h)) in
    omega (arith, ih)

-- a frame that was sent is an answer
said_answers : (outputs : List Output) (command : Command) (n : ℕ) → n ≤ latest (outputs ++ record { octets = frame_of command; after = n } ∷ [])
unfolding frame_of
said_answers outputs command n =
    let o : Output = record { octets = frame_of command; after = n } in
    let some = frame_length (Canon command) in
    let split = octets-append outputs (o ∷ []) in
    let long : length (octets_of (outputs ++ o ∷ [])) ≡ length (octets_of outputs) + length (octets_of (o ∷ [])) =
    ap (λ (x : List ℕ). length x) split ∙ length-append (octets_of outputs) (octets_of (o ∷ [])) in
    let own = length-append (frame_of command) [] in
    answered_last outputs o (length (octets_of (outputs ++ o ∷ []))) (omega (arith, long, own, some))

-- where all were made, each beginning of them was made
stuck : (cause : Cause) (changes : List Change) (r : Register) → fold go_on_by (let e : Result Register Cause = Err cause in e) changes ≡ Ok r → ⊥
stuck cause [] r h = cc
stuck cause (k ∷ ks) r h = stuck cause ks r h

pub from_result : (result : Result Register Cause) (n : ℕ) (changes : List Change) (r : Register) → fold go_on_by result changes ≡ Ok r
    → (s : Register) × (fold go_on_by result (take n changes) ≡ Ok s)
from_result result zero changes r h = by result h
  where
    by : (result : Result Register Cause) → fold go_on_by result changes ≡ Ok r → (s : Register) × (result ≡ Ok s)
    by (Ok s) g = (s, refl)
    by (Err cause) g = absurd (stuck cause changes r g)
from_result result (suc n) [] r h = (r, h)
from_result result (suc n) (k ∷ ks) r h = from_result (go_on_by result k) n ks r h

-- the register of a number of changes, whatever a refusal gives
left_same : (start : Register) (c : Course) (changes : List Change) (n : ℕ) (r d : Register) → apply_all start changes ≡ Ok r
    → result_unwrap_or (apply_all start (take n changes)) d ≡ result_unwrap_or (apply_all start (take n changes)) c.register
left_same start c changes n r d h =
    let made = from_result (Ok start) n changes r h in
    ap (λ (x : Result Register Cause). result_unwrap_or x d) made.1 ∙ sym (ap (λ (x : Result Register Cause). result_unwrap_or x c.register) made.1)

-- the register after a change that was made
pub made_after : (r : Register) (change : Option Change) (after : Register) → Makes change r after → register_after r change ≡ after
made_after r None after h = sym h
made_after r (Some k) after h = ap (λ (x : Result Register Cause). result_unwrap_or x r) h

-- the changes of a session are extended by it
pub replay_next : (start : Register) (c : Course) (step : Step) (after : Register) → apply_all start c.changes ≡ Ok c.register → Makes step.change c.register after
    → apply_all start (advance c step).changes ≡ Ok (advance c step).register
unfolding advance
replay_next start c step after h made =
    replay_step start c.register c.changes step.change h (subst (Makes step.change c.register) (sym (made_after c.register step.change after made)) made)

-- after a step a crash leaves the register after it, or, if nothing was sent, one that it might have left before
pub leaves_next : (start : Register) (c : Course) (step : Step) (after r : Register) → latest c.outputs ≤ length c.changes → apply_all start c.changes ≡ Ok c.register
    → Makes step.change c.register after → MayLeave start (advance c step) r
    → (r ≡ after) ⊎ ((step.output ≡ None) × MayLeave start c r)
unfolding advance
leaves_next start c step after r few h made leaves = by_output step.output refl leaves.least
  where
    all : List Change
    all = with_change c.changes step.change

    whole : apply_all start (with_change c.changes step.change) ≡ Ok (register_after c.register step.change)
    whole = replay_next start c step after h made

    last : length (with_change c.changes step.change) ≤ leaves.changes → r ≡ after
    last l =
        leaves.is ∙ ap (λ (x : List Change). result_unwrap_or (apply_all start x) (register_after c.register step.change)) (take_all leaves.changes (with_change c.changes step.change) l)
        ∙ ap (λ (x : Result Register Cause). result_unwrap_or x (register_after c.register step.change)) whole ∙ made_after c.register step.change after made

    shorter : (change : Option Change) → leaves.changes < length (with_change c.changes change) ⊎ length (with_change c.changes change) ≤ leaves.changes
        → leaves.changes < length (with_change c.changes change) → leaves.changes ≤ length c.changes
    shorter None o l = omega (arith, l)
    shorter (Some k) o l = omega (arith, l, length-append c.changes (k ∷ []))

    cut : (change : Option Change) → leaves.changes ≤ length c.changes → take leaves.changes (with_change c.changes change) ≡ take leaves.changes c.changes
    cut None l = refl
    cut (Some k) l = take-append-le leaves.changes c.changes (k ∷ []) l

    before : latest c.outputs ≤ leaves.changes → leaves.changes < length (with_change c.changes step.change) → MayLeave start c r
    before least l =
        let within = shorter step.change (inl l) l in
        record {
          changes = leaves.changes;
          least = least;
          most = within;
          is = leaves.is ∙ ap (λ (x : List Change). result_unwrap_or (apply_all start x) (register_after c.register step.change)) (cut step.change within)
              ∙ left_same start c c.changes leaves.changes c.register (register_after c.register step.change) h;
        }

    by_output : (output : Option Command) → step.output ≡ output → latest (with_output c.outputs output (length (with_change c.changes step.change))) ≤ leaves.changes
        → (r ≡ after) ⊎ ((output ≡ None) × MayLeave start c r)
    by_output None e least = elim (cases_lt leaves.changes (length (with_change c.changes step.change))) [ inl l ↦ inr (refl, before least l) | inr l ↦ inl (last l) ]
    by_output (Some command) e least =
        let said = said_answers c.outputs command (length (with_change c.changes step.change)) in
        inl (last (omega (arith, said, least)))

-- the changes that outputs answer are made
pub counted_next : (c : Course) (step : Step) → Counted (length c.changes) c.outputs → Counted (length (advance c step).changes) (advance c step).outputs
unfolding advance
counted_next c step counted =
    let n = length (with_change c.changes step.change) in
    counted_output n c.outputs step.output (counted_more (length c.changes) n c.outputs (more_changes c.changes step.change) counted)

-- the register after a step is one that a crash may leave then
pub latest_next : (start : Register) (c : Course) (step : Step) (after : Register) → Counted (length c.changes) c.outputs → apply_all start c.changes ≡ Ok c.register
    → Makes step.change c.register after → MayLeave start (advance c step) (advance c step).register
latest_next start c step after counted h made =
    let next = advance c step in
    let n = length next.changes in
    record {
      changes = n;
      least = answered_most next.outputs (length (octets_of next.outputs)) n (counted_next c step counted);
      most = omega arith;
      is = sym (ap (λ (x : List Change). result_unwrap_or (apply_all start x) next.register) (take_all n next.changes (omega arith))
          ∙ ap (λ (x : Result Register Cause). result_unwrap_or x next.register) (replay_next start c step after h made));
    }
