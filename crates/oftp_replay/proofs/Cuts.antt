-- What a session has said and changed where it was cut: a beginning of what it says and changes if nothing cuts it.
use Rattle.std.proofs.Common.{◌≡◌, ◌∙◌, inl, inr, ap, sym, subst, refl, arith, ℕ, zero, suc, ◌+◌, ◌-◌, ◌<◌, ◌≤◌, Bool, true, false, List, [], ◌∷◌, ◌++◌, length, take, drop, Option, None, Some, length-append, length-drop}
use Rattle.std.proofs.lemmas.Bool.{cases_lt}
use Rattle.std.proofs.lemmas.List.{take-append-drop, take-append-le, take_all, take_at}
use Rattle.oftp_codec.specs.Stream.{Head, Whole, Waits, Bad, IsWithin, command_in, front}
use Rattle.oftp_codec.specs.declared.limits.TheConstants.{LONGEST_FRAME}
use Rattle.oftp_codec.proofs.Streams.{front_within}
use Rattle.oftp_wire.specs.declared.reason.SessionReason.TheVariants.{ProtocolViolation}
use Rattle.oftp_register.specs.declared.change.Change.{Change}
use Rattle.oftp_register.specs.Register.{Register}
use Rattle.oftp_session.specs.Phases.{Phase, fails, is_over}
use Rattle.oftp_session.specs.Settings.{Setting}
use Rattle.oftp_session.specs.Steps.{has_turn, turned, turns_due}
use Rattle.oftp_session.proofs.Phases.{turn_falls}
use Rattle.oftp_engine.specs.Progress.{Counted, Grows}
use Rattle.oftp_engine.specs.Runs.{Course, Output, advance, answered, came_in, is_stopped, octets_of, run, started, turned_in}
use Rattle.oftp_engine.specs.Served.{whole}
use Rattle.oftp_engine.proofs.Courses.{grows_none, octets-append, phase_step, run_bad, run_frame, run_grows, run_over, run_stopped, run_turn, run_waits}
use Rattle.oftp_engine.proofs.EachStep.{run_keeps}
use Rattle.oftp_engine.proofs.Ending.{answered_most}
use Rattle.oftp_engine.proofs.Stops.{counted_next}
use Rattle.oftp_life.specs.Reaches.{IsShort, RunsTo, SessionMakes, taken_until}

-- a run whose writer stops is a beginning of the run whose writer doesn't
module _ (limit : Option ℕ) where
  abbrev RunsOn : List ℕ → Course → Type 0
  RunsOn s c = Grows (run limit s c) (run None s c)

  unstopped : (c : Course) → is_stopped None c ≡ false
  unfolding is_stopped
  unstopped c = refl

  same_step : (s t : List ℕ) (c d : Course) → run limit s c ≡ run limit t d → run None s c ≡ run None t d → RunsOn t d → RunsOn s c
  same_step s t c d p q h = subst (λ (x : Course). Grows x (run None s c)) (sym p) (subst (Grows (run limit t d)) (sym q) h)

  same_end : (s : List ℕ) (c d : Course) → run limit s c ≡ d → run None s c ≡ d → RunsOn s c
  same_end s c d p q = subst (λ (x : Course). Grows x (run None s c)) (sym p) (subst (Grows d) (sym q) (grows_none d))

  module _ (s : List ℕ) (c : Course) (more : (t : List ℕ) (d : Course) → length t < length s → RunsOn t d) where
    front_runs_on : has_turn c.phase ≡ false → is_over c.phase ≡ false → is_stopped limit c ≡ false → (f : Head) → front LONGEST_FRAME s ≡ f → RunsOn s c
    front_runs_on turn over live (Whole n) e =
        let within : IsWithin (length s) (Whole n) = subst (IsWithin (length s)) e (front_within LONGEST_FRAME s) in
        same_step s (drop n s) c (came_in c (command_in n s)) (run_frame limit s c n turn over live e) (run_frame None s c n turn over (unstopped c) e)
        (more (drop n s) (came_in c (command_in n s)) (omega (arith, within.0, within.1, length-drop n s)))
    front_runs_on turn over live Waits e = same_end s c c (run_waits limit s c turn e) (run_waits None s c turn e)
    front_runs_on turn over live (Bad fault) e =
        same_end s c (advance c (fails ProtocolViolation)) (run_bad limit s c fault turn over live e) (run_bad None s c fault turn over (unstopped c) e)

    quiet_runs_on : has_turn c.phase ≡ false → is_stopped limit c ≡ false → RunsOn s c
    quiet_runs_on turn live = by (is_over c.phase) refl
      where
        by : (b : Bool) → is_over c.phase ≡ b → RunsOn s c
        by true over = same_end s c c (run_over limit s c over) (run_over None s c over)
        by false over = front_runs_on turn over live (front LONGEST_FRAME s) refl

    either_runs_on : (has_turn c.phase ≡ true → RunsOn s (turned_in c)) → RunsOn s c
    either_runs_on next = by (is_stopped limit c) (has_turn c.phase) refl refl
      where
        by : (b t : Bool) → is_stopped limit c ≡ b → has_turn c.phase ≡ t → RunsOn s c
        by true t stopped turn = subst (λ (x : Course). Grows x (run None s c)) (sym (run_stopped limit s c stopped)) (run_grows None s c)
        by false true live turn = same_step s s c (turned_in c) (run_turn limit s c turn live) (run_turn None s c turn (unstopped c)) (next turn)
        by false false live turn = quiet_runs_on turn live

  due_falls : (c : Course) → has_turn c.phase ≡ true → turns_due (turned_in c).phase < turns_due c.phase
  due_falls c h = subst (λ (p : Phase). turns_due p < turns_due c.phase) (sym (phase_step c (turned c.setting c.phase c.register))) (turn_falls c.setting c.phase c.register h)

  turns_run_on : (n : ℕ) (s : List ℕ) (c : Course) → turns_due c.phase ≤ n → ((t : List ℕ) (d : Course) → length t < length s → RunsOn t d) → RunsOn s c
  turns_run_on zero s c due more = either_runs_on s c more (λ h. absurd (omega (arith, due, due_falls c h)))
  turns_run_on (suc n) s c due more = either_runs_on s c more (λ h. turns_run_on n s (turned_in c) (omega (arith, due, due_falls c h)) more)

  runs_on_by : (n : ℕ) (s : List ℕ) (c : Course) → length s ≤ n → RunsOn s c
  runs_on_by zero s c few = turns_run_on (turns_due c.phase) s c (omega arith) (λ t d less. absurd (omega (arith, few, less)))
  runs_on_by (suc n) s c few = turns_run_on (turns_due c.phase) s c (omega arith) (λ t d less. runs_on_by n t d (omega (arith, few, less)))

  runs_on : (s : List ℕ) (c : Course) → Grows (run limit s c) (run None s c)
  runs_on s c = runs_on_by (length s) s c (omega arith)

-- each output of a run comes after no more changes than the run has
abbrev IsCounted : Course → Type 0
IsCounted c = Counted (length c.changes) c.outputs

run_counted : (limit : Option ℕ) (setting : Setting) (heard : List ℕ) (r : Register) → IsCounted (run limit heard (started setting r))
run_counted limit setting heard r =
    run_keeps IsCounted (λ c h. counted_next c _ h) (λ c octets h. counted_next c _ h) (λ c h. counted_next c _ h) limit heard (started setting r) tt

-- outputs of which no octet is out answer nothing
pub answered_front : (outs later : List Output) (n : ℕ) → n ≤ length (octets_of outs) → answered (outs ++ later) n ≤ answered outs n
answered_front [] [] n h = omega arith
answered_front [] (o ∷ later) zero h = omega arith
answered_front [] (o ∷ later) (suc n) h = absurd (omega (arith, h))
answered_front (o ∷ outs) later zero h = omega arith
answered_front (o ∷ outs) later (suc n) h =
    let rest = answered_front outs later (suc n - length o.octets) (omega (arith, h, length-append o.octets (octets_of outs))) in
    omega (arith, rest)

-- the octets of the first outputs are the first octets
pub first_said : (outs later : List Output) (n : ℕ) → n ≤ length (octets_of outs) → take n (octets_of outs) ≡ take n (octets_of (outs ++ later))
first_said outs later n h = sym (ap (take n) (octets-append outs later) ∙ take-append-le n (octets_of outs) (octets_of later) h)

-- The first `out` octets of a session are out, and these changes are made: a beginning of all of its changes, with each that was answered.
pub record IsFirstPart (w : Course) (said : List ℕ) (made : List Change) : Type 0 where
  pub out : ℕ
  pub said_first : said ≡ take out (octets_of w.outputs)
  pub later : List Change
  pub begins : w.changes ≡ made ++ later
  pub answers : answered w.outputs out ≤ length made

-- it is so where these outputs are out, to an octet of the last
begins_at : (w : Course) (outs later : List Output) (made rest : List Change) (n : ℕ) → w.outputs ≡ outs ++ later → w.changes ≡ made ++ rest → n ≤ length (octets_of outs)
    → answered outs n ≤ length made → (said : List ℕ) → said ≡ take n (octets_of outs) → IsFirstPart w said made
begins_at w outs later made rest n outputs changes within answers said e = record {
  out = n;
  said_first = e ∙ first_said outs later n within ∙ sym (ap (λ (x : List Output). take n (octets_of x)) outputs);
  later = rest;
  begins = changes;
  answers =
      let few = answered_front outs later n within in
      let same : answered w.outputs n ≡ answered (outs ++ later) n = ap (λ (x : List Output). answered x n) outputs in
      omega (arith, few, same, answers);
}

-- what a writer took is a beginning
taken_first : (stop : Option ℕ) (octets : List ℕ) → (n : ℕ) × (n ≤ length octets) × (taken_until stop octets ≡ take n octets)
taken_first None octets = (length octets, omega arith, sym (take_all (length octets) octets (omega arith)))
taken_first (Some count) octets = elim (cases_lt (length octets) count) [
  | inl over ↦ (length octets, omega arith, take_all count octets (omega (arith, over)) ∙ sym (take_all (length octets) octets (omega arith)))
  | inr within ↦ (count, within, refl)
]

module _ (setting : Setting) (heard said : List ℕ) (r : Register) (made : List Change) where
  stopped_begins : RunsTo setting heard said r made → IsFirstPart (whole setting heard r) said made
  stopped_begins h =
      let c = run h.stop heard (started setting r) in
      let grows = runs_on h.stop heard (started setting r) in
      let first = taken_first h.stop (octets_of c.outputs) in
      let most = answered_most c.outputs first.0 (length c.changes) (run_counted h.stop setting heard r) in
      begins_at (whole setting heard r) c.outputs grows.later_outputs made grows.later_changes first.0 grows.outputs
      (grows.changes ∙ ap (λ (x : List Change). x ++ grows.later_changes) (sym h.are)) first.1
      (omega (arith, most, ap (λ (x : List Change). length x) h.are)) said (h.out ∙ first.2)

  short_begins : IsShort setting heard said r made → IsFirstPart (whole setting heard r) said made
  short_begins h =
      let w = whole setting heard r in
      let at = h.stopped.at in
      let grows : Grows at w = subst (Grows at) (sym h.stopped.goes_on) (run_grows None h.stopped.rest at) in
      begins_at w h.outs grows.later_outputs made (drop h.made w.changes) (length (octets_of h.outs))
      (grows.outputs ∙ ap (λ (x : List Output). x ++ grows.later_outputs) h.stopped.outputs)
      (sym (take-append-drop h.made w.changes) ∙ ap (λ (x : List Change). x ++ drop h.made w.changes) (sym h.are)) (omega arith)
      h.kept said (h.out ∙ sym (take_all (length (octets_of h.outs)) (octets_of h.outs) (omega arith)))

  pub session_begins : (after : Register) → SessionMakes setting heard said r made after → IsFirstPart (whole setting heard r) said made
  session_begins after h = elim h.how [ inl stopped ↦ stopped_begins stopped | inr short ↦ short_begins short ]

-- beginnings of one list that are as long
pub same_beginning : {A : Type 0} (all xs ys more rest : List A) → all ≡ xs ++ more → all ≡ ys ++ rest → length xs ≡ length ys → xs ≡ ys
same_beginning all xs ys more rest p q long = sym (take_at xs more (length ys) long) ∙ ap (take (length ys)) (sym p ∙ q) ∙ take_at ys rest (length ys) refl
