-- What a run does, one event at a time.
use Rattle.oftp_wire.specs.declared.reason.SessionReason.TheVariants.{ProtocolViolation}
use Rattle.std.proofs.Common.{◌≡◌, ℕ, zero, suc, ◌+◌, ◌≤◌, ◌<◌, Bool, true, false, cond, not, ◌&&◌, ◌||◌, List, [], ◌∷◌, ◌++◌, length, drop, Option, None, Some, Ok, refl, sym, ap, ◌∙◌, subst, arith, append_assoc, length-append, length-drop}
use Rattle.std.proofs.lemmas.List.{append-nil}
use Rattle.std.proofs.lemmas.Bool.{ltb-false, le-ltb, and_parts, and_right, or_right}
use Rattle.oftp_register.specs.Register.{Register}
use Rattle.oftp_register.specs.Changes.{apply_all}
use Rattle.oftp_register.specs.declared.change.Change.{Change}
use Rattle.oftp_register.proofs.PrefixLemmas.{apply_all-push}
use Rattle.oftp_codec.specs.Kinds.{command_of}
use Rattle.oftp_wire.specs.declared.command.Command.{Command}
use Rattle.oftp_codec.specs.Stream.{front, command_in, IsWithin}
use Rattle.oftp_codec.specs.Stream.{Head, Whole, Waits, Bad}
use Rattle.oftp_codec.proofs.Streams.{front_within}
use Rattle.oftp_register.specs.Soundness.{IsSound}
use Rattle.oftp_session.specs.Settings.{Setting}
use Rattle.oftp_session.specs.Phases.{is_over, Phase, Step, frame_of, register_after, fails}
use Rattle.oftp_session.specs.Steps.{has_turn, turned, turns_due, Suits}
use Rattle.oftp_session.specs.Calls.{Allows, Proceeds}
use Rattle.oftp_session.proofs.Proceeding.{turned_proceeds}
use Rattle.oftp_session.proofs.Phases.{opening_suits, over_no_turn, turn_falls}
use Rattle.oftp_codec.specs.declared.limits.TheConstants.{LONGEST_FRAME}
use Rattle.oftp_engine.specs.Runs.{Course, Output, started, octets_of, with_change, with_output, advance, came_in, turned_in, is_stopped, turns, settled, on_front, next_in, run_by, run}
use Rattle.oftp_engine.specs.Progress.{Grows, Sound, Counted}
use Rattle.oftp_engine.proofs.Phases.{step_proceeds, fails_proceed}

-- a course that grows

pub grows_none : (c : Course) → Grows c c
grows_none c = record { later_outputs = []; outputs = sym (append-nil c.outputs); later_changes = []; changes = sym (append-nil c.changes); sound = λ r h. h }

pub grows_on : (c d e : Course) → Grows c d → Grows d e → Grows c e
grows_on c d e g h = record {
  later_outputs = g.later_outputs ++ h.later_outputs;
  outputs = h.outputs ∙ ap (λ (x : List Output). x ++ h.later_outputs) g.outputs ∙ append_assoc c.outputs g.later_outputs h.later_outputs;
  later_changes = g.later_changes ++ h.later_changes;
  changes = h.changes ∙ ap (λ (x : List Change). x ++ h.later_changes) g.changes ∙ append_assoc c.changes g.later_changes h.later_changes;
  sound = λ r x. h.sound r (g.sound r x);
}

grows_either : (c d e : Course) (b : Bool) → Grows c d → Grows c e → Grows c (cond b d e)
grows_either c d e true g h = g
grows_either c d e false g h = h

pub output_later : (outputs : List Output) (o : Option Command) (n : ℕ) → (later : List Output) × (with_output outputs o n ≡ outputs ++ later)
output_later outputs None n = ([], sym (append-nil outputs))
output_later outputs (Some command) n = (record { octets = frame_of command; after = n } ∷ [], refl)

change_later : (changes : List Change) (k : Option Change) → (later : List Change) × (with_change changes k ≡ changes ++ later)
change_later changes None = ([], sym (append-nil changes))
change_later changes (Some k) = (k ∷ [], refl)

pub replay_step : (r x : Register) (ks : List Change) (k : Option Change) → apply_all r ks ≡ Ok x → Allows x k → apply_all r (with_change ks k) ≡ Ok (register_after x k)
replay_step r x ks None h allows = h
replay_step r x ks (Some k) h allows = apply_all-push r x ks k h ∙ allows

pub counted_more : (m n : ℕ) (outputs : List Output) → m ≤ n → Counted m outputs → Counted n outputs
counted_more m n [] le h = tt
counted_more m n (o ∷ outputs) le h = (let p = h.0 in omega arith, counted_more m n outputs le h.1)

counted_push : (n : ℕ) (outputs : List Output) (o : Output) → o.after ≤ n → Counted n outputs → Counted n (outputs ++ o ∷ [])
counted_push n [] o le h = (le, tt)
counted_push n (x ∷ outputs) o le h = (h.0, counted_push n outputs o le h.1)

pub counted_output : (n : ℕ) (outputs : List Output) (o : Option Command) → Counted n outputs → Counted n (with_output outputs o n)
counted_output n outputs None h = h
counted_output n outputs (Some command) h = counted_push n outputs (record { octets = frame_of command; after = n }) (omega arith) h

pub more_changes : (ks : List Change) (k : Option Change) → length ks ≤ length (with_change ks k)
more_changes ks None = omega arith
more_changes ks (Some k) = omega (arith, length-append ks (k ∷ []))

-- a session before its first step
pub sound_start : (setting : Setting) (r : Register) → IsSound r → Sound r (started setting r)
sound_start setting r sound = record { replay = refl; counted = tt; suits = opening_suits r setting.called sound }

sound_step : (r : Register) (c : Course) (s : Step) → (Suits c.phase c.register → Proceeds c.register s) → Sound r c → Sound r (advance c s)
unfolding advance
sound_step r c s proceeds h =
    let p = proceeds h.suits in
    let changes = with_change c.changes s.change in
    record {
      replay = replay_step r c.register c.changes s.change h.replay p.allowed;
      counted = counted_output (length changes) c.outputs s.output (counted_more (length c.changes) (length changes) c.outputs (more_changes c.changes s.change) h.counted);
      suits = p.suits;
    }

pub grows_step : (c : Course) (s : Step) → (Suits c.phase c.register → Proceeds c.register s) → Grows c (advance c s)
unfolding advance
grows_step c s proceeds =
    let o = output_later c.outputs s.output (length (with_change c.changes s.change)) in
    let k = change_later c.changes s.change in
    record { later_outputs = o.0; outputs = o.1; later_changes = k.0; changes = k.1; sound = λ r h. sound_step r c s proceeds h }

pub phase_step : (c : Course) (s : Step) → (advance c s).phase ≡ s.phase
unfolding advance
phase_step c s = refl

pub octets-append : (xs ys : List Output) → octets_of (xs ++ ys) ≡ octets_of xs ++ octets_of ys
octets-append [] ys = refl
octets-append (x ∷ xs) ys = ap (λ (z : List ℕ). x.octets ++ z) (octets-append xs ys) ∙ sym (append_assoc x.octets (octets_of xs) (octets_of ys))

pub stopped_before : (limit : Option ℕ) (c d : Course) → Grows c d → is_stopped limit d ≡ false → is_stopped limit c ≡ false
unfolding is_stopped
stopped_before None c d g h = refl
stopped_before (Some n) c d g h =
    let most = ltb-false n (length (octets_of d.outputs)) h in
    let before = octets_of c.outputs in
    let later = octets_of g.later_outputs in
    let all : octets_of d.outputs ≡ before ++ later = ap octets_of g.outputs ∙ octets-append c.outputs g.later_outputs in
    let long : length (octets_of d.outputs) ≡ length before + length later = ap (λ (x : List ℕ). length x) all ∙ length-append before later in
    le-ltb n (length (octets_of c.outputs)) (omega arith)

-- tests

same_then : {A : Type 0} (b : Bool) (x y z : A) → (b ≡ true → x ≡ y) → cond b x z ≡ cond b y z
same_then true x y z h = h refl
same_then false x y z h = refl

same_else : {A : Type 0} (b : Bool) (x y z : A) → (b ≡ false → x ≡ y) → cond b z x ≡ cond b z y
same_else true x y z h = refl
same_else false x y z h = h refl

cond_same : {A : Type 0} (b : Bool) (x : A) → cond b x x ≡ x
cond_same true x = refl
cond_same false x = refl

then_at : {A : Type 0} (b : Bool) (x z : A) → b ≡ true → cond b x z ≡ x
then_at b x z h = ap (λ (t : Bool). cond t x z) h

else_at : {A : Type 0} (b : Bool) (x z : A) → b ≡ false → cond b x z ≡ z
else_at b x z h = ap (λ (t : Bool). cond t x z) h

-- turns

due_at_turn : (c : Course) → has_turn c.phase ≡ true → turns_due (turned_in c).phase < turns_due c.phase
due_at_turn c h = subst (λ (p : Phase). turns_due p < turns_due c.phase) (sym (phase_step c (turned c.setting c.phase c.register))) (turn_falls c.setting c.phase c.register h)

-- whether a turn is due and may be taken
abbrev goes : Option ℕ → Course → Bool
goes limit c = has_turn c.phase && not (is_stopped limit c)

-- a course without a due turn makes none
none_due : (limit : Option ℕ) (c d : Course) → turns_due c.phase ≤ 0 → cond (goes limit c) d c ≡ c
none_due limit c d none =
    same_then (goes limit c) d c c (λ t. let h = due_at_turn c (and_parts _ _ t).0 in absurd (omega arith)) ∙ cond_same (goes limit c) c

turns_enough : (n m : ℕ) (limit : Option ℕ) (c : Course) → turns_due c.phase ≤ n → turns_due c.phase ≤ m → turns n limit c ≡ turns m limit c
unfolding turns
turns_enough zero zero limit c p q = refl
turns_enough zero (suc m) limit c p q = sym (none_due limit c (turns m limit (turned_in c)) p)
turns_enough (suc n) zero limit c p q = none_due limit c (turns n limit (turned_in c)) q
turns_enough (suc n) (suc m) limit c p q =
    let d = turned_in c in
    same_then (goes limit c) (turns n limit d) (turns m limit d) c
    (λ t. let h = due_at_turn c (and_parts _ _ t).0 in turns_enough n m limit d (omega arith) (omega arith))

-- a due turn is made first
pub settle_turn : (limit : Option ℕ) (c : Course) → has_turn c.phase ≡ true → is_stopped limit c ≡ false → settled limit c ≡ settled limit (turned_in c)
unfolding settled turns
settle_turn limit c h s =
    let due = due_at_turn c h in
    turns_enough (turns_due c.phase) (suc (turns_due c.phase)) limit c (omega arith) (omega arith)
    ∙ then_at (has_turn c.phase && not (is_stopped limit c)) (turns (turns_due c.phase) limit (turned_in c)) c (rw (h, s) refl)
    ∙ turns_enough (turns_due c.phase) (turns_due (turned_in c).phase) limit (turned_in c) (omega arith) (omega arith)

quiet_turns : (n : ℕ) (limit : Option ℕ) (c : Course) → (has_turn c.phase && not (is_stopped limit c)) ≡ false → turns n limit c ≡ c
unfolding turns
quiet_turns zero limit c h = refl
quiet_turns (suc n) limit c h = else_at (has_turn c.phase && not (is_stopped limit c)) (turns n limit (turned_in c)) c h

pub settle_none : (limit : Option ℕ) (c : Course) → has_turn c.phase ≡ false → settled limit c ≡ c
unfolding settled
settle_none limit c h = quiet_turns (turns_due c.phase) limit c (rw h refl)

pub settle_stopped : (limit : Option ℕ) (c : Course) → is_stopped limit c ≡ true → settled limit c ≡ c
unfolding settled
settle_stopped limit c h = quiet_turns (turns_due c.phase) limit c (and_right (has_turn c.phase) (not (is_stopped limit c)) (ap not h))

turns_grow : (n : ℕ) (limit : Option ℕ) (c : Course) → Grows c (turns n limit c)
unfolding turns
turns_grow zero limit c = grows_none c
turns_grow (suc n) limit c =
    let step = grows_step c (turned c.setting c.phase c.register) (turned_proceeds c.setting c.phase c.register) in
    grows_either c (turns n limit (turned_in c)) c (goes limit c) (grows_on c (turned_in c) _ step (turns_grow n limit (turned_in c))) (grows_none c)

settled_grows : (limit : Option ℕ) (c : Course) → Grows c (settled limit c)
unfolding settled
settled_grows limit c = turns_grow (turns_due c.phase) limit c

-- runs

front_same : (n m : ℕ) (limit : Option ℕ) (s : List ℕ) (c : Course) (f : Head)
    → IsWithin (length s) f → ((t : List ℕ) (d : Course) → length t < length s → run_by n limit t d ≡ run_by m limit t d)
    → on_front (run_by n limit) s c f ≡ on_front (run_by m limit) s c f
unfolding on_front
front_same n m limit s c (Whole k) w h = h (drop k s) (came_in c (command_in k s)) (omega (arith, w.0, w.1, length-drop k s))
front_same n m limit s c Waits w h = refl
front_same n m limit s c (Bad fault) w h = refl

pub run_enough : (n m : ℕ) (limit : Option ℕ) (s : List ℕ) (c : Course) → length s < n → length s < m → run_by n limit s c ≡ run_by m limit s c
unfolding run_by next_in
run_enough zero m limit s c p q = absurd (omega arith)
run_enough (suc n) zero limit s c p q = absurd (omega arith)
run_enough (suc n) (suc m) limit s c p q =
    let d = settled limit c in
    same_else (is_over d.phase || is_stopped limit d) _ _ d
    (λ t. front_same n m limit s d (front LONGEST_FRAME s) (front_within LONGEST_FRAME s) (λ t e l. run_enough n m limit t e (omega arith) (omega arith)))

from_settled : (limit : Option ℕ) (s : List ℕ) (c d : Course) → settled limit c ≡ settled limit d → run limit s c ≡ run limit s d
unfolding run run_by
from_settled limit s c d e = ap (next_in limit (run_by (length s) limit) s) e

-- a due turn
pub run_turn : (limit : Option ℕ) (s : List ℕ) (c : Course) → has_turn c.phase ≡ true → is_stopped limit c ≡ false → run limit s c ≡ run limit s (turned_in c)
run_turn limit s c h stopped = from_settled limit s c (turned_in c) (settle_turn limit c h stopped)

at_settled : (limit : Option ℕ) (s : List ℕ) (c : Course) → settled limit c ≡ c → run limit s c ≡ next_in limit (run_by (length s) limit) s c
unfolding run run_by
at_settled limit s c e = ap (next_in limit (run_by (length s) limit) s) e

-- the next command
pub run_frame : (limit : Option ℕ) (s : List ℕ) (c : Course) (n : ℕ)
    → has_turn c.phase ≡ false → is_over c.phase ≡ false → is_stopped limit c ≡ false → front LONGEST_FRAME s ≡ Whole n
    → run limit s c ≡ run limit (drop n s) (came_in c (command_in n s))
unfolding next_in on_front run
run_frame limit s c n turn over stopped whole =
    let within : IsWithin (length s) (Whole n) = subst (IsWithin (length s)) whole (front_within LONGEST_FRAME s) in
    at_settled limit s c (settle_none limit c turn)
    ∙ else_at (is_over c.phase || is_stopped limit c) c (on_front (run_by (length s) limit) s c (front LONGEST_FRAME s)) (rw (over, stopped) refl)
    ∙ ap (on_front (run_by (length s) limit) s c) whole
    ∙ run_enough (length s) (suc (length (drop n s))) limit (drop n s) (came_in c (command_in n s)) (omega (arith, within.0, within.1, length-drop n s)) (omega arith)

-- no header where one is expected
pub run_bad : (limit : Option ℕ) (s : List ℕ) (c : Course) (fault : _)
    → has_turn c.phase ≡ false → is_over c.phase ≡ false → is_stopped limit c ≡ false → front LONGEST_FRAME s ≡ Bad fault
    → run limit s c ≡ advance c (fails ProtocolViolation)
unfolding next_in on_front
run_bad limit s c fault turn over stopped bad =
    at_settled limit s c (settle_none limit c turn)
    ∙ else_at (is_over c.phase || is_stopped limit c) c (on_front (run_by (length s) limit) s c (front LONGEST_FRAME s)) (rw (over, stopped) refl)
    ∙ ap (on_front (run_by (length s) limit) s c) bad

-- octets that aren't a whole frame
pub run_waits : (limit : Option ℕ) (s : List ℕ) (c : Course) → has_turn c.phase ≡ false → front LONGEST_FRAME s ≡ Waits → run limit s c ≡ c
unfolding next_in on_front
run_waits limit s c turn waits =
    at_settled limit s c (settle_none limit c turn)
    ∙ ap (λ (f : Head). cond (is_over c.phase || is_stopped limit c) c (on_front (run_by (length s) limit) s c f)) waits
    ∙ cond_same (is_over c.phase || is_stopped limit c) c

-- a session that is over
pub run_over : (limit : Option ℕ) (s : List ℕ) (c : Course) → is_over c.phase ≡ true → run limit s c ≡ c
unfolding next_in
run_over limit s c over =
    at_settled limit s c (settle_none limit c (over_no_turn c.phase over))
    ∙ then_at (is_over c.phase || is_stopped limit c) c (on_front (run_by (length s) limit) s c (front LONGEST_FRAME s)) (rw over refl)

-- a session whose writer has stopped
pub run_stopped : (limit : Option ℕ) (s : List ℕ) (c : Course) → is_stopped limit c ≡ true → run limit s c ≡ c
unfolding next_in
run_stopped limit s c stopped =
    at_settled limit s c (settle_stopped limit c stopped)
    ∙ then_at (is_over c.phase || is_stopped limit c) c (on_front (run_by (length s) limit) s c (front LONGEST_FRAME s)) (or_right (is_over c.phase) (is_stopped limit c) stopped)

front_grows : (go_on : List ℕ → Course → Course) (s : List ℕ) (d : Course) (f : Head) → ((t : List ℕ) (e : Course) → Grows e (go_on t e)) → Grows d (on_front go_on s d f)
unfolding on_front
front_grows go_on s d (Whole k) h =
    let step = grows_step d _ (step_proceeds d.setting d.phase d.register (command_of (command_in k s))) in
    grows_on d (came_in d (command_in k s)) _ step (h (drop k s) (came_in d (command_in k s)))
front_grows go_on s d Waits h = grows_none d
front_grows go_on s d (Bad fault) h = grows_step d (fails ProtocolViolation) (fails_proceed d.phase d.register ProtocolViolation)

run_by_grows : (n : ℕ) (limit : Option ℕ) (s : List ℕ) (c : Course) → Grows c (run_by n limit s c)
unfolding run_by next_in
run_by_grows zero limit s c = grows_none c
run_by_grows (suc n) limit s c =
    let d = settled limit c in
    let next = front_grows (run_by n limit) s d (front LONGEST_FRAME s) (run_by_grows n limit) in
    grows_on c d _ (settled_grows limit c) (grows_either d d _ (is_over d.phase || is_stopped limit d) (grows_none d) next)

-- what is out stays out
pub run_grows : (limit : Option ℕ) (s : List ℕ) (c : Course) → Grows c (run limit s c)
unfolding run
run_grows limit s c = run_by_grows (suc (length s)) limit s c
