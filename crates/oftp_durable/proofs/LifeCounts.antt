-- Each Restart position that the sessions of a life answer was kept.
use Rattle.std.proofs.Common.{◌≡◌, ◌∙◌, sym, ap, subst, arith, ℕ, zero, suc, ◌≤◌, List, [], ◌∷◌, ◌++◌, length, take, Option, None, Some, Result, Ok, inl, inr, length-append}
use Rattle.std.proofs.lemmas.Bool.{cases_lt}
use Rattle.std.proofs.lemmas.List.{take-append-le, take_all}
use Rattle.oftp_codec.specs.Kinds.{command_of}
use Rattle.oftp_wire.specs.declared.reason.SessionReason.TheVariants.{ProtocolViolation}
use Rattle.oftp_register.specs.declared.change.Cause.{Cause}
use Rattle.oftp_register.specs.declared.change.Change.{Change}
use Rattle.oftp_register.specs.Changes.{apply_all}
use Rattle.oftp_register.specs.Register.{Register}
use Rattle.oftp_register.specs.Soundness.{IsSound}
use Rattle.oftp_register.proofs.KeepLemmas.{apply_keeps}
use Rattle.oftp_register.proofs.NumberLemmas.{one_result}
use Rattle.oftp_session.specs.Calls.{Proceeds}
use Rattle.oftp_session.specs.Phases.{Step, fails, register_after}
use Rattle.oftp_session.specs.Settings.{Setting}
use Rattle.oftp_session.specs.Steps.{Suits, turned}
use Rattle.oftp_session.proofs.Proceeding.{turned_proceeds}
use Rattle.oftp_engine.specs.Progress.{Sound}
use Rattle.oftp_engine.specs.Runs.{Course, advance, run, started, step_on, with_change}
use Rattle.oftp_engine.specs.TwoStations.{IfAny}
use Rattle.oftp_engine.proofs.Courses.{grows_step, sound_start}
use Rattle.oftp_engine.proofs.EachStep.{run_keeps}
use Rattle.oftp_engine.proofs.Orders.{IsOrder, deed_ordered}
use Rattle.oftp_engine.proofs.Phases.{fails_proceed, step_proceeds}
use Rattle.oftp_life.specs.Acts.{Act, Conversed, Ordered}
use Rattle.oftp_life.specs.LifeParts.{session_over}
use Rattle.oftp_life.specs.Reaches.{ActMakes, Covers, Reaches}
use Rattle.oftp_durable.specs.LifeTables.{ActIsKept, ActsAreKept, LifeIsKept}
use Rattle.oftp_durable.proofs.Counts.{no_answer_passes}

-- a course from a register: the register after each prefix of its changes is sound
record IsSoundCourse (start : Register) (c : Course) : Type 0 where
  sound : Sound start c
  before : (n : ℕ) (s : Register) → n ≤ length c.changes → apply_all start (take n c.changes) ≡ Ok s → IsSound s

module _ (start : Register) where
  -- one change more
  more_before : (list : List Change) (change : Option Change) (now : Register) → apply_all start (with_change list change) ≡ Ok now → IsSound now
      → ((n : ℕ) (s : Register) → n ≤ length list → apply_all start (take n list) ≡ Ok s → IsSound s)
      → (n : ℕ) (s : Register) → n ≤ length (with_change list change) → apply_all start (take n (with_change list change)) ≡ Ok s → IsSound s
  more_before list None now replay sound before n s within made = before n s within made
  more_before list (Some change) now replay sound before n s within made = elim (cases_lt (length list) n) [
    | inl over ↦ (
        let longer = list ++ change ∷ [] in
        let all : take n longer ≡ longer = take_all n longer (omega (arith, over, length-append list (change ∷ []))) in
        subst IsSound (one_result (apply_all start longer) now s replay (ap (apply_all start) (sym all) ∙ made)) sound)
    | inr under ↦ before n s under (ap (apply_all start) (sym (take-append-le n list (change ∷ []) under)) ∙ made)
  ]

  step_keeps : (c : Course) (step : Step) → (Suits c.phase c.register → Proceeds c.register step) → IsSoundCourse start c → IsSoundCourse start (advance c step)
  unfolding advance
  step_keeps c step proceeds h =
      let p = proceeds h.sound.suits in
      let sound = (grows_step c step proceeds).sound start h.sound in
      record {
        sound = sound;
        before = more_before c.changes step.change (register_after c.register step.change) sound.replay p.suits.sound h.before;
      }

  -- before its first step
  first_course : (setting : Setting) → IsSound start → IsSoundCourse start (started setting start)
  first_course setting sound = record { sound = sound_start setting start sound; before = none }
    where
      none : (n : ℕ) (s : Register) → n ≤ 0 → apply_all start (take n []) ≡ Ok s → IsSound s
      none zero s within made = let same : start ≡ s = (let both : (let x : Result Register Cause = Ok start in x) ≡ Ok s = made in cc) in subst IsSound same sound
      none (suc n) s within made = absurd (omega (arith, within))

  run_course : (setting : Setting) (given : List ℕ) (stop : Option ℕ) → IsSound start → IsSoundCourse start (run stop given (started setting start))
  run_course setting given stop sound =
      run_keeps (IsSoundCourse start)
      (λ c h. step_keeps c (turned c.setting c.phase c.register) (turned_proceeds c.setting c.phase c.register) h)
      (λ c octets h. step_keeps c (step_on c.setting c.phase c.register (command_of octets)) (step_proceeds c.setting c.phase c.register (command_of octets)) h)
      (λ c h. step_keeps c (fails ProtocolViolation) (fails_proceed c.phase c.register ProtocolViolation) h)
      stop given (started setting start) (first_course setting sound)

  -- a session leaves a sound register, wherever it stops
  prefix_sound : (setting : Setting) (given : List ℕ) (stop : Option ℕ) (n : ℕ) (after : Register) → IsSound start
      → apply_all start (take n (run stop given (started setting start)).changes) ≡ Ok after → IsSound after
  prefix_sound setting given stop n after sound made =
      let changes = (run stop given (started setting start)).changes in
      let course = run_course setting given stop sound in
      elim (cases_lt (length changes) n) [
        | inl over ↦
            let all : take n changes ≡ take (length changes) changes = take_all n changes (omega (arith, over)) ∙ sym (take_all (length changes) changes (omega arith)) in
            course.before (length changes) after (omega arith) (ap (apply_all start) (sym all) ∙ made)
        | inr under ↦ course.before n after under made
      ]

-- so does an operator's call
order_sound : (change : Option Change) (r after : Register) → IsSound r → IfAny change IsOrder → apply_all r (with_change [] change) ≡ Ok after → IsSound after
order_sound None r after sound any made = let is : r ≡ after = cc in subst IsSound is sound
order_sound (Some k) r after sound order made = apply_keeps r k after sound (order.fit r) made

act_sound : (act : Act) (r after : Register) (changes : List Change) → ActMakes act r changes after → IsSound r → IsSound after
act_sound (Conversed setting heard said) r after changes h sound =
    elim h.how [
      | inl ran ↦
          let all = (run ran.stop heard (started setting r)).changes in
          prefix_sound r setting heard ran.stop (length all) after sound (ap (apply_all r) (take_all (length all) all (omega arith) ∙ sym ran.are) ∙ h.replay)
      | inr short ↦ prefix_sound r setting heard None short.made after sound (ap (apply_all r) (sym short.are) ∙ h.replay)
    ]
act_sound (Ordered book call) r after changes h sound =
    order_sound h.deed.change r after sound (deed_ordered book r call h.deed h.is) (ap (apply_all r) (sym h.are) ∙ h.replay)

-- the register after all acts is sound
pub acts_sound : (first : Register) (acts : List Act) (changes : List Change) (now : Register) → Reaches first acts changes now → IsSound first → IsSound now
acts_sound first [] changes now h sound = subst IsSound (sym h.1) sound
acts_sound first (act ∷ acts) changes now h sound = act_sound act h.at now h.more h.makes (acts_sound first acts h.before h.at h.reached sound)

act_kept : (act : Act) (r : Register) → IsSound r → ActIsKept act r
act_kept (Conversed setting heard said) r sound = λ stop. no_answer_passes (session_over setting heard stop) r sound
act_kept (Ordered book call) r sound = tt

acts_kept : (first : Register) (acts : List Act) (changes : List Change) (now : Register) (h : Reaches first acts changes now) → IsSound first → ActsAreKept first acts changes now h
acts_kept first [] changes now h sound = tt
acts_kept first (act ∷ acts) changes now h sound =
    (acts_kept first acts h.before h.at h.reached sound, act_kept act h.at (acts_sound first acts h.before h.at h.reached sound))

pub life_kept : (first : Register) (acts : List Act) (changes : List Change) (least : ℕ) (covers : Covers first acts changes least) → IsSound first → LifeIsKept first acts changes least covers
life_kept first acts changes least (inl all) sound = acts_kept first acts changes all.0 all.1 sound
life_kept first acts changes least (inr cut) sound = (
  acts_kept first cut.earlier cut.before cut.at cut.reached sound,
  act_kept cut.last cut.at (acts_sound first cut.earlier cut.before cut.at cut.reached sound),
)
