-- A session with another partner leaves the files of every partner of whom it accepts no SSID.
use Rattle.std.proofs.Common.{◌≡◌, ◌≢◌, ℕ, zero, suc, ◌≤◌, ◌&&◌, ◌||◌, not, Bool, true, false, cond, List, [], ◌∷◌, length, take, Option, None, Some, Result, Ok, Err, refl, ap, sym, ◌∙◌, subst, inl, inr, arith}
use Rattle.std.proofs.lemmas.Bool.{cases_lt, cond-true}
use Rattle.std.proofs.lemmas.List.{take_all}
use Rattle.std.proofs.lemmas.Slice.Eq.{bytes_eq-Decides}
use Rattle.std.specs.List.{AllByRecursion}
use Rattle.std.specs.Result.{result_unwrap_or}
use Rattle.std.specs.Str.{bytes_eq}
use Rattle.oftp_codec.specs.Kinds.{command_of}
use Rattle.oftp_wire.specs.Reasons.{reason_of}
use Rattle.oftp_wire.specs.declared.command.Command.{Command}
use Rattle.oftp_wire.specs.declared.command.Command.TheVariants as command
use Rattle.oftp_wire.specs.declared.command.Ssid.{Ssid}
use Rattle.oftp_wire.specs.declared.fault.WireFault.{WireFault}
use Rattle.oftp_codec.specs.declared.frame_fault.FrameFault.{FrameFault}
use Rattle.oftp_wire.specs.declared.reason.SessionReason.{SessionReason}
use Rattle.oftp_wire.specs.declared.reason.SessionReason.TheVariants.{CommandNotRecognised, ProtocolViolation}
use Rattle.oftp_register.specs.declared.change.Cause.{Cause}
use Rattle.oftp_register.specs.declared.change.Change.{Change}
use Rattle.oftp_register.specs.Register.{Register}
use Rattle.oftp_register.specs.Changes.{apply_all}
use Rattle.oftp_register.specs.Soundness.{IsSound}
use Rattle.oftp_register.proofs.NumberLemmas.{one_result}
use Rattle.oftp_session.specs.Opening.{Agreement, ssid_verdict}
use Rattle.oftp_session.specs.Settings.{Setting}
use Rattle.oftp_session.specs.Phases.{Step, fails, is_over, register_after}
use Rattle.oftp_session.specs.Steps.{Suits, has_turn, turned, turns_due}
use Rattle.oftp_session.specs.Calls.{Allows, Proceeds}
use Rattle.oftp_session.proofs.Proceeding.{turned_proceeds}
use Rattle.oftp_engine.specs.Events.{IsWithAnother, SessionsAreDealings}
use Rattle.oftp_engine.specs.Frames.{over_commands, with_fault}
use Rattle.oftp_engine.specs.Parts.{SessionData, course_of}
use Rattle.oftp_engine.specs.Progress.{Sound}
use Rattle.oftp_engine.specs.Runs.{Course, advance, came_in, is_stopped, refusal, settled, started, step_on, turned_in, turns}
use Rattle.oftp_engine.specs.TwoStations.{IfAny}
use Rattle.oftp_engine.specs.World.{World, Deals, LeavesFilesOf, Dealings, happens, happens_in, left_after, without_session}
use Rattle.oftp_engine.proofs.About.{LetsIn, IsAbout, IsAboutStep, IsOfPartner, came_about, fails_about, opening_about, turned_about}
use Rattle.oftp_engine.proofs.Apart.{apart_push, apart_self}
use Rattle.oftp_engine.proofs.Courses.{grows_step, sound_start}
use Rattle.oftp_engine.proofs.Folding.{folds_all}
use Rattle.oftp_engine.proofs.Phases.{fails_proceed, step_proceeds}
use Rattle.oftp_engine.proofs.Prefixes.{AfterEach, after_all, after_more}
use Rattle.oftp_engine.proofs.Stops.{from_result}

-- a course with another partner: after each prefix of the changes the register is apart
pub record IsApartCourse (code : List ℕ) (start : Register) (c : Course) : Type 0 where
  pub sound : Sound start c
  pub about : IsAbout (λ x. x ≢ code) c.setting.book.station.code c.register c.phase
  pub before : AfterEach (LeavesFilesOf code start) start c.changes

-- octets of a command that is no SSID with the code, or one that isn't accepted
abbrev pub NamesAnother : List ℕ → Setting → List ℕ → Type 0
NamesAnother code setting m = (ssid : Ssid) (a : Agreement) → command_of m ≡ Ok (command.Ssid ssid) → ssid_verdict setting ssid ≡ Ok a → ssid.code ≢ code

-- the setting of a session stays
turned_same : (c : Course) → (turned_in c).setting ≡ c.setting
unfolding advance
turned_same c = refl

turns_same : (n : ℕ) (limit : Option ℕ) (c : Course) → (turns n limit c).setting ≡ c.setting
unfolding turns
turns_same zero limit c = refl
turns_same (suc n) limit c = by (has_turn c.phase && not (is_stopped limit c)) (turns n limit (turned_in c)) (turns_same n limit (turned_in c) ∙ turned_same c)
  where
    by : (b : Bool) (x : Course) → x.setting ≡ c.setting → (cond b x c).setting ≡ c.setting
    by true x h = h
    by false x h = refl

settled_same : (limit : Option ℕ) (c : Course) → (settled limit c).setting ≡ c.setting
unfolding settled
settled_same limit c = turns_same (turns_due c.phase) limit c

came_same : (c : Course) (m : List ℕ) → (came_in c m).setting ≡ c.setting
unfolding advance
came_same c m = refl

module _ (code : List ℕ) (start : Register) where
  -- the register now
  apart_now : (c : Course) → IsApartCourse code start c → LeavesFilesOf code start c.register
  apart_now c h = after_all (LeavesFilesOf code start) start c.changes c.register h.sound.replay h.before

  -- a step
  apart_made : (r : Register) (change : Option Change) → LeavesFilesOf code start r → Allows r change → IfAny change (IsOfPartner (λ x. x ≢ code) r) → IsSound (register_after r change)
      → LeavesFilesOf code start (register_after r change)
  apart_made r None h allowed of sound = h
  apart_made r (Some k) h allowed of sound = apart_push code start r (register_after r (Some k)) k h of allowed sound

  apart_step : (c : Course) (step : Step) → (Suits c.phase c.register → Proceeds c.register step)
      → (Suits c.phase c.register → IsAbout (λ x. x ≢ code) c.setting.book.station.code c.register c.phase
      → IsAboutStep (λ x. x ≢ code) c.setting.book.station.code c.register step)
      → IsApartCourse code start c → IsApartCourse code start (advance c step)
  unfolding advance
  apart_step c step proceeds about h =
      let suits = h.sound.suits in
      let p = proceeds suits in
      let a = about suits h.about in
      let sound = (grows_step c step proceeds).sound start h.sound in
      let now = apart_made c.register step.change (apart_now c h) p.allowed a.change p.suits.sound in
      record {
        sound = sound;
        about = a.phase;
        before = after_more (LeavesFilesOf code start) start c.changes step.change (register_after c.register step.change) sound.replay now h.before;
      }

  -- the turns that are due
  apart_turns : (n : ℕ) (limit : Option ℕ) (c : Course) → IsApartCourse code start c → IsApartCourse code start (turns n limit c)
  unfolding turns
  apart_turns zero limit c h = h
  apart_turns (suc n) limit c h =
      let step = apart_step c (turned c.setting c.phase c.register) (turned_proceeds c.setting c.phase c.register)
      (λ suits was. turned_about (λ x. x ≢ code) c.setting c.phase c.register suits.sound suits.holds was) h in
      either (has_turn c.phase && not (is_stopped limit c)) (turns n limit (turned_in c)) c (apart_turns n limit (turned_in c) step) h
    where
      either : (b : Bool) (x y : Course) → IsApartCourse code start x → IsApartCourse code start y → IsApartCourse code start (cond b x y)
      either true x y h k = h
      either false x y h k = k

  apart_settled : (limit : Option ℕ) (c : Course) → IsApartCourse code start c → IsApartCourse code start (settled limit c)
  unfolding settled
  apart_settled limit c h = apart_turns (turns_due c.phase) limit c h

  -- a command that arrives
  refusal_about : (own : List ℕ) (r : Register) (reason : Option SessionReason) → IsAboutStep (λ x. x ≢ code) own r (refusal reason)
  refusal_about own r None = fails_about (λ x. x ≢ code) own r CommandNotRecognised
  refusal_about own r (Some reason) = fails_about (λ x. x ≢ code) own r reason

  lets_other : (setting : Setting) (m : List ℕ) → NamesAnother code setting m → (found : Command) → command_of m ≡ Ok found → LetsIn (λ x. x ≢ code) setting found
  lets_other setting m names (command.Ssid ssid) e = λ a accepts. names ssid a e accepts
  lets_other setting m names _ e = tt

  apart_came : (c : Course) (m : List ℕ) → NamesAnother code c.setting m → IsApartCourse code start c → IsApartCourse code start (came_in c m)
  apart_came c m names h =
      apart_step c (step_on c.setting c.phase c.register (command_of m)) (step_proceeds c.setting c.phase c.register (command_of m)) (λ suits was. by suits was (command_of m) refl) h
    where
      by : Suits c.phase c.register → IsAbout (λ x. x ≢ code) c.setting.book.station.code c.register c.phase → (found : Result Command WireFault) → command_of m ≡ found
          → IsAboutStep (λ x. x ≢ code) c.setting.book.station.code c.register (step_on c.setting c.phase c.register found)
      by suits was (Ok k) e = came_about (λ x. x ≢ code) c.setting c.phase c.register k suits.holds (lets_other c.setting m names k e) was
      by suits was (Err fault) e = refusal_about c.setting.book.station.code c.register (reason_of fault)

  apart_rest : (c : Course) (fault : Option FrameFault) → IsApartCourse code start c → IsApartCourse code start (with_fault c fault)
  apart_rest c None h = h
  apart_rest c (Some fault) h =
      apart_step c (fails ProtocolViolation) (fails_proceed c.phase c.register ProtocolViolation)
      (λ suits was. fails_about (λ x. x ≢ code) c.setting.book.station.code c.register ProtocolViolation) h

  apart_over : (setting : Setting) (limit : Option ℕ) (commands : List (List ℕ)) (fault : Option FrameFault) (c : Course) → c.setting ≡ setting → AllByRecursion (NamesAnother code setting) commands
      → IsApartCourse code start c → IsApartCourse code start (over_commands limit commands fault c)
  apart_over setting limit [] fault c same names h = by (is_over d.phase || is_stopped limit d)
    where
      d : Course
      d = settled limit c

      by : (b : Bool) → IsApartCourse code start (cond b d (with_fault d fault))
      by true = apart_settled limit c h
      by false = apart_rest d fault (apart_settled limit c h)
  apart_over setting limit (m ∷ ms) fault c same names h =
      by (λ k. apart_over setting limit ms fault (came_in (settled limit c) m) (came_same (settled limit c) m ∙ settled_same limit c ∙ same) names.1 k)
      (is_over (settled limit c).phase || is_stopped limit (settled limit c))
    where
      d : Course
      d = settled limit c

      by : (IsApartCourse code start (came_in d m) → IsApartCourse code start (over_commands limit ms fault (came_in d m)))
          → (b : Bool) → IsApartCourse code start (cond b d (over_commands limit ms fault (came_in d m)))
      by later true = apart_settled limit c h
      by later false = later (apart_came d m (subst (λ x. NamesAnother code x m) (sym (settled_same limit c ∙ same)) names.0) (apart_settled limit c h))

-- a session before its first step
first_apart : (code : List ℕ) (setting : Setting) (r : Register) → IsSound r → IsApartCourse code r (started setting r)
first_apart code setting r sound = record {
  sound = sound_start setting r sound;
  about = opening_about (λ x. x ≢ code) setting.book.station.code r setting.called;
  before = none;
}
  where
    none : (n : ℕ) (s : Register) → n ≤ 0 → apply_all r (take n []) ≡ Ok s → LeavesFilesOf code r s
    none zero s within made = let same : r ≡ s = (let both : (let x : Result Register Cause = Ok r in x) ≡ Ok s = made in cc) in subst (LeavesFilesOf code r) same (apart_self code r)
    none (suc n) s within made = absurd (omega (arith, within))

session_apart : (code : List ℕ) (session : SessionData) (r : Register) → IsWithAnother code session.setting session.stream → IsSound r → IsApartCourse code r (course_of session r)
session_apart code session r others sound =
    let first = started session.setting r in
    let same = folds_all session.limit session.stream others.commands others.fault first others.octets others.reads in
    subst (IsApartCourse code r) (sym same) (apart_over code r session.setting session.limit others.commands others.fault first refl others.others (first_apart code session.setting r sound))

-- what a crash leaves of it
left_apart : (code : List ℕ) (start : Register) (c : Course) (n : ℕ) → IsApartCourse code start c → LeavesFilesOf code start (left_after start c n)
left_apart code start c n h =
    let made = from_result (Ok start) n c.changes c.register h.sound.replay in
    let is : left_after start c n ≡ made.0 = ap (λ (x : Result Register Cause). result_unwrap_or x c.register) made.1 in
    subst (LeavesFilesOf code start) (sym is) (elim (cases_lt (length c.changes) n) [
      | inl over ↦ (
          let all : take n c.changes ≡ c.changes = take_all n c.changes (omega (arith, over)) in
          subst (LeavesFilesOf code start) (one_result (apply_all start c.changes) c.register made.0 h.sound.replay (ap (apply_all start) (sym all) ∙ made.1)) (apart_now code start c h))
      | inr within ↦ h.before n made.0 within made.1
    ])

pub sessions_are_dealings : SessionsAreDealings
unfolding without_session
sessions_are_dealings w session least made left none others is = (dealings, happened ∙ there)
  where
    dealings : Dealings
    dealings = record {
      without = w.other.book.station.code;
      left = λ r. left_after r (course_of session r) is.count;
      is = λ r sound. left_apart w.other.book.station.code r (course_of session r) is.count (session_apart w.other.book.station.code session r others sound);
    }

    happened : happens w (Deals dealings) ≡ happens_in w (Deals dealings) None
    happened = ap (happens_in w (Deals dealings)) none

    same : left_after w.one.start (course_of session w.one.start) is.count ≡ left
    same = ap (λ (x : Result Register Cause). result_unwrap_or x (course_of session w.one.start).register) is.replay ∙ is.holds

    there : happens_in w (Deals dealings) None ≡ record w { one = record w.one { start = left } }
    there =
        cond-true (bytes_eq w.other.book.station.code w.other.book.station.code) (record w { one = record w.one { start = left_after w.one.start (course_of session w.one.start) is.count } }) w
        ((bytes_eq-Decides w.other.book.station.code w.other.book.station.code).1 refl)
        ∙ ap (λ (r : Register). let v : World = record w { one = record w.one { start = r } } in v) same
