-- What a served session leaves, from how far it went.
use Rattle.std.proofs.Common.{◌≡◌, ℕ, zero, suc, ◌+◌, ◌-◌, ◌≤◌, ◌<◌, true, false, List, [], ◌∷◌, ◌++◌, length, take, drop, Option, None, Some, Ok, refl, sym, ap, ◌∙◌, ◌⊎◌, subst, arith, length-append, inl, inr}
use Rattle.std.proofs.Math.Seq.{take-add}
use Rattle.std.proofs.lemmas.List.{append-nil, take_at, drop_at}
use Rattle.std.proofs.lemmas.Bool.{le-ltb, lt-ltb}
use Rattle.oftp_codec.specs.Stream.{front}
use Rattle.oftp_codec.specs.Stream.{Waits}
use Rattle.oftp_register.specs.declared.change.Change.{Change}
use Rattle.oftp_register.specs.Register.{Register}
use Rattle.oftp_register.specs.Changes.{apply_all}
use Rattle.oftp_register.specs.Offices.{View, Only, WithOrWithout}
use Rattle.oftp_register.specs.Soundness.{IsSound}
use Rattle.oftp_session.specs.Phases.{framed, Step, register_after}
use Rattle.oftp_session.specs.Steps.{has_turn}
use Rattle.oftp_session.specs.Settings.{Setting}
use Rattle.oftp_session.specs.declared.session.Ending.{Ending}
use Rattle.oftp_session.specs.Calls.{Seen}
use Rattle.oftp_codec.specs.declared.limits.TheConstants.{LONGEST_FRAME}
use Rattle.oftp_engine.specs.declared.serving.RunFault.{RunFault}
use Rattle.oftp_engine.specs.declared.serving.RunFault.TheVariants as fault
use Rattle.oftp_engine.specs.Runs.{Course, Output, run, started, octets_of, answered, advance, is_stopped, with_change}
use Rattle.oftp_engine.specs.Serving.{Scene, Took, last_frame}
use Rattle.oftp_engine.specs.Progress.{Grows, Leads, Comes, Sound, Counted}
use Rattle.oftp_engine.specs.InsideServing.{Reaches, BreaksOff, OfficeFails, IsShort, Fails, IsOver}
use Rattle.oftp_engine.specs.Served.{whole, broken_off, IsPrefix, OfficeLeaves, IsWhole, IsBrokenOff, IsOfficeFault, IsOutOfMemory, ServesErr, StopsWithin}
use Rattle.oftp_engine.proofs.Courses.{grows_none, grows_on, grows_step, run_grows, run_over, run_waits, run_stopped, sound_start}
use Rattle.oftp_engine.proofs.Phases.{over_from}
use Rattle.oftp_engine.proofs.Progress.{octets_step}
use Rattle.oftp_engine.proofs.Stepping.{made_register}

-- The contracts of an office that is open and clean. Its register is sound, and if it is open a crash leaves this register and nothing
-- else.
pub record KeepsLaw (old new : View) : Type 0 where
  pub stood : old.stands
  pub sound : IsSound old.register
  pub alone : new.stands → Only new.register new

-- by the contracts of an office
pub lawful : {O : Type 0} (view : O → View) (sound : (o : O) → (view o).clean → (view o).stands → IsSound (view o).register)
    (alone : (o : O) → (view o).clean → (view o).stands → Only (view o).register (view o)) (old new : O)
    → (view old).clean → (view new).clean → (view old).stands → KeepsLaw (view old) (view new)
lawful view sound alone old new before now stood = record { stood = stood; sound = sound old before stood; alone = alone new now }

pub answered_most : (outputs : List Output) (n most : ℕ) → Counted most outputs → answered outputs n ≤ most
answered_most [] n most h = omega arith
answered_most (o ∷ outputs) zero most h = omega arith
answered_most (o ∷ outputs) (suc n) most h = let p = answered_most outputs (suc n - length o.octets) most h.1 in let q = h.0 in omega arith

pub run_sound : (limit : Option ℕ) (setting : Setting) (given : List ℕ) (r : Register) → IsSound r → Sound r (run limit given (started setting r))
run_sound limit setting given r sound = (run_grows limit given (started setting r)).sound r (sound_start setting r sound)

-- the register is the one after all the run's changes
pub replay_all : (limit : Option ℕ) (setting : Setting) (given : List ℕ) (r now : Register) → IsSound r → now ≡ (run limit given (started setting r)).register
    → apply_all r (run limit given (started setting r)).changes ≡ Ok now
replay_all limit setting given r now sound same = (run_sound limit setting given r sound).replay ∙ ap Ok (sym same)

-- the result of the run over all the octets
whole_is : (setting : Setting) (given t : List ℕ) (r : Register) (d : Course) → Leads (started setting r) given d t → run None (t ++ []) d ≡ d → whole setting given r ≡ d
unfolding is_stopped
whole_is setting given t r d leads e = ap (λ (x : List ℕ). run None x (started setting r)) (sym (append-nil given)) ∙ leads.same [] None refl ∙ e

-- the rest of it, from how far it went
rests_at : (setting : Setting) (given t : List ℕ) (r : Register) (d : Course) → Leads (started setting r) given d t → whole setting given r ≡ run None t d
unfolding is_stopped
rests_at setting given t r d leads =
    ap (λ (x : List ℕ). run None x (started setting r)) (sym (append-nil given)) ∙ leads.same [] None refl ∙ ap (λ (x : List ℕ). run None x d) (append-nil t)

pub whole_over : (setting : Setting) (given t : List ℕ) (seen : Seen) (old new : Scene) (end : Ending)
    (h : IsOver (started setting old.office.register) given t seen old new end)
    → whole setting given old.office.register ≡ h.come.at
whole_over setting given t seen old new end h = whole_is setting given t old.office.register h.come.at h.come.went.leads (run_over None (t ++ []) h.come.at (over_from h.come.at.phase end h.ends))

pub whole_waits : (setting : Setting) (given t : List ℕ) (seen : Seen) (old new : Scene) (h : Comes (started setting old.office.register) given t seen old new)
    → has_turn h.at.phase ≡ false → front LONGEST_FRAME t ≡ Waits → whole setting given old.office.register ≡ h.at
whole_waits setting given t seen old new h turn waits =
    let rests : run None (t ++ []) h.at ≡ h.at = ap (λ (x : List ℕ). run None x h.at) (append-nil t) ∙ run_waits None t h.at turn waits in
    whole_is setting given t old.office.register h.at h.went.leads rests

pub is_whole : (setting : Setting) (given t : List ℕ) (seen : Seen) (old new : Scene) (law : KeepsLaw old.office new.office)
    (h : Comes (started setting old.office.register) given t seen old new)
    → whole setting given old.office.register ≡ h.at → IsWhole setting given old new
is_whole setting given t seen old new law h e = record {
  out = subst (λ (x : List ℕ). Took old new x) (sym h.went.outputs ∙ ap (λ (c : Course). octets_of c.outputs) (sym e)) h.went.took;
  register = h.now.register ∙ ap (λ (c : Course). c.register) (sym e);
  replay = replay_all None setting given old.office.register new.office.register law.sound (h.now.register ∙ ap (λ (c : Course). c.register) (sym e));
  stands = h.went.stands law.stood;
  left = law.alone (h.went.stands law.stood);
  faults = h.went.faults;
  told = h.went.told;
}

-- the writer returned an error

not_stopped : (c : Course) (n : ℕ) → is_stopped (Some (length (octets_of c.outputs) + n)) c ≡ false
unfolding is_stopped
not_stopped c n = le-ltb (length (octets_of c.outputs) + n) (length (octets_of c.outputs)) (omega arith)

stopped_now : (c : Course) (s : Step) (n : ℕ) → n < length (framed s.output) → is_stopped (Some (length (octets_of c.outputs) + n)) (advance c s) ≡ true
unfolding is_stopped
stopped_now c s n lt =
    let before = octets_of c.outputs in
    let after = octets_of (advance c s).outputs in
    lt-ltb (length before + n) (length after) (omega (arith, ap (λ (x : List ℕ). length x) (octets_step c s), length-append before (framed s.output)))

pub take_past : {A : Type 0} (xs ys : List A) (n : ℕ) → take (length xs + n) (xs ++ ys) ≡ xs ++ take n ys
take_past {A = A} xs ys n =
    take-add (length xs) n (xs ++ ys)
    ∙ ap (λ (x : List A). x ++ take n (drop (length xs) (xs ++ ys))) (take_at xs ys (length xs) refl)
    ∙ ap (λ (x : List A). xs ++ take n x) (drop_at xs ys (length xs) refl)

pub is_broken_off : (setting : Setting) (given : List ℕ) (old new : Scene) (law : KeepsLaw old.office new.office)
    → BreaksOff (started setting old.office.register) given old new → IsBrokenOff setting given old new
is_broken_off setting given old new law h =
    let before : List ℕ = octets_of h.at.outputs in
    let taken : ℕ = length before + h.count in
    let end : Course = advance h.at h.step in
    let r = h.reaches.same [] (Some taken) (not_stopped h.at h.count) in
    let stopped = run_stopped (Some taken) r.0 end (stopped_now h.at h.step h.count h.short) in
    let e : broken_off setting taken given old.office.register ≡ end =
    ap (λ (x : List ℕ). run (Some taken) x (started setting old.office.register)) (sym (append-nil given)) ∙ r.1 ∙ stopped in
    let octets : octets_of (broken_off setting taken given old.office.register).outputs ≡ before ++ framed h.step.output = ap (λ (c : Course). octets_of c.outputs) e ∙ octets_step h.at h.step in
    let part = take h.count (framed h.step.output) in
    let out = ap (λ (x : List ℕ). x ++ part) (sym h.outputs) ∙ sym (take_past before (framed h.step.output) h.count) ∙ ap (take taken) (sym octets) in
    record {
      taken = taken;
      short = subst (λ (x : List ℕ). taken < length x) (sym octets) (rw length-append (omega (arith, h.short)));
      out = subst (Took old new) out h.took;
      register = h.register ∙ ap (λ (c : Course). c.register) (sym e);
      replay = replay_all (Some taken) setting given old.office.register new.office.register law.sound (h.register ∙ ap (λ (c : Course). c.register) (sym e));
      stands = h.stands law.stood;
      left = law.alone (h.stands law.stood);
      faults = h.faults;
      told = h.told;
    }

-- after an error of the office, or out of memory, the run goes on from there

goes_on : (setting : Setting) (given : List ℕ) (r : Register) (d e : Course) → Reaches (started setting r) given d e → Grows d e → Grows d (whole setting given r)
unfolding is_stopped
goes_on setting given r d e reaches grows =
    let h = reaches.same [] None refl in
    let same : whole setting given r ≡ run None h.0 e = ap (λ (x : List ℕ). run None x (started setting r)) (sym (append-nil given)) ∙ h.1 in
    subst (Grows d) (sym same) (grows_on d e (run None h.0 e) grows (run_grows None h.0 e))

goes_past : (setting : Setting) (given : List ℕ) (r : Register) (d e : Course) → Reaches (started setting r) given d e → Grows e (whole setting given r)
unfolding is_stopped
goes_past setting given r d e reaches =
    let h = reaches.same [] None refl in
    let same : whole setting given r ≡ run None h.0 e = ap (λ (x : List ℕ). run None x (started setting r)) (sym (append-nil given)) ∙ h.1 in
    subst (Grows e) (sym same) (run_grows None h.0 e)

few : (d w : Course) → Grows d w → length d.changes ≤ length w.changes
few d w g = omega (arith, ap (λ (x : List Change). length x) g.changes, length-append d.changes g.later_changes)

front_changes : (d w : Course) → Grows d w → take (length d.changes) w.changes ≡ d.changes
front_changes d w g = ap (take (length d.changes)) g.changes ∙ take_at d.changes g.later_changes (length d.changes) refl

replayed : (r : Register) (d w : Course) → Grows d w → Sound r d → apply_all r (take (length d.changes) w.changes) ≡ Ok d.register
replayed r d w g s = ap (apply_all r) (front_changes d w g) ∙ s.replay

changes_step : (d : Course) (step : Step) → (advance d step).changes ≡ with_change d.changes step.change
unfolding advance
changes_step d step = refl

register_step : (d : Course) (step : Step) → (advance d step).register ≡ register_after d.register step.change
unfolding advance
register_step d step = refl

-- the content after a crash holds the register of a course within the run
prefix_at : {C : Type 0} (r : Register) (d w : Course) (least : ℕ) (holds' : C → Register → Type 0) (content : C) → Grows d w → Sound r d
    → least ≤ length d.changes → holds' content d.register → IsPrefix holds' w.changes r least (length d.changes) content
prefix_at r d w least holds' content g sd le holds = record {
  count = length d.changes;
  least = le;
  most = few d w g;
  near = inl refl;
  register = d.register;
  replay = replayed r d w g sd;
  holds = holds;
}

leaves_prefix : (r : Register) (d w : Course) (step : Step) (change : Option Change) (least : ℕ) (left : View)
    → step.change ≡ change → Grows d w → Grows (advance d step) w → Sound r d → Sound r (advance d step) → least ≤ length d.changes
    → WithOrWithout change d.register left → OfficeLeaves w r least (length d.changes) left
leaves_prefix r d w step None least left e g h sd se le only = λ k l. prefix_at r d w least left.holds k g sd le (only k l)
leaves_prefix r d w step (Some change) least left e g h sd se le only = λ k l.
    elim (only k l) [
      | inl same ↦ prefix_at r d w least left.holds k g sd le same
      | inr made ↦
          let one_more = changes_step d step ∙ ap (with_change d.changes) e in
          let long : length (advance d step).changes ≡ length d.changes + 1 =
          ap (λ (x : List Change). length x) one_more ∙ length-append d.changes (change ∷ []) in
          record {
            count = length (advance d step).changes;
            least = omega arith;
            most = few (advance d step) w h;
            near = inr (sym long);
            register = (advance d step).register;
            replay = replayed r (advance d step) w h se;
            holds = subst (left.holds k) (made_register (Some change) d.register made.0 made.1 ∙ sym (register_step d step ∙ ap (register_after d.register) e)) made.2;
          }
    ]

goes_within : (setting : Setting) (given : List ℕ) (r : Register) (d : Course) (step : Step) → Reaches (started setting r) given d (advance d step)
    → (rest : List ℕ) × (whole setting given r ≡ run None rest (advance d step))
unfolding is_stopped
goes_within setting given r d step reaches =
    let h = reaches.same [] None refl in
    (h.0, ap (λ (x : List ℕ). run None x (started setting r)) (sym (append-nil given)) ∙ h.1)

-- where the session stopped, after this many changes
abbrev stops_within : (setting : Setting) (given : List ℕ) (r : Register) (d : Course) (step : Step) (made : ℕ) → Sound r d → Grows d (whole setting given r)
    → Reaches (started setting r) given d (advance d step) → (made ≡ length d.changes) ⊎ (made ≡ length (advance d step).changes)
    → StopsWithin setting given r d.outputs made
stops_within setting given r d step made sound grows reaches within =
    let goes = goes_within setting given r d step reaches in
    record {
      at = d;
      step = step;
      rest = goes.0;
      goes_on = goes.1;
      outputs = refl;
      changes = sym (front_changes d (whole setting given r) grows);
      register = sound.replay;
      within = within;
    }

pub is_office_fault : (setting : Setting) (given : List ℕ) (old new : Scene)
    → IsSound old.office.register → OfficeFails (started setting old.office.register) given old new → IsOfficeFault setting given old new
is_office_fault setting given old new sound h =
    let r : Register = old.office.register in
    let w : Course = whole setting given r in
    let sd : Sound r h.at = h.reaches.grows.sound r (sound_start setting r sound) in
    let step : Grows h.at (advance h.at h.step) = grows_step h.at h.step (λ _. h.proceeds) in
    let se : Sound r (advance h.at h.step) = step.sound r sd in
    let g : Grows h.at w = goes_on setting given r h.at (advance h.at h.step) h.reaches step in
    let ge : Grows (advance h.at h.step) w = goes_past setting given r h.at (advance h.at h.step) h.reaches in
    let out : Took old new (octets_of h.at.outputs ++ take h.count last_frame) = subst (λ (x : List ℕ). Took old new (x ++ take h.count last_frame)) (sym h.outputs) h.took in
    let kept : answered h.at.outputs (length (octets_of h.at.outputs)) ≤ length h.at.changes = answered_most h.at.outputs (length (octets_of h.at.outputs)) (length h.at.changes) sd.counted in
    let more : length h.at.changes ≤ length (advance h.at h.step).changes = few h.at (advance h.at h.step) step in
    let none : Grows (advance h.at h.step) (advance h.at h.step) = grows_none (advance h.at h.step) in
    elim h.cases [
      | inl x ↦ record {
        outs = h.at.outputs;
        later = g.later_outputs;
        outputs = g.outputs;
        count = h.count;
        out = out;
        said = h.said;
        made = length h.at.changes;
        kept = kept;
        few = few h.at w g;
        stopped = stops_within setting given r h.at h.step (length h.at.changes) sd g h.reaches (inl refl);
        register = λ s. replayed r h.at w g sd ∙ ap Ok (sym (x.same s));
        left = leaves_prefix r h.at w h.step h.step.change (answered h.at.outputs (length (octets_of h.at.outputs))) new.office refl g ge sd se kept x.left;
        within = leaves_prefix r h.at (advance h.at h.step) h.step h.step.change (answered h.at.outputs (length (octets_of h.at.outputs))) new.office refl step none sd se kept x.left;
        faults = h.faults;
      }
      | inr x ↦ record {
        outs = h.at.outputs;
        later = g.later_outputs;
        outputs = g.outputs;
        count = h.count;
        out = out;
        said = h.said;
        made = length (advance h.at h.step).changes;
        kept = omega arith;
        few = few (advance h.at h.step) w ge;
        stopped = stops_within setting given r h.at h.step (length (advance h.at h.step).changes) sd g h.reaches (inr refl);
        register = λ s. replayed r (advance h.at h.step) w ge se ∙ ap Ok (sym (x.same s));
        left = λ k l. prefix_at r (advance h.at h.step) w _ new.office.holds k ge se (omega arith) (x.left k l);
        within = λ k l. prefix_at r (advance h.at h.step) (advance h.at h.step) _ new.office.holds k none se (omega arith) (x.left k l);
        faults = h.faults;
      }
    ]

pub is_out_of_memory : (setting : Setting) (given : List ℕ) (old new : Scene) (law : KeepsLaw old.office new.office)
    → IsShort (started setting old.office.register) given old new → IsOutOfMemory setting given old new
is_out_of_memory setting given old new law h =
    let r : Register = old.office.register in
    let w : Course = whole setting given r in
    let sd : Sound r h.at = h.leads.grows.sound r (sound_start setting r law.sound) in
    let on : w ≡ run None h.rest h.at = rests_at setting given h.rest r h.at h.leads in
    let g : Grows h.at w = subst (Grows h.at) (sym on) (run_grows None h.rest h.at) in
    record {
      outs = h.at.outputs;
      later = g.later_outputs;
      outputs = g.outputs;
      out = subst (λ (x : List ℕ). Took old new x) (sym h.outputs) h.took;
      made = length h.at.changes;
      kept = answered_most h.at.outputs (length (octets_of h.at.outputs)) (length h.at.changes) sd.counted;
      few = few h.at w g;
      stopped = record {
        at = h.at;
        gone = h.leads.gone;
        rest = h.rest;
        all = h.leads.split;
        goes_on = on;
        cause = h.cause;
        outputs = refl;
        changes = sym (front_changes h.at w g);
        register = sd.replay;
      };
      register = replayed r h.at w g sd ∙ ap Ok (sym h.register);
      stands = h.stands law.stood;
      left = law.alone (h.stands law.stood);
      faults = h.faults;
      told = h.told;
    }

-- each error
pub serves_from : (setting : Setting) (given : List ℕ) (old new : Scene) (law : KeepsLaw old.office new.office) (f : RunFault)
    → Fails (started setting old.office.register) given old new f → ServesErr setting given old new f
serves_from setting given old new law fault.Read h = absurd h
serves_from setting given old new law fault.Write h = is_broken_off setting given old new law h
serves_from setting given old new law fault.Office h = is_office_fault setting given old new law.sound h
serves_from setting given old new law fault.Memory h = is_out_of_memory setting given old new law h
