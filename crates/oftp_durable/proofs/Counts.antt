-- An SFPA is sent only after the change that starts its file with the Restart position that it answers.
use Rattle.std.proofs.Common.{◌≡◌, ◌∙◌, sym, ap, subst, refl, ℕ, ◌+◌, List, [], ◌∷◌, ◌++◌, length, fold, Option, None, Some, Result, Ok, append_assoc, length-append}
use Rattle.std.proofs.lemmas.Grind.{fold-append}
use Rattle.std.specs.Bool.{⊤}
use Rattle.std.specs.List.{AllByRecursion}
use Rattle.oftp_wire.specs.declared.command.Command.{Command}
use Rattle.oftp_wire.specs.declared.command.Command.TheVariants as command
use Rattle.oftp_register.specs.declared.change.Cause.{Cause}
use Rattle.oftp_register.specs.declared.change.Change.{Change}
use Rattle.oftp_register.specs.declared.change.Change.TheVariants.{Start}
use Rattle.oftp_register.specs.Changes.{apply, apply_all, go_on_by}
use Rattle.oftp_register.specs.Register.{Register}
use Rattle.oftp_session.specs.Phases.{Step, frame_of}
use Rattle.oftp_session.proofs.Outputs.{MayBeSaid, MaySay, StartsWith}
use Rattle.oftp_engine.specs.Parts.{course_of}
use Rattle.oftp_engine.specs.Runs.{Course, Output, advance, started, with_change, with_output}
use Rattle.oftp_engine.proofs.EachStep.{run_says}
use Rattle.oftp_engine.proofs.Ending.{run_sound}
use Rattle.oftp_engine.proofs.PartRuns.{no_count_passes}
use Rattle.oftp_durable.specs.Counts.{IsAnswer, KeepsCount, NoAnswerPasses}
use Rattle.oftp_durable.proofs.Limits.{all_limits}

-- the last of the first `after` changes starts a file with this Restart position
record HasStart (changes : List Change) (after count : ℕ) : Type 0 where
  before : List Change
  later : List Change
  change : Change
  starts : StartsWith count change
  all : changes ≡ before ++ change ∷ later
  place : after ≡ length before + 1

abbrev Behind : List Change → ℕ → Command → Type 0
Behind changes after (command.Sfpa sfpa) = HasStart changes after sfpa.restart
Behind changes after _ = ⊤

record IsSpoken (changes : List Change) (o : Output) : Type 0 where
  command : Command
  octets : o.octets ≡ frame_of command
  behind : Behind changes o.after command

abbrev AllSaid : Course → Type 0
AllSaid c = AllByRecursion (IsSpoken c.changes) c.outputs

behind_now : (changes : List Change) (change : Option Change) (c : Command) → MayBeSaid (Some c) change → Behind (with_change changes change) (length (with_change changes change)) c
behind_now changes change (command.Sfpa sfpa) (k, is, starts) =
    subst (λ (x : Option Change). HasStart (with_change changes x) (length (with_change changes x)) sfpa.restart) (sym is)
    (record { before = changes; later = []; change = k; starts = starts; all = refl; place = length-append changes (k ∷ []) })
behind_now changes change _ h = tt

behind_more : (changes more : List Change) (after : ℕ) (c : Command) → Behind changes after c → Behind (changes ++ more) after c
behind_more changes more after (command.Sfpa sfpa) h = record {
  before = h.before;
  later = h.later ++ more;
  change = h.change;
  starts = h.starts;
  all = ap (λ (ks : List Change). ks ++ more) h.all ∙ append_assoc h.before (h.change ∷ h.later) more;
  place = h.place;
}
behind_more changes more after _ h = tt

said_more : (changes more : List Change) (outputs : List Output) → AllByRecursion (IsSpoken changes) outputs → AllByRecursion (IsSpoken (changes ++ more)) outputs
said_more changes more [] h = h
said_more changes more (o ∷ outputs) h =
    (record { command = h.0.command; octets = h.0.octets; behind = behind_more changes more o.after h.0.command h.0.behind }, said_more changes more outputs h.1)

said_with : (changes : List Change) (change : Option Change) (outputs : List Output) → AllByRecursion (IsSpoken changes) outputs → AllByRecursion (IsSpoken (with_change changes change)) outputs
said_with changes None outputs h = h
said_with changes (Some k) outputs h = said_more changes (k ∷ []) outputs h

said_push : (changes : List Change) (outputs : List Output) (o : Output) → AllByRecursion (IsSpoken changes) outputs → IsSpoken changes o → AllByRecursion (IsSpoken changes) (outputs ++ o ∷ [])
said_push changes [] o h now = (now, h)
said_push changes (p ∷ outputs) o h now = (h.0, said_push changes outputs o h.1 now)

said_step : (changes : List Change) (outputs : List Output) (change : Option Change) (output : Option Command) → MayBeSaid output change → AllByRecursion (IsSpoken changes) outputs
    → AllByRecursion (IsSpoken (with_change changes change)) (with_output outputs output (length (with_change changes change)))
said_step changes outputs change None may h = said_with changes change outputs h
said_step changes outputs change (Some c) may h =
    let after = length (with_change changes change) in
    said_push (with_change changes change) outputs (record { octets = frame_of c; after = after }) (said_with changes change outputs h)
    (record { command = c; octets = refl; behind = behind_now changes change c may })

advance_said : (c : Course) (s : Step) → MaySay s → AllSaid c → AllSaid (advance c s)
unfolding advance
advance_said c s may h = said_step c.changes c.outputs s.change s.output may h

-- this many rows were kept
count_is_kept : (r last : Register) (changes : List Change) (after : ℕ) (c : Command) → apply_all r changes ≡ Ok last → Behind changes after c → KeepsCount r changes after c
count_is_kept r last changes after (command.Sfpa sfpa) made h =
    let k = h.change in
    let start = h.starts in
    let parts : fold go_on_by (apply_all r h.before) (k ∷ h.later) ≡ Ok last = sym (fold-append go_on_by (Ok r) h.before (k ∷ h.later)) ∙ sym (ap (apply_all r) h.all) ∙ made in
    let old = all_limits (k ∷ h.later) (apply_all r h.before) last parts in
    let on : fold go_on_by (apply old.0 k) h.later ≡ Ok last = sym (ap (λ (so_far : Result Register Cause). fold go_on_by so_far (k ∷ h.later)) old.1) ∙ parts in
    let new = all_limits h.later (apply old.0 k) last on in
    let started : apply old.0 (Start start.identity start.format start.longest start.description sfpa.restart) ≡ Ok new.0 = ap (apply old.0) (sym start.is) ∙ new.1 in
    let counts = no_count_passes old.0 new.0 start.identity start.format start.longest start.description sfpa.restart started in
    record {
      before = h.before;
      later = h.later;
      identity = start.identity;
      format = start.format;
      longest = start.longest;
      description = start.description;
      all = h.all ∙ ap (λ (x : Change). h.before ++ x ∷ h.later) start.is;
      place = h.place;
      old = old.0;
      reached = old.1;
      new = new.0;
      made = started;
      kept = counts.0;
      left = counts.1;
    }
count_is_kept r last changes after _ made h = tt

answers_of : (r last : Register) (changes : List Change) (outputs : List Output) → apply_all r changes ≡ Ok last
    → AllByRecursion (IsSpoken changes) outputs → AllByRecursion (IsAnswer r changes) outputs
answers_of r last changes [] made h = h
answers_of r last changes (o ∷ outputs) made h =
    (record { command = h.0.command; octets = h.0.octets; kept = count_is_kept r last changes o.after h.0.command made h.0.behind }, answers_of r last changes outputs made h.1)

pub no_answer_passes : NoAnswerPasses
no_answer_passes session r sound =
    let c = course_of session r in
    answers_of r c.register c.changes c.outputs (run_sound session.limit session.setting session.stream r sound).replay
    (run_says AllSaid advance_said session.limit session.stream (started session.setting r) tt)
