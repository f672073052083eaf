use Rattle.std.proofs.Common.{[], inr, refl, sym, ◌∙◌, subst}
use Rattle.oftp_engine.proofs.Behaving.{fails_after}
use Rattle.oftp_engine.proofs.Telling.{handed_on}
use Rattle.oftp_io.proofs.Puts.{puts_none, puts_on}
use Rattle.oftp_session.specs.Steps.{turned}
use Rattle.oftp_engine.specs.Runs.{turned_in}
use Rattle.oftp_engine.specs.Serving.{scene}
use Rattle.oftp_engine.specs.InsideServing.{TurnsTaken}
use Rattle.oftp_session.proofs.Proceeding.{turned_proceeds}
use Rattle.oftp_engine.proofs.Progress.{went_none, went_on, went_step, fails_step, fails_later, leads_turn, reaches_turn}
use Rattle.oftp_engine.proofs.Stepping.{sends_at}
use Rattle.oftp_engine.proofs.serving.write_due.Goals as goal

pub turns-init : goal.turns-init
turns-init g c = record {
  out = puts_none g.W.Write.contents c.args.writer.now;
  faults = refl;
  unbroken = c.requires;
  clean = λ h. h;
  goes = λ clean stood k at.
      record { at = k; went = went_none k [] (scene g.W.Write.contents (g.O.Office.view c.args.office.now) c.args.writer.now); now = at };
}

pub turns-preserved : goal.turns-preserved
turns-preserved g c = record {
  out = puts_on g.W.Write.contents c.args.writer.now c.turns.writer c.write_next.new.writer c.turns.invariant.out c.write_next.ensures.behaves.out;
  faults = c.in_ok-write_next.ensures.behaves.told ∙ c.turns.invariant.faults;
  unbroken = c.in_ok-write_next.ensures.behaves.unbroken;
  clean = λ h. c.turns.invariant.clean (c.write_next.ensures.behaves.clean h);
  goes = λ clean stood k at.
      let first = scene g.W.Write.contents (g.O.Office.view c.args.office.now) c.args.writer.now in
      let old = scene g.W.Write.contents (g.O.Office.view c.turns.office) c.turns.writer in
      let new = scene g.W.Write.contents (g.O.Office.view c.write_next.new.office) c.write_next.new.writer in
      let t = c.turns.invariant.goes (c.write_next.ensures.behaves.clean clean) stood k at in
      let due = sym (c.turns-test.ensures.phase t.at.phase t.now.stands) in
      let made = c.in_ok-write_next.ensures.steps clean (t.went.stands stood) t.at due t.now in
      let step = turned t.at.setting t.at.phase t.at.register in
      let on = went_step t.at step [] [] c.write_next.new.session old new (leads_turn t.at [] due) made in
      record {
        at = turned_in t.at;
        went = went_on k t.at (turned_in t.at) [] [] [] first old new t.went on;
        now = made.now;
      };
}

pub returns-in_err-write_next-clause-steps : goal.returns-in_err-write_next-clause-steps
returns-in_err-write_next-clause-steps g c = λ clean stood k at.
    let first = scene g.W.Write.contents (g.O.Office.view c.args.office.now) c.args.writer.now in
    let old = scene g.W.Write.contents (g.O.Office.view c.turns.office) c.turns.writer in
    let new = scene g.W.Write.contents (g.O.Office.view c.write_next.new.office) c.write_next.new.writer in
    let t = c.turns.invariant.goes (c.write_next.ensures.behaves.clean clean) stood k at in
    let due = sym (c.turns-test.ensures.phase t.at.phase t.now.stands) in
    let step = turned t.at.setting t.at.phase t.at.register in
    let proceeds = turned_proceeds t.at.setting t.at.phase t.at.register t.now.suits in
    let failed = fails_step t.at step [] old new c.in_err-write_next.field-0.0 proceeds (reaches_turn t.at [] due)
    (λ short. inr (sends_at t.at.phase c.turns.session.standing t.now.stands (c.in_err-write_next.ensures.spared short)))
    (c.in_err-write_next.ensures.steps clean (t.went.stands stood) t.at due t.now) in
    subst (TurnsTaken k c.write_next.new.session first new) (sym (handed_on _ _ c.from_residual.ensures.1))
    (fails_later k t.at [] [] first old new c.in_err-write_next.field-0.0 t.went failed)

pub returns-then-pauses-clause-behaves : goal.returns-then-pauses-clause-behaves
returns-then-pauses-clause-behaves g c =
    let i = c.turns.invariant in record { clean = i.clean; own = tt; unbroken = i.unbroken; out = i.out; told = i.faults }

pub returns-in_err-write_next-clause-behaves : goal.returns-in_err-write_next-clause-behaves
returns-in_err-write_next-clause-behaves g c =
    let i = c.turns.invariant in
    fails_after i.out i.faults i.clean c.in_err-write_next.ensures.behaves (handed_on _ _ c.from_residual.ensures.1)

pub returns-clause-behaves : goal.returns-clause-behaves
returns-clause-behaves g c = let i = c.turns.invariant in record { clean = i.clean; own = tt; unbroken = i.unbroken; out = i.out; told = i.faults }
