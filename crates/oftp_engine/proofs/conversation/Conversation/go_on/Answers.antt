use Rattle.std.proofs.Common.{refl, sym, subst}
use Rattle.oftp_engine.specs.Conversation.{Dialogue, HasHeard}
use Rattle.oftp_engine.specs.Serving.{scene}
use Rattle.oftp_engine.proofs.Served.{comes_failed, comes_whole, has_driven}
use Rattle.oftp_engine.proofs.Telling.{handed_on}
use Rattle.oftp_engine.proofs.conversation.Conversation.go_on.Goals as goal

pub returns-clause-goes : goal.returns-clause-goes
returns-clause-goes g c = λ clean first front setting given heard.
    let old = scene g.W.Write.contents (g.O.Office.view c.args.office.now) c.args.writer.now in
    let from = scene g.W.Write.contents (g.O.Office.view first) front in
    let h = subst (λ (talk : Dialogue). HasHeard setting given talk from old) (sym c.self.view_is) heard in
    comes_whole _ _ c.ending.ensures (c.in_ok-going.ensures.whole refl)
    (has_driven h (g.met.O.Office.alone c.drive.new.office clean) (c.in_ok-going.ensures.steps clean))

pub returns-in_err-going-clause-goes : goal.returns-in_err-going-clause-goes
returns-in_err-going-clause-goes g c = λ clean first front setting given heard.
    let old = scene g.W.Write.contents (g.O.Office.view c.args.office.now) c.args.writer.now in
    let from = scene g.W.Write.contents (g.O.Office.view first) front in
    let h = subst (λ (talk : Dialogue). HasHeard setting given talk from old) (sym c.self.view_is) heard in
    comes_failed _ _ (handed_on _ _ c.from_residual.ensures.1)
    (has_driven h (g.met.O.Office.alone c.drive.new.office clean) (c.in_err-going.ensures.steps clean))
