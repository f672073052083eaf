use Rattle.std.proofs.Common.{sym, subst}
use Rattle.oftp_engine.specs.Conversation.{Dialogue, HasHeard}
use Rattle.oftp_engine.specs.Serving.{scene}
use Rattle.oftp_engine.proofs.Served.{comes_so_far, has_driven}
use Rattle.oftp_engine.proofs.conversation.Conversation.go_on_in_parts.Goals as goal

pub returns-clause-goes : goal.returns-clause-goes
returns-clause-goes g c = λ clean first front setting given heard.
    let old = scene g.W.Write.contents (g.O.Office.view c.args.office.now) c.args.writer.now in
    let from = scene g.W.Write.contents (g.O.Office.view first) front in
    let h = subst (λ (talk : Dialogue). HasHeard setting given talk from old) (sym c.self.view_is) heard in
    comes_so_far c.drive.result (has_driven h (g.met.O.Office.alone c.drive.new.office clean) (c.drive.ensures.steps clean))
