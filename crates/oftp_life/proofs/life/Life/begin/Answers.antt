use Rattle.std.proofs.Common.{Bool, [], ◌∷◌, ◌∙◌, ap, subst}
use Rattle.oftp_engine.specs.Served.{setting_of}
use Rattle.oftp_life.specs.Acts.{Conversed}
use Rattle.oftp_life.specs.Lives.{Lives, stage_of}
use Rattle.oftp_life.specs.Outboxes.{octets_out}
use Rattle.oftp_life.specs.declared.outbox.Outbox.{Outbox}
use Rattle.oftp_life.proofs.Boxes.{nothing_out}
use Rattle.oftp_life.proofs.Lives.{begin_session, session_as, session_left}
use Rattle.oftp_life.proofs.life.Life.begin.Goals as goal

pub invariant_of-result-2 : goal.invariant_of-result-2
invariant_of-result-2 g c =
    let view = g.O.Office.view in
    let i = c.self.inside in
    let began = i.began.value in
    let acts = i.history.acts in
    let went = c.go_on_in_parts-went in
    let setting = setting_of c.args.book.now c.args.role in
    session_as view began i.office c.of-before.result.value went.new.office went.new.writer (Conversed setting [] (octets_out went.new.writer.inner) ∷ acts)
    c.then-history.result.acts went.new.self (stage_of went.result) c.stage_of-stage.result
    (c.then-history.ensures ∙ ap (λ (b : Outbox). Conversed setting [] (octets_out b) ∷ acts) c.inner.ensures) c.of-before.ensures c.stage_of-stage.ensures
    (begin_session view g.met.O.Office.sound began i.office went.new.office c.new-out.result went.new.writer
    (ap (λ p. octets_out p.inner) c.new-out.ensures ∙ nothing_out c.new.result c.new.ensures.taken c.new.ensures.waiting) acts c.new-conversation.result went.new.self setting
    (λ clean stood. subst (λ (b : Bool). Lives b (view began).register acts (view i.office)) c.if-is_over.false (c.self.invariant clean stood))
    c.new-conversation.ensures.fresh went.result went.ensures.own went.ensures.unbroken went.ensures.clean went.ensures.goes)

pub returns-clause-leaves : goal.returns-clause-leaves
returns-clause-leaves g c = session_left g.O.Office.view _ _ _ _ _ _ _ (invariant_of-result-2 g c)
