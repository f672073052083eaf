use Rattle.std.proofs.Common.{ap, ◌∙◌, refl}
use Rattle.oftp_life.specs.Lives.{LifeSessionData, has_ceased, stage_of}
use Rattle.oftp_life.specs.Noted.{with_heard}
use Rattle.oftp_life.specs.Outboxes.{octets_out}
use Rattle.oftp_life.specs.declared.outbox.Outbox.{Outbox}
use Rattle.oftp_life.proofs.Lives.{take_session, session_as, session_left}
use Rattle.oftp_life.proofs.life.session.LifeSession.take.Goals as goal

pub returns-in_err-hear-clause-leaves : goal.returns-in_err-hear-clause-leaves
returns-in_err-hear-clause-leaves g c = session_left g.O.Office.view _ _ _ _ _ _ _ c.self.invariant

pub invariant_of-self-2 : goal.invariant_of-self-2
invariant_of-self-2 g c =
    let view = g.O.Office.view in
    let i = c.self.inside in
    let went = c.go_on_in_parts-went in
    let octets = c.args.octets.now in
    session_as view i.began.value i.before.value i.before.value went.new.office went.new.writer
    (with_heard i.history.acts octets (octets_out went.new.writer.inner)) c.then-self-inside.result.acts went.new.self (stage_of went.result) c.stage_of-self-inside.result
    (c.then-self-inside.ensures ∙ ap (λ (b : Outbox). with_heard i.history.acts octets (octets_out b)) c.inner.ensures) refl c.stage_of-self-inside.ensures
    (take_session view i.began.value i.before.value i.office went.new.office i.out went.new.writer i.history.acts i.conversation c.hear.new.self went.new.self
    i.stage octets c.self.invariant (ap (λ (t : LifeSessionData _). has_ceased t.stage) c.self.view_is ∙ c.requires) c.in_ok-hear.ensures.heard
    went.result went.ensures.own went.ensures.unbroken went.ensures.clean went.ensures.goes)

pub returns-clause-leaves : goal.returns-clause-leaves
returns-clause-leaves g c = session_left g.O.Office.view _ _ _ _ _ _ _ (invariant_of-self-2 g c)
