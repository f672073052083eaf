use Rattle.std.proofs.Common.{sym, ◌∙◌}
use Rattle.oftp_life.proofs.Lives.{look_session}
use Rattle.oftp_life.proofs.life.session.looking.LifeSessionOffice.in_by_no.Goals as goal

pub invariant_of-self-2 : goal.invariant_of-self-2
invariant_of-self-2 g c =
    let i = c.self.inside in
    let found = c.in_by_no-found in
    look_session g.O.Office.view _ i.began.value i.before.value i.office found.new.self i.out i.history.acts i.conversation i.stage c.after_look-self-inside.result
    found.result (sym c.has_ceased.ensures ∙ c.if-has_ceased.false) c.after_look-self-inside.ensures found.ensures.looks c.self.invariant
