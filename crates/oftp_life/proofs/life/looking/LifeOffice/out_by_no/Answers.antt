use Rattle.oftp_life.proofs.Lives.{look_life}
use Rattle.oftp_life.proofs.life.looking.LifeOffice.out_by_no.Goals as goal

pub invariant_of-self-2 : goal.invariant_of-self-2
invariant_of-self-2 g c =
    let i = c.self.inside in
    let found = c.out_by_no-found in
    look_life g.O.Office.view _ i.began.value i.office found.new.self i.history.acts i.is_over c.has_failed-self-inside.result found.result
    c.if-self.false c.has_failed-self-inside.ensures found.ensures.looks c.self.invariant
