use Rattle.oftp_session.proofs.Looking.{next_finds, remembered}
use Rattle.oftp_register.specs.Register.{Register}
use Rattle.oftp_register.specs.LookUps.{next_item}
use Rattle.oftp_session.proofs.Passing.{look_failed}
use Rattle.oftp_session.proofs.speaker.AnySpeakerPart.next.Goals as goal

pub returns-clause-finds : goal.returns-clause-finds
returns-clause-finds g c = λ clean stands so.
    let view = g.O.Office.view in
    let cursor = c.untried-cursor.ensures in
    next_finds _ c.args.contact.now c.args.response_due.now c.untried-cursor.result (view c.args.self.now) (view c.next_item.new.self) c.in_ok-item.item c.contact.view_is c.in_ok-item.ensures.looks so
    cursor.file cursor.response cursor.all clean stands

pub returns-clause-recalls : goal.returns-clause-recalls
returns-clause-recalls g c = λ clean stands so.
    let view = g.O.Office.view in
    let cursor = c.untried-cursor.ensures in
    let found = next_finds _ c.args.contact.now c.args.response_due.now c.untried-cursor.result (view c.args.self.now) (view c.next_item.new.self) c.in_ok-item.item c.contact.view_is
    c.in_ok-item.ensures.looks so cursor.file cursor.response cursor.all clean stands in
    remembered (view c.args.self.now).register c.args.contact.now c.in_ok-item.item c.due_after.result found.0 c.due_after.ensures

pub returns-in_err-item-clause-finds : goal.returns-in_err-item-clause-finds
returns-in_err-item-clause-finds g c = λ clean stands so.
    let contact = c.args.contact.now in
    look_failed _ (λ (r : Register). next_item r contact.code contact.tried contact.link.sends) _ _ c.in_err-item.field-0.0 _ c.in_err-item.ensures.looks c.from_residual.ensures.1 clean stands
