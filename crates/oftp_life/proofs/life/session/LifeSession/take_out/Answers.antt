use Rattle.std.proofs.Common.{◌∙◌, ap}
use Rattle.oftp_io.specs.declared.port.Port.{Port}
use Rattle.oftp_life.specs.declared.outbox.Outbox.{Outbox}
use Rattle.oftp_life.proofs.Boxes.{port_same, taken_same}
use Rattle.oftp_life.proofs.Lives.{session_same}
use Rattle.oftp_life.proofs.life.session.LifeSession.take_out.Goals as goal

pub invariant_of-self : goal.invariant_of-self
invariant_of-self g c =
    let i = c.self.inside in
    let new = c.replace.new.self in
    let box = c.take-taken in
    let is = c.replace.ensures.now ∙ ap (λ (p : Port Outbox). let q : Port Outbox = record p { inner = box.new.self } in q) c.replace-out.ensures.now in
    session_same g.O.Office.view i.began.value i.before.value i.office i.out new i.history.acts i.conversation i.stage
    (port_same i.out new c.new.result box.new.self is (taken_same i.out.inner c.replace-out.result box.new.self c.replace-out.ensures.was box.ensures.taken box.ensures.waiting))
    (ap (λ (p : Port Outbox). p.moved) is) (ap (λ (p : Port Outbox). p.faults) is) c.self.invariant
