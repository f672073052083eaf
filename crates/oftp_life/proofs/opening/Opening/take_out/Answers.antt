use Rattle.std.proofs.Common.{◌∙◌, ap}
use Rattle.oftp_io.specs.declared.port.Port.{Port}
use Rattle.oftp_life.specs.declared.outbox.Outbox.{Outbox}
use Rattle.oftp_life.proofs.Boxes.{port_same, taken_same}
use Rattle.oftp_life.proofs.Openings.{opening_same}
use Rattle.oftp_life.proofs.opening.Opening.take_out.Goals as goal

pub invariant_of-self : goal.invariant_of-self
invariant_of-self c =
    let i = c.self.inside in
    let new = c.replace.new.self in
    let box = c.take-taken in
    let is = c.replace.ensures.now ∙ ap (λ (p : Port Outbox). let q : Port Outbox = record p { inner = box.new.self } in q) c.replace-out.ensures.now in
    opening_same i.book.now i.heard.octets i.out new i.conversation
    (port_same i.out new c.new-2.result box.new.self is (taken_same i.out.inner c.replace-out.result box.new.self c.replace-out.ensures.was box.ensures.taken box.ensures.waiting))
    (ap (λ (p : Port Outbox). p.moved) is) (ap (λ (p : Port Outbox). p.faults) is) (ap (λ (p : Port Outbox). p.most) is) (ap (λ (p : Port Outbox). p.ended) is) i.stage c.self.invariant
