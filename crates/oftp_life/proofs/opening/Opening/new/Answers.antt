use Rattle.std.proofs.Common.{◌∙◌, ap, []}
use Rattle.oftp_life.specs.Openings.{greeted_as}
use Rattle.oftp_life.specs.Outboxes.{octets_out}
use Rattle.oftp_life.proofs.Boxes.{nothing_out}
use Rattle.oftp_life.proofs.Openings.{opening_as, opening_new, opening_said}
use Rattle.oftp_life.proofs.opening.Opening.new.Goals as goal

pub invariant_of-result : goal.invariant_of-result
invariant_of-result c =
    let book = c.args.book.now in
    let went = c.greet-answer in
    opening_as book [] c.new-2.result.octets went.new.writer went.new.self (greeted_as went.result) c.greeted_as-stage.result c.new-2.ensures c.greeted_as-stage.ensures
    (opening_new book c.new-out.result went.new.writer went.new.self went.result
    (ap (λ p. octets_out p.inner) c.new-out.ensures ∙ nothing_out c.new.result c.new.ensures.taken c.new.ensures.waiting)
    (went.ensures.greets book c.new-conversation.ensures.fresh))

pub returns-clause-said : goal.returns-clause-said
returns-clause-said c =
    let book = c.args.book.now in
    let went = c.greet-answer in
    opening_said book c.new-out.result went.new.writer went.new.self went.result c.greeted_as-stage.result c.greeted_as-stage.ensures
    (ap (λ p. octets_out p.inner) c.new-out.ensures ∙ nothing_out c.new.result c.new.ensures.taken c.new.ensures.waiting)
    (went.ensures.greets book c.new-conversation.ensures.fresh)
