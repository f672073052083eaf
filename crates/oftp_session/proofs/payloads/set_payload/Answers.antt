use Rattle.std.proofs.Common.{List, ℕ, Option, ◌++◌, ◌∙◌, ap}
use Rattle.oftp_session.specs.Standings.{at_hand}
use Rattle.oftp_session.proofs.Shipping.{asks_more, asks_on, says_data, says_fault, says_none}
use Rattle.oftp_session.proofs.payloads.set_payload.Goals as goal

pub returns-in-Buffer-clause-says : goal.returns-in-Buffer-clause-says
returns-in-Buffer-clause-says g c = λ clean stands contact t holds at room.
    let view = g.O.Office.view in
    let i = c.loop-outgoing.invariant in
    let sound = g.met.O.Office.sound c.loop-outgoing.office clean (i.kept clean stands).stands in
    says_data contact t c.args.outgoing.now c.loop-outgoing.outgoing c.fill.new.outgoing c.args.size c.in-Buffer.field-0 c.fill.new.frame
    (view c.args.office.now) (view c.loop-outgoing.office) i sound clean stands holds at room (rw c.in-Buffer.is at c.in_ok-fill.ensures)

pub returns-in-Done-clause-says : goal.returns-in-Done-clause-says
returns-in-Done-clause-says g c = λ clean stands contact t holds at room.
    let view = g.O.Office.view in
    let i = c.loop-outgoing.invariant in
    let sound = g.met.O.Office.sound c.loop-outgoing.office clean (i.kept clean stands).stands in
    says_none contact t c.args.outgoing.now c.loop-outgoing.outgoing c.fill.new.outgoing c.args.size c.fill.new.frame
    (view c.args.office.now) (view c.loop-outgoing.office) i sound clean stands holds at room (rw c.in-Done.is at c.in_ok-fill.ensures)

pub returns-in_err-fill-clause-says : goal.returns-in_err-fill-clause-says
returns-in_err-fill-clause-says g c = λ clean stands contact t holds at room.
    let view = g.O.Office.view in
    let i = c.loop-outgoing.invariant in
    let sound = g.met.O.Office.sound c.loop-outgoing.office clean (i.kept clean stands).stands in
    says_fault contact t c.args.outgoing.now c.loop-outgoing.outgoing c.fill.new.outgoing c.args.size c.fill.new.frame c.in_err-fill.field-0.0 c.from_residual.result
    (view c.args.office.now) (view c.loop-outgoing.office) c.from_residual.ensures.1 i sound clean stands holds at c.in_err-fill.ensures

pub loop-outgoing-smaller : goal.loop-outgoing-smaller
loop-outgoing-smaller g c =
    let more = c.in_ok-more.more in
    let rows = c.in_ok-joined.ensures.value ∙ ap (λ (p : Option (List (List ℕ))). at_hand p ++ more) c.take.ensures.value in
    asks_on c.args.size c.next_count-most.result c.loop-outgoing.outgoing c.fill.new.outgoing c.fill.new.frame c.in_ok-joined.field-0 more
    (rw c.in-More.is at c.in_ok-fill.ensures) c.next_count-most.ensures c.in_ok-more.ensures.count rows

pub loop-outgoing-preserved : goal.loop-outgoing-preserved
loop-outgoing-preserved g c =
    let view = g.O.Office.view in
    let more = c.in_ok-more.more in
    let rows = c.in_ok-joined.ensures.value ∙ ap (λ (p : Option (List (List ℕ))). at_hand p ++ more) c.take.ensures.value in
    asks_more (view c.args.office.now) (view c.loop-outgoing.office) (view c.look_up.new.office) c.args.outgoing.now c.loop-outgoing.outgoing c.fill.new.outgoing
    c.args.size c.next_count-most.result c.fill.new.frame c.in_ok-joined.field-0 more c.loop-outgoing.invariant (rw c.in-More.is at c.in_ok-fill.ensures)
    c.look_up.ensures.clean c.in_ok-more.ensures.stays c.in_ok-more.ensures.finds rows
