use Rattle.std.proofs.Common.{◌∙◌, sym, subst, arith}
use Rattle.oftp_io.specs.Ports.{Sent}
use Rattle.oftp_io.proofs.Puts.{puts_on, puts_sent}
use Rattle.oftp_engine.specs.Fetched.{FetchedOut, fetched}
use Rattle.oftp_engine.proofs.Fetching.{fetched_in_part, fetched_on, fetched_so_far}
use Rattle.oftp_engine.proofs.Telling.{handed_on}
use Rattle.oftp_engine.proofs.content.write_content.Goals as goal

-- the next piece is out
pub rows-preserved : goal.rows-preserved
rows-preserved g c =
    let contents = g.W.Write.contents in
    let new = c.send.new.self in
    let sent = subst (Sent contents c.rows.out new c.as_slice.result.now) c.if-not-send.false c.send.ensures in
    fetched_on contents c.args.entry.now c.rows.from c.min-most.result
    (g.O.Office.view c.args.office.now) (g.O.Office.view c.rows.office) (g.O.Office.view c.piece_of.new.office) c.args.out.now c.rows.out new
    c.rows.invariant c.piece_of.ensures.clean
    c.as_slice.result.now (omega (arith, c.min-most.ensures, c.rows.invariant.few)) c.in_ok-piece.ensures.office
    (λ clean stood. c.as_slice.ensures.value ∙ c.in_ok-piece.ensures.piece clean stood)
    (puts_sent contents c.rows.out new c.as_slice.result.now _ c.send.ensures) sent

-- it isn't there
pub returns-in_err-piece-clause-text : goal.returns-in_err-piece-clause-text
returns-in_err-piece-clause-text g c = λ clean stood.
    let contents = g.W.Write.contents in
    let text = fetched (g.O.Office.view c.args.office.now).register c.args.entry.now in
    subst (FetchedOut text (contents c.args.out.now.inner) (contents c.rows.out.inner)) (sym (handed_on _ _ c.from_residual.ensures.1))
    (fetched_so_far contents c.args.entry.now c.rows.from c.min-most.result
    (g.O.Office.view c.args.office.now) (g.O.Office.view c.rows.office) (g.O.Office.view c.piece_of.new.office) c.args.out.now c.rows.out c.rows.out
    c.rows.invariant c.piece_of.ensures.clean clean stood)

-- it is out in part
pub returns-then-not-send-clause-text : goal.returns-then-not-send-clause-text
returns-then-not-send-clause-text g c = λ clean stood.
    let contents = g.W.Write.contents in
    let new = c.send.new.self in
    let sent = subst (Sent contents c.rows.out new c.as_slice.result.now) c.if-not-send.true c.send.ensures in
    fetched_in_part contents c.args.entry.now c.rows.from c.min-most.result
    (g.O.Office.view c.args.office.now) (g.O.Office.view c.rows.office) (g.O.Office.view c.piece_of.new.office) c.args.out.now c.rows.out new
    c.rows.invariant c.piece_of.ensures.clean
    c.as_slice.result.now (omega (arith, c.min-most.ensures, c.rows.invariant.few))
    (λ clean stood. c.as_slice.ensures.value ∙ c.in_ok-piece.ensures.piece clean stood) sent clean stood

pub returns-then-not-send-clause-out : goal.returns-then-not-send-clause-out
returns-then-not-send-clause-out g c =
    puts_on g.W.Write.contents c.args.out.now c.rows.out c.send.new.self c.rows.invariant.out
    (puts_sent g.W.Write.contents c.rows.out c.send.new.self c.as_slice.result.now _ c.send.ensures)
