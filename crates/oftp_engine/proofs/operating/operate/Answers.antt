use Rattle.std.proofs.Common.{List, ℕ, is_ok, subst}
use Rattle.oftp_engine.specs.InsideOperating.{line_as}
use Rattle.oftp_io.specs.Ports.{Sent}
use Rattle.oftp_engine.proofs.Deciding.{operated, undecided}
use Rattle.oftp_engine.proofs.Telling.{handed_on}
use Rattle.oftp_engine.proofs.operating.operate.Goals as goal

pub returns-in_err-told-clause-operates : goal.returns-in_err-told-clause-operates
returns-in_err-told-clause-operates g c = λ clean stood.
    undecided g.W.Write.contents c.args.writer.now (g.O.Office.view c.args.office.now) (g.O.Office.view c.attempt.new.office) c.args.book.now c.args.call.now _ _
    (g.met.O.Office.alone c.attempt.new.office clean) c.in_err-told.ensures.err (c.in_err-told.ensures.does clean stood) (handed_on _ _ c.from_residual.ensures.1)

pub returns-clause-operates : goal.returns-clause-operates
returns-clause-operates g c = λ clean stood.
    let contents = g.W.Write.contents in
    let old = c.args.writer.now in
    let new = c.report_result.new.writer in
    let sent = subst (λ (verb : List ℕ). Sent contents old new (line_as verb c.in_ok-told.told) (is_ok c.report_result.result)) c.verb.ensures.verb c.report_result.ensures.sent in
    operated contents old new (g.O.Office.view c.args.office.now) (g.O.Office.view c.attempt.new.office) c.args.book.now c.args.call.now c.in_ok-told.told c.report_result.result
    (g.met.O.Office.alone c.attempt.new.office clean) (c.in_ok-told.ensures.does clean stood) sent c.report_result.ensures.told c.report_result.ensures.writes.err
