use Rattle.std.proofs.Common.{refl}
use Rattle.oftp_engine.proofs.Jobs.{does_session}
use Rattle.oftp_engine.proofs.running.serve_job.Goals as goal

pub returns-clause-does : goal.returns-clause-does
returns-clause-does g c = λ clean stood.
    let served = c.serve-answer.ensures.serves in
    does_session g.R.Read.remaining g.W.Write.contents c.args.book.now (g.O.Office.view c.args.office.now) (g.O.Office.view c.serve-answer.new.office)
    c.args.job.now _ c.serve-answer.result c.list_result-after.result c.list_result-after.ensures refl refl served.0 served.1 (served.2 clean stood)
    c.serve-answer.ensures.reader_told c.serve-answer.ensures.ends
