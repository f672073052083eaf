use Rattle.std.proofs.Common.{refl}
use Rattle.oftp_engine.proofs.Jobs.{does_call}
use Rattle.oftp_engine.proofs.running.operate_job.Goals as goal

pub returns-clause-does : goal.returns-clause-does
returns-clause-does g c = λ clean stood.
    does_call g.R.Read.remaining g.W.Write.contents c.args.book.now (g.O.Office.view c.args.office.now) (g.O.Office.view c.operate-answer.new.office)
    c.args.job.now _ c.operate-answer.result c.list_result-after.result c.list_result-after.ensures refl refl (c.operate-answer.ensures.operates clean stood)
