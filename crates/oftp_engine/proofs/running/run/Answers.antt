use Rattle.std.proofs.Common.{sym, subst, arith, set}
use Rattle.oftp_engine.specs.Jobs.{Runs}
use Rattle.oftp_engine.proofs.Jobs.{running_all, running_none, running_on, running_stops}
use Rattle.oftp_engine.proofs.Telling.{handed_on}
use Rattle.oftp_engine.proofs.running.run.Goals as goal

pub loop-i-init : goal.loop-i-init
loop-i-init g c = record {
  clean = λ h. h;
  runs = λ clean stood. running_none g.R.Read.remaining g.W.Write.contents c.args.book.now (g.O.Office.view c.args.office.now) c.args.jobs.now stood;
}

pub loop-i-preserved : goal.loop-i-preserved
loop-i-preserved g c = record {
  clean = λ h. c.loop-i.invariant.clean (c.do_job.ensures.clean h);
  runs = λ clean stood.
      let before = c.loop-i.invariant.runs (c.do_job.ensures.clean clean) stood in
      running_on g.R.Read.remaining g.W.Write.contents c.args.book.now (g.O.Office.view c.args.office.now) (g.O.Office.view c.loop-i.office)
      (g.O.Office.view c.do_job.new.office) c.args.jobs.now c.loop-i.jobs c.loop-i.i c.index-jobs-i.result c.do_job.new.job (omega arith) before
      (c.in_ok-do_job.ensures.does clean before.stands);
}

pub returns-in_err-do_job-clause-runs : goal.returns-in_err-do_job-clause-runs
returns-in_err-do_job-clause-runs g c = λ clean stood.
    let before = c.loop-i.invariant.runs (c.do_job.ensures.clean clean) stood in
    let remaining = g.R.Read.remaining in
    let contents = g.W.Write.contents in
    let first = g.O.Office.view c.args.office.now in
    let new = g.O.Office.view c.do_job.new.office in
    subst (Runs remaining contents c.args.book.now first new c.args.jobs.now (set c.loop-i.jobs c.loop-i.i c.do_job.new.job)) (sym (handed_on _ _ c.from_residual.ensures.1))
    (running_stops remaining contents c.args.book.now first (g.O.Office.view c.loop-i.office) new c.args.jobs.now c.loop-i.jobs c.loop-i.i c.index-jobs-i.result
    c.do_job.new.job (omega arith) before _ (c.in_err-do_job.ensures.does clean before.stands))

pub returns-clause-runs : goal.returns-clause-runs
returns-clause-runs g c = λ clean stood.
    running_all g.R.Read.remaining g.W.Write.contents c.args.book.now (g.O.Office.view c.args.office.now) (g.O.Office.view c.loop-i.office) c.args.jobs.now c.loop-i.jobs
    c.loop-i.i (g.met.O.Office.alone c.loop-i.office clean) (omega arith) (c.loop-i.invariant.runs clean stood)
