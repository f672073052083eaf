use Rattle.oftp_engine.proofs.JobsSoFar.{IsRunning}
use Rattle.oftp_engine.proofs.running.run.Given as goal

abbrev pub invariant-loop-i : goal.invariant-loop-i
invariant-loop-i g l = record {
  clean : (g.O.Office.view l.office).clean → (g.O.Office.view l.fn.office).clean;
  runs : (g.O.Office.view l.office).clean → (g.O.Office.view l.fn.office).stands
      → IsRunning g.R.Read.remaining g.W.Write.contents l.book (g.O.Office.view l.fn.office) (g.O.Office.view l.office) l.fn.jobs l.jobs l.i;
}
