use Rattle.std.proofs.Common.{◌-◌}
use Rattle.oftp_engine.proofs.Fetching.{IsFetched}
use Rattle.oftp_engine.proofs.content.write_content.Given as goal

-- the rows so far are out
abbrev pub invariant-rows : goal.invariant-rows
invariant-rows g l = IsFetched g.W.Write.contents l.entry l.from (g.O.Office.view l.fn.office) (g.O.Office.view l.office) l.fn.out l.out

abbrev pub decreases-rows : goal.decreases-rows
decreases-rows g l = l.entry.rows - l.from
