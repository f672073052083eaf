use Rattle.std.proofs.Common.{[]}
use Rattle.oftp_tables.specs.Schema.{text_at}
use Rattle.oftp_tables.specs.Making.{Creates, HasTables}
use Rattle.oftp_tables.proofs.RunLemmas.{statement_runs, tells}
use Rattle.oftp_tables.proofs.MakeLemmas.{makes}
use Rattle.oftp_tables.proofs.make.make_table.Goals as goal

pub returns-clause-runs : goal.returns-clause-runs
returns-clause-runs g c =
    let at = c.args.at in
    statement_runs g.S.Store _ _ (HasTables at) (Creates at) (text_at at) [] _ _ c.execute.ensures.ended (rw c.text_of.ensures at c.execute.ensures.runs) c.execute.ensures.survives
    (λ count. makes at count _ _ c.requires)

pub returns-clause-told : goal.returns-clause-told
returns-clause-told g c clean = tells g.S.Store _ _ _ _ _ c.execute.ensures.ended (c.execute.ensures.runs clean)
