use Rattle.std.proofs.Common.{[]}
use Rattle.oftp_tables.specs.Making.{HasEmptyTables, IsNew, add_about_text}
use Rattle.oftp_tables.proofs.RunLemmas.{statement_runs}
use Rattle.oftp_tables.proofs.MakeLemmas.{fails_inside, readies}
use Rattle.oftp_tables.proofs.make.add_about.Goals as goal

pub returns-clause-runs : goal.returns-clause-runs
returns-clause-runs g c =
    statement_runs g.S.Store _ _ (HasEmptyTables 8) (λ old new. IsNew new) add_about_text [] _ _ c.execute.ensures.ended c.execute.ensures.runs c.execute.ensures.survives (λ count. readies count _ _)

pub returns-clause-told : goal.returns-clause-told
returns-clause-told g c clean = fails_inside _ _ _ _ _ (c.execute.ensures.runs clean)
