use Rattle.std.proofs.Common.{◌≡◌, ◌∙◌, ◌+◌, ◌<◌, ℕ, Err, refl, rules}
use Rattle.sqlite.specs.Effect.{Database}
use Rattle.oftp_tables.specs.Transactions.{Runs}
use Rattle.oftp_tables.specs.Making.{Creates, HasEmptyTables, HasTables, IsEmpty}
use Rattle.oftp_tables.proofs.RunLemmas.{nothing_runs, runs_then, runs_weaker, runs_whatever}
use Rattle.oftp_tables.proofs.MakeLemmas.{fails_at_table, none_yet, stays_empty}
use Rattle.oftp_tables.proofs.make.make_tables.Goals as goal

pub tables-init : goal.tables-init
tables-init g c = record { same_reference = refl; runs = nothing_runs IsEmpty (λ old new. HasEmptyTables 0 new) _ _ none_yet }

pub tables-preserved : goal.tables-preserved
tables-preserved g c =
    let at = c.tables.at in
    let up = λ (n : ℕ) (old new : Database). HasEmptyTables n new in
    let created : Runs (HasEmptyTables at) (up (at + 1)) _ _ _ =
    runs_weaker (HasTables at) (HasEmptyTables at) (Creates at) (up (at + 1)) _ _ _ (λ d empty. empty.has) (λ d e. stays_empty at d e) c.in_ok-make_table.ensures.runs in
    let both = runs_then IsEmpty (HasEmptyTables at) (up at) (up (at + 1)) (up (at + 1)) _ _ _ tt _ (λ d e none empty. empty) (λ d e f empty made. made) c.tables.invariant.runs created in
    record {
      same_reference = c.make_table.ensures.same_reference ∙ c.tables.invariant.same_reference;
      runs = runs_whatever IsEmpty (up (at + 1)) _ _ _ tt both;
    }

pub returns-in_err-make_table-clause-told : goal.returns-in_err-make_table-clause-told
returns-in_err-make_table-clause-told g c clean within empty =
    let less : c.tables.at < 8 = search rules in
    let is : c.from_residual.result ≡ Err c.in_err-make_table.field-0.0 = search rules in
    rw is
    (fails_at_table g.S.Store c.args.tx.now.conn.now c.tables.tx.conn.now c.make_table.new.tx.conn.now c.tables.at _ less
    c.tables.invariant.runs c.in_err-make_table.ensures.runs.survives.clean c.in_err-make_table.ensures.statement clean within empty)
