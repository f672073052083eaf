use Rattle.std.proofs.Common.{◌∙◌, arith, refl}
use Rattle.oftp_tables.proofs.BindLemmas.{number_bound}
use Rattle.oftp_tables.proofs.PerformLemmas.{performs_fails, performs_nothing, performs_passed}
use Rattle.oftp_store.proofs.RowEditLemmas.{no_rows, row_performed}
use Rattle.oftp_store.proofs.changes.statements.add_rows.Goals as goal

pub rows-init : goal.rows-init
rows-init g c = record {
  same_reference = refl;
  performs = performs_nothing g.S.Store _ _ tt (no_rows c.args.side c.args.no c.args.from);
  progress = omega arith;
}

pub rows-preserved : goal.rows-preserved
rows-preserved g c =
    let back = number_bound c.args.no c.number.result c.number.ensures c.requires.number in
    let done = row_performed g.S.Store c.args.side c.args.no c.args.from c.rows.row-index c.rows.at c.args.rows.now c.row-item.result _ _ _ c.execute.result
    (rw c.as_slice-row-items.ensures at c.rows-test.true) (rw c.as_slice-row-items.ensures at c.row-item.is) c.rows.invariant.progress c.rows.invariant.performs c.execute.ensures.ended
    (simp (c.add_row_text-text.ensures, c.params-to_sql.ensures, c.params-to_sql-in-rows.ensures, c.params-to_sql-in-rows-2.ensures, back, c.octets.ensures) at c.execute.ensures.runs)
    c.execute.ensures.survives in
    record {
      same_reference = c.in_ok-execute.ensures.same_reference ∙ c.rows.invariant.same_reference;
      performs = rw c.in_ok-execute.was at done;
      progress = omega arith;
    }

pub returns-in_err-execute-clause-performs : goal.returns-in_err-execute-clause-performs
returns-in_err-execute-clause-performs g c =
    let back = number_bound c.args.no c.number.result c.number.ensures c.requires.number in
    let done = row_performed g.S.Store c.args.side c.args.no c.args.from c.rows.row-index c.rows.at c.args.rows.now c.row-item.result _ _ _ c.execute.result
    (rw c.as_slice-row-items.ensures at c.rows-test.true) (rw c.as_slice-row-items.ensures at c.row-item.is) c.rows.invariant.progress c.rows.invariant.performs c.execute.ensures.ended
    (simp (c.add_row_text-text.ensures, c.params-to_sql.ensures, c.params-to_sql-in-rows.ensures, c.params-to_sql-in-rows-2.ensures, back, c.octets.ensures) at c.execute.ensures.runs)
    c.execute.ensures.survives in
    performs_passed g.S.Store _ _ _ c.in_err-execute.field-0.0 _ c.from_residual.ensures.1 (performs_fails g.S.Store _ _ _ _ _ (rw c.in_err-execute.was at done))
