use Rattle.oftp_store.proofs.CauseLemmas.{far_told, passed_after, told_since}
use Rattle.oftp_store.proofs.queries.allocation.find_allocation.Goals as goal

pub returns-in_err-last-clause-told : goal.returns-in_err-last-clause-told
returns-in_err-last-clause-told g c =
    passed_after g.S.Store _ _ _ _ _ _ c.in_ok-no.ensures.looks c.in_err-last.ensures.looks c.in_err-last.ensures.told c.from_residual-in_err-last.ensures.1

pub returns-clause-told : goal.returns-clause-told
returns-clause-told g c =
    told_since g.S.Store c.args.conn.now c.file_number.new.conn c.last_number.new.conn _ c.allocation_after.result c.in_ok-no.ensures.looks c.in_ok-last.ensures.looks.clean
    (far_told g.S.Store c.table_of.result c.file_number.new.conn c.last_number.new.conn c.in_ok-last.last c.allocation_after.result c.in_ok-last.ensures.answer c.allocation_after.ensures.full)
