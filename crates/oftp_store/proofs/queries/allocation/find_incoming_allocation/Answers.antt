use Rattle.std.proofs.Common.{refl}
use Rattle.sqlite.specs.Held.{state}
use Rattle.oftp_tables.specs.Tables.{register_in}
use Rattle.oftp_store.proofs.AllocationLemmas.{existing_is}
use Rattle.oftp_store.proofs.CauseLemmas.{incoming_there, lost_told, passed_after, tables_limited}
use Rattle.oftp_store.proofs.LookLemmas.{left_by}
use Rattle.oftp_store.proofs.queries.allocation.find_incoming_allocation.Goals as goal

pub returns-in_err-find-in-Existing-clause-told : goal.returns-in_err-find-in-Existing-clause-told
returns-in_err-find-in-Existing-clause-told g c =
    passed_after g.S.Store _ _ _ _ _ _ c.in_ok-find_allocation.ensures.looks c.in_err-find-in-Existing.ensures.looks
    c.in_err-find-in-Existing.ensures.told c.from_residual-in_err-find-in-Existing.ensures.1

pub returns-in_err-progress-in-Existing-clause-told : goal.returns-in_err-progress-in-Existing-clause-told
returns-in_err-progress-in-Existing-clause-told g c =
    lost_told g.S.Store c.args.conn.now _ _ _ (λ clean limits stands.
    let r = register_in c.args.limits (state g.S.Store c.args.conn.now).now.trees in
    let kept = tables_limited c.args.limits limits _ stands.holds.tables in
    let mid = left_by r _ _ _ _ _ c.in_ok-find_allocation.ensures.looks c.in_ok-find-in-Existing.ensures.looks clean stands.holds.schema kept in
    incoming_there r c.args.identity.now c.in-Existing.no c.in_ok-find-in-Existing.field-0
    (existing_is c.args.limits _ _ _ ((rw c.in-Existing.is at c.in_ok-find_allocation.ensures.answer) mid.clean stands.holds.schema r refl kept)) c.in_err-progress-in-Existing.ensures.variant
    (c.in_ok-find-in-Existing.ensures.answer clean mid.schema r mid.tables)) c.from_residual-in_err-progress-in-Existing.ensures.1
