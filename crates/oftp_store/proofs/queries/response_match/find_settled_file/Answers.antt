use Rattle.std.proofs.Common.{◌∙◌, sym}
use Rattle.sqlite.specs.Held.{state}
use Rattle.oftp_tables.specs.Tables.{register_in}
use Rattle.oftp_store.proofs.FilingLemmas.{settles_it, settles_none, settles_nothing}
use Rattle.oftp_store.proofs.LookLemmas.{left_by}
use Rattle.oftp_store.proofs.CauseLemmas.{lost_told, outgoing_there, passed_after}
use Rattle.oftp_store.proofs.queries.response_match.find_settled_file.Goals as goal

pub returns-in_default-clause-answer : goal.returns-in_default-clause-answer
returns-in_default-clause-answer g c clean has r kept sound = settles_none r c.args.identity.now (sym (rw c.in_default.is at (c.in_ok-no.ensures.answer clean has r kept)))

pub returns-then-not-is_awaiting-clause-answer : goal.returns-then-not-is_awaiting-clause-answer
returns-then-not-is_awaiting-clause-answer g c clean has r kept sound =
    let mid = left_by r _ _ _ _ _ c.in_ok-no.ensures.looks c.in_ok-find.ensures.looks clean has kept in
    settles_nothing r c.args.identity.now c.in-Some.no c.in_ok-progress.progress sound (sym (rw c.in-Some.is at (c.in_ok-no.ensures.answer mid.clean has r kept)))
    (rw c.in_ok-progress.ensures.ok_part at (c.in_ok-find.ensures.answer clean mid.schema r mid.tables)) (sym c.is_awaiting.ensures ∙ c.if-not-is_awaiting.true)

pub returns-clause-answer : goal.returns-clause-answer
returns-clause-answer g c clean has r kept sound =
    let mid = left_by r _ _ _ _ _ c.in_ok-no.ensures.looks c.in_ok-find.ensures.looks clean has kept in
    settles_it r c.args.identity.now c.in-Some.no c.in_ok-progress.progress sound (sym (rw c.in-Some.is at (c.in_ok-no.ensures.answer mid.clean has r kept)))
    (rw c.in_ok-progress.ensures.ok_part at (c.in_ok-find.ensures.answer clean mid.schema r mid.tables)) (sym c.is_awaiting.ensures ∙ c.if-not-is_awaiting.false)

pub returns-in_err-find-clause-told : goal.returns-in_err-find-clause-told
returns-in_err-find-clause-told g c =
    passed_after g.S.Store _ _ _ _ _ _ c.in_ok-no.ensures.looks c.in_err-find.ensures.looks c.in_err-find.ensures.told c.from_residual-in_err-find.ensures.1

pub returns-in_err-progress-clause-told : goal.returns-in_err-progress-clause-told
returns-in_err-progress-clause-told g c =
    lost_told g.S.Store c.args.conn.now _ _ _ (λ clean limits stands.
    let r = register_in limits (state g.S.Store c.args.conn.now).now.trees in
    let mid = left_by r _ _ _ _ _ c.in_ok-no.ensures.looks c.in_ok-find.ensures.looks clean stands.holds.schema stands.holds.tables in
    outgoing_there r c.args.identity.now c.in-Some.no c.in_ok-find.field-0
    (sym (rw c.in-Some.is at (c.in_ok-no.ensures.answer mid.clean stands.holds.schema r stands.holds.tables))) c.in_err-progress.ensures.variant
    (c.in_ok-find.ensures.answer clean mid.schema r mid.tables)) c.from_residual-in_err-progress.ensures.1
