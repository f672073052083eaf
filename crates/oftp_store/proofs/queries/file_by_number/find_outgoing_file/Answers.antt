use Rattle.std.proofs.Common.{◌∙◌, Some, ap, sym, arith}
use Rattle.oftp_store.proofs.LookLemmas.{left_by}
use Rattle.oftp_store.proofs.ProgressLemmas.{no_outgoing, outgoing_told, mark_within}
use Rattle.sqlite.specs.Held.{state}
use Rattle.oftp_tables.specs.Tables.{register_in}
use Rattle.oftp_store.proofs.CauseLemmas.{lost_told, passed_after}
use Rattle.oftp_store.proofs.queries.file_by_number.find_outgoing_file.Goals as goal

pub returns-in_default-clause-answer : goal.returns-in_default-clause-answer
returns-in_default-clause-answer g c clean has r kept = sym (no_outgoing r c.args.no (rw c.in_default.is at (c.in_ok-header.ensures.answer clean has r kept)))

pub returns-clause-answer : goal.returns-clause-answer
returns-clause-answer g c clean has r kept =
    let mid = left_by r _ _ _ _ _ c.in_ok-header.ensures.looks c.in_ok-rows.ensures.looks clean has kept in
    ap Some c.in_ok-entry.ensures.made
    ∙ outgoing_told r c.args.no c.in_ok-rows.rows c.in-Some.header (rw c.in-Some.is at (c.in_ok-header.ensures.answer mid.clean has r kept))
    (c.in_ok-rows.ensures.answer clean mid.schema r mid.tables)

pub returns-in_err-rows-clause-told : goal.returns-in_err-rows-clause-told
returns-in_err-rows-clause-told g c =
    passed_after g.S.Store _ _ _ _ _ _ c.in_ok-header.ensures.looks c.in_err-rows.ensures.looks c.in_err-rows.ensures.told c.from_residual-in_err-rows.ensures.1

pub returns-in_err-entry-clause-told : goal.returns-in_err-entry-clause-told
returns-in_err-entry-clause-told g c =
    lost_told g.S.Store c.args.conn.now _ _ _ (λ clean limits stands.
    let r = register_in limits (state g.S.Store c.args.conn.now).now.trees in
    let mid = left_by r _ _ _ _ _ c.in_ok-header.ensures.looks c.in_ok-rows.ensures.looks clean stands.holds.schema stands.holds.tables in
    let few = mark_within r c.args.no c.in_ok-rows.rows c.in-Some.header stands.holds.sound
    (rw c.in-Some.is at (c.in_ok-header.ensures.answer mid.clean stands.holds.schema r stands.holds.tables)) (c.in_ok-rows.ensures.answer clean mid.schema r mid.tables) in
    omega (arith, few, c.in_err-entry.ensures.beyond)) c.from_residual-in_err-entry.ensures.1
