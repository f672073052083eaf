use Rattle.std.proofs.Common.{◌≡◌, ◌∙◌, None, rules}
use Rattle.oftp_register.specs.LookUps.{item_of}
use Rattle.oftp_store.proofs.ListLemmas.{file_within, item_due, item_file}
use Rattle.oftp_store.proofs.LookLemmas.{left_by}
use Rattle.oftp_store.proofs.CauseLemmas.{passed_after}
use Rattle.oftp_store.proofs.queries.next_item.next_item.Goals as goal

pub returns-in-Some-clause-answer : goal.returns-in-Some-clause-answer
returns-in-Some-clause-answer g c clean has r kept sound =
    item_due r c.args.partner.now c.args.cursor c.in-Some.item (rw c.in-Some.is at (c.in_ok-item.ensures.answer clean has r kept sound))

pub returns-clause-answer : goal.returns-clause-answer
returns-clause-answer g c clean has r kept sound =
    let mid = left_by r _ _ _ _ _ c.in_ok-item.ensures.looks c.in_ok-file.ensures.looks clean has kept in
    let same : c.map.result ≡ item_of None c.in_ok-file.file = search rules in
    same
    ∙ item_file r _ c.args.cursor c.in_ok-file.file (rw c.in_default.is at (c.in_ok-item.ensures.answer mid.clean has r kept sound))
    (c.in_ok-file.ensures.answer clean mid.schema r mid.tables
    ∙ file_within r c.args.partner.now c.args.cursor.file c.within_store.result kept.outgoing.few c.within_store.ensures.same c.within_store.ensures.far)

pub returns-in_err-file-clause-told : goal.returns-in_err-file-clause-told
returns-in_err-file-clause-told g c =
    passed_after g.S.Store _ _ _ _ _ _ c.in_ok-item.ensures.looks c.in_err-file.ensures.looks c.in_err-file.ensures.told c.from_residual-in_err-file.ensures.1
