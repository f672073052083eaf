use Rattle.std.proofs.Common.{◌≡◌, false, true}
use Rattle.oftp_store.proofs.OfficeLemmas.{looks_up, settled_alone}
use Rattle.oftp_register.specs.LookUps.{next_item}
use Rattle.oftp_store.proofs.office.law.SqlOfficeOffice.next_item.Goals as goal

pub returns-then-not-files-clause-looks : goal.returns-then-not-files-clause-looks
returns-then-not-files-clause-looks g c =
    rw (c.if-not-files.true, c.counted.ensures.same) (looks_up (λ r item. item ≡ next_item r c.args.partner.now c.args.cursor false) _ _ _ _ _ c.next_due-due.result
    (settled_alone g.S.Store g.met.S.Store.settled _ c.args.self.now.conn) c.next_due-due.ensures.looks c.next_due-due.ensures.answer c.counted.ensures.counts)

pub returns-then-not-files-clause-told : goal.returns-then-not-files-clause-told
returns-then-not-files-clause-told g c = rw c.counted.ensures.same c.next_due-due.ensures.told

pub returns-clause-looks : goal.returns-clause-looks
returns-clause-looks g c =
    rw (c.if-not-files.false, c.counted-2.ensures.same) (looks_up (λ r item. item ≡ next_item r c.args.partner.now c.args.cursor true) _ _ _ _ _ c.next_item-found.result
    (settled_alone g.S.Store g.met.S.Store.settled _ c.args.self.now.conn) c.next_item-found.ensures.looks c.next_item-found.ensures.answer c.counted-2.ensures.counts)

pub returns-clause-told : goal.returns-clause-told
returns-clause-told g c = rw c.counted-2.ensures.same c.next_item-found.ensures.told
