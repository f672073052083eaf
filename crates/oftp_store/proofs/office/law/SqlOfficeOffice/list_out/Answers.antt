use Rattle.std.proofs.Common.{◌≡◌}
use Rattle.oftp_store.proofs.OfficeLemmas.{looks_up, settled_alone}
use Rattle.oftp_register.specs.LookUps.{list_out}
use Rattle.oftp_store.proofs.office.law.SqlOfficeOffice.list_out.Goals as goal

pub returns-clause-looks : goal.returns-clause-looks
returns-clause-looks g c =
    rw c.counted.ensures.same (looks_up (λ r entries. entries.items ≡ list_out r) _ _ _ _ _ c.list-entries.result
    (settled_alone g.S.Store g.met.S.Store.settled _ c.args.self.now.conn) c.list-entries.ensures.looks c.list-entries.ensures.answer c.counted.ensures.counts)

pub returns-clause-told : goal.returns-clause-told
returns-clause-told g c =
    rw c.counted.ensures.same c.list-entries.ensures.told
