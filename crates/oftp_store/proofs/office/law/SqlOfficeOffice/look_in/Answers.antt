use Rattle.std.proofs.Common.{◌≡◌}
use Rattle.oftp_store.proofs.OfficeLemmas.{looks_up, settled_alone}
use Rattle.oftp_register.specs.LookUps.{look_in}
use Rattle.oftp_store.proofs.office.law.SqlOfficeOffice.look_in.Goals as goal

pub returns-clause-looks : goal.returns-clause-looks
returns-clause-looks g c =
    rw c.counted.ensures.same (looks_up (λ r found. found ≡ look_in r c.args.identity.now) _ _ _ _ _ c.look_in-found.result
    (settled_alone g.S.Store g.met.S.Store.settled _ c.args.self.now.conn) c.look_in-found.ensures.looks c.look_in-found.ensures.answer c.counted.ensures.counts)

pub returns-clause-told : goal.returns-clause-told
returns-clause-told g c =
    rw c.counted.ensures.same c.look_in-found.ensures.told
