use Rattle.std.proofs.Common.{◌≡◌}
use Rattle.oftp_store.proofs.OfficeLemmas.{looks_up, settled_alone}
use Rattle.std.proofs.lemmas.Result.{IfOk-weaker}
use Rattle.oftp_register.specs.Register.{has_received}
use Rattle.oftp_store.proofs.office.law.SqlOfficeOffice.has_received.Goals as goal

pub returns-clause-looks : goal.returns-clause-looks
returns-clause-looks g c =
    rw c.counted.ensures.same (looks_up (λ r there. there ≡ has_received r c.args.kind c.args.identity.now) _ _ _ _ _ c.has_filed-there.result
    (settled_alone g.S.Store g.met.S.Store.settled _ c.args.self.now.conn) c.has_filed-there.ensures.looks
    (λ k has. IfOk-weaker c.has_filed-there.result _ _ (λ x told r kept sound. told r kept) (c.has_filed-there.ensures.answer k has)) c.counted.ensures.counts)

pub returns-clause-told : goal.returns-clause-told
returns-clause-told g c =
    rw c.counted.ensures.same c.has_filed-there.ensures.told
