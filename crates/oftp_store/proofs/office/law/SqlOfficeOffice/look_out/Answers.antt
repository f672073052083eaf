use Rattle.std.proofs.Common.{◌≡◌}
use Rattle.oftp_store.proofs.OfficeLemmas.{looks_up, settled_alone}
use Rattle.std.proofs.lemmas.Result.{IfOk-weaker}
use Rattle.oftp_register.specs.LookUps.{look_out}
use Rattle.oftp_store.proofs.office.law.SqlOfficeOffice.look_out.Goals as goal

pub returns-clause-looks : goal.returns-clause-looks
returns-clause-looks g c =
    rw c.counted.ensures.same (looks_up (λ r found. found ≡ look_out r c.args.identity.now) _ _ _ _ _ c.look_out-found.result
    (settled_alone g.S.Store g.met.S.Store.settled _ c.args.self.now.conn) c.look_out-found.ensures.looks
    (λ k has. IfOk-weaker c.look_out-found.result _ _ (λ x told r kept sound. told r kept) (c.look_out-found.ensures.answer k has)) c.counted.ensures.counts)

pub returns-clause-told : goal.returns-clause-told
returns-clause-told g c =
    rw c.counted.ensures.same c.look_out-found.ensures.told
