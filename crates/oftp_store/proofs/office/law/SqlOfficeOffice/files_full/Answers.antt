use Rattle.std.proofs.Common.{◌≡◌, refl}
use Rattle.oftp_register.specs.LookUps.{files_full}
use Rattle.oftp_store.proofs.OfficeLemmas.{looks_up, looks_weaker, settled_alone}
use Rattle.oftp_store.proofs.office.law.SqlOfficeOffice.files_full.Goals as goal

pub returns-clause-looks : goal.returns-clause-looks
returns-clause-looks g c =
    let most = c.args.self.now.limits.files in
    let looked = looks_up (λ r full. r.limits.files ≡ most → full ≡ files_full r c.args.side) c.args.self.now.limits c.args.self.now.faults _ _ _ c.is_full-full.result
    (settled_alone g.S.Store g.met.S.Store.settled _ c.args.self.now.conn) c.is_full-full.ensures.looks c.is_full-full.ensures.answer c.counted.ensures.counts in
    rw c.counted.ensures.same (looks_weaker (λ r full. r.limits.files ≡ most → full ≡ files_full r c.args.side) (λ r full. full
    ≡ files_full r c.args.side) _ _ c.is_full-full.result looked (λ full told. told refl))

pub returns-clause-told : goal.returns-clause-told
returns-clause-told g c =
    rw c.counted.ensures.same c.is_full-full.ensures.told
