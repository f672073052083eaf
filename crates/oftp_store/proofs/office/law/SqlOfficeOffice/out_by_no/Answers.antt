use Rattle.std.proofs.Common.{◌≡◌, None, sym, arith}
use Rattle.oftp_store.proofs.OfficeLemmas.{far_outgoing, looks_nowhere, looks_up, settled_alone}
use Rattle.std.proofs.lemmas.Result.{IfOk-weaker}
use Rattle.sqlite.specs.Held.{state}
use Rattle.oftp_tables.specs.Tables.{register_in}
use Rattle.oftp_register.specs.LookUps.{out_by_no}
use Rattle.oftp_store.proofs.office.law.SqlOfficeOffice.out_by_no.Goals as goal

pub returns-then-no-ge-FIRST_FAR-clause-looks : goal.returns-then-no-ge-FIRST_FAR-clause-looks
returns-then-no-ge-FIRST_FAR-clause-looks g c = looks_nowhere (λ r found. found ≡ out_by_no r c.args.no) _ _ _ None (settled_alone g.S.Store g.met.S.Store.settled _ c.args.self.now.conn)
    (λ stands. sym (far_outgoing (register_in c.args.self.now.limits (state g.S.Store c.args.self.now.conn).now.trees) c.args.no stands.holds.tables.outgoing.few
    (omega (arith, c.if-no-ge-FIRST_FAR.true))))

pub returns-clause-looks : goal.returns-clause-looks
returns-clause-looks g c =
    rw c.counted.ensures.same (looks_up (λ r found. found ≡ out_by_no r c.args.no) _ _ _ _ _ c.find_outgoing_file-found.result
    (settled_alone g.S.Store g.met.S.Store.settled _ c.args.self.now.conn) c.find_outgoing_file-found.ensures.looks
    (λ k has. IfOk-weaker c.find_outgoing_file-found.result _ _ (λ x told r kept sound. told r kept) (c.find_outgoing_file-found.ensures.answer k has)) c.counted.ensures.counts)

pub returns-clause-told : goal.returns-clause-told
returns-clause-told g c =
    rw c.counted.ensures.same c.find_outgoing_file-found.ensures.told
