use Rattle.std.proofs.Common.{◌≡◌, arith}
use Rattle.oftp_store.proofs.OfficeLemmas.{far_units, looks_nowhere, looks_up, settled_alone}
use Rattle.oftp_register.specs.LookUps.{units_of}
use Rattle.oftp_store.proofs.office.law.SqlOfficeOffice.units_of.Goals as goal

pub returns-then-no-ge-FIRST_FAR-clause-looks : goal.returns-then-no-ge-FIRST_FAR-clause-looks
returns-then-no-ge-FIRST_FAR-clause-looks g c = looks_nowhere (λ r units. units ≡ units_of r c.args.side c.args.no) _ _ _ 0 (settled_alone g.S.Store g.met.S.Store.settled _ c.args.self.now.conn)
    (λ stands. far_units _ _ c.args.side c.args.no stands.holds.tables (omega (arith, c.if-no-ge-FIRST_FAR.true)))

pub returns-clause-looks : goal.returns-clause-looks
returns-clause-looks g c =
    rw c.counted.ensures.same (looks_up (λ r units. units ≡ units_of r c.args.side c.args.no) _ _ _ _ _ c.count_units-found.result
    (settled_alone g.S.Store g.met.S.Store.settled _ c.args.self.now.conn) c.count_units-found.ensures.looks c.count_units-found.ensures.answer c.counted.ensures.counts)

pub returns-clause-told : goal.returns-clause-told
returns-clause-told g c =
    rw c.counted.ensures.same c.count_units-found.ensures.told
