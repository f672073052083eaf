use Rattle.std.proofs.Common.{◌≡◌, Err, IfErr, IsTrue, rules, subst}
use Rattle.sqlite.specs.Held.{state}
use Rattle.sqlite.specs.State.{HasCleanDisk}
use Rattle.oftp_tables.specs.Making.{IsEmpty, IsMakingError}
use Rattle.oftp_tables.proofs.MakeLemmas.{fails_at_its_end, fails_on_the_way}
use Rattle.oftp_tables.proofs.make.create.Goals as goal

pub returns-in_err-make_all-clause-told : goal.returns-in_err-make_all-clause-told
returns-in_err-make_all-clause-told g c =
    let same : c.drop-tx.new.self.0 ≡ c.conn-1.given.0 = search rules in
    let is : c.from_residual.result ≡ Err c.in_err-make_all.field-0.0 = search rules in
    subst (λ h. HasCleanDisk (state g.S.Store h) → IsTrue (state g.S.Store c.args.conn.now).is_open → IsEmpty (state g.S.Store c.args.conn.now).now
    → IfErr c.from_residual.result (IsMakingError g.S.Store c.args.conn.now h)) same
    (λ clean is_open empty. fails_on_the_way g.S.Store c.args.conn.now _ c.transaction-tx.ensures.begun is_open empty c.make_all.new.tx.conn.now c.drop-tx.new.self.0 _ _ is
    c.in_err-make_all.ensures.told c.drop-tx.ensures.survives clean)

pub returns-clause-told : goal.returns-clause-told
returns-clause-told g c =
    let same : c.commit.new.self.0 ≡ c.conn-2-1.given.0 = search rules in
    subst (λ h. HasCleanDisk (state g.S.Store h) → IsTrue (state g.S.Store c.args.conn.now).is_open → IsEmpty (state g.S.Store c.args.conn.now).now
    → IfErr c.commit.result (IsMakingError g.S.Store c.args.conn.now h)) same
    (λ clean is_open empty. fails_at_its_end g.S.Store c.args.conn.now _ c.transaction-tx.ensures.begun is_open empty c.make_all.new.tx.conn.now c.commit.new.self.0 _
    c.in_ok-make_all.ensures.runs c.commit.ensures.survives.clean (c.commit.ensures.err clean) clean)
