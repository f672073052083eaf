use Rattle.std.proofs.Common.{◌≡◌, Err, rules}
use Rattle.oftp_tables.proofs.MakeLemmas.{fails_at_about}
use Rattle.oftp_tables.proofs.make.make_all.Goals as goal

pub returns-in_err-add_about-clause-told : goal.returns-in_err-add_about-clause-told
returns-in_err-add_about-clause-told g c clean within empty =
    let is : c.from_residual-in_err-add_about.result ≡ Err c.in_err-add_about.field-0.0 = search rules in
    rw is
    (fails_at_about g.S.Store c.args.tx.now.conn.now c.make_tables.new.tx.conn.now c.add_about.new.tx.conn.now _
    c.in_ok-make_tables.ensures.runs c.in_err-add_about.ensures.runs.survives.clean c.in_err-add_about.ensures.told clean within empty)
