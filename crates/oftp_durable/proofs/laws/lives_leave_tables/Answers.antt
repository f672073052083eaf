use Rattle.oftp_durable.proofs.LifeTables.{lasts}
use Rattle.oftp_durable.proofs.laws.lives_leave_tables.Goals as goal

pub returns : goal.returns
returns g c = λ began now acts over left clean r has.
    lasts g.S.Store began (g.met.S.Store.shut_if_dirty began.conn.store) c.lives_make_the_file.ensures acts over now left clean r has
