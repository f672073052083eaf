use Rattle.std.proofs.Common.{subst}
use Rattle.oftp_register.specs.Register.{Register}
use Rattle.oftp_tables.specs.Stands.{IsContentOf}
use Rattle.oftp_store.specs.Shown.{database_of, limits_of}
use Rattle.oftp_store.specs.Views.{content_alone}
use Rattle.oftp_durable.proofs.opening.leaves_alone.Goals as goal

pub returns : goal.returns
returns g c = λ r has.
    let office = c.args.office.now in
    record {
      has = has;
      left = λ db may.
          subst (λ (x : Register). IsContentOf db x) has.1
          (content_alone (limits_of office) (database_of g.S.Store office) has.0 db (g.met.S.Store.settled office.conn.store db has.0.is_open may));
    }
