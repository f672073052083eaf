use Rattle.std.proofs.Common.{◌≡◌, ap, subst, sym}
use Rattle.oftp_vfile.specs.declared.limits.Limits.{Limits}
use Rattle.oftp_register.specs.Register.{Register}
use Rattle.oftp_store.specs.Opens.{Has}
use Rattle.oftp_store.specs.Shown.{database_of}
use Rattle.oftp_files.specs.declared.limits.TheConstants.{LIMITS}
use Rattle.oftp_database.proofs.Remembering.{left_over}
use Rattle.oftp_database.proofs.laws.lives_go_on_from_files.Goals as goal

pub returns : goal.returns
returns g c = λ first began now acts over opened left clean r has db may files holds next later more ended anew fresh goes done.
    let all = c.lives_leave_tables.ensures began.office now.office acts over (left_over g.S.Store began now acts over opened.blank left) clean r has in
    let limited = subst (λ (x : Limits). Has x r (database_of g.S.Store began.office)) opened.limits has in
    let same : r.limits ≡ LIMITS = sym (ap (λ (x : Register). x.limits) limited.1) in
    let reopened = (anew.shows fresh).reopened r all.changes all.least all.left.made db same (all.left.left db may) holds in
    let begun = subst (λ (x : Limits). Has x reopened.register (database_of g.T.Store next.office)) (sym anew.limits) reopened.left.has in
    record {
      begins = record { changes = all.changes; least = all.least; covers = all.covers; reopened = reopened };
      leaves =
          c.lives_leave_tables-2.ensures next.office later.office more ended (left_over g.T.Store next later more ended anew.blank goes) done reopened.register begun;
    }
