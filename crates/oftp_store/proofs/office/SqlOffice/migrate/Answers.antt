use Rattle.std.proofs.Common.{Ok, subst}
use Rattle.sqlite.specs.Held.{state}
use Rattle.oftp_vfile.specs.declared.limits.Limits.{Limits}
use Rattle.oftp_store.specs.Opens.{Has}
use Rattle.oftp_tables.proofs.OpeningLemmas.{has_found}
use Rattle.oftp_store.proofs.office.SqlOffice.migrate.Goals as goal

pub returns-in-Ok-clause-found : goal.returns-in-Ok-clause-found
returns-in-Ok-clause-found g c =
    rw c.over.ensures.conn (λ clean r is at ours. subst (λ (l : Limits). Has l r (state g.S.Store c.migrate_tables.new.conn)) is
    (has_found r _ _ (Ok tt) c.requires.autocommit at ours (c.in-Ok.ensures.found clean ours)))

pub returns-in-Ok-clause-opened : goal.returns-in-Ok-clause-opened
returns-in-Ok-clause-opened g c = (c.over.ensures.limits, c.over.ensures.faults, rw c.over.ensures.conn (c.in-Ok.ensures.opened c.args.limits))
