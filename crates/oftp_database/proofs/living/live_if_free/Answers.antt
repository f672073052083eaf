use Rattle.std.proofs.Common.{subst, sym}
use Rattle.sqlite.specs.Files.{over_files}
use Rattle.oftp_watching.specs.declared.watched.Watched.{Watched}
use Rattle.oftp_durable.proofs.LifeTables.{done_nothing}
use Rattle.oftp_database.specs.Openings.{IsOpened}
use Rattle.oftp_database.proofs.Beginning.{began_with}
use Rattle.oftp_database.specs.declared.office.DatabaseOffice.{DatabaseOffice}
use Rattle.oftp_database.proofs.living.live_if_free.Goals as goal

pub returns-clause-begins : goal.returns-clause-begins
returns-clause-begins c = done_nothing c.new-2.result c.new.result c.new-2.ensures

pub returns-clause-opened : goal.returns-clause-opened
returns-clause-opened c =
    began_with (λ (o : Watched DatabaseOffice). IsOpened over_files _ o.office.office) c.new-2.result c.new.result c.new-2.ensures
    (subst (λ (o : DatabaseOffice). IsOpened over_files _ o.office) (sym c.new.ensures) c.in_ok-office.ensures.opened)
