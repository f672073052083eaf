use Rattle.std.proofs.Common.{◌≡◌, ap, false, is_ok, true}
use Rattle.sqlite.specs.Files.{over_files}
use Rattle.sqlite.specs.WalFiles.{image_at}
use Rattle.oftp_store.specs.Opens.{RefusesPath, to_migrate, to_open}
use Rattle.oftp_database.specs.declared.opening.Opening.TheVariants.{Migrate, Open}
use Rattle.oftp_database.proofs.Beginning.{gained, passed_on}
use Rattle.oftp_database.proofs.opening.office_at.Goals as goal

pub returns-in_ok-office-in-Open-clause-gained : goal.returns-in_ok-office-in-Open-clause-gained
returns-in_ok-office-in-Open-clause-gained g c =
    let told = c.in_ok-office-in-Open.ensures in
    rw c.in-Open.is (gained Open _ (image_at g.S.Start) c.in_ok-office-in-Open.office c.new.result c.new.ensures.office c.new.ensures.blank told.limits told.known
    (λ clean. record { found = told.found clean; reopened = told.reopened clean; fresh = told.fresh clean }))

pub returns-in_ok-office-in-Migrate-clause-gained : goal.returns-in_ok-office-in-Migrate-clause-gained
returns-in_ok-office-in-Migrate-clause-gained g c =
    let told = c.in_ok-office-in-Migrate.ensures in
    rw c.in-Migrate.is (gained Migrate _ (image_at g.S.Start) c.in_ok-office-in-Migrate.office c.new-in-Migrate.result c.new-in-Migrate.ensures.office
    c.new-in-Migrate.ensures.blank told.limits told.known (λ clean. record { migrated = told.migrated clean; found = told.found clean; table = told.fresh clean }))

pub returns-in_ok-office-in-Open-clause-known : goal.returns-in_ok-office-in-Open-clause-known
returns-in_ok-office-in-Open-clause-known g c = (returns-in_ok-office-in-Open-clause-gained g c).taken

pub returns-in_ok-office-in-Migrate-clause-known : goal.returns-in_ok-office-in-Migrate-clause-known
returns-in_ok-office-in-Migrate-clause-known g c = (returns-in_ok-office-in-Migrate-clause-gained g c).taken

pub returns-in_ok-office-in-Open-clause-unkept : goal.returns-in_ok-office-in-Open-clause-unkept
returns-in_ok-office-in-Open-clause-unkept g c = (
  λ is. absurd (let no : true ≡ false = ap is_ok is in cc),
  λ unkept. absurd (let no : true ≡ false = ap is_ok (c.in_ok-office-in-Open.ensures.unkept.1 unkept) in cc),
)

pub returns-in_ok-office-in-Migrate-clause-unkept : goal.returns-in_ok-office-in-Migrate-clause-unkept
returns-in_ok-office-in-Migrate-clause-unkept g c = (
  λ is. absurd (let no : true ≡ false = ap is_ok is in cc),
  λ unkept. absurd (let no : true ≡ false = ap is_ok (c.in_ok-office-in-Migrate.ensures.unkept.1 unkept) in cc),
)

pub returns-in_err-office-in-Open-clause-refused : goal.returns-in_err-office-in-Open-clause-refused
returns-in_err-office-in-Open-clause-refused g c =
    rw c.in-Open.is (passed_on (RefusesPath over_files to_open (image_at g.S.Start)) c.in_err-office-in-Open.field-0.0 _ c.from_residual.ensures.1
    c.in_err-office-in-Open.ensures.refused)

pub returns-in_err-office-in-Migrate-clause-refused : goal.returns-in_err-office-in-Migrate-clause-refused
returns-in_err-office-in-Migrate-clause-refused g c =
    rw c.in-Migrate.is (passed_on (RefusesPath over_files to_migrate (image_at g.S.Start)) c.in_err-office-in-Migrate.field-0.0 _
    c.from_residual-in_err-office-in-Migrate.ensures.1 c.in_err-office-in-Migrate.ensures.refused)
