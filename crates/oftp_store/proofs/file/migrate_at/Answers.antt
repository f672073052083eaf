use Rattle.std.proofs.Common.{refl}
use Rattle.sqlite.specs.Files.{over_files}
use Rattle.oftp_tables.specs.Opening.{FailsToMigrate}
use Rattle.oftp_store.specs.Opens.{to_migrate}
use Rattle.oftp_store.proofs.OpenLemmas.{after_files, opened_is_kept, told_is_kept, unopened_refused, unopened_untold}
use Rattle.oftp_store.proofs.file.migrate_at.Goals as goal

pub returns-in-Ok-clause-unkept : goal.returns-in-Ok-clause-unkept
returns-in-Ok-clause-unkept g c = after_files _ _ _ (opened_is_kept _ _) c.in_ok-conn.ensures.unkept

pub returns-in-Err-clause-unkept : goal.returns-in-Err-clause-unkept
returns-in-Err-clause-unkept g c = after_files _ _ _ (told_is_kept _ _ refl) c.in_ok-conn.ensures.unkept

pub returns-in-Err-clause-told : goal.returns-in-Err-clause-told
returns-in-Err-clause-told g c = λ clean other. (c.in_ok-conn.conn, c.in_ok-conn.ensures.fresh, c.in_ok-conn.ensures.found, c.in-Err.ensures.told clean other)

pub returns-in_err-conn-clause-refused : goal.returns-in_err-conn-clause-refused
returns-in_err-conn-clause-refused g c = unopened_refused over_files _ _ _ _ c.from_residual.ensures.1 _ c.in_err-conn.was c.connect_at.ensures.unopened

pub returns-in_err-conn-clause-told : goal.returns-in_err-conn-clause-told
returns-in_err-conn-clause-told g c = unopened_untold over_files to_migrate _ (FailsToMigrate over_files) _ _ c.from_residual.ensures.1 _ c.in_err-conn.was c.connect_at.ensures.unopened
