use Rattle.std.proofs.Common.{List, inl, sym, ap, subst, arith}
use Rattle.sqlite.specs.Order.{Row}
use Rattle.sqlite.specs.Effect.{Database, IsDatabase}
use Rattle.sqlite.specs.State.{HasCleanDisk}
use Rattle.sqlite.specs.Files.{file_state}
use Rattle.oftp_register.specs.Register.{Register}
use Rattle.oftp_tables.specs.Making.{HasOffice, about_told}
use Rattle.oftp_tables.proofs.SchemaLemmas.{same_schema}
use Rattle.oftp_tables.specs.Opening.{IsAtFirst, IsFirstOf}
use Rattle.oftp_tables.specs.Stands.{IsContentOf}
use Rattle.oftp_store.specs.Opens.{to_migrate}
use Rattle.oftp_store.proofs.BlankLemmas.{no_table_is_read}
use Rattle.oftp_store.proofs.OpenLemmas.{asks_to_migrate, both_err, both_ok, empty_is_foreign, has_after, holds_taken, is_at, is_at_first, is_read, matched_ok, refused_ok, refuses_files, same_migratable}
use Rattle.oftp_store.proofs.file.migrate_over.Goals as goal

pub returns-clause-limits : goal.returns-clause-limits
returns-clause-limits g c = matched_ok _ _ c.migrate.result _ c.migrate.ensures.opened (λ o opens. opens.0)

pub returns-clause-faults : goal.returns-clause-faults
returns-clause-faults g c = matched_ok _ _ c.migrate.result _ c.migrate.ensures.opened (λ o opens. opens.1)

pub returns-clause-migrated : goal.returns-clause-migrated
returns-clause-migrated g c = matched_ok _ _ c.migrate.result _ c.migrate.ensures.opened (λ o opens clean r db is holds stands.
    has_after _ _ _ _ _ _ r opens.2 clean is (λ early.
    let read = is_read _ _ (c.requires.opened early) (c.requires.reads early).holds in
    is_at_first _ _ read r (subst (IsFirstOf r) (sym (read.holds db holds)) stands)))

-- a database with the content of a register's store has the office's tables
has_office : (r : Register) (d : Database) → IsContentOf d.trees r → IsDatabase d → HasOffice d
has_office r d content sound = record {
  schema = same_schema d.schema d.trees content.store sound;
  about = ap (λ (rows : List Row). about_told (λ tree. rows)) content.tables.about;
}

pub returns-clause-found : goal.returns-clause-found
returns-clause-found g c = both_ok _ _ c.migrate.result _ _ c.migrate.ensures.opened c.migrate.ensures.found (λ o opens finds clean r db is holds content.
    let early : HasCleanDisk (file_state c.args.conn) = omega (arith, opens.2.clean, clean) in
    let read = is_read _ _ (c.requires.opened early) (c.requires.reads early).holds in
    let here = subst (λ t. IsContentOf t r) (sym (read.holds db holds)) content in
    finds clean r is (is_at _ _ read r (content.sound, inl here)) (has_office r (file_state c.args.conn).now here read.sound))

pub returns-clause-known : goal.returns-clause-known
returns-clause-known g c = matched_ok _ _ c.migrate.result _ c.migrate.ensures.opened (λ o opens clean.
    holds_taken _ _ _ _ _ _ _ same_migratable opens.2 clean (λ early. is_read _ _ (c.requires.opened early) (c.requires.reads early).holds))

pub returns-clause-fresh : goal.returns-clause-fresh
returns-clause-fresh g c = refused_ok _ _ c.migrate.result _ _ c.migrate.ensures.opened (λ other. c.migrate.ensures.foreign other.0 other.1) (λ o opens foreign clean none.
    let early : HasCleanDisk (file_state c.args.conn) = omega (arith, opens.2.clean, clean) in
    let found = c.requires.reads early in
    let read = is_read _ _ (c.requires.opened early) found.holds in
    foreign (empty_is_foreign (file_state c.args.conn).now (no_table_is_read _ _ read found.reads none)))

pub returns-clause-refused : goal.returns-clause-refused
returns-clause-refused g c = both_err _ _ c.migrate.result _ _ c.migrate.ensures.opened (λ other. c.migrate.ensures.foreign other.0 other.1) (λ e refuses foreign clean.
    let early : HasCleanDisk (file_state c.args.conn) = omega (arith, refuses.clean, clean) in
    let found = c.requires.reads early in
    let read = is_read _ _ (c.requires.opened early) found.holds in
    refuses_files to_migrate IsAtFirst _ _ _ _ asks_to_migrate refuses clean read c.leaves_committed.ensures foreign
    (λ none. foreign (empty_is_foreign (file_state c.args.conn).now (no_table_is_read _ _ read found.reads none))) (is_at_first _ _ read))
