use Rattle.std.proofs.Common.{◌≡◌, rules}
use Rattle.sqlite.specs.Held.{state}
use Rattle.oftp_tables.specs.Schema.{first_schema}
use Rattle.oftp_tables.proofs.OpeningLemmas.{migrates_store}
use Rattle.oftp_tables.proofs.migrate.migrate_tables.Goals as goal

pub returns-then-is_first-clause-opened : goal.returns-then-is_first-clause-opened
returns-then-is_first-clause-opened g c =
    let first : (state g.S.Store c.args.conn.now).now.schema ≡ first_schema = search rules in
    let e = c.migrate_first.ensures in
    migrates_store _ _ c.migrate_first.result first e.clean e.mode e.known e.wrong e.migrated e.left
