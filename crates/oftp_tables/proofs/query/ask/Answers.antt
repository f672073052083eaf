use Rattle.std.proofs.Common.{◌≡◌, List, ℕ, subst, sym}
use Rattle.sqlite.specs.Given.{IsPlain}
use Rattle.sqlite.specs.Listing.{understood}
use Rattle.sqlite.specs.Schema.{Schema}
use Rattle.sqlite.specs.Values.{bound}
use Rattle.oftp_tables.specs.Schema.{office_schema}
use Rattle.oftp_tables.proofs.ConnectionLemmas.{queries_failed, queries_shown}
use Rattle.oftp_tables.proofs.LookupLemmas.{looks_of}
use Rattle.oftp_tables.proofs.query.ask.Goals as goal

plain_at : (sql : List ℕ) → IsPlain (understood office_schema sql) → (schema : Schema) → schema ≡ office_schema → IsPlain (understood schema sql)
plain_at sql plain schema is = subst (λ s. IsPlain (understood s sql)) (sym is) plain

pub returns-in-Ok-clause-looks : goal.returns-in-Ok-clause-looks
returns-in-Ok-clause-looks g c plain =
    let e = c.query_all.ensures in
    looks_of _ _ _ (queries_shown office_schema c.args.sql.now (bound c.args.params.now) _ _ (plain_at c.args.sql.now plain) e.survives.clean e.mode e.survives _
    (λ clean. (_, c.in-Ok.ensures.ok clean))) tt

pub returns-in-Err-clause-looks : goal.returns-in-Err-clause-looks
returns-in-Err-clause-looks g c plain =
    let e = c.query_all.ensures in
    let failed =
    queries_failed office_schema c.args.sql.now (bound c.args.params.now) _ _ (plain_at c.args.sql.now plain) e.survives.clean e.mode e.survives c.office_fault_of.result _
    (λ clean. c.in-Err.ensures.err clean) in
    looks_of _ _ _ failed c.office_fault_of.ensures.fails

pub returns-in-Err-clause-error : goal.returns-in-Err-clause-error
returns-in-Err-clause-error g c clean = (_, c.in-Err.ensures.err clean, c.office_fault_of.ensures.fails, c.office_fault_of.ensures.memory)
