use Rattle.std.proofs.Common.{◌≡◌, ◌≢◌, Ok, Err, rules}
use Rattle.sqlite.specs.Held.{state}
use Rattle.oftp_tables.specs.Schema.{no_schema, office_schema}
use Rattle.oftp_tables.specs.Making.{IsEmpty}
use Rattle.oftp_tables.proofs.OpeningLemmas.{finds_store, makes_store}
use Rattle.oftp_tables.proofs.open.open_tables.Goals as goal

pub returns-in-Ok-clause-opened : goal.returns-in-Ok-clause-opened
returns-in-Ok-clause-opened g c =
    let none : IsEmpty (state g.S.Store c.args.conn.now).now = search rules in
    let e = c.in-Ok.ensures.transacts in
    makes_store _ _ (Ok tt) none e.clean e.mode (λ k is_open. e.done k is_open none) (λ k is_open. e.left k is_open none) tt

pub returns-in-Err-clause-opened : goal.returns-in-Err-clause-opened
returns-in-Err-clause-opened g c =
    let none : IsEmpty (state g.S.Store c.args.conn.now).now = search rules in
    let e = c.in-Err.ensures.transacts in
    makes_store _ _ (Err c.store_fault_of.result) none e.clean e.mode (λ k is_open. tt) (λ k is_open. e.left k is_open none) c.store_fault_of.ensures.named

pub returns-clause-opened : goal.returns-clause-opened
returns-clause-opened g c =
    let some : (state g.S.Store c.args.conn.now).now.schema ≢ no_schema = search rules in
    let ours : (state g.S.Store c.args.conn.now).now.schema ≡ office_schema = search rules in
    let e = c.expect_schema.ensures in
    finds_store _ _ c.expect_schema.result c.requires some ours e.clean e.mode e.same e.known e.wrong e.left
