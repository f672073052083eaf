use Rattle.std.proofs.Common.{◌≡◌, ◌∙◌, ap, arith, inl, inr}
use Rattle.sqlite.specs.Effect.{Database}
use Rattle.sqlite.specs.Held.{state}
use Rattle.sqlite.specs.State.{HasCleanDisk, IsUnchanged}
use Rattle.oftp_tables.specs.Schema.{first_schema}
use Rattle.oftp_tables.specs.MigrationSteps.{AreNegatives}
use Rattle.oftp_tables.proofs.MigrationLemmas.{leaves_migrated}
use Rattle.oftp_tables.proofs.migrate.renew.Goals as goal

pub returns-clause-left : goal.returns-clause-left
returns-clause-left g c clean is_open has db h =
    let old = state g.S.Store c.args.conn.now in
    let mid = state g.S.Store c.find_negatives.new.conn in
    let numbers = c.in_ok-numbers.numbers.items in
    let early : HasCleanDisk mid = omega (arith, c.upgrade_at_once.ensures.clean, clean) in
    let same : IsUnchanged old mid = c.in_ok-numbers.ensures.same early has in
    let still : mid.now.schema ≡ first_schema = ap (λ (d : Database). d.schema) same.0.now_is ∙ has in
    let negatives : AreNegatives old.now.trees numbers = c.in_ok-numbers.ensures.answer early has in
    elim ((rw c.as_slice.ensures.value at c.upgrade_at_once.ensures.left) clean same.0.is_open still db h) [
      | inl before ↦ inl (c.in_ok-numbers.ensures.left early has db before)
      | inr made ↦ inr (leaves_migrated old.now mid.now numbers db same.0.now_is negatives made)
    ]
