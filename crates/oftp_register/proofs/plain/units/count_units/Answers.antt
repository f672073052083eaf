use Rattle.std.proofs.Common.{List, ℕ, length, ap, arith}
use Rattle.std.proofs.lemmas.List.Folds.{length-flat_map-take}
use Rattle.oftp_register.proofs.plain.units.count_units.Goals as goal

pub overflow_add-units : goal.overflow_add-units
overflow_add-units c =
    let rows = c.args.rows.now in
    let row = c.row-item.result in
    let within = length-flat_map-take (λ (r : List ℕ). r) rows c.loop-row.row-index row c.loop-row-test.true in
    let same = ap length c.row-item.is in
    omega (arith, within, same, c.loop-row.invariant, c.len.ensures, c.requires)
