use Rattle.std.proofs.Common.{◌≡◌, map, take}
use Rattle.sqlite.specs.Order.{Row, bytes, column}
use Rattle.oftp_store.proofs.queries.rows.bodies_told.Given as goal

abbrev pub invariant-rows : goal.invariant-rows
invariant-rows l = record { made : l.out.items ≡ map (λ (row : Row). bytes (column row 0)) (take l.row-index l.rows) }
