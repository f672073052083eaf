use Rattle.std.proofs.Common.{◌≡◌, ◌+◌, ◌≤◌, take}
use Rattle.oftp_vfile.specs.VirtualFile.{units_in}
use Rattle.oftp_register.specs.declared.fit.TheConstants.{MOST_UNITS}
use Rattle.oftp_store.proofs.queries.units.add_units.Given as goal

-- the rows so far are counted
abbrev pub invariant-rows : goal.invariant-rows
invariant-rows l = record { sum : l.sum ≡ l.fn.units + units_in (take l.row-index l.rows); within : l.sum ≤ MOST_UNITS }
