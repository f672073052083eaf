use Rattle.std.proofs.Common.{◌≡◌, take}
use Rattle.oftp_vfile.specs.VirtualFile.{units_in}
use Rattle.oftp_register.proofs.plain.units.count_units.Given as goal

-- the rows so far are counted
abbrev pub invariant-loop-row : goal.invariant-loop-row
invariant-loop-row l = l.units ≡ units_in (take l.row-index l.rows)
