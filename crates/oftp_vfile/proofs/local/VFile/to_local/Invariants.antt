use Rattle.std.proofs.Common.{◌≡◌, take}
use Rattle.oftp_vfile.specs.LocalForm.{local_of}
use Rattle.oftp_vfile.proofs.local.VFile.to_local.Given as goal

abbrev pub invariant-loop-row : goal.invariant-loop-row
invariant-loop-row l = l.content.items ≡ local_of l.self.format (take l.row-index l.self.rows)
