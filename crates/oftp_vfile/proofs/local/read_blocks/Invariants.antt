use Rattle.std.proofs.Common.{◌≡◌, ◌<◌, ◌++◌, ℕ, List, All, length}
use Rattle.oftp_vfile.specs.VirtualFile.{octets_in, AreBlocks}
use Rattle.oftp_vfile.proofs.local.read_blocks.Given as goal

abbrev pub invariant-loop-rest : goal.invariant-loop-rest
invariant-loop-rest l = record {
  joined : octets_in l.rows.items ++ l.rest ≡ l.content;
  blocks : AreBlocks l.size l.rows.items;
  full : 0 < length l.rest → All (λ (r : List ℕ). length r ≡ l.size) l.rows.items;
}

abbrev pub decreases-loop-rest : goal.decreases-loop-rest
decreases-loop-rest l = length l.rest
