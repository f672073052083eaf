use Rattle.std.proofs.Common.{length}
use Rattle.oftp_vfile.proofs.LocalLemmas.{GoesTo}
use Rattle.oftp_vfile.proofs.local.are_records.Given as goal

abbrev pub invariant-loop-rest : goal.invariant-loop-rest
invariant-loop-rest l = GoesTo l.longest l.content l.rest

abbrev pub decreases-loop-rest : goal.decreases-loop-rest
decreases-loop-rest l = length l.rest
