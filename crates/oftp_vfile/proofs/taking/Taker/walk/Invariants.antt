use Rattle.std.proofs.Common.{length}
use Rattle.oftp_vfile.specs.Taking.{Walked}
use Rattle.oftp_vfile.proofs.taking.Taker.walk.Given as goal

abbrev pub invariant-loop-rest : goal.invariant-loop-rest
invariant-loop-rest l = Walked l.fn.self l.self l.payload l.rest

abbrev pub decreases-loop-rest : goal.decreases-loop-rest
decreases-loop-rest l = length l.rest
