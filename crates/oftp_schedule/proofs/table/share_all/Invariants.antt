use Rattle.std.proofs.Common.{◌≡◌, ◌++◌, map, take, drop}
use Rattle.oftp_schedule.specs.Rules.{shared}
use Rattle.oftp_schedule.proofs.table.share_all.Given as goal

abbrev pub invariant-loop-connection : goal.invariant-loop-connection
invariant-loop-connection l = l.connections ≡ map (shared l.share) (take l.connection-index l.fn.connections) ++ drop l.connection-index l.fn.connections
