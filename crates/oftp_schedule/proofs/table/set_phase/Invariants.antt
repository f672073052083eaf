use Rattle.std.proofs.Common.{◌≡◌, ◌++◌, map, take, drop}
use Rattle.oftp_schedule.specs.Rules.{became}
use Rattle.oftp_schedule.proofs.table.set_phase.Given as goal

abbrev pub invariant-loop-connection : goal.invariant-loop-connection
invariant-loop-connection l = l.connections ≡ map (became l.id l.phase) (take l.connection-index l.fn.connections) ++ drop l.connection-index l.fn.connections
