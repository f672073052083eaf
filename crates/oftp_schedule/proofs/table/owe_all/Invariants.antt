use Rattle.std.proofs.Common.{◌≡◌, ◌++◌, map, take, drop}
use Rattle.oftp_schedule.specs.Rules.{owed}
use Rattle.oftp_schedule.proofs.table.owe_all.Given as goal

abbrev pub invariant-loop-connection : goal.invariant-loop-connection
invariant-loop-connection l = l.connections ≡ map owed (take l.connection-index l.fn.connections) ++ drop l.connection-index l.fn.connections
