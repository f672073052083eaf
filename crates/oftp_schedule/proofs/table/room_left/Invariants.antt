use Rattle.std.proofs.Common.{◌≡◌, drop}
use Rattle.oftp_schedule.specs.Rules.{room_left}
use Rattle.oftp_schedule.proofs.table.room_left.Given as goal

abbrev pub invariant-loop-connection : goal.invariant-loop-connection
invariant-loop-connection l = room_left l.left (drop l.connection-index l.connections) ≡ room_left l.most l.connections
