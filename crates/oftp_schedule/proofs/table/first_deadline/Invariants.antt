use Rattle.std.proofs.Common.{◌≡◌, drop}
use Rattle.oftp_schedule.specs.Machine.{earlier, first_due}
use Rattle.oftp_schedule.proofs.table.first_deadline.Given as goal

abbrev pub invariant-loop-connection : goal.invariant-loop-connection
invariant-loop-connection l = earlier l.first (first_due (drop l.connection-index l.connections)) ≡ first_due l.connections
