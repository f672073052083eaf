use Rattle.std.proofs.Common.{◌≡◌, drop}
use Rattle.oftp_schedule.specs.Machine.{earlier, first_ripe}
use Rattle.oftp_schedule.proofs.table.first_ripe_time.Given as goal

abbrev pub invariant-loop-connection : goal.invariant-loop-connection
invariant-loop-connection l = earlier l.first (first_ripe l.now (drop l.connection-index l.connections)) ≡ first_ripe l.now l.connections
