use Rattle.std.proofs.Common.{arith}
use Rattle.std.proofs.lemmas.List.Edits.{map_over_more}
use Rattle.std.proofs.lemmas.List.{get_or_default}
use Rattle.oftp_schedule.proofs.table.hurry_all.Goals as goal

pub loop-connection-preserved : goal.loop-connection-preserved
loop-connection-preserved c =
    rw c.hurried.ensures (map_over_more _ _ _ _ _ (omega arith) c.loop-connection.invariant (get_or_default c.loop-connection.connections c.loop-connection.connection-index _ _ (omega arith)))
