use Rattle.std.proofs.Common.{◌≤◌, ◌-◌}
use Rattle.oftp_channel.proofs.LackingLemmas.{Walked}
use Rattle.oftp_channel.proofs.coming.lacking.Given as goal

abbrev pub invariant-words : goal.invariant-words
invariant-words l = record {
  within : l.done ≤ l.count;
  walked : Walked l.heard l.rest l.count l.done l.left l.lacking;
}

abbrev pub decreases-words : goal.decreases-words
decreases-words l = l.count - l.done
