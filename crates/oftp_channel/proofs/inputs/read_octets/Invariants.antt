use Rattle.std.proofs.Common.{◌≤◌, ◌-◌, length}
use Rattle.oftp_channel.specs.Inputs.{Gave}
use Rattle.oftp_channel.proofs.inputs.read_octets.Given as goal

abbrev pub invariant-octets : goal.invariant-octets
invariant-octets g l = record {
  within : length l.octets.items ≤ l.count;
  so_far : Gave g.R.Read.remaining l.fn.reader l.reader l.octets.items;
}

abbrev pub decreases-octets : goal.decreases-octets
decreases-octets g l = l.count - length l.octets.items
