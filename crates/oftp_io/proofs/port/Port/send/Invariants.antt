use Rattle.std.proofs.Common.{◌-◌, ◌≤◌, take, length}
use Rattle.oftp_io.specs.Ports.{SentAll}
use Rattle.oftp_io.proofs.port.Port.send.Given as goal

abbrev pub invariant-loop-at : goal.invariant-loop-at
invariant-loop-at g l = record {
  within : l.at ≤ length l.octets;
  so_far : SentAll g.W.Write.contents l.fn.self l.self (take l.at l.octets);
}

abbrev pub decreases-loop-at : goal.decreases-loop-at
decreases-loop-at g l = length l.octets - l.at
