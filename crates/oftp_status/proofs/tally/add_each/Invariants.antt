use Rattle.std.proofs.Common.{◌≡◌, ◌++◌, map, take, drop}
use Rattle.oftp_status.specs.Tallies.{counted}
use Rattle.oftp_status.proofs.tally.add_each.Given as goal

-- the counters before the index have counted
abbrev pub invariant-loop-tally : goal.invariant-loop-tally
invariant-loop-tally l = l.tallies ≡ map (counted l.subject l.at) (take l.tally-index l.fn.tallies) ++ drop l.tally-index l.fn.tallies
