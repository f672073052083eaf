use Rattle.std.proofs.Common.{◌≡◌, fold, take}
use Rattle.oftp_status.specs.Pictures.{unless_later}
use Rattle.oftp_status.proofs.picture.last_good.Given as goal

-- the latest of the counters so far
abbrev pub invariant-loop-tally : goal.invariant-loop-tally
invariant-loop-tally l = l.time ≡ fold (unless_later l.code l.way) 0 (take l.tally-index l.counters)
