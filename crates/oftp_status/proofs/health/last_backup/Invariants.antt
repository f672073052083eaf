use Rattle.std.proofs.Common.{◌≡◌, fold, take}
use Rattle.oftp_status.specs.Health.{later_backup}
use Rattle.oftp_status.proofs.health.last_backup.Given as goal

-- of those so far
abbrev pub invariant-loop-tally : goal.invariant-loop-tally
invariant-loop-tally l = l.time ≡ fold later_backup l.since (take l.tally-index l.counters)
