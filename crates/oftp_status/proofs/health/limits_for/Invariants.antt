use Rattle.std.proofs.Common.{◌≡◌, fold, take}
use Rattle.oftp_status.specs.Health.{with_limits}
use Rattle.oftp_status.proofs.health.limits_for.Given as goal

-- of those so far
abbrev pub invariant-loop-overdue : goal.invariant-loop-overdue
invariant-loop-overdue l = l.limits ≡ fold (with_limits l.general l.code) l.general (take l.overdue-index l.overdues)
