use Rattle.std.proofs.Common.{length}
use Rattle.oftp_telling.proofs.faults.+culprit.Given as goal

-- fewer fields are left
abbrev pub decreases-culprit : goal.decreases-culprit
decreases-culprit l = length l.fields.now
