use Rattle.std.proofs.Common.{length}
use Rattle.oftp_conformance.proofs.values.+first_broken.Given as goal

-- fewer rules are left
abbrev pub decreases-first_broken : goal.decreases-first_broken
decreases-first_broken l = length l.rules.now
