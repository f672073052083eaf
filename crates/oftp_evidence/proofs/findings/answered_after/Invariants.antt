use Rattle.std.proofs.Common.{◌≡◌, take}
use Rattle.oftp_evidence.specs.Findings.{answered_after}
use Rattle.oftp_evidence.proofs.findings.answered_after.Given as goal

-- of the parts so far
abbrev pub invariant-loop-part : goal.invariant-loop-part
invariant-loop-part l = l.answered ≡ answered_after l.fn.before (take l.part-index l.parts) l.moment
