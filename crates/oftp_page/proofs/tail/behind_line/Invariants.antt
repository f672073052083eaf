use Rattle.std.proofs.Common.{◌≡◌, ◌-◌, drop, length}
use Rattle.oftp_page.specs.Tails.{behind_line}
use Rattle.oftp_page.proofs.tail.behind_line.Given as goal

-- no line ended so far
abbrev pub invariant-loop-count : goal.invariant-loop-count
invariant-loop-count l = behind_line (drop l.count l.text) ≡ behind_line l.text

abbrev pub decreases-loop-count : goal.decreases-loop-count
decreases-loop-count l = length l.text - l.count
