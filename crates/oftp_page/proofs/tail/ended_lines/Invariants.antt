use Rattle.std.proofs.Common.{◌≡◌, ◌≤◌, length, take}
use Rattle.oftp_page.specs.Tails.{ended_lines}
use Rattle.oftp_page.proofs.tail.ended_lines.Given as goal

-- no line ends behind what is left
abbrev pub invariant-loop-count : goal.invariant-loop-count
invariant-loop-count l = (l.count ≤ length l.text) × (ended_lines (take l.count l.text) ≡ ended_lines l.text)

abbrev pub decreases-loop-count : goal.decreases-loop-count
decreases-loop-count l = l.count
