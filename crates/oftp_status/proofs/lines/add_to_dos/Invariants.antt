use Rattle.std.proofs.Common.{◌≡◌, fold, take}
use Rattle.oftp_status.specs.PlainLines.{with_to_do}
use Rattle.oftp_status.proofs.lines.add_to_dos.Given as goal

-- the lines so far are appended
abbrev pub invariant-loop-tally : goal.invariant-loop-tally
invariant-loop-tally l = l.text.items ≡ fold with_to_do l.initial.text.items (take l.tally-index l.tallies)
