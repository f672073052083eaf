use Rattle.std.proofs.Common.{◌≡◌, fold, take}
use Rattle.oftp_status.specs.PlainLines.{with_called}
use Rattle.oftp_status.proofs.lines.add_all_own.Given as goal

-- the lines so far are appended
abbrev pub invariant-loop-tally : goal.invariant-loop-tally
invariant-loop-tally l = l.text.items ≡ fold (with_called l.now l.code) l.initial.text.items (take l.tally-index l.tallies)
