use Rattle.std.proofs.Common.{◌≡◌, fold, take}
use Rattle.oftp_status.specs.PlainLines.{with_general}
use Rattle.oftp_status.proofs.lines.add_generals.Given as goal

-- the lines so far are appended
abbrev pub invariant-loop-tally : goal.invariant-loop-tally
invariant-loop-tally l = l.text.items ≡ fold (with_general l.now) l.initial.text.items (take l.tally-index l.tallies)
