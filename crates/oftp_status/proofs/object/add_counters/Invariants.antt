use Rattle.std.proofs.Common.{◌≡◌, fold, take}
use Rattle.oftp_status.specs.Objects.{with_later_counter}
use Rattle.oftp_status.proofs.object.add_counters.Given as goal

-- the counters so far are appended
abbrev pub invariant-loop-tally : goal.invariant-loop-tally
invariant-loop-tally l = l.text.items ≡ fold with_later_counter l.initial.text.items (take l.tally-index l.others)
