use Rattle.std.proofs.Common.{◌≡◌, fold, take}
use Rattle.oftp_status.specs.Metrics.{with_sample}
use Rattle.oftp_status.proofs.prometheus.add_family.Given as goal

-- the lines so far are appended
abbrev pub invariant-loop-tally : goal.invariant-loop-tally
invariant-loop-tally l = l.text.items ≡ fold (with_sample l.family l.now) l.initial.text.items (take l.tally-index l.tallies)
