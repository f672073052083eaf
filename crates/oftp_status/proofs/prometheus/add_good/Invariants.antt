use Rattle.std.proofs.Common.{◌≡◌, fold, take}
use Rattle.oftp_status.specs.Metrics.{with_good}
use Rattle.oftp_status.proofs.prometheus.add_good.Given as goal

-- the partners so far are appended
abbrev pub invariant-loop-partner : goal.invariant-loop-partner
invariant-loop-partner l = l.text.items ≡ fold (with_good l.counters) l.initial.text.items (take l.partner-index l.partners)
