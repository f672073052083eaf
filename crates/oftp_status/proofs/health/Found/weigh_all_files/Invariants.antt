use Rattle.std.proofs.Common.{◌≡◌, fold, take}
use Rattle.oftp_status.specs.Health.{with_files}
use Rattle.oftp_status.proofs.health.Found.weigh_all_files.Given as goal

-- those so far are weighed
abbrev pub invariant-loop-tally : goal.invariant-loop-tally
invariant-loop-tally l = l.self ≡ fold (with_files l.terms l.now) l.initial.self (take l.tally-index l.files)
