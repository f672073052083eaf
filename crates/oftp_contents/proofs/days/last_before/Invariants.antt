use Rattle.std.proofs.Common.{◌≡◌, take}
use Rattle.oftp_contents.specs.Days.{last_before}
use Rattle.oftp_contents.proofs.days.last_before.Given as goal

-- the last of the days so far that are before this one
abbrev pub invariant-loop-other : goal.invariant-loop-other
invariant-loop-other l = l.last ≡ last_before l.day (take l.other-index l.days)
