use Rattle.std.proofs.Common.{◌≡◌, max, take, fold}
use Rattle.oftp_contents.proofs.days.last_day.Given as goal

-- the greatest of today and the days so far
abbrev pub invariant-loop-day : goal.invariant-loop-day
invariant-loop-day l = l.last ≡ fold max l.today (take l.day-index l.days)
