-- When the register is marked in a record.
use Rattle.std.specs.Prelude.{ℕ, ◌-◌, ◌*◌, Option, None, Some, nat_lt, if◌then◌else◌}
use Rattle.oftp_contents.specs.declared.marks.MarkBar.{MarkBar}
use Rattle.oftp_contents.specs.declared.marks.MarkBar.TheVariants as bars
use Rattle.oftp_contents.specs.declared.marks.MarkTime.{MarkTime}
use Rattle.oftp_contents.specs.declared.marks.MarkTime.TheVariants.{After, Now, Unset}

-- the milliseconds between two marks: an hour
abbrev pub hour : ℕ
hour = 60 * 60 * 1000

-- when the register is marked, so many milliseconds after the last mark
abbrev pub mark_time : MarkBar → ℕ → MarkTime
mark_time bars.NoRecord passed = Unset
mark_time bars.Session passed = Unset
mark_time bars.Free passed = if nat_lt passed hour then After (hour - passed) else Now

-- the milliseconds until then
abbrev pub left_until : MarkTime → Option ℕ
left_until Unset = None
left_until (After left) = Some left
left_until Now = Some 0
