-- How a day of a record follows those before it.
use Rattle.std.specs.Prelude.{ℕ, ◌==◌, List, Option, None, Some, if◌then◌else◌}
use Rattle.oftp_recording.specs.declared.days.DayEnd.{DayEnd}

-- the digest of the last entry up to the end of a day, by that of the days before, which a day without an entry leaves
abbrev pub last_entry : DayEnd → Option (List ℕ) → Option (List ℕ)
last_entry day before = if day.entries == 0 then before else Some day.digest

-- the digest that the next entry of a day names: only the first one names an entry, the last one of the days before
abbrev pub link_due : DayEnd → Option (List ℕ) → Option (List ℕ)
link_due day before = if day.entries == 0 then before else None
