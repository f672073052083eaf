-- The end of a station.
use Rattle.std.specs.Prelude.{Bool, true, false, [], ◌≡◌}
use Rattle.oftp_schedule.specs.declared.connection.Status.{Status}
use Rattle.oftp_schedule.specs.declared.connection.Choice.{Choice}
use Rattle.oftp_schedule.specs.declared.connection.Choice.TheVariants.{Nothing, Admit, Inspect, Start, Perform, Lend, Seek, Depart}
use Rattle.oftp_schedule.specs.declared.connection.Course.TheVariants.{Ending}
use Rattle.oftp_schedule.specs.Machine.{State, is_reviewing, is_ending, is_past, choice}

-- a choice by which something new begins
abbrev pub begins_anew : Choice → Bool
begins_anew (Admit d) = true
begins_anew Inspect = true
begins_anew (Start id x) = true
begins_anew (Perform id) = true
begins_anew (Lend id) = true
begins_anew (Seek id c) = true
begins_anew c = false

-- nothing new begins once the station was told to end
abbrev pub BeginsNothing : State → Choice → Type 0
BeginsNothing s c = is_ending s.course ≡ true → begins_anew c ≡ false

-- the last choice is that the program ends, and nothing follows it
abbrev pub IsOver : State → Type 0
IsOver s = is_past s.course ≡ true → choice s ≡ Nothing

-- the end comes once everybody is gone
abbrev pub Departs : State → Type 0
Departs s = (st : Status) → s.course ≡ Ending st → s.connections ≡ [] → is_reviewing s.clock ≡ false → choice s ≡ Depart st
