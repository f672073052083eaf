-- The moment that a file's stamp names.
use Rattle.std.specs.Prelude.{ℕ, ◌+◌, ◌-◌, ◌*◌, ◌/◌, List, [], ◌∷◌, if◌then◌else◌, nat_lt}
use Rattle.oftp_status.specs.declared.stamp.TheConstants.{DAY, DAYS_BEFORE}

-- the number in two digits
abbrev pub two : ℕ → ℕ → ℕ
two tens ones = (tens - 48) * 10 + (ones - 48)

-- The days from 1970 on, by the Gregorian calendar. The year begins with March, so that a leap day is its last. The months from there on have
-- 31, 30, 31, 30, 31 days again and again, 153 in five.
abbrev pub days_from_march : ℕ → ℕ → ℕ → ℕ
days_from_march year month day = (365 * year + year / 4 + year / 400 + (153 * month + 2) / 5 + day) - (year / 100 + DAYS_BEFORE + 1)

abbrev pub days_since : ℕ → ℕ → ℕ → ℕ
days_since year month day = if nat_lt 2 month then days_from_march year (month - 3) day else days_from_march (year - 1) (month + 9) day

-- the days of a date stamp, CCYYMMDD
abbrev pub days_of : List ℕ → ℕ
days_of (c ∷ d ∷ y ∷ z ∷ m ∷ n ∷ t ∷ u ∷ []) = days_since (two c d * 100 + two y z) (two m n) (two t u)
days_of _ = 0

-- the seconds of a time stamp since midnight, HHMMSS
abbrev pub seconds_of : List ℕ → ℕ
seconds_of (h ∷ i ∷ m ∷ n ∷ s ∷ t ∷ rest) = two h i * 3600 + two m n * 60 + two s t
seconds_of _ = 0

-- the seconds since 1970
abbrev pub moment_of : List ℕ → List ℕ → ℕ
moment_of date time = days_of date * DAY + seconds_of time
