-- An age in words.
use Rattle.std.specs.Prelude.{ℕ, ◌*◌, ◌/◌, ◌%◌, List, ◌++◌, codes, decimal, if◌then◌else◌, nat_lt}
use Rattle.oftp_status.specs.declared.age.TheConstants.{MINUTE, HOUR, DAY}

-- seconds below a minute, minutes below an hour, hours and minutes below two days, then days and hours
abbrev pub age_text : ℕ → List ℕ
age_text s =
    if nat_lt s MINUTE then decimal s ++ codes " s"
    else (if nat_lt s HOUR then decimal (s / MINUTE) ++ codes " min"
    else (if nat_lt s (2 * DAY) then decimal (s / HOUR) ++ (codes " h " ++ (decimal (s % HOUR / MINUTE) ++ codes " min"))
    else decimal (s / DAY) ++ (codes " d " ++ (decimal (s % DAY / HOUR) ++ codes " h"))))
