-- The days of a record, each as the number with the digits YYYYMMDD: in times, in the names of its files, and which has a file of its own.
use Rattle.std.specs.Prelude.{ℕ, ◌+◌, ◌-◌, ◌*◌, ◌/◌, ◌==◌, ◌&&◌, List, ◌++◌, take, drop, length, filter, fold, max, nat_lt, if◌then◌else◌, Option, Some, None}
use Rattle.std.specs.Char.{is_ascii_digit}
use Rattle.std.specs.List.{list_all, reduce}
use Rattle.std.specs.Str.{bytes_eq}
use Rattle.oftp_contents.specs.declared.days.DayTurn.{DayTurn}
use Rattle.oftp_contents.specs.declared.days.DayTurn.TheVariants.{GoesOn, Turns}
use Rattle.oftp_contents.specs.declared.days.TheConstants.{DIGITS, RECORD_ENDING}

-- the day that a text is: the number of its eight digits
unfoldable pub number_of_day : List ℕ → Option ℕ
number_of_day text = if length text == DIGITS && list_all is_ascii_digit text then Some (fold (λ n c. n * 10 + (c - 48)) 0 text) else None

-- the day of a time that begins with its date, as 2024-02-01T06:00:00Z does: four digits, and twice two behind one octet
abbrev pub day_at : List ℕ → Option ℕ
day_at time = number_of_day (take 4 time ++ (take 2 (drop 5 time) ++ take 2 (drop 8 time)))

-- the day whose entries a file with this name has: what is before the ending
abbrev pub day_in : List ℕ → Option ℕ
day_in name = if bytes_eq (drop DIGITS name) RECORD_ENDING.now then number_of_day (take DIGITS name) else None

-- the whole days that passed since 1970 began before a moment, in microseconds since then
abbrev pub days_passed : ℕ → ℕ
days_passed moment = moment / (24 * 60 * 60 * 1000 * 1000)

-- a day that is later than that of the last file has a file of its own; any other goes on in the last one
abbrev pub turn_of : ℕ → ℕ → DayTurn
turn_of last now = if nat_lt last now then Turns else GoesOn

-- the day whose file a record goes on with: today, or the last one of which there is a file, since the clock was set back
abbrev pub last_day : ℕ → List ℕ → ℕ
last_day today days = fold max today days

-- the last of the days before one, behind whose last entry the chain goes on
abbrev pub last_before : ℕ → List ℕ → Option ℕ
last_before day days = reduce max (filter (λ d. nat_lt d day) days)
