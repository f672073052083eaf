-- The program of a station, as the text of an opening.
use Rattle.std.specs.Prelude.{◌≡◌, ◌==◌, ℕ, true, List, ◌∷◌, ◌++◌, Option, Some, None, drop, length, not, take, if◌then◌else◌}
use Rattle.std.specs.List.{after_first, before_first, list_all}
use Rattle.std.specs.Str.{bytes_eq}
use Rattle.oftp_contents.specs.declared.program.TheConstants.{SOURCES}

-- the version, a line end (10), and the line with the sum of the sources
abbrev pub program_text : List ℕ → List ℕ → List ℕ
program_text version line = version ++ (10 ∷ line)

-- the version: what is before the first line end
abbrev pub version_in : List ℕ → List ℕ
version_in text = before_first (λ octet. octet == 10) text

-- the sum of the sources in their line
abbrev pub sum_in : List ℕ → Option (List ℕ)
sum_in line = if bytes_eq (take (length SOURCES.now) line) SOURCES.now then Some (drop (length SOURCES.now) line) else None

-- the sum in the line behind the first line end
abbrev pub sources_in : List ℕ → Option (List ℕ)
sources_in text = sum_in (after_first (λ octet. octet == 10) text)

-- what was written of a version without a line end and of a sum is what is read
abbrev pub ProgramIsRead : Type 0
ProgramIsRead = (version sum : List ℕ) → list_all (λ octet. not (octet == 10)) version ≡ true →
    let text = program_text version (SOURCES.now ++ sum) in (version_in text ≡ version) × (sources_in text ≡ Some sum)
