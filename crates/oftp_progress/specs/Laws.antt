-- How often something is said.
use Rattle.std.specs.Prelude.{ℕ, ◌+◌, ◌≤◌, ⊤, if◌then◌else◌, List, [], ◌∷◌}
use Rattle.oftp_progress.specs.Progress.{asked_at, is_due}
use Rattle.oftp_progress.specs.declared.beat.Beat.{Beat}
use Rattle.oftp_progress.specs.declared.beat.TheConstants.{PAUSE}

-- the moments of those asked, one after another, at which a line is said
abbrev pub lines_at : Beat → List ℕ → List ℕ
lines_at beat [] = []
lines_at beat (moment ∷ moments) = if is_due beat moment then moment ∷ lines_at (asked_at beat moment) moments else lines_at beat moments

-- each of the moments is a pause or more after the one before, and the first one after this one
abbrev pub IsApart : ℕ → List ℕ → Type 0
IsApart last [] = ⊤
IsApart last (moment ∷ moments) = (last + PAUSE ≤ moment) × IsApart moment moments

-- however often a command asks, lines are a pause apart
abbrev pub IsSaidInTime : Type 0
IsSaidInTime = (beat : Beat) (moments : List ℕ) → IsApart beat.said (lines_at beat moments)
