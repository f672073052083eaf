-- The counters, as a list of tallies.
use Rattle.std.specs.Prelude.{ℕ, ◌+◌, ◌^◌, ◌-◌, List, [], ◌∷◌, ◌++◌, if◌then◌else◌, map, min, max}
use Rattle.std.specs.List.{list_any}
use Rattle.oftp_status.specs.Subjects.{same_subject}
use Rattle.oftp_status.specs.declared.subject.Subject.{Subject}
use Rattle.oftp_status.specs.declared.tally.Tally.{Tally}

-- a subject that was noted once
abbrev pub fresh : Subject → ℕ → Tally
fresh subject at = record { subject = subject; count = 1; first = at; last = at }

-- once more, up to the greatest number of 64 bits
abbrev pub again : Tally → ℕ → Tally
again t at = record { subject = t.subject; count = min (t.count + 1) (2 ^ 64 - 1); first = min t.first at; last = max t.last at }

-- a counter after one more event, which counts only its own subject
abbrev pub counted : Subject → ℕ → Tally → Tally
counted subject at t = if same_subject t.subject subject then again t at else t

-- the counters after one more event of a subject: it is counted, or its counter begins behind the others
abbrev pub noted : List Tally → Subject → ℕ → List Tally
noted ts subject at = if list_any (λ t. same_subject t.subject subject) ts then map (counted subject at) ts else ts ++ fresh subject at ∷ []
