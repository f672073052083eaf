-- The end of an answer, and its line.
use Rattle.std.specs.Prelude.{◌≡◌, ◌++◌, ℕ, List, [], Option, None, Some}
use Rattle.oftp_channel.specs.Answers.{spelled_end}
use Rattle.oftp_channel.specs.declared.ending.Ending.{Ending}
use Rattle.oftp_channel.specs.declared.ending.Ending.TheVariants as answered
use Rattle.oftp_outcomes.specs.Printed.{fault_line, out_of_memory, outcome_line}

-- the line of an ending; that of a look-up is empty
abbrev pub line_of_ending : Ending → List ℕ
line_of_ending (answered.Outcome it) = outcome_line it
line_of_ending (answered.Failed it) = fault_line it
line_of_ending answered.Listed = []
line_of_ending answered.Same = []
line_of_ending answered.Other = []

-- the end of an answer; one that has none had no memory for it
abbrev pub told_ending : Option Ending → Ending
told_ending (Some ending) = ending
told_ending None = answered.Failed out_of_memory

-- this is the end of the octets of an answer that is to end so, if there was memory for them
abbrev pub IsEndOf : Ending → List ℕ → Option Ending → Type 0
IsEndOf wanted octets (Some ending) = (ending ≡ wanted) × ((front : List ℕ) × (octets ≡ front ++ spelled_end wanted))
IsEndOf wanted octets None = octets ≡ []
