-- What the sessions of a record have of one file, one after another.
use Rattle.std.specs.Prelude.{ℕ, ◌&&◌, Bool, true, false, List, [], Option, None, Some, max, nat_eq, length, if◌then◌else◌}
use Rattle.std.specs.List.{list_any}
use Rattle.oftp_evidence.specs.declared.findings.Findings.{Findings}
use Rattle.oftp_evidence.specs.declared.findings.SideFinding.{SideFinding}
use Rattle.oftp_evidence.specs.declared.part.Part.{Part}
use Rattle.oftp_evidence.specs.declared.part.Part.TheVariants.{Offer, Refusal, Response}
use Rattle.oftp_register.specs.declared.entries.Side.{Side}
use Rattle.oftp_register.specs.declared.entries.Side.TheVariants.{Incoming, Outgoing}

-- a side of a session: what it says of the file, and when it last answered it
pub record SideSaid : Type 0 where
  pub parts : List Part
  pub answered : Option ℕ

abbrev pub side_said : SideFinding → SideSaid
side_said finding = record { parts = finding.parts.now; answered = finding.answered }

-- an EERP and a NERP answer a file
abbrev pub answers : Part → Bool
answers Offer = false
answers Response = true
answers Refusal = true

-- when a side last answered it, by when it did before, and what it says of it at a moment
abbrev pub answered_after : Option ℕ → List Part → ℕ → Option ℕ
answered_after before parts moment = if list_any answers parts then Some moment else before

-- an incoming file is answered by the station, and an outgoing one by its partner
abbrev pub answered_in : Side → SideSaid → SideSaid → Option ℕ
answered_in Incoming heard said = said.answered
answered_in Outgoing heard said = heard.answered

-- the later one of two moments
abbrev pub later : Option ℕ → Option ℕ → Option ℕ
later None second = second
later (Some first) None = Some first
later (Some first) (Some second) = Some (max first second)

-- nothing was found
abbrev pub no_findings : Findings
no_findings = record { days = 0; answered = None }

-- once one more session is over: it counts if a side of it says something of the file, and then its days are needed too
abbrev pub findings_after : Side → SideSaid → SideSaid → ℕ → Findings → Option Findings
findings_after way heard said days before = if nat_eq (length heard.parts) 0 && nat_eq (length said.parts) 0 then None
    else Some (record { days = days; answered = later before.answered (answered_in way heard said) })
