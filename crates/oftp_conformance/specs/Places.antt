-- Where in a session something is that breaks a rule.
use Rattle.std.specs.Prelude.{ℕ, List, map}
use Rattle.oftp_telling.specs.declared.kind.CommandKind.{CommandKind}
use Rattle.oftp_telling.specs.Names.{Entry}
use Rattle.oftp_telling.specs.Fields.{seen}
use Rattle.oftp_conformance.specs.declared.rule.Rule.{Rule}
use Rattle.oftp_conformance.specs.declared.finding.Place.{Place}
use Rattle.oftp_conformance.specs.declared.finding.Place.TheVariants as places
use Rattle.oftp_conformance.specs.declared.finding.Finding.{Finding}

-- a place: a stream header, the first octet of a command, a field, what is behind the last field, or a command as a whole
pub data Spot : Type 0 where
  AtHeader : Spot
  AtBeginning : Spot
  AtField : CommandKind → Entry → Spot
  AtEnd : CommandKind → ℕ → Spot
  AtCommand : CommandKind → Spot

-- a rule that is broken, and where
pub record Found : Type 0 where
  pub rule : Rule
  pub spot : Spot

-- a place of the code
abbrev pub spot_seen : Place → Spot
spot_seen places.Header = AtHeader
spot_seen places.Beginning = AtBeginning
spot_seen (places.Field k f) = AtField k (seen f)
spot_seen (places.Behind k end) = AtEnd k end
spot_seen (places.Whole k) = AtCommand k

-- a finding of the code
abbrev pub found_seen : Finding → Found
found_seen f = record { rule = f.rule; spot = spot_seen f.place }

-- findings of the code
abbrev pub all_found : List Finding → List Found
all_found fs = map found_seen fs
