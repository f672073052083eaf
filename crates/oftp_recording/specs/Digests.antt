-- Which digests are kept while registers are digested one after another.
use Rattle.std.specs.Prelude.{ℕ, List, Option, None, Some}
use Rattle.oftp_register.specs.declared.entry.IncomingState.{IncomingState}
use Rattle.oftp_register.specs.declared.entry.IncomingState.TheVariants.{Open, Whole}
use Rattle.oftp_recording.specs.declared.registers.Content.{Content}
use Rattle.oftp_recording.specs.declared.registers.Content.TheVariants.{MayChange, Stays}

-- the rows of an incoming file stay once it is whole, whatever changes the register accepts then (`evidence_stays` of oftp_audit)
abbrev pub content_of : IncomingState → Content
content_of Open = MayChange
content_of Whole = Stays

-- what is kept of the digest of such rows
abbrev pub kept_of : Content → List ℕ → Option (List ℕ)
kept_of Stays digest = Some digest
kept_of MayChange digest = None

-- what a place knows, if there is such a place
abbrev pub known_of : Option (Option (List ℕ)) → Option (List ℕ)
known_of None = None
known_of (Some known) = known
