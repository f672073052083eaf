-- How a register stands to those of which a record has the digests.
use Rattle.std.specs.Prelude.{ℕ, List, Option, None, Some, if◌then◌else◌}
use Rattle.std.specs.Str.{bytes_eq}
use Rattle.oftp_contents.specs.declared.standing.Likeness.{Likeness}
use Rattle.oftp_contents.specs.declared.standing.Likeness.TheVariants as likenesses
use Rattle.oftp_contents.specs.declared.standing.RegisterStanding.{RegisterStanding}
use Rattle.oftp_contents.specs.declared.standing.RegisterStanding.TheVariants as standings
use Rattle.oftp_record.specs.declared.kind.RecordKind.{RecordKind}
use Rattle.oftp_record.specs.declared.kind.RecordKind.TheVariants as kinds

-- what an entry without a digest tells of a register: a session and a call may change it
abbrev pub likeness_behind : RecordKind → Option Likeness
likeness_behind kinds.Session = Some likenesses.Other
likeness_behind kinds.Call = Some likenesses.Other
likeness_behind kinds.Opening = None
likeness_behind kinds.OctetsIn = None
likeness_behind kinds.OctetsOut = None
likeness_behind kinds.End = None
likeness_behind kinds.Backup = None
likeness_behind kinds.Mark = None

-- how a register stands once the record has one more entry that tells of it
abbrev pub standing_after : RegisterStanding → Likeness → RegisterStanding
standing_after standing likenesses.Same = standings.Last
standing_after standings.Unknown likenesses.Other = standings.Unknown
standing_after standings.Last likenesses.Other = standings.Earlier
standing_after standings.Earlier likenesses.Other = standings.Earlier

-- what an entry of a kind tells of a register, which may have the digest of one
abbrev pub likeness_at : RecordKind → Option (List ℕ) → List ℕ → Option Likeness
likeness_at kind None register = likeness_behind kind
likeness_at kind (Some digest) register = Some (if bytes_eq digest register then likenesses.Same else likenesses.Other)

-- a digest that is known stays known behind an entry that tells nothing of the register
abbrev pub known_with : Option Likeness → Option (List ℕ) → Option (List ℕ)
known_with None known = known
known_with (Some likeness) known = None

-- the digest of the register behind an entry of a kind, as far as it was known before
abbrev pub known_behind : RecordKind → Option (List ℕ) → Option (List ℕ)
known_behind kind known = known_with (likeness_behind kind) known
