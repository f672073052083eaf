-- How the days of a record follow one another.
use Rattle.std.specs.Prelude.{ℕ, ◌==◌, List, Option, None, Some, if◌then◌else◌}
use Rattle.std.specs.Str.{bytes_eq}
use Rattle.oftp_contents.specs.Codes.{marked_code}
use Rattle.oftp_contents.specs.Fields.{Laid}
use Rattle.oftp_contents.specs.declared.codes.Marked.TheVariants as marks
use Rattle.oftp_contents.specs.declared.links.DayLink.{DayLink}
use Rattle.oftp_contents.specs.declared.links.DayLink.TheVariants as links
use Rattle.oftp_record.specs.declared.kind.RecordKind.{RecordKind}
use Rattle.oftp_record.specs.declared.kind.RecordKind.TheVariants as kinds

-- the digest of the last entry of the day before, as an entry names it: the first text of such a mark
abbrev pub day_before_in : RecordKind → Laid → Option (List ℕ)
day_before_in kinds.Mark fields = if fields.code == marked_code marks.DayBefore then Some fields.first else None
day_before_in kinds.Opening fields = None
day_before_in kinds.Session fields = None
day_before_in kinds.OctetsIn fields = None
day_before_in kinds.OctetsOut fields = None
day_before_in kinds.End fields = None
day_before_in kinds.Call fields = None
day_before_in kinds.Backup fields = None

-- the first entry of a day, by the digest with which the day before ended, if that was read, and the one that the entry names: behind a day that
-- was read they have to be the same
abbrev pub first_link : Option (List ℕ) → Option (List ℕ) → DayLink
first_link None None = links.Entry
first_link None (Some named) = links.Link
first_link (Some last) None = links.Broken
first_link (Some last) (Some named) = if bytes_eq named last then links.Link else links.Broken

-- an entry with this number in its day: only the first one is a link
abbrev pub link_at : ℕ → Option (List ℕ) → Option (List ℕ) → DayLink
link_at number last named = if number == 1 then first_link last named else links.Entry
