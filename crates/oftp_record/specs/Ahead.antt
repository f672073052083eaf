-- Entries that were read ahead, and are told one after another.
use Rattle.std.specs.Prelude.{◌≡◌, ℕ, List, [], drop, Option, None, Some}
use Rattle.oftp_record.specs.Next.{ArePassed}
use Rattle.oftp_record.specs.declared.ahead.ReadAhead.{ReadAhead}
use Rattle.oftp_record.specs.declared.eight_read.PassedEntry.{PassedEntry}
use Rattle.oftp_record.specs.declared.next.NextEntry.{NextEntry}
use Rattle.oftp_record.specs.declared.next.NextEntry.TheVariants as shows

-- those of eight entries that are left once so many were told
abbrev pub left_of : Option (List PassedEntry) → ℕ → List PassedEntry
left_of None told = []
left_of (Some eight) told = drop told eight

-- the entries that were read ahead and not told
abbrev pub ahead_in : ReadAhead → List PassedEntry
ahead_in ahead = left_of ahead.eight ahead.told

-- these were read ahead behind what was told of octets: where that is no whole entry, none
abbrev pub AreBehind : List ℕ → NextEntry → List PassedEntry → Type 0
AreBehind octets (shows.Whole stored) left = ArePassed stored.digest.0 (drop stored.length octets) left
AreBehind octets shows.End left = left ≡ []
AreBehind octets (shows.Cut lacking) left = left ≡ []
AreBehind octets (shows.Changed sign) left = left ≡ []
