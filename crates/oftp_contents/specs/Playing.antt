-- How what is played stands to what a record has.
use Rattle.std.specs.Prelude.{ℕ, Bool, true, false, List, [], ◌∷◌, Option, None, Some, length, nat_lt, take, if◌then◌else◌}
use Rattle.std.specs.Str.{bytes_eq}
use Rattle.oftp_contents.specs.declared.codes.EndCause.{EndCause}
use Rattle.oftp_contents.specs.declared.codes.EndCause.TheVariants as causes
use Rattle.oftp_contents.specs.declared.playing.BookTurn.{BookTurn}
use Rattle.oftp_contents.specs.declared.playing.BookTurn.TheVariants as books
use Rattle.oftp_contents.specs.declared.playing.Doing.{Doing}
use Rattle.oftp_contents.specs.declared.playing.Doing.TheVariants as doings
use Rattle.oftp_contents.specs.declared.playing.EndLine.{EndLine}
use Rattle.oftp_contents.specs.declared.playing.EndLine.TheVariants as lines
use Rattle.oftp_contents.specs.declared.playing.SaidOctets.{SaidOctets}
use Rattle.oftp_contents.specs.declared.playing.SaidOctets.TheVariants.{Fewer, Other, Same}
use Rattle.oftp_record.specs.declared.kind.RecordKind.{RecordKind}
use Rattle.oftp_record.specs.declared.kind.RecordKind.TheVariants as kinds

-- whether the station did what stands before an entry, by the kind of that: an opening is the first entry behind a kill, so the register tells it
abbrev pub doing_before : Option RecordKind → Doing
doing_before None = doings.Untold
doing_before (Some kinds.Opening) = doings.ByRegister
doing_before (Some kinds.Session) = doings.Done
doing_before (Some kinds.OctetsIn) = doings.Done
doing_before (Some kinds.OctetsOut) = doings.Done
doing_before (Some kinds.Call) = doings.Done
doing_before (Some kinds.End) = doings.Done
doing_before (Some kinds.Backup) = doings.Done
doing_before (Some kinds.Mark) = doings.Done

-- the line that an end with this cause has to have
abbrev pub line_of : EndCause → EndLine
line_of causes.Itself = lines.Played
line_of causes.Input = lines.OfCause
line_of causes.Read = lines.OfCause
line_of causes.Write = lines.OfCause
line_of causes.Other = lines.Any

-- a recorded line is the one that it has to be, where that is known
abbrev pub is_line : EndLine → Option (List ℕ) → List ℕ → Bool
is_line lines.Any known recorded = true
is_line lines.OfCause None recorded = false
is_line lines.OfCause (Some line) recorded = bytes_eq line recorded
is_line lines.Played None recorded = false
is_line lines.Played (Some line) recorded = bytes_eq line recorded

-- by which book: the recorded one with its passwords, if none is lacking; it may be the one that was named
abbrev pub shown_turn : Option (List ℕ) → List ℕ → BookTurn
shown_turn None named = books.Lacking
shown_turn (Some text) named = if bytes_eq text named then books.Named else books.Recorded

-- the same behind an opening with this book; that of a command has none
abbrev pub book_behind : List ℕ → Option (List ℕ) → List ℕ → BookTurn
book_behind [] shown named = books.Stays
book_behind (octet ∷ recorded) shown named = shown_turn shown named

-- how recorded octets stand to those that the session has said: the first of these are to be the same
abbrev pub said_at : List ℕ → List ℕ → SaidOctets
said_at said recorded = if nat_lt (length said) (length recorded) then Fewer else if bytes_eq (take (length recorded) said) recorded then Same else Other
