-- What is done with each entry of a record that is read: where it is played, within a session, and where its sessions are told of.
use Rattle.std.specs.Prelude.{ℕ, ◌==◌, Bool, true, Option, None, Some, if◌then◌else◌}
use Rattle.oftp_contents.specs.declared.handling.Listening.{Listening}
use Rattle.oftp_contents.specs.declared.handling.Listening.TheVariants as listens
use Rattle.oftp_contents.specs.declared.handling.Playing.{Playing}
use Rattle.oftp_contents.specs.declared.handling.Playing.TheVariants as plays
use Rattle.oftp_contents.specs.declared.handling.Talking.{Talking}
use Rattle.oftp_contents.specs.declared.handling.Talking.TheVariants as talks
use Rattle.oftp_record.specs.declared.kind.RecordKind.{RecordKind}
use Rattle.oftp_record.specs.declared.kind.RecordKind.TheVariants as kinds

-- between sessions: octets belong to a session, so there are none
abbrev pub playing_at : RecordKind → Playing
playing_at kinds.Session = plays.Begins
playing_at kinds.Opening = plays.Compares
playing_at kinds.Backup = plays.Compares
playing_at kinds.Mark = plays.Compares
playing_at kinds.Call = plays.Calls
playing_at kinds.End = plays.Ends
playing_at kinds.OctetsIn = plays.Strays
playing_at kinds.OctetsOut = plays.Strays

-- what is done with octets, by the number of their session and that of the one that is played: each session has its octets in a row
abbrev pub piece_of : Talking → Option ℕ → ℕ → Talking
piece_of talking None own = talks.Strays
piece_of talking (Some number) own = if number == own then talking else talks.Strays

-- what is done with an end, by the same numbers: those of calls stand within sessions too
abbrev pub end_of : Option ℕ → ℕ → Talking
end_of None own = talks.OtherEnds
end_of (Some number) own = if number == own then talks.Ends else talks.OtherEnds

-- within the session with the number `own`, at an entry with a number, if its content has one
abbrev pub talking_at : RecordKind → Option ℕ → ℕ → Talking
talking_at kinds.OctetsIn number own = piece_of talks.Hears number own
talking_at kinds.OctetsOut number own = piece_of talks.Compares number own
talking_at kinds.End number own = end_of number own
talking_at kinds.Opening number own = talks.Settles
talking_at kinds.Session number own = talks.Leaves
talking_at kinds.Call number own = talks.Leaves
talking_at kinds.Backup number own = talks.Leaves
talking_at kinds.Mark number own = talks.Leaves

-- the sessions with a number are asked for, or each
abbrev pub is_wanted : Option ℕ → ℕ → Bool
is_wanted None number = true
is_wanted (Some wanted) number = number == wanted

-- this is done at an entry of the session that is read, and nothing at one of another
abbrev pub if_read : Listening → Option ℕ → ℕ → Listening
if_read listening None number = listens.Passes
if_read listening (Some reading) number = if number == reading then listening else listens.Passes

-- at an entry with a number, where the sessions with the number `wanted` are told of, and `reading` is the number of the one that is read
abbrev pub listening_at : RecordKind → ℕ → Option ℕ → Option ℕ → Listening
listening_at kinds.Session number wanted reading = if is_wanted wanted number then listens.Begins else listens.Closes
listening_at kinds.OctetsIn number wanted reading = if_read listens.Hears reading number
listening_at kinds.OctetsOut number wanted reading = if_read listens.Says reading number
listening_at kinds.End number wanted reading = if_read listens.Closes reading number
listening_at kinds.Opening number wanted reading = listens.Opens
listening_at kinds.Call number wanted reading = listens.Passes
listening_at kinds.Backup number wanted reading = listens.Passes
listening_at kinds.Mark number wanted reading = listens.Passes
