-- The codes of what is one of a few.
use Rattle.std.specs.Prelude.{ℕ}
use Rattle.oftp_contents.specs.declared.codes.EndCause.{EndCause}
use Rattle.oftp_contents.specs.declared.codes.EndCause.TheVariants as causes
use Rattle.oftp_contents.specs.declared.codes.Marked.{Marked}
use Rattle.oftp_contents.specs.declared.codes.Marked.TheVariants as marks
use Rattle.oftp_contents.specs.declared.codes.RecordSide.{RecordSide}
use Rattle.oftp_contents.specs.declared.codes.RecordSide.TheVariants as sides

-- the code of a side
abbrev pub side_code : RecordSide → ℕ
side_code sides.Responder = 1
side_code sides.Initiator = 2

-- the code of a cause
abbrev pub cause_code : EndCause → ℕ
cause_code causes.Itself = 1
cause_code causes.Input = 2
cause_code causes.Read = 3
cause_code causes.Write = 4
cause_code causes.Other = 5

-- the code of what a mark has the digest of
abbrev pub marked_code : Marked → ℕ
marked_code marks.Register = 1
marked_code marks.DayBefore = 2
