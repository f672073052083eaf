-- What the octets of one side of a session say of a file.
use Rattle.std.specs.Prelude.{ℕ, List, [], ◌∷◌, ◌++◌, drop, fold, Option, None, Some}
use Rattle.oftp_codec.specs.declared.frame_fault.FrameFault.{FrameFault}
use Rattle.oftp_codec.specs.declared.limits.TheConstants.{LONGEST_FRAME}
use Rattle.oftp_codec.specs.Stream.{Head, Whole, Waits, Bad, Stream, command_in, front}
use Rattle.oftp_register.specs.declared.entry.Identity.{Identity}
use Rattle.oftp_evidence.specs.declared.part.Part.{Part}
use Rattle.oftp_evidence.specs.Parts.{part_in}

-- the file, the octets that are no whole frame yet, the error that ended the search, and what was found
pub record SideParts : Type 0 where
  pub file : Identity
  pub rest : List ℕ
  pub fault : Option FrameFault
  pub found : List Part

-- nothing was heard
abbrev pub new_side : Identity → SideParts
new_side file = record { file = file; rest = []; fault = None; found = [] }

-- a part as a list
abbrev pub said_parts : Option Part → List Part
said_parts None = []
said_parts (Some p) = p ∷ []

-- After octets that begin so (RFC 5024, section 8). A whole frame is a command, a part of one waits for more, and no frame ends the search.
abbrev pub after_head : SideParts → Head → SideParts
after_head s (Whole n) = record s { rest = drop n s.rest; found = s.found ++ said_parts (part_in s.file (command_in n s.rest)) }
after_head s Waits = s
after_head s (Bad fault) = record s { fault = Some fault }

-- after the next frame, if it is whole
abbrev pub after_next : SideParts → SideParts
after_next s = after_head s (front LONGEST_FRAME s.rest)

-- after one more octet, where this error ended the search before, or none
abbrev pub octet_after : Option FrameFault → SideParts → ℕ → SideParts
octet_after None s octet = after_next (record s { rest = s.rest ++ octet ∷ [] })
octet_after (Some fault) s octet = s

-- after one more octet
abbrev pub after_octet : SideParts → ℕ → SideParts
after_octet s octet = octet_after s.fault s octet

-- what all octets of a side say of a file
abbrev pub side_of : Identity → List ℕ → SideParts
side_of file octets = fold after_octet (new_side file) octets

-- what commands say of a file
abbrev pub parts_in_all : Identity → List (List ℕ) → List Part
parts_in_all file [] = []
parts_in_all file (m ∷ ms) = said_parts (part_in file m) ++ parts_in_all file ms

-- what was heard, where the octets that came are split so
abbrev pub heard_by : Identity → Stream → List Part → SideParts
heard_by file stream found = record { file = file; rest = stream.rest; fault = stream.told; found = found }
