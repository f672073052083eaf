-- What is found in the octets of a side, however they come in pieces.
use Rattle.std.specs.Prelude.{◌≡◌, ◌<◌, ℕ, List, ◌++◌, fold}
use Rattle.std.specs.List.{All}
use Rattle.oftp_codec.specs.Stream.{Front}
use Rattle.oftp_codec.specs.declared.limits.TheConstants.{LONGEST_FRAME}
use Rattle.oftp_register.specs.declared.entry.Identity.{Identity}
use Rattle.oftp_evidence.specs.Sides.{SideParts, after_octet, parts_in_all, side_of}

-- octets one behind another say what they say in two pieces
abbrev pub OneHearing : Type 0
OneHearing = (s : SideParts) (front back : List ℕ) → fold after_octet s (front ++ back) ≡ fold after_octet (fold after_octet s front) back

-- Octets that are the frames of commands, and a rest that doesn't begin with a whole frame (RFC 5024, section 8). They say what the commands say.
abbrev pub FoundInCommands : Type 0
FoundInCommands = (file : Identity) (octets : List ℕ) (commands : List (List ℕ)) (rest : List ℕ) → All (λ c. c < 256) octets
    → Front LONGEST_FRAME octets commands rest → (side_of file octets).found ≡ parts_in_all file commands
