-- The pieces of an encoding. No public clause cites them.
use Rattle.std.specs.Prelude.{ℕ, ◌≤◌, List, length, Result}
use Rattle.std.specs.List.{flat_map}
use Rattle.oftp_wire.specs.declared.fault.WireFault.{WireFault}
use Rattle.oftp_codec.specs.declared.piece.Piece.{Piece}
use Rattle.oftp_codec.specs.declared.piece.Piece.TheVariants as pieces
use Rattle.oftp_wire.specs.Octets.{padded, decimal, spaces}
use Rattle.oftp_codec.specs.Row.{Table, canon_of}
use Rattle.oftp_codec.specs.Spelling.{IsWritten}

-- the octets of a piece
abbrev pub octets_of : Piece → List ℕ
octets_of (pieces.Octets w) = w.now
octets_of (pieces.Padded w n) = padded n w.now
octets_of (pieces.Decimal v n) = decimal n v
octets_of (pieces.Spaces n) = spaces n

-- a value isn't longer than its field
abbrev pub IsRight : Piece → Type 0
IsRight (pieces.Octets w) = Unit {0}
IsRight (pieces.Padded w n) = length w.now ≤ n
IsRight (pieces.Decimal v n) = Unit {0}
IsRight (pieces.Spaces n) = Unit {0}

-- the octets of pieces, one after the other
abbrev pub spelling : List Piece → List ℕ
spelling ps = flat_map octets_of ps

-- the canonical octets of a table are written, or there is no room for them
abbrev pub Writes : {S : Type 0} → Table S → S → Result ℕ WireFault → List ℕ → List ℕ → Type 0
Writes t s r old new = IsWritten r (canon_of t.rows s) old new
