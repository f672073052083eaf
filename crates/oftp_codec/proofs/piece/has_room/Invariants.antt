use Rattle.std.proofs.Common.{◌≡◌, ◌+◌, length, take}
use Rattle.oftp_codec.specs.Piece.{spelling}
use Rattle.oftp_codec.proofs.piece.has_room.Given as goal

abbrev pub invariant-loop-piece : goal.invariant-loop-piece
invariant-loop-piece l = l.left + length (spelling (take l.piece-index l.pieces)) ≡ l.room
