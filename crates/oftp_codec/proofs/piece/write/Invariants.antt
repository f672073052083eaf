use Rattle.std.proofs.Common.{◌≡◌, ◌++◌, length, take, drop}
use Rattle.oftp_codec.specs.Piece.{spelling}
use Rattle.oftp_codec.proofs.piece.write.Given as goal

abbrev pub invariant-loop-piece : goal.invariant-loop-piece
invariant-loop-piece l = record { count : l.at ≡ length (spelling (take l.piece-index l.pieces)); octets : l.out ≡ spelling (take l.piece-index l.pieces) ++ drop l.at l.initial.out }
