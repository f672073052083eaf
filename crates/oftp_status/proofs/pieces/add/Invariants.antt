use Rattle.std.proofs.Common.{◌≡◌, fold, take}
use Rattle.oftp_status.specs.Pieces.{with_piece}
use Rattle.oftp_status.proofs.pieces.add.Given as goal

-- the pieces so far are appended
abbrev pub invariant-loop-piece : goal.invariant-loop-piece
invariant-loop-piece l = l.text.items ≡ fold with_piece l.initial.text.items (take l.piece-index l.pieces)
