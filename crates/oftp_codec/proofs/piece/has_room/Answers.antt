use Rattle.std.proofs.Common.{arith}
use Rattle.std.proofs.lemmas.Bool.{false≢true}
use Rattle.oftp_codec.proofs.Pieces.{within, no_piece}
use Rattle.oftp_codec.proofs.piece.has_room.Goals as goal

pub returns-then-left-len : goal.returns-then-left-len
returns-then-left-len c =
    let w = within c.args.pieces.now c.loop-piece.piece-index no_piece c.loop-piece-test.true in
    (λ h. absurd (false≢true h), λ h. absurd (omega (arith, w)))
