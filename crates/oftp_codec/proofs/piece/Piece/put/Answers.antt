use Rattle.std.proofs.Common.{arith}
use Rattle.oftp_codec.proofs.Pieces.{decimal_len, put_padded}
use Rattle.oftp_codec.proofs.piece.Piece.put.Goals as goal

pub put_decimal-requires : goal.put_decimal-requires
put_decimal-requires c = omega (arith, decimal_len c.args.self.now _ c.in-Decimal.count c.in-Decimal.is)

pub returns-in-Padded : goal.returns-in-Padded
returns-in-Padded c =
    put_padded c.args.self.now c.in-Padded.octets c.in-Padded.count c.args.at _ _ c.args.out.now c.in-Padded.is
    c.requires.right c.requires.room c.put_octets-in-Padded.ensures c.put_spaces.ensures
