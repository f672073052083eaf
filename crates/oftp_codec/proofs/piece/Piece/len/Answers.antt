use Rattle.oftp_codec.proofs.Pieces.{padded_len, decimal_len}
use Rattle.oftp_codec.proofs.piece.Piece.len.Goals as goal

pub returns-in-Padded : goal.returns-in-Padded
returns-in-Padded c = padded_len c.args.self.now _ c.in-Padded.count c.in-Padded.is c.requires

pub returns-in-Decimal : goal.returns-in-Decimal
returns-in-Decimal c = decimal_len c.args.self.now _ c.in-Decimal.count c.in-Decimal.is
