use Rattle.oftp_codec.proofs.Pieces.{put_digit, put_no_digit}
use Rattle.oftp_codec.proofs.piece.+put_decimal.Goals as goal

pub returns-then-count-gt0 : goal.returns-then-count-gt0
returns-then-count-gt0 t c = put_digit c.args.at c.args.count c.args.value c.args.out.now c.put_decimal.new.out c.if-count-gt0.true c.requires c.put_decimal.ensures

pub returns-else-count-gt0 : goal.returns-else-count-gt0
returns-else-count-gt0 t c = put_no_digit c.args.at c.args.count c.args.value c.args.out.now c.if-count-gt0.false
