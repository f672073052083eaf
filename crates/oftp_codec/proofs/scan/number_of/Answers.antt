use Rattle.std.proofs.Common.{arith}
use Rattle.oftp_wire.proofs.Numbers.{digit_at}
use Rattle.oftp_codec.proofs.Numbers.{room}
use Rattle.oftp_codec.proofs.scan.number_of.Goals as goal

pub overflow_mul-n : goal.overflow_mul-n
overflow_mul-n c = omega (arith, room c.loop-c.n c.loop-c.c-index (omega arith) (omega arith))

pub overflow_add-n : goal.overflow_add-n
overflow_add-n c = omega (arith, room c.loop-c.n c.loop-c.c-index (omega arith) (omega arith), (digit_at c.args.field.now c.loop-c.c-index c.requires.digits (omega arith)).1)
