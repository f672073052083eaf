use Rattle.std.proofs.Common.{arith, codes, refl}
use Rattle.oftp_command_line.specs.OperatorLines.{submit_app}
use Rattle.oftp_command_line.specs.declared.line.arguments.TheConstants.{MOST_LONGEST}
use Rattle.oftp_command_line.proofs.line.commands.operators.submit_read.Goals as goal

pub number-requires : goal.number-requires
unfolding submit_app
number-requires c = (0, (MOST_LONGEST, c.requires.numbers 0 MOST_LONGEST (codes "longest") refl))

pub overflow_cast-result : goal.overflow_cast-result
unfolding submit_app
overflow_cast-result c = omega (arith, c.number.ensures, (c.requires.numbers 0 MOST_LONGEST (codes "longest") refl).most)
