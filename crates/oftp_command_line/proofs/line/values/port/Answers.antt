use Rattle.std.proofs.Common.{arith}
use Rattle.oftp_command_line.specs.declared.line.arguments.TheConstants.{MOST_PORT}
use Rattle.oftp_command_line.proofs.line.values.port.Goals as goal

pub number-requires : goal.number-requires
number-requires c = (c.requires.0, (MOST_PORT, c.requires.1))

pub overflow_cast-result : goal.overflow_cast-result
overflow_cast-result c = omega (arith, c.number.ensures, c.requires.1.most)
