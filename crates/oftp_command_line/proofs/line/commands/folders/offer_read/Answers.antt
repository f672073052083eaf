use Rattle.std.proofs.Common.{arith, codes, refl}
use Rattle.oftp_command_line.specs.FolderLines.{offer_app}
use Rattle.oftp_command_line.specs.declared.line.arguments.TheConstants.{MOST_LONGEST}
use Rattle.oftp_command_line.proofs.line.commands.folders.offer_read.Goals as goal

pub number-requires : goal.number-requires
unfolding offer_app
number-requires c = (0, (MOST_LONGEST, c.requires.numbers 0 MOST_LONGEST (codes "longest") refl))

pub overflow_cast-result : goal.overflow_cast-result
unfolding offer_app
overflow_cast-result c = omega (arith, c.number.ensures, (c.requires.numbers 0 MOST_LONGEST (codes "longest") refl).most)
