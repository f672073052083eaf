use Rattle.std.proofs.Common.{codes, refl}
use Rattle.oftp_command_line.specs.OperatorLines.{refuse_app}
use Rattle.oftp_command_line.specs.declared.line.arguments.TheConstants.{MOST_NO, MOST_REASON}
use Rattle.oftp_command_line.proofs.line.commands.operators.refuse_read.Goals as goal

pub number-requires : goal.number-requires
unfolding refuse_app
number-requires c = (1, (MOST_NO, c.requires.numbers 1 MOST_NO (codes "no") refl))

pub number-requires-2 : goal.number-requires-2
unfolding refuse_app
number-requires-2 c = (0, (MOST_REASON, c.requires.numbers 0 MOST_REASON (codes "reason") refl))
