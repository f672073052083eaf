use Rattle.oftp_command_line.specs.declared.line.arguments.TheConstants.{MOST_ADMISSION}
use Rattle.oftp_command_line.proofs.line.commands.terms.entrance_read.Goals as goal

pub port-requires : goal.port-requires
port-requires c = (1, c.requires.port)

pub given-requires : goal.given-requires
given-requires c = c.requires.address

pub number-requires : goal.number-requires
number-requires c = (1, (MOST_ADMISSION, c.requires.admission))
