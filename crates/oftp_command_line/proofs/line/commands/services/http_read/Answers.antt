use Rattle.std.proofs.Common.{codes, refl}
use Rattle.oftp_command_line.specs.ServiceLines.{http_app}
use Rattle.oftp_command_line.specs.declared.line.arguments.TheConstants.{MOST_CALLERS, MOST_PORT}
use Rattle.oftp_command_line.proofs.line.commands.services.http_read.Goals as goal

pub port-requires : goal.port-requires
unfolding http_app
port-requires c = (1, c.requires.numbers 1 MOST_PORT (codes "port") refl)

pub number-requires : goal.number-requires
unfolding http_app
number-requires c = (1, (MOST_CALLERS, c.requires.numbers 1 MOST_CALLERS (codes "requests") refl))
