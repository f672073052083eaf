use Rattle.std.proofs.Common.{codes, refl}
use Rattle.oftp_command_line.specs.StandingLines.{health_app}
use Rattle.oftp_command_line.specs.declared.line.arguments.TheConstants.{MOST_HOURS}
use Rattle.oftp_command_line.proofs.line.commands.standings.health_read.Goals as goal

pub number-requires : goal.number-requires
unfolding health_app
number-requires c = (0, (MOST_HOURS, c.requires.numbers 0 MOST_HOURS (codes "warn") refl))

pub number-requires-2 : goal.number-requires-2
unfolding health_app
number-requires-2 c = (0, (MOST_HOURS, c.requires.numbers 0 MOST_HOURS (codes "critical") refl))
