use Rattle.std.proofs.Common.{codes, refl}
use Rattle.oftp_command_line.specs.ServiceLines.{listen_app}
use Rattle.oftp_command_line.specs.declared.line.arguments.TheConstants.{MOST_ADMISSION, MOST_CALLERS, MOST_DURATION, MOST_PATIENCE, MOST_PORT}
use Rattle.oftp_command_line.proofs.line.commands.services.listen_read.Goals as goal

pub entrance_read-requires : goal.entrance_read-requires
unfolding listen_app
entrance_read-requires c = record {
  port = c.requires.numbers 1 MOST_PORT (codes "port") refl;
  address = c.requires.texts (codes "address") refl;
  admission = c.requires.numbers 1 MOST_ADMISSION (codes "admission") refl;
}

pub number-requires : goal.number-requires
unfolding listen_app
number-requires c = (1, (MOST_CALLERS, c.requires.numbers 1 MOST_CALLERS (codes "sessions") refl))

pub terms_read-requires : goal.terms_read-requires
unfolding listen_app
terms_read-requires c = record {
  patience = c.requires.numbers 0 MOST_PATIENCE (codes "patience") refl;
  longest = c.requires.numbers 1 MOST_DURATION (codes "longest") refl;
}
