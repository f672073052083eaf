use Rattle.std.proofs.Common.{codes, refl}
use Rattle.oftp_command_line.specs.ServiceLines.{run_app}
use Rattle.oftp_command_line.specs.declared.line.arguments.TheConstants.{MOST_ADMISSION, MOST_DURATION, MOST_INTERVAL, MOST_JOBS, MOST_PATIENCE, MOST_PORT}
use Rattle.oftp_command_line.proofs.line.commands.services.run_read.Goals as goal

pub entrance_read-requires : goal.entrance_read-requires
unfolding run_app
entrance_read-requires c = record {
  port = c.requires.numbers 1 MOST_PORT (codes "port") refl;
  address = c.requires.texts (codes "address") refl;
  admission = c.requires.numbers 1 MOST_ADMISSION (codes "admission") refl;
}

pub terms_read-requires : goal.terms_read-requires
unfolding run_app
terms_read-requires c = record {
  patience = c.requires.numbers 0 MOST_PATIENCE (codes "patience") refl;
  longest = c.requires.numbers 1 MOST_DURATION (codes "longest") refl;
}

pub number-requires-2 : goal.number-requires-2
unfolding run_app
number-requires-2 c = (0, (MOST_JOBS, c.requires.numbers 0 MOST_JOBS (codes "jobs") refl))

pub port-requires : goal.port-requires
unfolding run_app
port-requires c = (0, c.requires.numbers 0 MOST_PORT (codes "http-port") refl)

pub number-requires : goal.number-requires
unfolding run_app
number-requires c = (0, (MOST_INTERVAL, c.requires.numbers 0 MOST_INTERVAL (codes "call-every") refl))
