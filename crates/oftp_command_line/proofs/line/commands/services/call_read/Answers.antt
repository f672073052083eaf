use Rattle.std.proofs.Common.{codes, refl}
use Rattle.oftp_command_line.specs.ServiceLines.{call_app}
use Rattle.oftp_command_line.specs.declared.line.arguments.TheConstants.{MOST_DURATION, MOST_PATIENCE}
use Rattle.oftp_command_line.proofs.line.commands.services.call_read.Goals as goal

pub terms_read-requires : goal.terms_read-requires
unfolding call_app
terms_read-requires c = record {
  patience = c.requires.numbers 0 MOST_PATIENCE (codes "patience") refl;
  longest = c.requires.numbers 1 MOST_DURATION (codes "longest") refl;
}
