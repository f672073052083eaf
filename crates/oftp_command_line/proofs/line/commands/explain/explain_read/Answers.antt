use Rattle.std.proofs.Common.{codes, refl}
use Rattle.oftp_command_line.specs.ExplainLine.{explain_app}
use Rattle.oftp_command_line.specs.declared.line.arguments.TheConstants.{MOST_SESSION}
use Rattle.oftp_command_line.proofs.line.commands.explain.explain_read.Goals as goal

pub optional_number-session-requires : goal.optional_number-session-requires
unfolding explain_app
optional_number-session-requires c = λ has. (0, (MOST_SESSION, c.requires.optional 0 MOST_SESSION (codes "session") refl has))
