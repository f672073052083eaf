use Rattle.std.proofs.Common.{subst, sym, ◌∙◌}
use Rattle.oftp_codec.specs.Spelling.{Spells}
use Rattle.oftp_codec.proofs.Whole.{found_is, fault_is, command_again}
use Rattle.oftp_codec.proofs.SpellingLaws.{canon_spells}
use Rattle.oftp_codec.proofs.parsing.parse.Goals as goal

pub returns-clause-found : goal.returns-clause-found
returns-clause-found c = found_is c.command.result c.args.frame.now c.command.ensures

pub returns-clause-only : goal.returns-clause-only
returns-clause-only c = λ x h. c.command.ensures ∙ command_again x c.args.frame.now h

pub returns-clause-again : goal.returns-clause-again
returns-clause-again c = λ x fit e. c.command.ensures ∙ command_again x c.args.frame.now (subst (Spells x) (sym e) (canon_spells x fit))

pub returns-clause-fault : goal.returns-clause-fault
returns-clause-fault c = (fault_is c.command.result c.args.frame.now c.command.ensures).0

pub returns-clause-reason : goal.returns-clause-reason
returns-clause-reason c = (fault_is c.command.result c.args.frame.now c.command.ensures).1
