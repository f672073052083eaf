use Rattle.oftp_engine.proofs.Queues.{runs_are_heard, runs_say_commands, runs_say_queues}
use Rattle.oftp_engine.proofs.laws.runs_say_queues.Goals as goal

pub returns-clause-commands : goal.returns-clause-commands
returns-clause-commands c = runs_say_commands

pub returns-clause-queues : goal.returns-clause-queues
returns-clause-queues c = runs_say_queues

pub returns-clause-heard : goal.returns-clause-heard
returns-clause-heard c = runs_are_heard
