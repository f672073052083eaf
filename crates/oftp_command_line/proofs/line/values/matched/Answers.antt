use Rattle.oftp_command_line.proofs.CertainNumbers.{has_values}
use Rattle.oftp_command_line.proofs.TakenWords.{taken_some, taken_none}
use Rattle.oftp_command_line.proofs.line.values.matched.Goals as goal

pub returns-in-Ok-clause-ok : goal.returns-in-Ok-clause-ok
returns-in-Ok-clause-ok c =
    let simple = c.requires in
    taken_some _ _ c.in-Ok.matches simple (c.in-Ok.ensures.kinds simple) c.in-Ok.ensures.matches

pub returns-in-Err-clause-bad : goal.returns-in-Err-clause-bad
returns-in-Err-clause-bad c = λ bad. taken_none _ _ c.in-Err.error (c.in-Err.ensures.kinds c.requires) (c.fault_from.ensures bad)

pub returns-in-Ok-clause-values : goal.returns-in-Ok-clause-values
returns-in-Ok-clause-values c = has_values c.args.command c.in-Ok.matches c.in-Ok.ensures.parsed
