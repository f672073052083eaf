use Rattle.std.proofs.Common.{◌∙◌, ap₂, sym}
use Rattle.std.proofs.lemmas.List.Sums.{fold_more}
use Rattle.clap.specs.Words.{new_app, with_rule}
use Rattle.oftp_command_line.specs.Told.{with_one}
use Rattle.oftp_command_line.proofs.line.arguments.command.Goals as goal

pub loop-argument-preserved : goal.loop-argument-preserved
loop-argument-preserved c =
    c.in_ok-command.ensures.shape c.told.ensures.local ∙ ap₂ with_rule c.loop-argument.invariant c.told.ensures.rule
    ∙ sym (fold_more with_one (new_app c.args.declaration.word.now) c.args.declaration.arguments.now c.loop-argument.argument-index _ c.loop-argument-test.true)
