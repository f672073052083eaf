use Rattle.std.proofs.Common.{◌≡◌, take}
use Rattle.clap.specs.Words.{app_of}
use Rattle.oftp_command_line.specs.Told.{app_told}
use Rattle.oftp_command_line.proofs.line.arguments.command.Given as goal

-- the command has the arguments so far
abbrev pub invariant-loop-argument : goal.invariant-loop-argument
invariant-loop-argument l = app_of l.command ≡ app_told l.fn.declaration.word.now (take l.argument-index l.fn.declaration.arguments.now)
