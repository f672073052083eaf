use Rattle.std.proofs.Common.{◌≡◌, drop, map}
use Rattle.oftp_command_line.specs.Arguments.{named}
use Rattle.oftp_command_line.specs.Line.{name_of}
use Rattle.oftp_command_line.specs.Told.{with_name}
use Rattle.oftp_command_line.proofs.line.commands.Name.of.Given as goal

-- the commands so far don't have the name
abbrev pub invariant-loop-declaration : goal.invariant-loop-declaration
invariant-loop-declaration l = named (map with_name (drop l.declaration-index l.declaration-items)) l.word ≡ name_of l.word
