use Rattle.std.proofs.Common.{◌≡◌, drop}
use Rattle.oftp_command_line.specs.Arguments.{named}
use Rattle.oftp_command_line.specs.Told.{names_in}
use Rattle.oftp_command_line.proofs.line.values.named.Given as goal

-- the names so far aren't the text
abbrev pub invariant-loop-name : goal.invariant-loop-name
invariant-loop-name g l = named (names_in (drop l.name-index l.names)) l.text ≡ named (names_in l.names) l.text
