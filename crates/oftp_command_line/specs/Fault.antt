-- Why a command line isn't parsed.
use Rattle.std.specs.Prelude.{Bool, false, true}
use Rattle.oftp_command_line.specs.declared.line.LineFault.{LineFault}
use Rattle.oftp_command_line.specs.declared.line.LineFault.TheVariants as fault

-- the command line is invalid
abbrev pub is_bad : LineFault → Bool
is_bad (fault.Bad text) = true
is_bad fault.Memory = false
