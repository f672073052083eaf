-- What the code tells, as the definitions have it.
use Rattle.std.specs.Prelude.{string_bytes}
use Rattle.oftp_telling.specs.Lines.{Told, ToldCommand, ToldData, ToldFault}
use Rattle.oftp_telling.specs.declared.telling.Telling.{Telling}
use Rattle.oftp_telling.specs.declared.telling.Telling.TheVariants.{Command, Data, Fault}

-- what the code tells
abbrev pub telling_seen : Telling → Told
telling_seen (Command line) = ToldCommand (string_bytes line)
telling_seen (Data count) = ToldData count
telling_seen (Fault line) = ToldFault (string_bytes line)
