-- The options that the program takes before it reads a command line, and whether notes are printed.
use Rattle.std.specs.Prelude.{ℕ, Bool, true, false, if◌then◌else◌, List, codes}
use Rattle.std.specs.Str.{bytes_eq}
use Rattle.oftp_notes.specs.declared.option.Screen.{Screen}
use Rattle.oftp_notes.specs.declared.option.Screen.TheVariants.{Terminal, Other}
use Rattle.oftp_notes.specs.declared.option.Wanted.{Wanted}
use Rattle.oftp_notes.specs.declared.option.Wanted.TheVariants.{NotYet, ByOption, Never}

-- whether an option came, after one more word; `--` ends the options
abbrev pub wanted_after : Wanted → List ℕ → List ℕ → Wanted
wanted_after NotYet option word = if bytes_eq word option then ByOption else (if bytes_eq word (codes "--") then Never else NotYet)
wanted_after ByOption option word = ByOption
wanted_after Never option word = Never

-- notes are printed where the option asks for them, or standard error is a terminal
abbrev pub wanted_where : Wanted → Screen → Bool
wanted_where ByOption screen = true
wanted_where NotYet Terminal = true
wanted_where NotYet Other = false
wanted_where Never Terminal = true
wanted_where Never Other = false
