-- Which file `fetch` hands out.
use Rattle.std.specs.Prelude.{Option, Some, None, Result, Ok, Err}
use Rattle.oftp_register.specs.declared.entries.IncomingEntry.{IncomingEntry}
use Rattle.oftp_register.specs.declared.entry.IncomingState.{IncomingState}
use Rattle.oftp_register.specs.declared.entry.IncomingState.TheVariants.{Open, Whole}
use Rattle.oftp_engine.specs.declared.operating.Refusal.{Refusal}
use Rattle.oftp_engine.specs.declared.operating.Refusal.TheVariants.{State, Unknown}

-- a file in this state, only if it is whole
abbrev pub if_whole : IncomingState → IncomingEntry → Result IncomingEntry Refusal
if_whole Open entry = Err State
if_whole Whole entry = Ok entry

-- what is handed out of what is found under a number, or the refusal
abbrev pub handed_out : Option IncomingEntry → Result IncomingEntry Refusal
handed_out None = Err Unknown
handed_out (Some entry) = if_whole entry.state entry
