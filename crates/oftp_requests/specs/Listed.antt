-- Which incoming files `collect` is told of.
use Rattle.std.specs.Prelude.{Bool, false, Option, None, Some, is_none}
use Rattle.oftp_register.specs.declared.entries.IncomingEntry.{IncomingEntry}
use Rattle.oftp_register.specs.declared.entry.IncomingState.{IncomingState}
use Rattle.oftp_register.specs.declared.entry.IncomingState.TheVariants.{Open, Whole}

-- a file in this state is whole and has no response
abbrev pub is_unanswered_in : {T : Type 0} → IncomingState → Option T → Bool
is_unanswered_in Open response = false
is_unanswered_in Whole response = is_none response

abbrev pub is_unanswered : IncomingEntry → Bool
is_unanswered entry = is_unanswered_in entry.state entry.response
