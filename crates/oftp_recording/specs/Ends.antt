-- Why a session ended, as its record has it, and how it is played.
use Rattle.std.specs.Prelude.{Option, None, Some, Result, Ok, Err}
use Rattle.oftp_contents.specs.declared.codes.EndCause.{EndCause}
use Rattle.oftp_contents.specs.declared.codes.EndCause.TheVariants as cause
use Rattle.oftp_engine.specs.declared.serving.End.{End}
use Rattle.oftp_engine.specs.declared.serving.End.TheVariants as end
use Rattle.oftp_engine.specs.declared.serving.RunFault.TheVariants as run
use Rattle.oftp_outcomes.specs.declared.outcome.Fault.{Fault}
use Rattle.oftp_outcomes.specs.declared.outcome.Fault.TheVariants as fault

-- why a session ended that ended so
abbrev pub cause_of : Result End Fault → EndCause
cause_of (Ok (end.Own reason)) = cause.Itself
cause_of (Ok (end.Partner reason)) = cause.Itself
cause_of (Ok end.Input) = cause.Input
cause_of (Err (fault.Run run.Read)) = cause.Read
cause_of (Err (fault.Run run.Write)) = cause.Write
cause_of (Err it) = cause.Other

-- how a session is played that ended for this cause; what it did itself is what comes of its octets, and another error is that of its machine
abbrev pub end_for : EndCause → Option (Result End Fault)
end_for cause.Input = Some (Ok end.Input)
end_for cause.Read = Some (Err (fault.Run run.Read))
end_for cause.Write = Some (Err (fault.Run run.Write))
end_for cause.Itself = None
end_for cause.Other = None
