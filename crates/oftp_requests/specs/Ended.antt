-- What a command takes from the end of its request.
use Rattle.std.specs.Prelude.{ℕ, Option, None, Some, Result, Ok, Err}
use Rattle.oftp_channel.specs.declared.ending.Ending.{Ending}
use Rattle.oftp_channel.specs.declared.ending.Ending.TheVariants as endings
use Rattle.oftp_engine.specs.declared.operating.Refusal.{Refusal}
use Rattle.oftp_engine.specs.declared.serving.RunFault.TheVariants.{Office}
use Rattle.oftp_outcomes.specs.declared.outcome.Fault.{Fault}
use Rattle.oftp_outcomes.specs.declared.outcome.Fault.TheVariants.{Run, Socket}
use Rattle.oftp_outcomes.specs.declared.outcome.Outcome.{Outcome}
use Rattle.oftp_outcomes.specs.declared.outcome.Outcome.TheVariants.{Done, Refused, Stopped}

-- the error of a request whose end it can't have
abbrev pub lost : Fault
lost = Run Office

abbrev pub outcome_of_end : Ending → Result Outcome Fault
outcome_of_end (endings.Outcome outcome) = Ok outcome
outcome_of_end (endings.Failed fault) = Err fault
outcome_of_end endings.Listed = Err lost
outcome_of_end endings.Same = Err lost
outcome_of_end endings.Other = Err lost

abbrev pub stopped_by : Result Outcome Fault → Result Outcome Fault
stopped_by (Err Socket) = Ok Stopped
stopped_by told = told

-- the outcome of a request that ended or failed
abbrev pub outcome_in : Result Ending Fault → Result Outcome Fault
outcome_in (Ok ending) = outcome_of_end ending
outcome_in (Err fault) = Err fault

-- a station that isn't there any more to answer has ended, as it was told to
abbrev pub stopped_in : Result Ending Fault → Result Outcome Fault
stopped_in asked = stopped_by (outcome_in asked)

abbrev pub number_of_done : Outcome → Result (Result ℕ Refusal) Fault
number_of_done (Done verb number) = Ok (Ok number)
number_of_done (Refused refusal) = Ok (Err refusal)
number_of_done _ = Err lost

abbrev pub number_of_told : Result Outcome Fault → Result (Result ℕ Refusal) Fault
number_of_told (Ok outcome) = number_of_done outcome
number_of_told (Err fault) = Err fault

-- the number of the file with which a request was done, or why it was refused
abbrev pub number_in : Ending → Result (Result ℕ Refusal) Fault
number_in ending = number_of_told (outcome_of_end ending)

abbrev pub refusal_of_number : Result (Result ℕ Refusal) Fault → Result (Option Refusal) Fault
refusal_of_number (Ok (Ok number)) = Ok None
refusal_of_number (Ok (Err refusal)) = Ok (Some refusal)
refusal_of_number (Err fault) = Err fault

-- why it was refused, if it was
abbrev pub refusal_in : Ending → Result (Option Refusal) Fault
refusal_in ending = refusal_of_number (number_in ending)
