-- The lines of a station that runs, and which errors of its sessions end it.
use Rattle.std.specs.Prelude.{ℕ, List, ◌++◌, Option, None, Some, Result, Ok, Err, codes}
use Rattle.oftp_engine.specs.declared.serving.End.{End}
use Rattle.oftp_engine.specs.declared.serving.RunFault.TheVariants.{Memory}
use Rattle.oftp_outcomes.specs.Printed.{fault_line, outcome_line}
use Rattle.oftp_outcomes.specs.declared.outcome.Fault.{Fault}
use Rattle.oftp_outcomes.specs.declared.outcome.Fault.TheVariants.{Run}
use Rattle.oftp_outcomes.specs.declared.outcome.Outcome.TheVariants.{Ended}
use Rattle.oftp_outcomes.specs.declared.service.ServiceLine.{ServiceLine}
use Rattle.oftp_outcomes.specs.declared.service.ServiceLine.TheVariants.{Ready, Session}
use Rattle.oftp_outcomes.specs.declared.service.Trouble.{Trouble}
use Rattle.oftp_outcomes.specs.declared.service.Trouble.TheVariants.{OfJob, OfService}
use Rattle.oftp_outcomes.specs.declared.service.Way.{Way}
use Rattle.oftp_outcomes.specs.declared.service.Way.TheVariants.{In, Out}

-- the side that called
abbrev pub way_text : Way → List ℕ
way_text In = codes "in"
way_text Out = codes "out"

-- how a session ended
abbrev pub ended_line : Result End Fault → List ℕ
ended_line (Ok end) = outcome_line (Ended end)
ended_line (Err fault) = fault_line fault

-- a line of a station that runs
abbrev pub service_line : ServiceLine → List ℕ
service_line Ready = codes "ready"
service_line (Session code way ended) = codes "session " ++ (code.now ++ (codes " " ++ (way_text way ++ (codes ": " ++ ended_line ended))))

-- the error, whomever it concerns
abbrev pub trouble_fault : Trouble → Fault
trouble_fault (OfJob fault) = fault
trouble_fault (OfService fault) = fault

-- how a session ended, whomever its error concerns
abbrev pub plain : Result End Trouble → Result End Fault
plain (Ok end) = Ok end
plain (Err trouble) = Err (trouble_fault trouble)

-- An error of the service ends it, unless it is out of memory.
abbrev pub last_fault : Result End Trouble → Option Fault
last_fault (Err (OfService (Run Memory))) = None
last_fault (Err (OfService fault)) = Some fault
last_fault ended = None
