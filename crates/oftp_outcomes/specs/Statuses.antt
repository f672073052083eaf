-- The exit statuses of commands, and which errors are printed.
use Rattle.std.specs.Prelude.{ℕ, Bool, true, false, not, ◌==◌}
use Rattle.std.specs.declared.io.ErrorKind.{ErrorKind}
use Rattle.std.specs.declared.io.ErrorKind.TheVariants.{BrokenPipe}
use Rattle.oftp_engine.specs.declared.operating.Told.{Told}
use Rattle.oftp_engine.specs.declared.operating.Told.TheVariants.{Done, Refused}
use Rattle.oftp_wire.specs.Reasons.{session_number}
use Rattle.oftp_engine.specs.declared.serving.End.{End}
use Rattle.oftp_engine.specs.declared.serving.End.TheVariants.{Own, Partner, Input}
use Rattle.oftp_engine.specs.declared.serving.RunFault.TheVariants.{Write}
use Rattle.oftp_outcomes.specs.Printed.{is_refusal}
use Rattle.oftp_outcomes.specs.declared.outcome.Outcome.{Outcome}
use Rattle.oftp_outcomes.specs.declared.outcome.Outcome.TheVariants.{Ended}
use Rattle.oftp_outcomes.specs.declared.outcome.Fault.{Fault}
use Rattle.oftp_outcomes.specs.declared.outcome.Fault.TheVariants.{Run}
use Rattle.oftp_outcomes.specs.declared.output.Reader.{Reader}
use Rattle.oftp_outcomes.specs.declared.output.Reader.TheVariants.{Gone}
use Rattle.oftp_outcomes.specs.declared.statuses.TheConstants.{DONE, FAILED}

-- that of a command, by whether something was refused
abbrev pub status_if : Bool → ℕ
status_if true = FAILED
status_if false = DONE

-- that of an operator's call
abbrev pub status_of : Told → ℕ
status_of (Done n) = DONE
status_of (Refused why) = FAILED

-- a session ended by an ESID that gives the reason 00, of either side (RFC 5024, section 5.3.11)
abbrev pub is_good : End → Bool
is_good (Own reason) = session_number reason == 0
is_good (Partner number) = number == 0
is_good Input = false

-- that of a command that runs one session, and counts each end but 00 as a failure
abbrev pub status_after : Outcome → ℕ
status_after (Ended end) = status_if (not (is_good end))
status_after outcome = status_if (is_refusal outcome)

-- whether somebody reads an output after an error of this kind
abbrev pub reader_after : Reader → ErrorKind → Reader
reader_after reader BrokenPipe = Gone
reader_after reader kind = reader

-- The line of a command's error is printed, unless it is that of a failed write and nobody reads the output any more.
abbrev pub is_told : Fault → Reader → Bool
is_told (Run Write) Gone = false
is_told fault reader = true
