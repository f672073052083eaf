-- What a change needs to know of the file with a number.
use Rattle.std.specs.Prelude.{ℕ, length, Bool, true, false, Option, Some, None}
use Rattle.oftp_register.specs.declared.entry.Dispatch.TheVariants.{Due, Sent}
use Rattle.oftp_register.specs.declared.entry.IncomingState.{IncomingState}
use Rattle.oftp_register.specs.declared.entry.IncomingState.TheVariants.{Open, Whole}
use Rattle.std.specs.Option.{option_map}
use Rattle.oftp_register.specs.declared.entry.Dispatch.{Dispatch}
use Rattle.oftp_register.specs.Register.{Register, Incoming, Issued, Outgoing}
use Rattle.oftp_register.specs.Soundness.{IsSound}
use Rattle.oftp_store.specs.Reads.{IsToldOf}
use Rattle.oftp_store.specs.declared.queries.progress.IncomingProgress.{IncomingProgress}
use Rattle.oftp_store.specs.declared.queries.progress.OutgoingProgress.{OutgoingProgress}
use Rattle.oftp_store.specs.declared.queries.progress.ResponseProgress.{ResponseProgress}

abbrev pub incoming_progress_of : Incoming → IncomingProgress
incoming_progress_of f = record { state = f.state; rows = length f.rows }

abbrev pub outgoing_progress_of : Outgoing → OutgoingProgress
outgoing_progress_of f = record { mark = f.mark; state = f.state; rows = length f.rows }

abbrev pub dispatch_of : Issued → Dispatch
dispatch_of x = x.dispatch

abbrev pub response_progress_of : Incoming → ResponseProgress
response_progress_of f = record { state = f.state; response = option_map dispatch_of f.response }

-- what was read of the file with a number, if there is one

abbrev pub incoming_told : Register → ℕ → Option IncomingProgress → Type 0
incoming_told r n found = IsToldOf incoming_progress_of r.incoming n found

abbrev pub outgoing_told : Register → ℕ → Option OutgoingProgress → Type 0
outgoing_told r n found = IsToldOf outgoing_progress_of r.outgoing n found

abbrev pub response_told : Register → ℕ → Option ResponseProgress → Type 0
response_told r n found = IsSound r → IsToldOf response_progress_of r.incoming n found

-- an incoming file is still incomplete

abbrev pub is_open : IncomingState → Bool
is_open Open = true
is_open Whole = false

abbrev pub is_open_file : IncomingProgress → Bool
is_open_file file = is_open file.state

-- a file that is whole and has no response may be answered

abbrev pub is_unanswered : Option Dispatch → Bool
is_unanswered None = true
is_unanswered (Some dispatch) = false

abbrev pub is_answerable_in : IncomingState → Option Dispatch → Bool
is_answerable_in Open response = false
is_answerable_in Whole response = is_unanswered response

abbrev pub is_answerable : ResponseProgress → Bool
is_answerable a = is_answerable_in a.state a.response

-- a response that is due may be sent

abbrev pub is_due_response : Option Dispatch → Bool
is_due_response None = false
is_due_response (Some Due) = true
is_due_response (Some Sent) = false

abbrev pub is_sendable : ResponseProgress → Bool
is_sendable a = is_due_response a.response
