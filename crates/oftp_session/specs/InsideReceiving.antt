-- What the private functions promise that receive a file.
use Rattle.std.specs.Prelude.{◌≡◌, ℕ, ◌-◌, ◌%◌, ◌<◌, Bool, false, List, length, max, Option, None, Some, Result, Ok, Err}
use Rattle.oftp_wire.specs.declared.reason.SessionReason.{SessionReason}
use Rattle.oftp_vfile.specs.declared.fault.TakeFault.{TakeFault}
use Rattle.oftp_vfile.specs.Carries.{is_open}
use Rattle.oftp_vfile.specs.Reading.{shed}
use Rattle.oftp_register.specs.declared.verdicts.EndVerdict.TheVariants as «end»
use Rattle.oftp_register.specs.Offices.{View}
use Rattle.oftp_session.specs.declared.receiving.IncomingTransfer.{IncomingTransfer}
use Rattle.oftp_session.specs.declared.session.SessionFault.{SessionFault}
use Rattle.oftp_session.specs.declared.session.SessionFault.TheVariants as fault
use Rattle.oftp_session.specs.declared.state.Contact.{Contact}
use Rattle.oftp_session.specs.declared.state.State.{State}
use Rattle.oftp_session.specs.Phases.{Receipt, fails}
use Rattle.oftp_session.specs.Receiving.{carried_by, kept_of, on_end_verdict, reason_of, window}
use Rattle.oftp_session.specs.Recalling.{RecallsOf}
use Rattle.oftp_session.specs.Standings.{Tracks}
use Rattle.oftp_session.specs.Steps.{IsReceived}
use Rattle.oftp_session.specs.Inside.{Goes, Takes}

-- an incoming transfer is in the state of the phase, as in `Tracks`, after a payload that isn't counted yet
pub record HasTaken (contact : Contact) (f : Receipt) (s : IncomingTransfer) : Type 0 where
  pub number : s.number ≡ f.number
  pub credit : max 1 s.credit ≡ window contact - (length f.payloads - 1) % window contact
  pub some : 0 < length f.payloads
  pub taker : s.taker ≡ shed (kept_of f) (carried_by f)

-- A faulty payload ends the session for the reason of its fault. A fault without a reason, which is out of memory, is the session's error.
abbrev pub Refuses : TakeFault → Result State SessionFault → List ℕ → Type 0
Refuses cause (Ok state) frame = (reason : SessionReason) × (reason_of cause ≡ Some reason) × Goes (fails reason) state frame
Refuses cause (Err told) frame = (reason_of cause ≡ None) × (told ≡ fault.Memory)

-- a file of which no subrecord is open is closed, where whether a response is next was remembered rightly
abbrev pub ClosesFile : Option Bool → Contact → IncomingTransfer → View → View → List ℕ → Result State SessionFault → Type 0
ClosesFile due contact incoming old new frame result = RecallsOf due contact old.register → new.clean → old.stands
    → (f : Receipt) → IsReceived old.register f → Tracks contact f incoming → is_open (carried_by f).stage ≡ false
    → Takes (on_end_verdict contact old.register f (carried_by f) «end».Accept) old new frame result
