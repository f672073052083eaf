-- The rows of a file that are at hand, and the payloads that are made of them. Only private functions cite this.
use Rattle.std.specs.Prelude.{◌≡◌, ◌==◌, ◌+◌, ◌-◌, ◌≤◌, ℕ, Bool, true, false, List, [], length, take, drop, slice_get, Option, None, Some, Result, Ok, Err}
use Rattle.oftp_wire.specs.declared.command.Command.TheVariants as command
use Rattle.oftp_vfile.specs.declared.format.TheConstants.{MOST_ROWS}
use Rattle.oftp_vfile.specs.declared.filling.Filled.{Filled}
use Rattle.oftp_vfile.specs.Filling.{IsInRows, Sent}
use Rattle.oftp_vfile.specs.VirtualFile.{AreRows}
use Rattle.oftp_register.specs.declared.entries.Side.TheVariants as side
use Rattle.oftp_register.specs.LookUps.{rows_of}
use Rattle.oftp_register.specs.Offices.{View}
use Rattle.oftp_session.specs.declared.session.SessionFault.{SessionFault}
use Rattle.oftp_session.specs.declared.session.SessionFault.TheVariants.{Ended, Memory, Office}
use Rattle.oftp_session.specs.declared.sending.OutgoingTransfer.{OutgoingTransfer}
use Rattle.oftp_session.specs.declared.state.Contact.{Contact}
use Rattle.oftp_session.specs.Phases.{Transfer, frame_of}
use Rattle.oftp_session.specs.Sending.{payload_size, payloads_in, rows_from}
use Rattle.oftp_session.specs.Standings.{AreAtHand, Ships, at_hand}
use Rattle.oftp_session.specs.Steps.{IsSent}
use Rattle.oftp_session.specs.Calls.{DoesNot, IsMade}
use Rattle.oftp_session.specs.Inside.{Finds}
use Rattle.oftp_session.specs.InsideFrame.{Fills}

-- the rows at hand without the first ones
abbrev pub without : ℕ → Option (List (List ℕ)) → Option (List (List ℕ))
without n None = None
without n (Some rows) = Some (drop n rows)

-- rows that may be given to the filler: they fit the file's format and begin where the filler is
pub record MayLend (s : OutgoingTransfer) (rows : List (List ℕ)) : Type 0 where
  pub within : s.filler.row + length rows ≤ s.rows
  pub few : s.filler.row + length rows ≤ MOST_ROWS
  pub fits : AreRows s.filler.format s.longest rows
  pub place : IsInRows s.filler rows

-- the first row that isn't at hand
abbrev pub next_row : OutgoingTransfer → ℕ
next_row s = s.filler.row + length (at_hand s.page)

-- the rows at hand are the last ones
abbrev pub is_last : OutgoingTransfer → Bool
is_last s = next_row s == s.rows

-- if a payload of the rows at hand was made, those that are wholly sent are dropped
pub record IsFilledFrom (size : ℕ) (old new : OutgoingTransfer) (frame : List ℕ) (filled : Filled) : Type 0 where
  pub may : MayLend old (at_hand old.page)
  pub same : new ≡ record old { filler = new.filler; page = without (new.filler.row - old.filler.row) old.page }
  pub fills : Fills size old.filler new.filler (at_hand old.page) (is_last old) frame filled

-- the same, or the rows didn't fit, or out of memory, and then nothing was done
abbrev pub FillsFrom : ℕ → OutgoingTransfer → OutgoingTransfer → List ℕ → Result Filled SessionFault → Type 0
FillsFrom size old new frame (Ok filled) = IsFilledFrom size old new frame filled
FillsFrom size old new frame (Err Office) = (MayLend old (at_hand old.page) → ⊥) × (new ≡ old)
FillsFrom size old new frame (Err Memory) = new ≡ old
FillsFrom size old new frame (Err Ended) = ⊥

-- a payload was left, and its DATA was made
pub record IsDataSaid (contact : Contact) (t : Transfer) (new : OutgoingTransfer) (frame : List ℕ) : Type 0 where
  pub payload : List ℕ
  pub left : slice_get (payloads_in contact t) t.sent ≡ Some payload
  pub said : frame ≡ frame_of (command.Data payload)
  pub format : new.filler.format ≡ t.file.format
  pub sent : Sent new.filler (payload_size contact) t.from (rows_from t) (take (t.sent + 1) (payloads_in contact t))
  pub page : AreAtHand t.file.rows new

-- whether a payload was left, whose DATA was then made
abbrev pub SaysPayload : Contact → Transfer → OutgoingTransfer → List ℕ → Bool → Type 0
SaysPayload contact t new frame true = IsDataSaid contact t new frame
SaysPayload contact t new frame false = Ships contact t new × (slice_get (payloads_in contact t) t.sent ≡ None)

-- the same over an office, which isn't changed
abbrev pub SaysNext : Contact → Transfer → OutgoingTransfer → View → View → List ℕ → Result Bool SessionFault → Type 0
SaysNext contact t outgoing old new frame (Ok left) = SaysPayload contact t outgoing frame left × IsMade None None old new []
SaysNext contact t outgoing old new frame (Err fault) = DoesNot None old new fault

-- what a call says that is given this transfer, with payloads of this size, and leaves another
abbrev pub SaysFrom : ℕ → OutgoingTransfer → OutgoingTransfer → View → View → List ℕ → Result Bool SessionFault → Type 0
SaysFrom size before after old new frame result = new.clean → old.stands
    → (contact : Contact) (t : Transfer) → IsSent old.register t → Ships contact t before → size ≡ payload_size contact
    → SaysNext contact t after old new frame result

-- the rows after those at hand are looked up, at most so many
abbrev pub FindsRows : OutgoingTransfer → ℕ → View → View → Result (List (List ℕ)) SessionFault → Type 0
FindsRows s most old new result = new.clean → old.stands
    → (contact : Contact) (t : Transfer) → IsSent old.register t → Ships contact t s
    → Finds (λ r. rows_of r side.Outgoing s.number (next_row s) most) old new result

-- a transfer is the same, except its filler and the rows at hand
abbrev pub IsSameTransfer : OutgoingTransfer → OutgoingTransfer → Type 0
IsSameTransfer old new = new ≡ record old { filler = new.filler; page = new.page }
