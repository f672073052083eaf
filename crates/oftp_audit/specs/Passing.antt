-- An audit of two registers that finds nothing, entry by entry.
use Rattle.std.specs.Prelude.{◌≡◌, ◌↔◌, ℕ, suc, List, [], ◌∷◌, length, Option, None, Some, Ok, All, ⊤}
use Rattle.std.specs.Option.{option_map}
use Rattle.oftp_register.specs.declared.change.Change.{Change}
use Rattle.oftp_register.specs.declared.entry.IncomingState.{IncomingState}
use Rattle.oftp_register.specs.declared.entry.IncomingState.TheVariants.{Open, Whole}
use Rattle.oftp_register.specs.Register.{Register, Issued, Incoming, Outgoing, Received}
use Rattle.oftp_register.specs.Changes.{apply_all}
use Rattle.oftp_register.specs.LookUps.{incoming_entry, issued_response, outgoing_entry, received_entry}
use Rattle.oftp_register.specs.Soundness.{AreFit, IsSound, IsSoundIncoming, IsSoundOutgoing, IsSoundReceived}
use Rattle.oftp_audit.specs.Evidence.{KeepsEach, KeepsIncoming, KeepsOutgoing, KeepsReceived}
use Rattle.oftp_audit.specs.Losses.{lost_of_incoming, lost_of_issued, lost_of_outgoing, lost_of_received, lost_of_row, unsound_in_incoming, unsound_in_issued, unsound_in_outgoing, unsound_in_received, unsound_in_row}
use Rattle.oftp_audit.specs.declared.loss.Loss.{Loss}
use Rattle.oftp_audit.specs.declared.rows.Shape.{Shape}

-- nothing is told
abbrev pub IsNothing : List (Option Loss) → Type 0
IsNothing [] = ⊤
IsNothing (loss ∷ losses) = (loss ≡ None) × IsNothing losses

-- ---- against an older register

-- each row is told to be the same, and none to be missing
abbrev pub RowsPass : List (List ℕ) → List (List ℕ) → Type 0
RowsPass [] ys = ⊤
RowsPass (x ∷ xs) [] = lost_of_row x None ≡ None
RowsPass (x ∷ xs) (y ∷ ys) = (lost_of_row x (Some y) ≡ None) × RowsPass xs ys

-- the rows of a whole file are compared
abbrev pub WholeRowsPass : IncomingState → List (List ℕ) → List (List ℕ) → Type 0
WholeRowsPass Open xs ys = ⊤
WholeRowsPass Whole xs ys = RowsPass xs ys

-- a response is compared, if there was one
abbrev pub ResponsePasses : Option Issued → Option Issued → Type 0
ResponsePasses None later = ⊤
ResponsePasses (Some x) later = IsNothing (lost_of_issued (issued_response x) (option_map issued_response later))

-- nothing is lost of an incoming file
pub record IncomingPasses (x y : Incoming) : Type 0 where
  pub entry : IsNothing (lost_of_incoming (incoming_entry 1 x) (Some (incoming_entry 1 y)))
  pub rows : WholeRowsPass x.state x.rows y.rows
  pub response : ResponsePasses x.response y.response

-- nothing is lost of an outgoing file
pub record OutgoingPasses (x y : Outgoing) : Type 0 where
  pub entry : IsNothing (lost_of_outgoing (outgoing_entry 1 x) (Some (outgoing_entry 1 y)))
  pub rows : RowsPass x.rows y.rows

-- nothing is lost of a received response
abbrev pub ReceivedPasses : Received → Received → Type 0
ReceivedPasses x y = IsNothing (lost_of_received (received_entry 1 x).response (Some (received_entry 1 y).response))

-- An audit tells nothing of an entry exactly if its evidence is kept.
pub record AuditIsExact : Type 0 where
  pub incoming : (x y : Incoming) → KeepsIncoming x y ↔ IncomingPasses x y
  pub outgoing : (x y : Outgoing) → KeepsOutgoing x y ↔ OutgoingPasses x y
  pub received : (x y : Received) → KeepsReceived x y ↔ ReceivedPasses x y

-- ---- alone

-- each row is told to have a length that it may have, from this place on
abbrev pub LengthsPass : Shape → ℕ → List (List ℕ) → Type 0
LengthsPass shape at [] = ⊤
LengthsPass shape at (row ∷ rows) = (unsound_in_row shape at (length row) ≡ None) × LengthsPass shape (suc at) rows

-- a response is judged, if there is one
abbrev pub AnswerPasses : Option Issued → Type 0
AnswerPasses None = ⊤
AnswerPasses (Some x) = unsound_in_issued (issued_response x) ≡ None

-- what decides the lengths of an incoming file's rows
abbrev pub shape_in : Incoming → Shape
shape_in f = record { format = f.format; longest = f.longest; state = f.state; rows = length f.rows }

-- an outgoing file is whole
abbrev pub shape_out : Outgoing → Shape
shape_out f = record { format = f.format; longest = f.longest; state = Whole; rows = length f.rows }

-- nothing is unsound in an incoming file
pub record IncomingStands (x : Incoming) : Type 0 where
  pub entry : IsNothing (unsound_in_incoming (incoming_entry 1 x))
  pub rows : LengthsPass (shape_in x) 0 x.rows
  pub response : AnswerPasses x.response

-- nothing is unsound in an outgoing file
pub record OutgoingStands (x : Outgoing) : Type 0 where
  pub entry : IsNothing (unsound_in_outgoing (outgoing_entry 1 x))
  pub rows : LengthsPass (shape_out x) 0 x.rows

-- nothing is unsound in a received response
abbrev pub ReceivedStands : Received → Type 0
ReceivedStands x = unsound_in_received (received_entry 1 x).response ≡ None

-- An audit finds an entry sound exactly if the register's own invariant holds of it.
pub record SoundnessIsExact : Type 0 where
  pub incoming : (x : Incoming) → IsSoundIncoming x ↔ IncomingStands x
  pub outgoing : (x : Outgoing) → IsSoundOutgoing x ↔ OutgoingStands x
  pub received : (x : Received) → IsSoundReceived x ↔ ReceivedStands x

-- ---- both

-- an audit of a newer register against an older one tells nothing
pub record AuditPasses (older newer : Register) : Type 0 where
  pub incoming_kept : KeepsEach IncomingPasses older.incoming newer.incoming
  pub outgoing_kept : KeepsEach OutgoingPasses older.outgoing newer.outgoing
  pub received_kept : KeepsEach ReceivedPasses older.received newer.received
  pub incoming_sound : All IncomingStands newer.incoming
  pub outgoing_sound : All OutgoingStands newer.outgoing
  pub received_sound : All ReceivedStands newer.received

-- a register that came from a sound older one by changes, each fit when it was made, passes
abbrev pub ChangesPass : Type 0
ChangesPass = (r : Register) (changes : List Change) (s : Register) → IsSound r → AreFit r changes → apply_all r changes ≡ Ok s → AuditPasses r s
