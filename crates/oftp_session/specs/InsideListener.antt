-- What the private functions of a listener promise: how an accepted file is started, and the responses of the code as plain data.
use Rattle.std.specs.Prelude.{◌≡◌, ℕ, [], length, None, Some, Result, Ok, Err, List}
use Rattle.oftp_wire.specs.declared.command.Sfid.{Sfid}
use Rattle.oftp_vfile.specs.VirtualFile.{units_in}
use Rattle.oftp_vfile.specs.Taking.{new_taking}
use Rattle.oftp_register.specs.declared.entry.Identity.{Identity}
use Rattle.oftp_register.specs.Register.{Register, Incoming, Received}
use Rattle.oftp_register.specs.Changes.{apply}
use Rattle.oftp_register.specs.LookUps.{entry_at, incoming_entry, look_in}
use Rattle.oftp_register.specs.Soundness.{IsFit}
use Rattle.oftp_register.specs.Offices.{View}
use Rattle.oftp_register.specs.declared.change.Change.TheVariants.{Keep}
use Rattle.oftp_session.specs.Links.{LinkData}
use Rattle.oftp_session.specs.declared.receiving.IncomingTransfer.{IncomingTransfer}
use Rattle.oftp_session.specs.declared.session.SessionFault.{SessionFault}
use Rattle.oftp_session.specs.Receiving.{keeping}
use Rattle.oftp_register.specs.Verdicts.{offered_identity}
use Rattle.oftp_session.specs.Listener.{receipt_of, start_of}
use Rattle.oftp_session.specs.Steps.{IsReceived}
use Rattle.oftp_session.specs.Calls.{IsMade, DoesNot}
use Rattle.oftp_session.specs.Inside.{Finds, IsAccepted, MakesChange}
use Rattle.oftp_session.specs.declared.listener.Response.{Response}

-- the incoming file of an identity has this number
pub record IsFound (r : Register) (identity : Identity) (number : ℕ) (file : Incoming) : Type 0 where
  pub look : look_in r identity ≡ Some (incoming_entry number file)
  pub entry : entry_at number r.incoming ≡ Some file

-- A file may start, or go on after its first `count` rows: the change is fit and made, and then the file is found.
pub record MayBegin (r : Register) (sfid : Sfid) (count : ℕ) : Type 0 where
  pub fit : IsFit r (start_of sfid count)
  pub after : Register
  pub made : apply r (start_of sfid count) ≡ Ok after
  pub received : IsReceived after (receipt_of r sfid count)
  pub found : look_in after (offered_identity sfid) ≡ Some (incoming_entry (receipt_of r sfid count).number (receipt_of r sfid count).file)

-- the transfer of a file of which no payload was received
abbrev pub incoming_of : LinkData → ℕ → Incoming → ℕ → IncomingTransfer
incoming_of link number file limit = record {
  number = number;
  credit = link.credit;
  taker = new_taking file.format file.longest (length file.rows) (units_in file.rows) limit;
}

-- the change is made, and the transfer of the file is made for it
abbrev pub Starts : LinkData → Sfid → ℕ → View → View → Result IncomingTransfer SessionFault → Type 0
Starts link sfid count old new (Ok incoming) =
    let f = receipt_of old.register sfid count in
    IsMade (Some (start_of sfid count)) None old new [] × (incoming ≡ incoming_of link f.number f.file f.limit)
Starts link sfid count old new (Err fault) = DoesNot (Some (start_of sfid count)) old new fault

-- the same if the disk is clean after it, the office was valid before it, and the file may start
abbrev pub StartsFit : LinkData → Sfid → ℕ → View → View → Result IncomingTransfer SessionFault → Type 0
StartsFit link sfid count old new result = new.clean → old.stands → MayBegin old.register sfid count → Starts link sfid count old new result

-- the transfer of the incoming file with this identity is found, if there is one
abbrev pub FindsStarted : LinkData → Identity → View → View → Result IncomingTransfer SessionFault → Type 0
FindsStarted link identity old new result = new.clean → old.stands → (number : ℕ) (file : Incoming) → IsFound old.register identity number file
    → Finds (λ r. incoming_of link number file r.limits.octets) old new result

-- A function that appends these rows to an incoming file, if there are any. The disk is clean after it, the office was valid before it, and
-- its register accepts the change.
abbrev pub KeepsFit : {T : Type 0} → ℕ → List (List ℕ) → View → View → Result T SessionFault → Type 0
KeepsFit number rows old new result = new.clean → old.stands
    → IsFit old.register (Keep number rows) → IsAccepted old.register (Keep number rows) → MakesChange (keeping number rows) old new result

-- a received response, as plain data
abbrev pub as_received : Response → Received
as_received r = record { kind = r.kind; identity = r.identity; reason = r.reason; creator = r.creator; text = r.text }
