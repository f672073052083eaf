-- What the private functions of a speaker promise.
use Rattle.std.specs.Prelude.{◌≡◌, ℕ, Bool, false, List, Option, None, Some, Result}
use Rattle.oftp_register.specs.declared.entries.Item.{Item}
use Rattle.oftp_register.specs.declared.entries.Item.TheVariants as item
use Rattle.oftp_register.specs.declared.entries.OutgoingEntry.{OutgoingEntry}
use Rattle.oftp_register.specs.Register.{Outgoing}
use Rattle.oftp_register.specs.LookUps.{entry_at, outgoing_entry}
use Rattle.oftp_register.specs.Offices.{View}
use Rattle.oftp_session.specs.declared.link.WhenDone.{WhenDone}
use Rattle.oftp_session.specs.declared.session.SessionFault.{SessionFault}
use Rattle.oftp_session.specs.declared.state.Contact.{Contact}
use Rattle.oftp_session.specs.declared.state.State.{State}
use Rattle.oftp_session.specs.Speaker.{offers}
use Rattle.oftp_session.specs.Inside.{Takes}

-- what a speaker remembers after it found this: nothing after a response, and else that no response is next
abbrev pub due_after : Option Item → Option Bool
due_after (Some (item.Response e)) = None
due_after (Some (item.File e)) = Some false
due_after None = Some false

-- the file of this entry is offered, whatever a speaker does when nothing is left
abbrev pub OffersFile : Contact → OutgoingEntry → View → View → List ℕ → Result State SessionFault → Type 0
OffersFile contact entry old new frame result = new.clean → old.stands → (done : WhenDone) (file : Outgoing)
    → entry ≡ outgoing_entry entry.no file → entry_at entry.no old.register.outgoing ≡ Some file
    → Takes (offers contact done entry.no (Some file)) old new frame result
