-- What the private functions promise that send a file.
use Rattle.std.specs.Prelude.{◌≡◌, ℕ, ◌≤◌, List, length, slice_get, None, Result}
use Rattle.oftp_register.specs.Offices.{View}
use Rattle.oftp_session.specs.declared.sending.OutgoingTransfer.{OutgoingTransfer}
use Rattle.oftp_session.specs.declared.session.SessionFault.{SessionFault}
use Rattle.oftp_session.specs.declared.state.Contact.{Contact}
use Rattle.oftp_session.specs.declared.state.State.{State}
use Rattle.oftp_session.specs.Phases.{Transfer}
use Rattle.oftp_session.specs.Sending.{marking, payloads_in, turned_sending}
use Rattle.oftp_session.specs.Standings.{Ships}
use Rattle.oftp_session.specs.Steps.{IsSent}
use Rattle.oftp_session.specs.Inside.{MakesChange, Takes}

-- the end of a file is sent, of which each payload was sent
abbrev pub EndsFile : Contact → OutgoingTransfer → View → View → List ℕ → Result State SessionFault → Type 0
EndsFile contact outgoing old new frame result = new.clean → old.stands
    → (t : Transfer) → IsSent old.register t → Ships contact t outgoing → slice_get (payloads_in contact t) t.sent ≡ None
    → Takes (turned_sending contact t) old new frame result

-- the rows of a file that its filler has wholly sent are marked, if the register has another mark
abbrev pub MarksRows : {T : Type 0} → OutgoingTransfer → View → View → Result T SessionFault → Type 0
MarksRows outgoing old new result = new.clean → old.stands
    → (t : Transfer) → IsSent old.register t → t.number ≡ outgoing.number → t.file.mark ≡ outgoing.mark
    → outgoing.filler.mark ≤ length t.file.rows → MakesChange (marking t outgoing.filler.mark) old new result
