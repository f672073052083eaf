-- What is done once a note is added.
use Rattle.std.specs.Prelude.{ℕ, List, [], ◌∷◌, ◌++◌, Result, Ok, Err}
use Rattle.oftp_partners.specs.Book.{BookData}
use Rattle.oftp_engine.specs.declared.operating.Operator.{Operator}
use Rattle.oftp_engine.specs.declared.serving.RunFault.{RunFault}
use Rattle.oftp_engine.specs.declared.serving.RunFault.TheVariants as fault
use Rattle.oftp_engine.specs.Openings.{of_caller}
use Rattle.oftp_engine.specs.Served.{setting_of}
use Rattle.oftp_life.specs.Acts.{Act, Conversed, Ordered}
use Rattle.oftp_life.specs.Outboxes.{octets_out}
use Rattle.oftp_life.specs.declared.note.Note.{Note}
use Rattle.oftp_life.specs.declared.note.Note.TheVariants as note

-- the last session heard these octets, and these are all that it has said
abbrev pub with_heard : List Act → (octets said : List ℕ) → List Act
with_heard [] octets said = []
with_heard (Conversed setting heard before ∷ acts) octets said = Conversed setting (heard ++ octets) said ∷ acts
with_heard (Ordered book call ∷ acts) octets said = Ordered book call ∷ acts

abbrev pub noted : List Act → Note → List Act
noted acts (note.Began book role out) = Conversed (setting_of book.now role) [] (octets_out out.now) ∷ acts
noted acts (note.Admitted book heard out) = Conversed (of_caller book.now) heard.now.octets (octets_out out.now) ∷ acts
noted acts (note.Heard octets out) = with_heard acts octets.now (octets_out out.now)
noted acts (note.Ordered book call) = Ordered book.now call.now ∷ acts

-- all that a life has done after an operator's call with this result; out of memory, the call isn't among it
abbrev pub with_call : {T : Type 0} → BookData → Operator → List Act → Result T RunFault → List Act
with_call book call acts (Ok x) = Ordered book call ∷ acts
with_call book call acts (Err fault.Read) = Ordered book call ∷ acts
with_call book call acts (Err fault.Write) = Ordered book call ∷ acts
with_call book call acts (Err fault.Office) = Ordered book call ∷ acts
with_call book call acts (Err fault.Memory) = acts
