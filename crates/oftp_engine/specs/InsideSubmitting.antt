-- Inside: what the steps of a submission have read, for the functions of src/submitting.rt.
use Rattle.std.specs.Prelude.{◌≡◌, ℕ, List, codes, Option, None, Some, Result, Ok, Err}
use Rattle.oftp_partners.specs.Book.{BookData}
use Rattle.oftp_partners.specs.declared.partner.Partner.{Partner}
use Rattle.oftp_vfile.specs.LocalForm.{IsLocal}
use Rattle.oftp_vfile.specs.declared.format.Format.{Format}
use Rattle.oftp_register.specs.Offices.{View}
use Rattle.oftp_register.specs.Soundness.{IsFile}
use Rattle.oftp_register.specs.declared.entries.OutgoingEntry.{OutgoingEntry}
use Rattle.oftp_register.specs.declared.entry.Identity.{Identity}
use Rattle.oftp_register.specs.declared.office.OfficeFault.{OfficeFault}
use Rattle.oftp_engine.specs.declared.operating.Refusal.TheVariants as refusal
use Rattle.oftp_engine.specs.declared.operating.Told.{Told}
use Rattle.oftp_engine.specs.declared.operating.Told.TheVariants as told
use Rattle.oftp_engine.specs.declared.serving.RunFault.{RunFault}
use Rattle.oftp_engine.specs.declared.serving.RunFault.TheVariants as fault
use Rattle.oftp_engine.specs.declared.submitting.Fields.{Fields}
use Rattle.oftp_engine.specs.declared.submitting.Offer.{Offer}
use Rattle.oftp_engine.specs.declared.submitting.Submission.{Submission}
use Rattle.oftp_engine.specs.InsideOperating.{Attempts}
use Rattle.oftp_engine.specs.Operating.{AreInRange, registered}
use Rattle.oftp_engine.specs.Serving.{OnCleanStore}

-- the fields that were read are those of the submission, and in their ranges
pub record AreFieldsOf (s : Submission) (fields : Fields) : Type 0 where
  pub ranges : AreInRange s
  pub dataset : fields.dataset ≡ s.dataset.now
  pub date : fields.date ≡ s.date.now
  pub time : fields.time ≡ s.time.now
  pub description : fields.description ≡ s.description.now

-- a content is the local form of no rows
abbrev pub IsNotLocal : Format → ℕ → List ℕ → Type 0
IsNotLocal format longest content = (rows : List (List ℕ)) → IsLocal format longest content rows → ⊥

-- the file that was read is the one that was submitted
pub record IsOffer (s : Submission) (offer : Offer) : Type 0 where
  pub fields : AreFieldsOf s offer.fields
  pub content : IsLocal s.format s.longest s.content.now offer.rows

-- the identity of an outgoing file with these fields
abbrev pub named_by : BookData → Partner → Fields → Identity
named_by book partner fields = record { dataset = fields.dataset; date = fields.date; time = fields.time; originator = book.station.code; destination = partner.code }

-- the result for a file that exceeds the limits, once its identity was looked up
abbrev pub big_file_result : Result (Option OutgoingEntry) OfficeFault → Result Told RunFault
big_file_result (Ok None) = Ok (told.Refused refusal.Limit)
big_file_result (Ok (Some file)) = Ok (told.Refused refusal.Duplicate)
big_file_result (Err e) = Err fault.Office

-- the result for a registered file, once its number was looked up; it is found, if the store reads what was written
abbrev pub new_file_result : Result (Option OutgoingEntry) OfficeFault → Result Told RunFault
new_file_result (Ok None) = Err fault.Office
new_file_result (Ok (Some file)) = Ok (told.Done file.no)
new_file_result (Err e) = Err fault.Office

-- On a clean store the registration of a file with these rows was tried. That is so if its description is the submitted one and the rows are of its
-- format.
abbrev pub RegistersFile : Identity → Submission → List ℕ → List (List ℕ) → View → View → Result Told RunFault → Type 0
RegistersFile identity s description rows old new result = OnCleanStore old new (description ≡ s.description.now → IsFile s.format s.longest rows
    → Attempts (codes "done: submit ") (λ deed. deed ≡ registered identity s rows old.register) old new result)
