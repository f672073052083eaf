-- A row that an entry has is read.
use Rattle.std.proofs.Common.{◌≡◌, ◌+◌, ℕ, List, [], Some, None, refl, sym, ap, subst, ◌∙◌}
use Rattle.sqlite.specs.declared.types.Value.TheVariants as value
use Rattle.sqlite.specs.Order.{Row, bytes, column}
use Rattle.oftp_wire.specs.Octets.{number}
use Rattle.oftp_vfile.specs.declared.format.Format.{Format}
use Rattle.oftp_vfile.specs.VirtualFile.{IsLongest}
use Rattle.oftp_register.specs.declared.entries.IssuedResponse.{IssuedResponse}
use Rattle.oftp_register.specs.declared.entry.ResponseKind.{ResponseKind}
use Rattle.oftp_register.specs.declared.entry.ResponseKind.TheVariants.{EndResponse, NegativeEndResponse}
use Rattle.oftp_register.specs.Soundness.{IsResponse}
use Rattle.oftp_tables.specs.Tables.{format_in, kind_in, number_in, number_value, reason_text}
use Rattle.oftp_tables.proofs.BackLemmas.{format_back, kind_back}
use Rattle.oftp_store.specs.Causes.{HasFile, HasReceivedHeader, HasResponse}
use Rattle.oftp_store.specs.Reads.{TellsResponse, if_told, paged_answered_file, paged_response, response_from}
use Rattle.oftp_store.specs.declared.queries.header.FileHeader.{FileHeader}
use Rattle.oftp_store.specs.declared.queries.received.ReceivedHeader.{ReceivedHeader}

-- the format and the longest record that were read are those of the file
pub file_longest : (row : Row) (format : Format) (longest : ℕ) (h : FileHeader) → format ≡ format_in (bytes (column row 5)) → longest ≡ number_in (column row 6) → HasFile h row
    → IsLongest format longest
file_longest row format longest h format_is longest_is has =
    let same : format ≡ h.format = format_is ∙ ap (λ v. format_in (bytes v)) has.values.1.1.1.1.1.0 ∙ format_back h.format in
    let size : longest ≡ h.longest = longest_is ∙ ap number_in has.values.1.1.1.1.1.1.0 in
    subst (λ f. IsLongest f longest) (sym same) (subst (IsLongest h.format) (sym size) has.within)

-- the kind that was read is that of the response
kind_is : (row : Row) (at : ℕ) (kind : ResponseKind) (x : IssuedResponse) → kind ≡ kind_in (bytes (column row at)) → HasResponse x at row → kind ≡ x.kind
kind_is row at kind x is has = is ∙ ap (λ v. kind_in (bytes v)) has.tells.kind ∙ kind_back x.kind

pub kind_read : (row : Row) (at : ℕ) (kind : ResponseKind) (x : IssuedResponse) → kind ≡ kind_in (bytes (column row at)) → HasResponse x at row
    → column row (at + 1) ≡ value.Text (reason_text kind x.reason)
kind_read row at kind x is has = has.tells.reason ∙ ap (λ k. value.Text (reason_text k x.reason)) (sym (kind_is row at kind x is has))

-- what was read is a response
pub response_fits : (row : Row) (at : ℕ) (kind : ResponseKind) (reason : ℕ) (text : List ℕ) (x : IssuedResponse) → kind ≡ kind_in (bytes (column row at))
    → reason ≡ number (bytes (column row (at + 1))) → text ≡ bytes (column row (at + 2)) → HasResponse x at row → IsResponse kind reason [] text
response_fits row at kind reason text x kind_told reason_told text_told has =
    subst (λ k. IsResponse k reason [] text) (sym (kind_is row at kind x kind_told has))
    (go x.kind (reason_told ∙ ap (λ v. number (bytes v)) has.tells.reason) (text_told ∙ ap bytes has.tells.text) has.within)
  where
    go : (k : ResponseKind) → reason ≡ number (reason_text k x.reason) → text ≡ x.text → IsResponse k x.reason [] x.text → IsResponse k reason [] text
    go EndResponse none same sound = (none, refl, same ∙ sound.2)
    go NegativeEndResponse none same sound = tt

-- ---- received responses

-- the kind that was read is that of the response
pub received_kind : (row : Row) (kind : ResponseKind) (h : ReceivedHeader) → kind ≡ kind_in (bytes (column row 0)) → HasReceivedHeader h row → kind ≡ h.kind
received_kind row kind h is has = is ∙ ap (λ v. kind_in (bytes v)) has.values.0 ∙ kind_back h.kind

pub received_reason : (row : Row) (kind : ResponseKind) (h : ReceivedHeader) → kind ≡ kind_in (bytes (column row 0)) → HasReceivedHeader h row
    → column row 6 ≡ value.Text (reason_text kind h.reason)
received_reason row kind h is has = has.values.1.1.1.1.1.1.0 ∙ ap (λ k. value.Text (reason_text k h.reason)) (sym (received_kind row kind h is has))

-- ---- a column that may be NULL

-- a response that was read
pub response_shown : (row : Row) (x : IssuedResponse) → x ≡ response_from 9 row → TellsResponse x 9 row → Some x ≡ paged_response row
response_shown row x is tells = ap Some is ∙ sym (ap (λ v. if_told v (response_from 9 row)) tells.kind)

pub no_response_shown : (row : Row) → column row 9 ≡ value.Null → None ≡ paged_response row
no_response_shown row none = sym (ap (λ v. if_told v (response_from 9 row)) none)

-- a number that was read
pub answered_shown : (row : Row) (n : ℕ) → column row 1 ≡ number_value n → Some n ≡ paged_answered_file row
answered_shown row n is = sym (ap (λ v. if_told v (number_in v)) is)

pub none_answered : (row : Row) → column row 1 ≡ value.Null → None ≡ paged_answered_file row
none_answered row none = sym (ap (λ v. if_told v (number_in v)) none)
