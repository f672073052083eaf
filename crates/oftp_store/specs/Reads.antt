-- What is read back from the rows that a query returned.
use Rattle.std.specs.Prelude.{◌≡◌, ◌+◌, ◌++◌, ℕ, List, [], ◌∷◌, length, Option, Some, None, slice_get}
use Rattle.std.specs.Option.{option_map}
use Rattle.sqlite.specs.declared.types.Value.{Value}
use Rattle.sqlite.specs.declared.types.Value.TheVariants.{Null, Int, Real, Text, Blob}
use Rattle.sqlite.specs.Order.{Row, bytes, column}
use Rattle.oftp_wire.specs.Octets.{number}
use Rattle.oftp_vfile.specs.VirtualFile.{IsLongest}
use Rattle.oftp_register.specs.declared.entry.OutgoingState.{OutgoingState}
use Rattle.oftp_register.specs.declared.entry.ResponseKind.{ResponseKind}
use Rattle.oftp_register.specs.declared.entry.ResponseKind.TheVariants.{EndResponse, NegativeEndResponse}
use Rattle.oftp_register.specs.declared.entries.AnsweredEntry.{AnsweredEntry}
use Rattle.oftp_register.specs.declared.entries.IncomingEntry.{IncomingEntry}
use Rattle.oftp_register.specs.declared.entries.IssuedEntry.{IssuedEntry}
use Rattle.oftp_register.specs.declared.entries.IssuedResponse.{IssuedResponse}
use Rattle.oftp_register.specs.declared.entries.OutgoingEntry.{OutgoingEntry}
use Rattle.oftp_register.specs.declared.entries.ReceivedEntry.{ReceivedEntry}
use Rattle.oftp_register.specs.declared.entries.Side.TheVariants as side
use Rattle.oftp_register.specs.Register.{Register, Incoming, Outgoing}
use Rattle.oftp_register.specs.LookUps.{entry_at, file_rows, issued_response, numbered}
use Rattle.oftp_tables.specs.Tables.{dispatch_in, format_in, format_text, identity_in, identity_values, in_state_in, in_state_text, kind_in, kind_text, number_in, number_value, out_state_in, out_state_text, reason_text, refusal_text, sent_number}
use Rattle.oftp_store.specs.declared.queries.header.FileHeader.{FileHeader}
use Rattle.oftp_store.specs.declared.queries.header.IncomingHeader.{IncomingHeader}
use Rattle.oftp_store.specs.declared.queries.header.OutgoingHeader.{OutgoingHeader}
use Rattle.oftp_store.specs.declared.queries.received.ReceivedHeader.{ReceivedHeader}
use Rattle.oftp_store.specs.declared.queries.received.ReceivedNote.{ReceivedNote}

-- ---- headers

-- the columns that the tables of incoming and of outgoing files share
abbrev pub file_header_in : Row → FileHeader
file_header_in row = record {
  identity = identity_in 0 row;
  format = format_in (bytes (column row 5));
  longest = number_in (column row 6);
  description = bytes (column row 7);
}

abbrev pub incoming_header_in : Row → IncomingHeader
incoming_header_in row = record { file = file_header_in row; state = in_state_in (bytes (column row 8)) }

abbrev pub outgoing_header_in : Row → OutgoingHeader
outgoing_header_in row = record { file = file_header_in row; mark = number_in (column row 8); state = out_state_in (bytes (column row 9)) (bytes (column row 10)) }

-- the columns of a file in the order of the query, which are those of its row except the number

abbrev pub file_values : FileHeader → Row
file_values h = identity_values h.identity ++ Text (format_text h.format) ∷ number_value h.longest ∷ Text h.description ∷ []

abbrev pub incoming_values : IncomingHeader → Row
incoming_values h = file_values h.file ++ Text (in_state_text h.state) ∷ []

abbrev pub mark_and_state_values : ℕ → OutgoingState → Row
mark_and_state_values mark state = number_value mark ∷ Text (out_state_text state) ∷ Text (refusal_text state) ∷ []

abbrev pub outgoing_values : OutgoingHeader → Row
outgoing_values h = file_values h.file ++ mark_and_state_values h.mark h.state

-- the format allows the longest record
abbrev pub IsFileWithin : FileHeader → Type 0
IsFileWithin h = IsLongest h.format h.longest

-- what the first row of a result is read as, if there is one
abbrev pub first_told : {A : Type 0} → (Row → A) → List Row → Option A
first_told read rows = option_map read (slice_get rows 0)

abbrev pub incoming_header_of : Incoming → IncomingHeader
incoming_header_of f = record { file = record { identity = f.identity; format = f.format; longest = f.longest; description = f.description }; state = f.state }

abbrev pub outgoing_header_of : Outgoing → OutgoingHeader
outgoing_header_of f = record { file = record { identity = f.identity; format = f.format; longest = f.longest; description = f.description }; mark = f.mark; state = f.state }

-- the entry with a number, between the others
pub record IsPlaced {X : Type 0} (entries : List X) (k : ℕ) (before : List X) (x : X) (after : List X) : Type 0 where
  pub here : entries ≡ before ++ x ∷ after
  pub number : k ≡ 1 + length before

-- what was read of the entry with a number, if there is one
abbrev pub IsToldOf : {X H : Type 0} → (X → H) → List X → ℕ → Option H → Type 0
IsToldOf {X} tell entries k None = entry_at k entries ≡ None
IsToldOf {X} tell entries k (Some told) = (before : List X) × (x : X) × (after : List X) × IsPlaced entries k before x after × (told ≡ tell x)

-- ---- responses

-- a response in four columns from a place on
abbrev pub response_from : ℕ → Row → IssuedResponse
response_from at row = record {
  kind = kind_in (bytes (column row at));
  reason = number (bytes (column row (at + 1)));
  text = bytes (column row (at + 2));
  dispatch = dispatch_in (number_in (column row (at + 3)));
}

abbrev pub response_in : Row → IssuedResponse
response_in row = response_from 0 row

-- a row has a response, in four columns from a place on
pub record TellsResponse (x : IssuedResponse) (at : ℕ) (row : Row) : Type 0 where
  pub kind : column row at ≡ Text (kind_text x.kind)
  pub reason : column row (at + 1) ≡ Text (reason_text x.kind x.reason)
  pub text : column row (at + 2) ≡ Text x.text
  pub dispatch : column row (at + 3) ≡ number_value (sent_number x.dispatch)

-- the columns of a response
abbrev pub response_values : IssuedResponse → Row
response_values x = Text (kind_text x.kind) ∷ Text (reason_text x.kind x.reason) ∷ Text x.text ∷ number_value (sent_number x.dispatch) ∷ []

-- the response to the file with a number
abbrev pub IsResponseTo : Register → ℕ → Option IssuedResponse → Type 0
IsResponseTo r k found = (before : List Incoming) (f : Incoming) (after : List Incoming) → IsPlaced r.incoming k before f after → found ≡ option_map issued_response f.response

-- ---- received responses

abbrev pub received_header_in : Row → ReceivedHeader
received_header_in row = record { kind = kind_in (bytes (column row 0)); identity = identity_in 1 row; reason = number (bytes (column row 6)) }

-- the columns of a received response
abbrev pub received_values : ReceivedHeader → Row
received_values h = Text (kind_text h.kind) ∷ identity_values h.identity ++ Text (reason_text h.kind h.reason) ∷ []

-- its texts, in two more columns
abbrev pub received_note_in : Row → ReceivedNote
received_note_in row = record { creator = bytes (column row 7); text = bytes (column row 8) }

-- the columns of its texts
abbrev pub received_note_values : ReceivedNote → Row
received_note_values m = Text m.creator ∷ Text m.text ∷ []

-- a received response as an office returns it
abbrev pub received_entry_of : ℕ → ReceivedHeader → ReceivedNote → ReceivedEntry
received_entry_of n header note =
    record { no = n; response = record { kind = header.kind; identity = header.identity; reason = header.reason; creator = note.creator; text = note.text } }

-- the texts in a row of a page, for a response of a kind
abbrev pub paged_note : ResponseKind → Row → ReceivedNote
paged_note EndResponse row = record { creator = []; text = [] }
paged_note NegativeEndResponse row = received_note_in row

abbrev pub paged_received_number : Row → ℕ
paged_received_number row = number_in (column row 9)

-- the response in a row of a page
abbrev pub paged_received : Row → ReceivedEntry
paged_received row = let header = received_header_in row in received_entry_of (paged_received_number row) header (paged_note header.kind row)

-- ---- the files that received responses answer

-- a value that begins with this column, unless the column is NULL
abbrev pub if_told : {A : Type 0} → Value → A → Option A
if_told Null x = None
if_told (Int n) x = Some x
if_told (Real n) x = Some x
if_told (Text t) x = Some x
if_told (Blob b) x = Some x

abbrev pub paged_answered_number : Row → ℕ
paged_answered_number row = number_in (column row 0)

abbrev pub paged_answered_file : Row → Option ℕ
paged_answered_file row = if_told (column row 1) (number_in (column row 1))

-- the response in a row of a page and the file that it answers, by their numbers
abbrev pub paged_answered : Row → AnsweredEntry
paged_answered row = record { no = paged_answered_number row; file = paged_answered_file row }

-- ---- the number of rows

-- the row has the last position of a file with this many rows, or the file has none
abbrev pub TellsCount : Option Row → ℕ → Type 0
TellsCount None count = count ≡ 0
TellsCount (Some row) count = (at : ℕ) × (column row 0 ≡ number_value at) × (count ≡ at + 1)

-- ---- entries that are listed

-- the entries with their numbers, each of which is listed
abbrev pub all_listed : {A B : Type 0} → (ℕ → A → B) → List A → List (Option B)
all_listed entry = numbered (λ n x. Some (entry n x)) 1

-- their numbers
abbrev pub numbers_of : {A : Type 0} → List A → List ℕ
numbers_of = numbered (λ n x. n) 1

-- ---- a page of incoming files

abbrev pub paged_response : Row → Option IssuedResponse
paged_response row = if_told (column row 9) (response_from 9 row)

abbrev pub paged_number : Row → ℕ
paged_number row = number_in (column row 13)

-- an incoming file as an office returns it
abbrev pub incoming_entry_of : ℕ → IncomingHeader → ℕ → Option IssuedResponse → IncomingEntry
incoming_entry_of n header count response = record {
  no = n;
  identity = header.file.identity;
  format = header.file.format;
  longest = header.file.longest;
  description = header.file.description;
  state = header.state;
  rows = count;
  response = response;
}

-- the file in a row of a page, with so many rows
abbrev pub paged_file : Row → ℕ → IncomingEntry
paged_file row count = incoming_entry_of (paged_number row) (incoming_header_in row) count (paged_response row)

-- and with the rows that it has in a register
abbrev pub paged_entry : Register → Row → IncomingEntry
paged_entry r row = paged_file row (length (file_rows r side.Incoming (paged_number row)))

-- a response to it as an office returns it
abbrev pub issued_entry_of : ℕ → IncomingHeader → IssuedResponse → IssuedEntry
issued_entry_of n header x = record { no = n; identity = header.file.identity; response = x }

-- the response in a row of a page, if there is one, with the number and the identity of its file
abbrev pub paged_issued : Row → Option IssuedEntry
paged_issued row = option_map (issued_entry_of (paged_number row) (incoming_header_in row)) (paged_response row)

-- ---- a page of outgoing files

-- an outgoing file as an office returns it
abbrev pub outgoing_entry_of : ℕ → OutgoingHeader → ℕ → OutgoingEntry
outgoing_entry_of n header count = record {
  no = n;
  identity = header.file.identity;
  format = header.file.format;
  longest = header.file.longest;
  description = header.file.description;
  rows = count;
  mark = header.mark;
  state = header.state;
}

abbrev pub paged_out_number : Row → ℕ
paged_out_number row = number_in (column row 11)

-- the file in a row of a page, with so many rows
abbrev pub paged_out_file : Row → ℕ → OutgoingEntry
paged_out_file row count = outgoing_entry_of (paged_out_number row) (outgoing_header_in row) count

-- and with the rows that it has in a register
abbrev pub paged_out_entry : Register → Row → OutgoingEntry
paged_out_entry r row = paged_out_file row (length (file_rows r side.Outgoing (paged_out_number row)))
