-- What the edits of a transaction do to a register.
use Rattle.std.specs.Prelude.{◌≡◌, ◌+◌, ◌^◌, ◌<◌, ℕ, List, [], ◌∷◌, ◌++◌, length, take, Some, None, ⊤}
use Rattle.sqlite.specs.declared.types.Value.TheVariants.{Text}
use Rattle.sqlite.specs.Order.{Row}
use Rattle.sqlite.specs.Tree.{Trees}
use Rattle.oftp_register.specs.declared.change.Change.{Change}
use Rattle.oftp_register.specs.declared.change.Change.TheVariants.{File, Issue, Start, Submit}
use Rattle.oftp_register.specs.declared.entry.Dispatch.TheVariants.{Due, Sent}
use Rattle.oftp_register.specs.declared.entry.IncomingState.TheVariants.{Whole}
use Rattle.oftp_register.specs.declared.entry.OutgoingState.{OutgoingState}
use Rattle.oftp_register.specs.declared.entries.Side.{Side}
use Rattle.oftp_register.specs.declared.entries.Side.TheVariants as side
use Rattle.oftp_register.specs.Register.{Register, Incoming, Issued, Outgoing, Received}
use Rattle.oftp_register.specs.Changes.{new_incoming, new_outgoing}
use Rattle.std.specs.List.{AllByRecursion}
use Rattle.std.specs.Borrow.{Bor}
use Rattle.oftp_register.specs.declared.entry.Identity.{Identity}
use Rattle.oftp_register.specs.declared.entry.ResponseKind.{ResponseKind}
use Rattle.oftp_register.specs.declared.entry.ResponseKind.TheVariants.{NegativeEndResponse}
use Rattle.oftp_tables.specs.Schema.{about_tree, in_file_tree, in_row_tree, issued_tree, note_tree, out_file_tree, out_row_tree, received_tree}
use Rattle.oftp_tables.specs.Tables.{HoldIncoming, HoldOutgoing, Tables, about_row, format_text, notes_from, number_value, received_row, rows_from}
use Rattle.oftp_store.specs.declared.changes.edit.NewHeader.{NewHeader}
use Rattle.oftp_store.specs.declared.changes.edit.NewIssued.{NewIssued}
use Rattle.oftp_store.specs.declared.changes.edit.NewReceived.{NewReceived}
use Rattle.oftp_store.specs.declared.changes.edit.Edit.{Edit}
use Rattle.oftp_store.specs.declared.changes.edit.EditKind.{EditKind}
use Rattle.oftp_store.specs.declared.changes.edit.EditKind.TheVariants.{AddFile, SetHeader, SetWhole, SetOutgoing, AddRows, CutRows, AddIssued, SetSent, AddReceived}

-- ---- what a change gives

-- the incoming file with this header, which has no rows yet
abbrev pub incoming_with : NewHeader → Incoming
incoming_with header = new_incoming header.identity.now header.format header.longest header.description.now

-- the outgoing file with this header and these rows
abbrev pub outgoing_with : NewHeader → List (List ℕ) → Outgoing
outgoing_with header rows = new_outgoing header.identity.now header.format header.longest header.description.now rows

-- the response that was received, as the register has it
abbrev pub received_with : NewReceived → Received
received_with x = record { kind = x.kind; identity = x.identity.now; reason = x.reason; creator = x.creator.now; text = x.text.now }

-- the response that is issued, and due
abbrev pub issued_with : NewIssued → Issued
issued_with x = record { kind = x.kind; reason = x.reason; text = x.text.now; dispatch = Due }

-- the changes that give these to a register

abbrev pub start_of : NewHeader → ℕ → Change
start_of header count = Start header.identity.now header.format header.longest header.description.now count

abbrev pub submit_of : NewHeader → List (List ℕ) → Change
submit_of header rows = Submit header.identity.now header.format header.longest header.description.now rows

abbrev pub file_of : NewReceived → Change
file_of x = File x.kind x.identity.now x.reason x.creator.now x.text.now

abbrev pub issue_of : ℕ → NewIssued → Change
issue_of n x = Issue n x.kind x.reason x.text.now

-- ---- edits

-- the entry with a number, of which a fact holds, is replaced
pub record ChangesEntry {X : Type 0} (entries : Register → List X) (with_entries : Register → List X → Register) (n : ℕ) (Was : X → Type 0) (change : X → X) (r s : Register) : Type 0 where
  pub before : List X
  pub file : X
  pub after : List X
  pub here : entries r ≡ before ++ file ∷ after
  pub number : n ≡ 1 + length before
  pub was : Was file
  pub now : s ≡ with_entries r (before ++ change file ∷ after)

abbrev pub ChangesIncoming : ℕ → (Incoming → Type 0) → (Incoming → Incoming) → Register → Register → Type 0
ChangesIncoming = ChangesEntry (λ r. r.incoming) (λ r files. record r { incoming = files })

abbrev pub ChangesOutgoing : ℕ → (Outgoing → Type 0) → (Outgoing → Outgoing) → Register → Register → Type 0
ChangesOutgoing = ChangesEntry (λ r. r.outgoing) (λ r files. record r { outgoing = files })

-- an entry gets the next number
pub record IsNext {X : Type 0} (n : ℕ) (entries : List X) : Type 0 where
  pub number : n ≡ 1 + length entries

-- a new file without rows: an incoming one is open, an outgoing one waits
abbrev pub AddsFileTo : Side → ℕ → NewHeader → Register → Register → Type 0
AddsFileTo side.Incoming n header r s = IsNext n r.incoming × (s ≡ record r { incoming = r.incoming ++ incoming_with header ∷ [] })
AddsFileTo side.Outgoing n header r s = IsNext n r.outgoing × (s ≡ record r { outgoing = r.outgoing ++ outgoing_with header [] ∷ [] })

-- rows are appended to those that the file has
abbrev pub AddsRowsTo : Side → ℕ → ℕ → List (List ℕ) → Register → Register → Type 0
AddsRowsTo side.Incoming n from rows = ChangesIncoming n (λ f. length f.rows ≡ from) (λ f. record f { rows = f.rows ++ rows })
AddsRowsTo side.Outgoing n from rows = ChangesOutgoing n (λ f. length f.rows ≡ from) (λ f. record f { rows = f.rows ++ rows })

-- the positions of the new rows fit their column
abbrev pub HasRoom : EditKind → Type 0
HasRoom (AddRows which from rows) = from + length rows.now < 2 ^ 32
HasRoom kind = ⊤

-- the edit that appends rows to an incoming file with this many rows
abbrev pub more : ℕ → ℕ → Bor (List (List ℕ)) → Edit
more n from rows = record { no = n; kind = AddRows side.Incoming from rows }

-- the edit that sets mark and state of an outgoing file
abbrev pub outgoing_edit : ℕ → ℕ → OutgoingState → Edit
outgoing_edit n mark to = record { no = n; kind = SetOutgoing mark to }

-- the database can store what an edit writes: its number, and the positions of its rows
abbrev pub IsStorable : Edit → Type 0
IsStorable edit = (edit.no < 2 ^ 63) × HasRoom edit.kind

-- what an edit does to the entry with a number
abbrev pub IsDone : ℕ → EditKind → Register → Register → Type 0
IsDone n (AddFile which header) r s = AddsFileTo which n header.now r s
IsDone n (SetHeader header) r s = ChangesIncoming n (λ f. ⊤) (λ f. record f { format = header.now.format; longest = header.now.longest; description = header.now.description.now }) r s
IsDone n SetWhole r s = ChangesIncoming n (λ f. ⊤) (λ f. record f { state = Whole }) r s
IsDone n (SetOutgoing mark state) r s = ChangesOutgoing n (λ f. ⊤) (λ f. record f { mark = mark; state = state }) r s
IsDone n (AddRows which from rows) r s = AddsRowsTo which n from rows.now r s
IsDone n (CutRows count) r s = ChangesIncoming n (λ f. ⊤) (λ f. record f { rows = take count f.rows }) r s
IsDone n (AddIssued response) r s = ChangesIncoming n (λ f. f.response ≡ None) (λ f. record f { response = Some (issued_with response.now) }) r s
IsDone n (SetSent) r s = (answer : Issued) × ChangesIncoming n (λ f. f.response ≡ Some answer) (λ f. record f { response = Some (record answer { dispatch = Sent }) }) r s
IsDone n (AddReceived response) r s = IsNext n r.received × (s ≡ record r { received = r.received ++ received_with response.now ∷ [] })

abbrev pub IsEdited : Edit → Register → Register → Type 0
IsEdited edit r s = IsDone edit.no edit.kind r s

-- edits in order
abbrev pub AreEdited : List Edit → Register → Register → Type 0
AreEdited [] r s = r ≡ s
AreEdited (edit ∷ edits) r s = (mid : Register) × IsEdited edit r mid × AreEdited edits mid s

-- the tables of a register become those of the register after one edit, and after edits in order

abbrev pub Makes : ℕ → EditKind → Trees → Trees → Type 0
Makes n kind old new = (r s : Register) → IsDone n kind r s → Tables r old → Tables s new

abbrev pub MakesAll : List Edit → Trees → Trees → Type 0
MakesAll edits old new = (r s : Register) → AreEdited edits r s → Tables r old → Tables s new

-- the tables of a register become those with more rows of a file
abbrev pub MakesRows : Side → ℕ → ℕ → List (List ℕ) → Trees → Trees → Type 0
MakesRows which n from rows old new = (r s : Register) → AddsRowsTo which n from rows r s → Tables r old → Tables s new

-- the tables of a register, where `received` has one more response and `received_note` doesn't
pub record HoldNoteless (r : Register) (x : Received) (db : Trees) : Type 0 where
  pub about : db about_tree ≡ about_row ∷ []
  pub incoming : HoldIncoming r.incoming (db in_file_tree) (db in_row_tree) (db issued_tree)
  pub outgoing : HoldOutgoing r.outgoing (db out_file_tree) (db out_row_tree)
  pub responses_are : db received_tree ≡ rows_from received_row 1 (r.received ++ x ∷ [])
  pub notes_are : db note_tree ≡ notes_from 1 r.received
  pub reasons : AllByRecursion (λ (y : Received). y.reason < 100) (r.received ++ x ∷ [])

-- a response is added without its note
abbrev pub MakesNoteless : ℕ → ResponseKind → Identity → ℕ → Trees → Trees → Type 0
MakesNoteless n kind identity reason old new =
    (r : Register) (creator text : List ℕ) → IsNext n r.received → Tables r old → HoldNoteless r (record { kind = kind; identity = identity; reason = reason; creator = creator; text = text }) new

-- the note of the last response is added, which is a Negative End Response
abbrev pub MakesNote : ℕ → List ℕ → List ℕ → Trees → Trees → Type 0
MakesNote n creator text old new =
    (r : Register) (identity : Identity) (reason : ℕ) → IsNext n r.received
    → (let x : Received = record { kind = NegativeEndResponse; identity = identity; reason = reason; creator = creator; text = text } in HoldNoteless r x old
    → Tables (record r { received = r.received ++ x ∷ [] }) new)

-- the parameters of the statements that add a file: its number, its identity and its header
abbrev pub header_params : ℕ → NewHeader → Row
header_params n header =
    number_value n ∷ Text header.identity.now.dataset ∷ Text header.identity.now.date ∷ Text header.identity.now.time ∷ Text header.identity.now.originator
    ∷ Text header.identity.now.destination ∷ Text (format_text header.format) ∷ number_value header.longest ∷ Text header.description.now ∷ []
