-- Inside: what the listing and the reports show of each kind of entry, for the traits of src/resource.rt and src/units.rt.
use Rattle.std.specs.Prelude.{◌≡◌, ◌≤◌, ℕ, Bool, false, true, List, length, map, slice_get, Some}
use Rattle.std.specs.List.{flat_map, zip}
use Rattle.std.specs.Option.{unwrap_or}
use Rattle.serde_json.specs.Data.{Data}
use Rattle.serde_json.specs.Written.{compact_text}
use Rattle.oftp_vfile.specs.declared.format.Format.{Format}
use Rattle.oftp_register.specs.LookUps.{file_rows, list_in, list_issued, list_out, list_received, look_out, units_of}
use Rattle.oftp_register.specs.Register.{Register}
use Rattle.oftp_register.specs.Units.{file_format, units_in_blocks}
use Rattle.oftp_register.specs.declared.fit.TheConstants.{MOST_UNITS}
use Rattle.oftp_register.specs.declared.entries.AnsweredEntry.{AnsweredEntry}
use Rattle.oftp_register.specs.declared.entries.IncomingEntry.{IncomingEntry}
use Rattle.oftp_register.specs.declared.entries.IssuedEntry.{IssuedEntry}
use Rattle.oftp_register.specs.declared.entries.OutgoingEntry.{OutgoingEntry}
use Rattle.oftp_register.specs.declared.entries.ReceivedEntry.{ReceivedEntry}
use Rattle.oftp_register.specs.declared.entries.Side.{Side}
use Rattle.oftp_register.specs.declared.entries.Side.TheVariants.{Incoming, Outgoing}
use Rattle.oftp_listing.specs.declared.handler.Separator.{Separator}
use Rattle.oftp_listing.specs.declared.handler.Separator.TheVariants.{Comma, Nothing}
use Rattle.oftp_listing.specs.Objects.{incoming_object, issued_object, outgoing_object, received_object}
use Rattle.oftp_listing.specs.Reports.{incoming_fields, issued_fields, line, outgoing_fields, received_fields}
use Rattle.oftp_listing.specs.Texts.{list_of, no_of}

-- A kind of entry: all entries of a register in order of number, and the number that is shown with one. With that number go its object and
-- the fields of its line.
pub record EntryKind (E : Type 0) : Type 0 where
  pub entries : Register → List E
  pub related : Register → E → ℕ
  pub object : E → ℕ → Data
  pub fields : E → ℕ → List (List ℕ)

-- the object of an entry of a register
abbrev pub object_in : {E : Type 0} → EntryKind E → Register → E → Data
object_in kind r e = kind.object e (kind.related r e)

-- the line of an entry of a register
abbrev pub line_in : {E : Type 0} → EntryKind E → Register → E → List ℕ
line_in kind r e = line (kind.fields e (kind.related r e))

-- the texts of an entry of a register, and of the list of all
abbrev pub text_in : {E : Type 0} → EntryKind E → Register → E → List ℕ
text_in kind r e = compact_text (object_in kind r e)

abbrev pub list_text : {E : Type 0} → EntryKind E → Register → List ℕ
list_text kind r = compact_text (list_of (map (object_in kind r) (kind.entries r)))

-- the lines of all entries of a register
abbrev pub all_lines : {E : Type 0} → EntryKind E → Register → List ℕ
all_lines kind r = flat_map (line_in kind r) (kind.entries r)

-- these are the numbers that are shown with all entries of a register
abbrev pub AreRelated : {E : Type 0} → EntryKind E → Register → List ℕ → Type 0
AreRelated kind r ns = ns ≡ map (kind.related r) (kind.entries r)

-- these are all entries of a register and the numbers that are shown with them
abbrev pub AreListed : {E : Type 0} → EntryKind E → Register → List E → List ℕ → Type 0
AreListed kind r es ns = (es ≡ kind.entries r) × AreRelated kind r ns

-- a comma stands before an object
abbrev pub is_comma : Separator → Bool
is_comma Nothing = false
is_comma Comma = true

-- the objects of entries, each with the number beside it, as far as there are both
abbrev pub objects_with : {E : Type 0} → EntryKind E → List E → List ℕ → List Data
objects_with {E} kind es ns = map (λ (p : E × ℕ). kind.object p.0 p.1) (zip es ns)

-- the lines of entries, each with the number beside it, as far as there are both
abbrev pub lines_with : {E : Type 0} → EntryKind E → List E → List ℕ → List ℕ
lines_with {E} kind es ns = flat_map (λ (p : E × ℕ). line (kind.fields p.0 p.1)) (zip es ns)

-- incoming files, each with its number of octets
abbrev pub incoming_files : EntryKind IncomingEntry
incoming_files = record { entries = list_in; related = λ r e. units_of r Incoming e.no; object = incoming_object; fields = incoming_fields }

-- outgoing files, each with its number of octets
abbrev pub outgoing_files : EntryKind OutgoingEntry
outgoing_files = record { entries = list_out; related = λ r e. units_of r Outgoing e.no; object = outgoing_object; fields = outgoing_fields }

-- issued responses, shown without a further number
abbrev pub issued_responses : EntryKind IssuedEntry
issued_responses = record { entries = list_issued; related = λ _ _. 0; object = λ e _. issued_object e; fields = λ e _. issued_fields e }

-- received responses, each with the number of the file that it answers
abbrev pub received_responses : EntryKind ReceivedEntry
received_responses = record { entries = list_received; related = λ r e. no_of (look_out r e.response.identity); object = received_object; fields = received_fields }

-- the number of the file that a response answers, or 0 where there is none
abbrev pub file_answered : AnsweredEntry → ℕ
file_answered e = unwrap_or e.file 0

-- the entry is one of these
abbrev pub IsAmong : {E : Type 0} → E → List E → Type 0
IsAmong e es = (at : ℕ) × (slice_get es at ≡ Some e)

-- the number of octets of a file that has so many rows, in blocks, and no more octets than a file may have
abbrev pub CountsBlocks : (rows : ℕ) → List (List ℕ) → ℕ → Type 0
CountsBlocks rows bodies units = rows ≡ length bodies → units_in_blocks bodies ≤ MOST_UNITS → units ≡ units_in_blocks bodies

-- the file with a number has this format, this longest record and this number of rows
abbrev pub IsListed : Register → Side → ℕ → Format → ℕ → ℕ → Type 0
IsListed r which n format longest rows = (Some (format, longest) ≡ file_format r which n) × (rows ≡ length (file_rows r which n))
