-- What the look-ups of a register find.
use Rattle.std.specs.Prelude.{ℕ, zero, suc, ◌+◌, ◌≤◌, ◌<◌, ◌==◌, ◌&&◌, Bool, true, false, nat_le, nat_lt, if◌then◌else◌, List, [], ◌∷◌, length, take, drop, map, find, Option, None, Some, slice_get}
use Rattle.std.specs.List.{filter_map}
use Rattle.std.specs.Option.{option_map, unwrap_or}
use Rattle.std.specs.Str.{bytes_eq}
use Rattle.oftp_vfile.specs.VirtualFile.{IsLongest, units_in}
use Rattle.oftp_register.specs.declared.entry.Identity.{Identity}
use Rattle.oftp_register.specs.declared.entry.OutgoingState.{OutgoingState}
use Rattle.oftp_register.specs.declared.entry.OutgoingState.TheVariants.{Waiting, Closing}
use Rattle.oftp_register.specs.declared.entry.Dispatch.{Dispatch}
use Rattle.oftp_register.specs.declared.entry.Dispatch.TheVariants.{Due, Sent}
use Rattle.oftp_register.specs.declared.entries.Side.{Side}
use Rattle.oftp_register.specs.declared.entries.Side.TheVariants as side
use Rattle.oftp_register.specs.declared.entries.IssuedResponse.{IssuedResponse}
use Rattle.oftp_register.specs.declared.entries.IncomingEntry.{IncomingEntry}
use Rattle.oftp_register.specs.declared.entries.OutgoingEntry.{OutgoingEntry}
use Rattle.oftp_register.specs.declared.entries.IssuedEntry.{IssuedEntry}
use Rattle.oftp_register.specs.declared.entries.ReceivedEntry.{ReceivedEntry}
use Rattle.oftp_register.specs.declared.entries.AnsweredEntry.{AnsweredEntry}
use Rattle.oftp_register.specs.declared.entries.Cursor.{Cursor}
use Rattle.oftp_register.specs.declared.entries.Item.{Item}
use Rattle.oftp_register.specs.declared.entries.Item.TheVariants as item
use Rattle.oftp_register.specs.Register.{Register, Incoming, Outgoing, Issued, Received, same_identity}
use Rattle.oftp_vfile.specs.declared.format.TheConstants.{MOST_ROWS}

-- a response as an office returns it
abbrev pub issued_response : Issued → IssuedResponse
issued_response r = record { kind = r.kind; reason = r.reason; text = r.text; dispatch = r.dispatch }

-- an incoming file as an office returns it
abbrev pub incoming_entry : ℕ → Incoming → IncomingEntry
incoming_entry n f = record {
  no = n;
  identity = f.identity;
  format = f.format;
  longest = f.longest;
  description = f.description;
  state = f.state;
  rows = length f.rows;
  response = option_map issued_response f.response;
}

-- an outgoing file as an office returns it
abbrev pub outgoing_entry : ℕ → Outgoing → OutgoingEntry
outgoing_entry n f = record {
  no = n;
  identity = f.identity;
  format = f.format;
  longest = f.longest;
  description = f.description;
  rows = length f.rows;
  mark = f.mark;
  state = f.state;
}

-- the response to an incoming file as an office returns it, if one was issued
abbrev pub issued_entry : ℕ → Incoming → Option IssuedEntry
issued_entry n f = option_map (λ r. record { no = n; identity = f.identity; response = issued_response r }) f.response

-- a received response as an office returns it
abbrev pub received_entry : ℕ → Received → ReceivedEntry
received_entry n r = record { no = n; response = record { kind = r.kind; identity = r.identity; reason = r.reason; creator = r.creator; text = r.text } }

-- the entries with their numbers, from this one on
abbrev pub numbered : {A B : Type 0} → (ℕ → A → B) → ℕ → List A → List B
numbered entry n [] = []
numbered entry n (x ∷ xs) = entry n x ∷ numbered entry (n + 1) xs

-- all incoming files
abbrev pub list_in : Register → List IncomingEntry
list_in r = numbered incoming_entry 1 r.incoming

-- all outgoing files
abbrev pub list_out : Register → List OutgoingEntry
list_out r = numbered outgoing_entry 1 r.outgoing

-- all issued responses
abbrev pub list_issued : Register → List IssuedEntry
list_issued r = filter_map (λ entry. entry) (numbered issued_entry 1 r.incoming)

-- all received responses
abbrev pub list_received : Register → List ReceivedEntry
list_received r = numbered received_entry 1 r.received

-- the incoming file with an identity, if there is one
abbrev pub look_in : Register → Identity → Option IncomingEntry
look_in r identity = find (λ (e : IncomingEntry). same_identity e.identity identity) (list_in r)

-- the outgoing file with an identity, if there is one
abbrev pub look_out : Register → Identity → Option OutgoingEntry
look_out r identity = find (λ (e : OutgoingEntry). same_identity e.identity identity) (list_out r)

-- the incoming file with a number, if there is one
abbrev pub in_by_no : Register → ℕ → Option IncomingEntry
in_by_no r n = find (λ (e : IncomingEntry). e.no == n) (list_in r)

-- the outgoing file with a number, if there is one
abbrev pub out_by_no : Register → ℕ → Option OutgoingEntry
out_by_no r n = find (λ (e : OutgoingEntry). e.no == n) (list_out r)

-- the number of the outgoing file with an identity, if there is one
abbrev pub out_no : Register → Identity → Option ℕ
out_no r identity = option_map (λ (e : OutgoingEntry). e.no) (look_out r identity)

-- a received response and the file that it answers, by their numbers
abbrev pub answered_entry : Register → ℕ → Received → AnsweredEntry
answered_entry r n x = record { no = n; file = out_no r x.identity }

-- the same for all received responses
abbrev pub list_answered : Register → List AnsweredEntry
list_answered r = numbered (answered_entry r) 1 r.received

-- a table has as many files as the limits allow, or more
abbrev pub files_full : Register → Side → Bool
files_full r side.Incoming = nat_le r.limits.files (length r.incoming)
files_full r side.Outgoing = nat_le r.limits.files (length r.outgoing)

-- a response is due
abbrev pub is_due : Dispatch → Bool
is_due Due = true
is_due Sent = false

-- a file waits to be sent, or its end was sent and the answer is missing
abbrev pub is_on_its_way : OutgoingState → Bool
is_on_its_way Waiting = true
is_on_its_way Closing = true
is_on_its_way state = false

-- a response is due to a partner and wasn't tried; it goes to the file's originator
abbrev pub is_next_response : List ℕ → ℕ → IssuedEntry → Bool
is_next_response partner tried e = nat_lt tried e.no && (is_due e.response.dispatch && bytes_eq e.identity.originator partner)

-- the first of these
abbrev pub next_response : Register → List ℕ → ℕ → Option IssuedEntry
next_response r partner tried = find (is_next_response partner tried) (list_issued r)

-- a file for a partner is on its way and wasn't tried
abbrev pub is_next_file : List ℕ → ℕ → OutgoingEntry → Bool
is_next_file partner tried e = nat_lt tried e.no && (is_on_its_way e.state && bytes_eq e.identity.destination partner)

-- the first of these
abbrev pub next_file : Register → List ℕ → ℕ → Option OutgoingEntry
next_file r partner tried = find (is_next_file partner tried) (list_out r)

-- responses go before files
abbrev pub item_of : Option IssuedEntry → Option OutgoingEntry → Option Item
item_of (Some response) file = Some (item.Response response)
item_of None (Some file) = Some (item.File file)
item_of None None = None

-- what is sent next to a partner
abbrev pub next_item : Register → List ℕ → Cursor → Bool → Option Item
next_item r partner cursor files = item_of (next_response r partner cursor.response) (if files then next_file r partner cursor.file else None)

-- the entry with a number, if there is one
abbrev pub entry_at : {A : Type 0} → ℕ → List A → Option A
entry_at zero entries = None
entry_at (suc n) entries = slice_get entries n

-- the rows of a file, none for an unknown number
abbrev pub file_rows : Register → Side → ℕ → List (List ℕ)
file_rows r side.Incoming n = unwrap_or (entry_at n (map (λ (f : Incoming). f.rows) r.incoming)) []
file_rows r side.Outgoing n = unwrap_or (entry_at n (map (λ (f : Outgoing). f.rows) r.outgoing)) []

-- at most `most` rows of a file, from row `from` on
abbrev pub rows_of : Register → Side → ℕ → ℕ → ℕ → List (List ℕ)
rows_of r which n from most = take most (drop from (file_rows r which n))

-- the number of octets of a file, 0 for an unknown number
abbrev pub units_of : Register → Side → ℕ → ℕ
units_of r which n = units_in (file_rows r which n)

-- an incoming file within the limits
pub record IsIncomingWithin (e : IncomingEntry) : Type 0 where
  pub longest : IsLongest e.format e.longest
  pub rows : e.rows ≤ MOST_ROWS

-- an outgoing file within the limits
pub record IsOutgoingWithin (e : OutgoingEntry) : Type 0 where
  pub longest : IsLongest e.format e.longest
  pub rows : e.rows ≤ MOST_ROWS
  pub mark : e.mark ≤ e.rows

-- an item within the limits
abbrev pub IsItemWithin : Item → Type 0
IsItemWithin (item.Response response) = Unit {0}
IsItemWithin (item.File file) = IsOutgoingWithin file

-- the number of rows that were returned, from row `from` on
pub record AreRowsWithin (from most : ℕ) (rows : List (List ℕ)) : Type 0 where
  pub asked : length rows ≤ most
  pub few : 0 < length rows → from + length rows ≤ MOST_ROWS
