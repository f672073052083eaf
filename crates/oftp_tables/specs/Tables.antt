-- What the tables hold of a register.
use Rattle.std.specs.Prelude.{length, ◌^◌, ◌≡◌, ◌+◌, ◌<◌, ◌==◌, ℕ, Bool, true, false, if◌then◌else◌, List, [], ◌∷◌, ◌++◌, map, drop, filter, find, codes, pos, negsuc, Option, Some, None, nat_le, ⊤}
use Rattle.std.specs.List.{AllByRecursion}
use Rattle.std.specs.Option.{option_map}
use Rattle.std.specs.List.Sorted.{IsPermutation}
use Rattle.std.specs.Str.{bytes_eq}
use Rattle.sqlite.specs.declared.types.Value.{Value}
use Rattle.sqlite.specs.declared.types.Value.TheVariants.{Null, Int, Text, Blob, Real}
use Rattle.sqlite.specs.Order.{Row, column, bytes}
use Rattle.sqlite.specs.Tree.{Trees, rowid, has_rowid}
use Rattle.sqlite_trees.specs.Tree.{IsAscending}
use Rattle.sqlite.specs.Edit.{id_in}
use Rattle.oftp_vfile.specs.declared.format.Format.{Format}
use Rattle.oftp_vfile.specs.declared.format.Format.TheVariants as format
use Rattle.oftp_vfile.specs.declared.limits.Limits.{Limits}
use Rattle.oftp_wire.specs.Octets.{IsDigits, IsName, decimal, number}
use Rattle.oftp_register.specs.declared.entry.Identity.{Identity}
use Rattle.oftp_register.specs.declared.entry.ResponseKind.{ResponseKind}
use Rattle.oftp_register.specs.declared.entry.ResponseKind.TheVariants.{EndResponse, NegativeEndResponse}
use Rattle.oftp_register.specs.declared.entry.IncomingState.{IncomingState}
use Rattle.oftp_register.specs.declared.entry.IncomingState.TheVariants.{Open, Whole}
use Rattle.oftp_register.specs.declared.entry.OutgoingState.{OutgoingState}
use Rattle.oftp_register.specs.declared.entry.OutgoingState.TheVariants.{Waiting, Closing, Handed, Refused, Delivered, Returned}
use Rattle.oftp_register.specs.declared.entry.Dispatch.{Dispatch}
use Rattle.oftp_register.specs.declared.entry.Dispatch.TheVariants.{Due, Sent}
use Rattle.oftp_register.specs.Register.{Register, Incoming, Outgoing, Issued, Received}
use Rattle.oftp_tables.specs.Schema.{about_tree, in_file_tree, in_row_tree, issued_tree, note_tree, out_file_tree, out_row_tree, received_tree}

-- what the columns hold

abbrev pub format_text : Format → List ℕ
format_text format.Fixed = codes "F"
format_text format.Variable = codes "V"
format_text format.Unstructured = codes "U"
format_text format.Text = codes "T"

abbrev pub kind_text : ResponseKind → List ℕ
kind_text EndResponse = codes "EERP"
kind_text NegativeEndResponse = codes "NERP"

-- a reason is two digits in a Negative End Response, and empty in an End-to-End Response
abbrev pub reason_text : ResponseKind → ℕ → List ℕ
reason_text EndResponse reason = []
reason_text NegativeEndResponse reason = decimal 2 reason

abbrev pub in_state_text : IncomingState → List ℕ
in_state_text Open = codes "open"
in_state_text Whole = codes "whole"

abbrev pub out_state_text : OutgoingState → List ℕ
out_state_text Waiting = codes "waiting"
out_state_text Closing = codes "closing"
out_state_text Handed = codes "handed"
out_state_text (Refused reason) = codes "refused"
out_state_text Delivered = codes "delivered"
out_state_text Returned = codes "returned"

abbrev pub refusal_text : OutgoingState → List ℕ
refusal_text Waiting = []
refusal_text Closing = []
refusal_text Handed = []
refusal_text (Refused reason) = decimal 2 reason
refusal_text Delivered = []
refusal_text Returned = []

abbrev pub sent_number : Dispatch → ℕ
sent_number Due = 0
sent_number Sent = 1

-- the rows of the tables: the rowid, NULL for a column that is the rowid, and the other columns

abbrev pub number_value : ℕ → Value
number_value n = Int (pos n)

-- the row of `about` with a schema
abbrev pub about_row_of : ℕ → Row
about_row_of schema = number_value 1 ∷ Null ∷ number_value schema ∷ []

-- the row of `about` with schema 2
abbrev pub about_row : Row
about_row = about_row_of 2

abbrev pub identity_values : Identity → Row
identity_values it = Text it.dataset ∷ Text it.date ∷ Text it.time ∷ Text it.originator ∷ Text it.destination ∷ []

abbrev pub in_file_row : ℕ → Incoming → Row
in_file_row n f = number_value n ∷ Null ∷ identity_values f.identity ++ Text (format_text f.format) ∷ number_value f.longest ∷ Text f.description ∷ Text (in_state_text f.state) ∷ []

abbrev pub out_file_row : ℕ → Outgoing → Row
out_file_row n f =
    number_value n ∷ Null ∷ identity_values f.identity ++ Text (format_text f.format) ∷ number_value f.longest ∷ Text f.description ∷ number_value f.mark
    ∷ Text (out_state_text f.state) ∷ Text (refusal_text f.state) ∷ []

abbrev pub issued_row : ℕ → Issued → Row
issued_row n r = number_value n ∷ Null ∷ Text (kind_text r.kind) ∷ Text (reason_text r.kind r.reason) ∷ Text r.text ∷ number_value (sent_number r.dispatch) ∷ []

abbrev pub received_row : ℕ → Received → Row
received_row n r = number_value n ∷ Null ∷ Text (kind_text r.kind) ∷ identity_values r.identity ++ Text (reason_text r.kind r.reason) ∷ []

-- a row of `in_row` or `out_row` without its rowid, which is no part of the register
abbrev pub body_row : ℕ → ℕ → List ℕ → Row
body_row n at body = number_value n ∷ number_value at ∷ Blob body ∷ []

-- rows for entries in order of number, from a number on

abbrev pub rows_from : {X : Type 0} → (ℕ → X → Row) → ℕ → List X → List Row
rows_from row n [] = []
rows_from row n (x ∷ xs) = row n x ∷ rows_from row (n + 1) xs

abbrev pub issued_if_any : ℕ → Option Issued → List Row
issued_if_any n None = []
issued_if_any n (Some r) = issued_row n r ∷ []

abbrev pub issued_from : ℕ → List Incoming → List Row
issued_from n [] = []
issued_from n (f ∷ fs) = issued_if_any n f.response ++ issued_from (n + 1) fs

abbrev pub note_if_negative : ℕ → Received → ResponseKind → List Row
note_if_negative n r EndResponse = []
note_if_negative n r NegativeEndResponse = (number_value n ∷ Null ∷ Text r.creator ∷ Text r.text ∷ []) ∷ []

abbrev pub notes_from : ℕ → List Received → List Row
notes_from n [] = []
notes_from n (r ∷ rs) = note_if_negative n r r.kind ++ notes_from (n + 1) rs

-- the rows of one file, from a position on
abbrev pub body_rows : ℕ → ℕ → List (List ℕ) → List Row
body_rows n at [] = []
body_rows n at (body ∷ bodies) = body_row n at body ∷ body_rows n (at + 1) bodies

-- the rows of files, from a number on
abbrev pub bodies_from : ℕ → List (List (List ℕ)) → List Row
bodies_from n [] = []
bodies_from n (bodies ∷ more) = body_rows n 0 bodies ++ bodies_from (n + 1) more

-- the rows of a table without their rowids
abbrev pub less_rowids : List Row → List Row
less_rowids = map (drop 1)

abbrev pub rows_in : Incoming → List (List ℕ)
rows_in f = f.rows

abbrev pub rows_out : Outgoing → List (List ℕ)
rows_out f = f.rows

-- each reason has at most two digits

abbrev pub HasReason : Option Issued → Type 0
HasReason None = ⊤
HasReason (Some r) = r.reason < 100

abbrev pub HasRefusal : OutgoingState → Type 0
HasRefusal Waiting = ⊤
HasRefusal Closing = ⊤
HasRefusal Handed = ⊤
HasRefusal (Refused reason) = reason < 100
HasRefusal Delivered = ⊤
HasRefusal Returned = ⊤

-- each row has a rowid of its own
abbrev pub AreNumbered : List Row → Type 0
AreNumbered rows =
    AllByRecursion (λ r. has_rowid (id_in (rowid r)) r ≡ true) rows × IsAscending (λ a b. (has_rowid (id_in (rowid a)) b ≡ false) × (has_rowid (id_in (rowid b)) a ≡ false)) rows

-- These are the rows of `in_file`, `in_row` and `issued` for incoming files. The rows of `in_row` are in any order.
pub record HoldIncoming (files : List Incoming) (in_file in_row issued : List Row) : Type 0 where
  pub headers : in_file ≡ rows_from in_file_row 1 files
  pub rows : IsPermutation (bodies_from 1 (map rows_in files)) (less_rowids in_row)
  pub row_ids : AreNumbered in_row
  pub responses : issued ≡ issued_from 1 files
  pub reasons : AllByRecursion (λ (f : Incoming). HasReason f.response) files
  pub few : length files < 2 ^ 63

-- These are the rows of `out_file` and `out_row` for outgoing files. The rows of `out_row` are in any order.
pub record HoldOutgoing (files : List Outgoing) (out_file out_row : List Row) : Type 0 where
  pub headers : out_file ≡ rows_from out_file_row 1 files
  pub rows : IsPermutation (bodies_from 1 (map rows_out files)) (less_rowids out_row)
  pub row_ids : AreNumbered out_row
  pub reasons : AllByRecursion (λ (f : Outgoing). HasRefusal f.state) files
  pub few : length files < 2 ^ 63

-- these are the rows of `received` and `received_note` for received responses
pub record HoldReceived (responses : List Received) (received notes : List Row) : Type 0 where
  pub responses_are : received ≡ rows_from received_row 1 responses
  pub notes_are : notes ≡ notes_from 1 responses
  pub reasons : AllByRecursion (λ (x : Received). x.reason < 100) responses

-- the tables represent the register
pub record Tables (r : Register) (db : Trees) : Type 0 where
  pub about : db about_tree ≡ about_row ∷ []
  pub incoming : HoldIncoming r.incoming (db in_file_tree) (db in_row_tree) (db issued_tree)
  pub outgoing : HoldOutgoing r.outgoing (db out_file_tree) (db out_row_tree)
  pub received : HoldReceived r.received (db received_tree) (db note_tree)

-- ---- the register that rows represent

abbrev pub number_in : Value → ℕ
number_in (Int (pos n)) = n
number_in (Int (negsuc n)) = 0
number_in Null = 0
number_in (Real x) = 0
number_in (Text t) = 0
number_in (Blob b) = 0

abbrev pub format_in : List ℕ → Format
format_in text =
    if bytes_eq text (codes "F") then format.Fixed
    else if bytes_eq text (codes "V") then format.Variable
    else if bytes_eq text (codes "U") then format.Unstructured
    else format.Text

abbrev pub kind_in : List ℕ → ResponseKind
kind_in text = if bytes_eq text (codes "EERP") then EndResponse else NegativeEndResponse

abbrev pub in_state_in : List ℕ → IncomingState
in_state_in text = if bytes_eq text (codes "open") then Open else Whole

abbrev pub out_state_in : List ℕ → List ℕ → OutgoingState
out_state_in state reason =
    if bytes_eq state (codes "waiting") then Waiting
    else if bytes_eq state (codes "closing") then Closing
    else if bytes_eq state (codes "handed") then Handed
    else if bytes_eq state (codes "delivered") then Delivered
    else if bytes_eq state (codes "returned") then Returned
    else Refused (number reason)

abbrev pub dispatch_in : ℕ → Dispatch
dispatch_in n = if n == 0 then Due else Sent

abbrev pub identity_in : ℕ → Row → Identity
identity_in at row = record {
  dataset = bytes (column row at);
  date = bytes (column row (at + 1));
  time = bytes (column row (at + 2));
  originator = bytes (column row (at + 3));
  destination = bytes (column row (at + 4));
}

-- a row has an identity, in five columns from an index on
pub record TellsIdentity (it : Identity) (at : ℕ) (row : Row) : Type 0 where
  pub dataset : IsName 26 it.dataset × (column row at ≡ Text it.dataset)
  pub date : IsDigits 8 it.date × (column row (at + 1) ≡ Text it.date)
  pub time : IsDigits 10 it.time × (column row (at + 2) ≡ Text it.time)
  pub originator : IsName 25 it.originator × (column row (at + 3) ≡ Text it.originator)
  pub destination : IsName 25 it.destination × (column row (at + 4) ≡ Text it.destination)

-- a row has these values in order, from an index on
abbrev pub TellsValues : Row → ℕ → Row → Type 0
TellsValues [] at row = ⊤
TellsValues (value ∷ values) at row = (column row at ≡ value) × TellsValues values (at + 1) row

abbrev pub has_number : ℕ → Row → Bool
has_number n row = number_in (column row 0) == n

-- a row is inserted into others that are in order of position
abbrev pub put_by_place : Row → List Row → List Row
put_by_place new [] = new ∷ []
put_by_place new (row ∷ rows) = if nat_le (number_in (column new 1)) (number_in (column row 1)) then new ∷ row ∷ rows else row ∷ put_by_place new rows

-- the rows in order of position
abbrev pub by_place : List Row → List Row
by_place [] = []
by_place (row ∷ rows) = put_by_place row (by_place rows)

-- the bodies of a file's rows, in order of position
abbrev pub bodies_in : ℕ → List Row → List (List ℕ)
bodies_in n rows = map (λ row. bytes (column row 2)) (by_place (filter (has_number n) rows))

abbrev pub issued_in : Row → Issued
issued_in row = record { kind = kind_in (bytes (column row 2)); reason = number (bytes (column row 3)); text = bytes (column row 4); dispatch = dispatch_in (number_in (column row 5)) }

abbrev pub incoming_in : Trees → Row → Incoming
incoming_in db row = record {
  identity = identity_in 2 row;
  format = format_in (bytes (column row 7));
  longest = number_in (column row 8);
  description = bytes (column row 9);
  state = in_state_in (bytes (column row 10));
  rows = bodies_in (number_in (column row 0)) (less_rowids (db in_row_tree));
  response = option_map issued_in (find (has_number (number_in (column row 0))) (db issued_tree));
}

abbrev pub outgoing_in : Trees → Row → Outgoing
outgoing_in db row = record {
  identity = identity_in 2 row;
  format = format_in (bytes (column row 7));
  longest = number_in (column row 8);
  description = bytes (column row 9);
  rows = bodies_in (number_in (column row 0)) (less_rowids (db out_row_tree));
  mark = number_in (column row 10);
  state = out_state_in (bytes (column row 11)) (bytes (column row 12));
}

abbrev pub text_at : ℕ → Option Row → List ℕ
text_at at None = []
text_at at (Some row) = bytes (column row at)

abbrev pub received_in : Trees → Row → Received
received_in db row = record {
  kind = kind_in (bytes (column row 2));
  identity = identity_in 3 row;
  reason = number (bytes (column row 8));
  creator = text_at 2 (find (has_number (number_in (column row 0))) (db note_tree));
  text = text_at 3 (find (has_number (number_in (column row 0))) (db note_tree));
}

abbrev pub register_in : Limits → Trees → Register
register_in limits db = record {
  limits = limits;
  incoming = map (incoming_in db) (db in_file_tree);
  outgoing = map (outgoing_in db) (db out_file_tree);
  received = map (received_in db) (db received_tree);
}
