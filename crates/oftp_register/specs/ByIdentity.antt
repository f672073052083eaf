-- A register as two maps from identities to files, and what a change does to them. In a sound register each file is the one that its
-- identity finds.
use Rattle.std.specs.Prelude.{◌≡◌, ◌≢◌, ◌≤◌, ◌+◌, ℕ, false, List, length, take, find, slice_get, Option, None, Some, Result, Ok}
use Rattle.std.specs.List.{position_or_len}
use Rattle.std.specs.Option.{option_map}
use Rattle.oftp_register.specs.declared.change.Cause.{Cause}
use Rattle.oftp_register.specs.declared.change.Change.{Change}
use Rattle.oftp_register.specs.declared.change.Change.TheVariants as change
use Rattle.oftp_register.specs.declared.entry.Identity.{Identity}
use Rattle.oftp_register.specs.declared.entry.IncomingState.TheVariants.{Open}
use Rattle.oftp_register.specs.Register.{Register, Incoming, Outgoing, same_identity}
use Rattle.oftp_vfile.specs.declared.format.Format.{Format}
use Rattle.oftp_wire.specs.declared.command.Sfid.{Sfid}
use Rattle.oftp_register.specs.declared.entries.Side.TheVariants as side
use Rattle.oftp_register.specs.declared.verdicts.StartVerdict.TheVariants as start
use Rattle.oftp_register.specs.declared.verdicts.Terms.{Terms}
use Rattle.oftp_register.specs.Changes.{apply, new_incoming}
use Rattle.oftp_register.specs.LookUps.{entry_at, file_rows, files_full, incoming_entry, look_in}
use Rattle.oftp_register.specs.Soundness.{IsFit, IsSound}
use Rattle.oftp_register.specs.Verdicts.{format_of, longest_of, start_verdict}

-- the entry with an identity, if there is one, where `name` gives the identity of an entry
abbrev pub named : {A : Type 0} → (A → Identity) → Identity → List A → Option A
named name identity xs = find (λ x. same_identity (name x) identity) xs

-- the identity of an incoming file
abbrev pub incoming_name : Incoming → Identity
incoming_name f = f.identity

-- the identity of an outgoing file
abbrev pub outgoing_name : Outgoing → Identity
outgoing_name f = f.identity

-- the incoming file with an identity, if there is one
abbrev pub in_at : Register → Identity → Option Incoming
in_at r identity = named incoming_name identity r.incoming

-- the outgoing file with an identity, if there is one
abbrev pub out_at : Register → Identity → Option Outgoing
out_at r identity = named outgoing_name identity r.outgoing

-- the number of the incoming file with an identity, or the one that a new file gets
abbrev pub number_of : Register → Identity → ℕ
number_of r identity = 1 + position_or_len (λ (f : Incoming). same_identity f.identity identity) r.incoming

-- One entry was changed, and no other: the one at this place of the list.
pub record OneChanged {A : Type 0} (name : A → Identity) (change : A → Result A Cause) (place : ℕ) (xs ys : List A) : Type 0 where
  pub old : A
  pub new : A
  pub entry : slice_get xs place ≡ Some old
  pub entry_now : slice_get ys place ≡ Some new
  pub done : change old ≡ Ok new
  pub others : (i : Identity) → same_identity (name old) i ≡ false → named name i ys ≡ named name i xs

-- The file before a start. There was none, and it starts at its first row; or it was open and had at least `count` rows, which it keeps.
abbrev pub WasStarted : Incoming → ℕ → Option Incoming → Incoming → Type 0
WasStarted header count None new = (new ≡ header) × (count ≡ 0)
WasStarted header count (Some old) new =
    (old.state ≡ Open) × (count ≤ length old.rows) × (new ≡ record header { rows = take count old.rows; response = old.response })

-- a file was started, and no other was changed
pub record OneStarted (header : Incoming) (count : ℕ) (xs ys : List Incoming) : Type 0 where
  pub new : Incoming
  pub was : WasStarted header count (named incoming_name header.identity xs) new
  pub named_so : new.identity ≡ header.identity
  pub now : named incoming_name header.identity ys ≡ Some new
  pub others : (i : Identity) → same_identity header.identity i ≡ false → named incoming_name i ys ≡ named incoming_name i xs

-- the file after a start: its new header, and the first `count` of its rows
abbrev pub started_file : Register → Incoming → ℕ → Incoming
started_file r header count = record header { rows = take count (file_rows r side.Incoming (number_of r header.identity)) }

-- What an accepted start leaves. Under its number is the file with its new header and the rows that are kept, open and without a response.
-- Its identity finds it.
pub record IsStarted (r s : Register) (header : Incoming) (count : ℕ) : Type 0 where
  pub kept : count ≤ length (file_rows r side.Incoming (number_of r header.identity))
  pub entry : entry_at (number_of r header.identity) s.incoming ≡ Some (started_file r header count)
  pub look : look_in s header.identity ≡ Some (incoming_entry (number_of r header.identity) (started_file r header count))

-- a start that a register accepts leaves this
abbrev pub StartsAreFound : Type 0
StartsAreFound = (r s : Register) (identity : Identity) (format : Format) (longest : ℕ) (description : List ℕ) (count : ℕ) → IsSound r
    → apply r (change.Start identity format longest description count) ≡ Ok s → IsStarted r s (new_incoming identity format longest description) count

-- If the answer to SFID accepts a file, the register starts it: the change is fit, and it isn't refused.
abbrev pub AcceptedStarts : Type 0
AcceptedStarts = (r : Register) (sfid : Sfid) (identity : Identity) (terms : Terms) (count : ℕ) → IsSound r
    → start_verdict sfid (look_in r identity) (files_full r side.Incoming) terms ≡ start.Accept count
    → let change = change.Start identity (format_of sfid.layout) (longest_of sfid.layout) sfid.description count in
    IsFit r change × ((s : Register) × (apply r change ≡ Ok s))

-- the first value, if there is one, and else the second
abbrev pub or_else : {A : Type 0} → Option A → Option A → Option A
or_else (Some x) y = Some x
or_else None y = y

-- the identity of the file that a change concerns, if there is one
abbrev pub subject : Register → Change → Option Identity
subject r (change.Submit identity format longest description rows) = Some identity
subject r (change.Start identity format longest description count) = Some identity
subject r (change.Keep n rows) = option_map incoming_name (entry_at n r.incoming)
subject r (change.Close n rows) = option_map incoming_name (entry_at n r.incoming)
subject r (change.GiveUp n) = option_map incoming_name (entry_at n r.incoming)
subject r (change.File kind identity reason creator text) = Some identity
subject r (change.Issue n kind reason text) = option_map incoming_name (entry_at n r.incoming)
subject r (change.Mark n rows) = option_map outgoing_name (entry_at n r.outgoing)
subject r (change.BeginClosing n) = option_map outgoing_name (entry_at n r.outgoing)
subject r (change.HandOver n) = option_map outgoing_name (entry_at n r.outgoing)
subject r (change.Refuse n reason) = option_map outgoing_name (entry_at n r.outgoing)
subject r (change.Reopen n) = option_map outgoing_name (entry_at n r.outgoing)
subject r (change.Send n) = option_map incoming_name (entry_at n r.incoming)

-- a change concerns one identity: all other files are unchanged
pub record StaysElsewhere (r s : Register) (k : Change) : Type 0 where
  pub incoming : (i : Identity) → subject r k ≢ Some i → in_at s i ≡ in_at r i
  pub outgoing : (i : Identity) → subject r k ≢ Some i → out_at s i ≡ out_at r i
