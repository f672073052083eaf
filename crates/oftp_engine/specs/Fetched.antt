-- What is fetched of an incoming file.
use Rattle.std.specs.Prelude.{◌≡◌, ℕ, ◌≤◌, ◌⊎◌, List, length, take, Option, Some, Result, Ok, Err}
use Rattle.std.specs.Option.{option_map}
use Rattle.std.specs.Io.KnownBytes.{Appends}
use Rattle.oftp_vfile.specs.LocalForm.{local_of}
use Rattle.oftp_register.specs.Register.{Register}
use Rattle.oftp_register.specs.LookUps.{entry_at, incoming_entry, rows_of}
use Rattle.oftp_register.specs.Offices.{Only, View, next_count}
use Rattle.oftp_register.specs.declared.entries.IncomingEntry.{IncomingEntry}
use Rattle.oftp_register.specs.declared.entries.Side.TheVariants as side
use Rattle.oftp_engine.specs.declared.serving.RunFault.{RunFault}
use Rattle.oftp_engine.specs.declared.serving.RunFault.TheVariants as fault

-- the local form of some rows of an incoming file, from one on
abbrev pub piece_of : Register → IncomingEntry → ℕ → ℕ → List ℕ
piece_of r e from most = local_of e.format (rows_of r side.Incoming e.no from most)

-- the local form of the file
abbrev pub fetched : Register → IncomingEntry → List ℕ
fetched r e = piece_of r e 0 e.rows

-- a beginning of the text is out
pub record IsPartOut (text : List ℕ) (before after : Option (List ℕ)) : Type 0 where
  pub count : ℕ
  pub few : count ≤ length text
  pub out : Appends before after (take count text)

-- what is out, by the result: the text, or a beginning of it
abbrev pub FetchedOut : {T : Type 0} → List ℕ → Option (List ℕ) → Option (List ℕ) → Result T RunFault → Type 0
FetchedOut text before after (Ok x) = Appends before after text
FetchedOut text before after (Err fault) = IsPartOut text before after

-- the register has this file: its entry under that number is this one
abbrev pub HasFile : Register → IncomingEntry → Type 0
HasFile r e = option_map (incoming_entry e.no) (entry_at e.no r.incoming) ≡ Some e

-- the office returned no error
pub record OfficeAnswered (old new : View) : Type 0 where
  pub told : new.told ≡ old.told
  pub stays : new.clean → old.stands → new.stands × (new.register ≡ old.register)

-- it returned an error or rows that aren't the file's; an office that has the file returned an error
pub record OfficeUnanswered (e : IncomingEntry) (old new : View) : Type 0 where
  pub told : (new.told ≡ old.told) ⊎ (new.told ≡ next_count old.told)
  pub fault : new.clean → old.stands → HasFile old.register e → new.told ≡ next_count old.told
  pub register : new.clean → old.stands → new.is_open → new.register ≡ old.register
  pub left : new.clean → old.stands → Only old.register new

-- what the office of a file returned, by the result
abbrev pub FetchesErr : IncomingEntry → View → View → RunFault → Type 0
FetchesErr e old new fault.Read = ⊥
FetchesErr e old new fault.Write = OfficeAnswered old new
FetchesErr e old new fault.Office = OfficeUnanswered e old new
FetchesErr e old new fault.Memory = OfficeAnswered old new

abbrev pub FetchesFrom : {T : Type 0} → IncomingEntry → View → View → Result T RunFault → Type 0
FetchesFrom e old new (Ok x) = OfficeAnswered old new
FetchesFrom e old new (Err fault) = FetchesErr e old new fault
