-- What the parts of an answer and of a report do. Only private functions cite this.
use Rattle.std.specs.Prelude.{◌≡◌, ℕ, List, ◌++◌, Result, Ok, Err, IfOk}
use Rattle.serde_json.specs.Data.{Data}
use Rattle.serde_json.specs.Written.{compact_text}
use Rattle.oftp_register.specs.Register.{Register}
use Rattle.oftp_register.specs.Offices.{View, next_count}
use Rattle.oftp_listing.specs.declared.fault.ListFault.{ListFault}
use Rattle.oftp_listing.specs.declared.fault.ListFault.TheVariants.{Incomplete, Memory, Office, Write}
use Rattle.oftp_listing.specs.Texts.{Asks}

-- the count of the office's errors; `Office` means that it returned one
abbrev pub CountsFault : ℕ → ℕ → ListFault → Type 0
CountsFault old new Office = new ≡ next_count old
CountsFault old new Memory = new ≡ old
CountsFault old new Incomplete = ⊥
CountsFault old new Write = ⊥

abbrev pub Counts : {T : Type 0} → ℕ → ℕ → Result T ListFault → Type 0
Counts old new (Ok x) = new ≡ old
Counts old new (Err fault) = CountsFault old new fault

-- the office was called for what is found in its register
pub record Finds {T : Type 0} (Tells : Register → T → Type 0) (old new : View) (result : Result T ListFault) : Type 0 where
  pub asks : Asks old new
  pub answer : new.clean → old.stands → IfOk result (Tells old.register)
  pub counts : Counts old.told new.told result

-- the text is `front` and then something that is shown
abbrev pub IsDataBehind : List ℕ → List ℕ → Type 0
IsDataBehind front text = (d : Data) × (text ≡ front ++ compact_text d)
