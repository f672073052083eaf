-- What an operator's call leaves, and what it has out.
use Rattle.std.specs.Prelude.{◌≡◌, ℕ, ◌<◌, ◌⊎◌, ⊤, [], length, take, Option, Some, Result, Ok, Err}
use Rattle.oftp_partners.specs.Book.{BookData}
use Rattle.oftp_register.specs.declared.change.Change.{Change}
use Rattle.oftp_register.specs.declared.change.Change.TheVariants as change
use Rattle.oftp_register.specs.Register.{Register}
use Rattle.oftp_register.specs.Offices.{Only, View, next_count}
use Rattle.oftp_session.specs.Calls.{IsBefore, Makes}
use Rattle.oftp_engine.specs.declared.operating.Operator.{Operator}
use Rattle.oftp_engine.specs.declared.operating.Told.{Told}
use Rattle.oftp_engine.specs.declared.serving.RunFault.{RunFault}
use Rattle.oftp_engine.specs.declared.serving.RunFault.TheVariants as fault
use Rattle.oftp_engine.specs.Operating.{Deed, IsDeed, NeedsMemory}
use Rattle.oftp_engine.specs.Serving.{Scene, Took}

-- the change registers a file, whose number is looked up afterwards
abbrev pub Registers : Option Change → Type 0
Registers (Some (change.Submit identity format longest description rows)) = ⊤
Registers _ = ⊥

-- the office returned an error after the change was made, in the look-up of the file's number
pub record IsMadeBefore (change : Option Change) (old new : View) : Type 0 where
  pub registers : Registers change
  pub after : Register
  pub made : Makes change old.register after
  pub register : new.is_open → new.register ≡ after
  pub left : Only after new

-- the line is out, and the change is made
pub record IsOperated (deed : Deed) (old new : Scene) (told' : Told) : Type 0 where
  pub told : told' ≡ deed.told
  pub out : Took old new deed.line
  pub register : Makes deed.change old.office.register new.office.register
  pub stands : new.office.stands
  pub left : Only new.office.register new.office
  pub faults : new.office.told ≡ old.office.told
  pub unfailed : new.told ≡ old.told

-- the writer returned an error: a beginning of the line is out, and the change is made
pub record IsHalfTold (deed : Deed) (old new : Scene) : Type 0 where
  pub count : ℕ
  pub short : count < length deed.line
  pub out : Took old new (take count deed.line)
  pub register : Makes deed.change old.office.register new.office.register
  pub stands : new.office.stands
  pub left : Only new.office.register new.office
  pub faults : new.office.told ≡ old.office.told
  pub failed : new.told ≡ next_count old.told

-- the office returned an error: nothing is out, and the change is made or not
pub record IsUndecided (deed : Deed) (old new : Scene) : Type 0 where
  pub out : Took old new []
  pub cases : IsBefore deed.change old.office new.office ⊎ IsMadeBefore deed.change old.office new.office
  pub faults : new.office.told ≡ next_count old.office.told
  pub unfailed : new.told ≡ old.told

-- out of memory: nothing is out, and nothing is changed
pub record IsNotDone (old new : Scene) : Type 0 where
  pub out : Took old new []
  pub register : new.office.register ≡ old.office.register
  pub stands : new.office.stands
  pub left : Only new.office.register new.office
  pub faults : new.office.told ≡ old.office.told
  pub unfailed : new.told ≡ old.told

abbrev pub OperatesErr : BookData → Operator → Scene → Scene → RunFault → Type 0
OperatesErr book call old new fault.Read = ⊥
OperatesErr book call old new fault.Write = (deed : Deed) × IsDeed book old.office.register call deed × IsHalfTold deed old new
OperatesErr book call old new fault.Office = (deed : Deed) × IsDeed book old.office.register call deed × IsUndecided deed old new
OperatesErr book call old new fault.Memory = NeedsMemory call × IsNotDone old new

-- what a call with this result has done
abbrev pub Operates : BookData → Operator → Scene → Scene → Result Told RunFault → Type 0
Operates book call old new (Ok told) = (deed : Deed) × IsDeed book old.office.register call deed × IsOperated deed old new told
Operates book call old new (Err fault) = OperatesErr book call old new fault
