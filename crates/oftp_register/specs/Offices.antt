-- The interface of an office, which keeps a register. A crash may end any of its calls. Contracts see its view before and after a call.
use Rattle.std.specs.Prelude.{◌≡◌, ℕ, ◌+◌, ◌%◌, ◌^◌, ◌<◌, ◌≤◌, ◌⊎◌, List, length, take, Result, Ok, Err, IfOk, IfErr, OnOk, OnErr, Option, None, Some, ⊤}
use Rattle.oftp_register.specs.Register.{Register}
use Rattle.oftp_register.specs.Changes.{apply, apply_all}
use Rattle.oftp_register.specs.Soundness.{AreFit, IsFit}
use Rattle.oftp_register.specs.declared.change.Cause.{Cause}
use Rattle.oftp_register.specs.declared.change.Change.{Change}
use Rattle.oftp_register.specs.declared.office.OfficeFault.{OfficeFault}
use Rattle.oftp_register.specs.declared.office.OfficeFault.TheVariants.{Store, Memory, Refused}

-- What contracts see of an office.
pub record View : Type 1 where
  -- its register
  pub register : Register
  -- how many errors it returned, modulo 2^64
  pub told : ℕ
  -- So far the store read what was written. This may fail at any call, and then no result is promised.
  pub clean : Type 0
  -- the office is open: it can be called
  pub is_open : Type 0
  -- the office is open, and its store holds the register
  pub stands : Type 0
  pub opens : stands → is_open
  -- the contents that a crash may leave, and the registers that they hold
  pub Content : Type 0
  pub may_leave : Content → Type 0
  pub holds : Content → Register → Type 0

-- a crash leaves this register and nothing else
abbrev pub Only : Register → View → Type 0
Only r v = (c : v.Content) → v.may_leave c → v.holds c r

-- a crash leaves the register with a change or without it
abbrev pub WithOrWithout : Option Change → Register → View → Type 0
WithOrWithout None r v = Only r v
WithOrWithout (Some change) r v = (c : v.Content) → v.may_leave c → v.holds c r ⊎ ((s : Register) × (apply r change ≡ Ok s) × v.holds c s)

-- a crash leaves some content
abbrev pub Leaves : View → Type 0
Leaves v = ∥ ((c : v.Content) × v.may_leave c) ∥₁

-- the next value of a count modulo 2^64
abbrev pub next_count : ℕ → ℕ
next_count n = (n + 1) % 2 ^ 64

-- the count of errors after an error; a refusal isn't counted
abbrev pub CountsFault : ℕ → ℕ → OfficeFault → Type 0
CountsFault old new Store = new ≡ next_count old
CountsFault old new Memory = new ≡ next_count old
CountsFault old new (Refused cause) = new ≡ old

-- the count of errors after a call
abbrev pub Counts : {T : Type 0} → ℕ → ℕ → Result T OfficeFault → Type 0
Counts old new (Ok x) = new ≡ old
Counts old new (Err fault) = CountsFault old new fault

-- a change is refused if the register refuses it, for its cause, and then the office stays open
abbrev pub IsRefused : {T : Type 0} → Result Register Cause → Result T OfficeFault → Type 0 → Type 0
IsRefused wanted (Ok x) Stands = ⊤
IsRefused wanted (Err Store) Stands = ⊤
IsRefused wanted (Err Memory) Stands = ⊤
IsRefused wanted (Err (Refused cause)) Stands = (wanted ≡ Err cause) × Stands

-- an error that a look-up may return
abbrev pub IsFailure : OfficeFault → Type 0
IsFailure Store = ⊤
IsFailure Memory = ⊤
IsFailure (Refused cause) = ⊥

-- What a look-up does. If the store reads what was written and the office was open, it returns what it looks up in the register. The office
-- stays open unless there was an error. Wherever it is open its register is unchanged, and a crash leaves that register. Whatever the store
-- reads, it refuses nothing and counts its errors.
pub record LooksUp {T : Type 0} (Tells : Register → T → Type 0) (old new : View) (result : Result T OfficeFault) : Type 0 where
  pub clean : new.clean → old.clean
  pub answer : new.clean → old.stands → IfOk result (Tells old.register)
  pub stays : new.clean → old.stands → OnOk result new.stands
  pub register : new.clean → old.stands → new.is_open → new.register ≡ old.register
  pub left : new.clean → old.stands → Only old.register new
  pub unrefused : IfErr result IsFailure
  pub counts : Counts old.told new.told result

-- What a change does. If the store reads what was written and the office was open, a fit change is made, and after `Ok` the office is open.
-- It is refused if the register refuses it, and then the office stays open. After any error an office that is still open has its old
-- register. A crash within a fit change leaves it made or not made. Whatever the store reads, it counts its errors.
pub record Commits {T : Type 0} (change : Change) (old new : View) (result : Result T OfficeFault) : Type 0 where
  pub clean : new.clean → old.clean
  pub done : new.clean → old.stands → IsFit old.register change → OnOk result ((apply old.register change ≡ Ok new.register) × new.stands)
  pub refused : new.clean → old.stands → IsRefused (apply old.register change) result new.stands
  pub same : new.clean → old.stands → OnErr result (new.is_open → new.register ≡ old.register)
  pub left : new.clean → old.stands → IsFit old.register change → WithOrWithout (Some change) old.register new
  pub counts : Counts old.told new.told result

-- changes ended at one that failed with this error; a refusal is the register's
pub record EndsAt (fault : OfficeFault) (old new : Register) (changes : List Change) : Type 0 where
  pub made : ℕ
  pub short : made < length changes
  pub register : apply_all old (take made changes) ≡ Ok new
  pub refusal : (cause : Cause) → fault ≡ Refused cause → apply_all old (take (made + 1) changes) ≡ Err cause

-- this holds of the register after a prefix of the changes, all of them made
pub record IsAfterPrefix (Holds : Register → Type 0) (old : Register) (changes : List Change) : Type 0 where
  pub made : ℕ
  pub most : made ≤ length changes
  pub after : Register
  pub register : apply_all old (take made changes) ≡ Ok after
  pub holds : Holds after

-- a crash leaves the register after a prefix of the changes, all of them made
abbrev pub LeavesFirst : Register → List Change → View → Type 0
LeavesFirst r changes v = (c : v.Content) → v.may_leave c → IsAfterPrefix (v.holds c) r changes

-- What changes in order do, up to the first that fails, as `Commits` says for one.
pub record CommitsAll {T : Type 0} (changes : List Change) (old new : View) (result : Result T OfficeFault) : Type 0 where
  pub clean : new.clean → old.clean
  pub done : new.clean → old.stands → AreFit old.register changes → OnOk result ((apply_all old.register changes ≡ Ok new.register) × new.stands)
  pub refused : new.clean → old.stands → AreFit old.register changes → IsRefused (apply_all old.register changes) result new.stands
  pub kept : new.clean → old.stands → AreFit old.register changes → new.is_open → IfErr result (λ fault. EndsAt fault old.register new.register changes)
  pub left : new.clean → old.stands → AreFit old.register changes → LeavesFirst old.register changes new
  pub counts : Counts old.told new.told result
