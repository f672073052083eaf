-- An office in memory.
use Rattle.std.specs.Prelude.{◌≡◌, ℕ, Result, IfOk, IfErr, ⊤}
use Rattle.oftp_register.specs.Register.{Register}
use Rattle.oftp_register.specs.Lists.{register_in}
use Rattle.oftp_register.specs.Offices.{Counts, View}
use Rattle.oftp_register.specs.declared.office.OfficeFault.{OfficeFault}
use Rattle.oftp_register.specs.declared.office.OfficeFault.TheVariants.{Memory}
use Rattle.oftp_register.specs.declared.plain.PlainOffice.{PlainOffice}

-- the register of an office in memory
abbrev pub register_of : PlainOffice → Register
register_of o = register_in o.lists

-- how many errors it returned, modulo 2^64
abbrev pub faults_of : PlainOffice → ℕ
faults_of o = o.faults

-- its view: it is always open, and a crash leaves its register
abbrev pub view_of : PlainOffice → View
view_of o = record {
  register = register_of o;
  told = faults_of o;
  clean = ⊤;
  is_open = ⊤;
  stands = ⊤;
  opens = λ h. h;
  Content = Register;
  may_leave = λ r. r ≡ register_of o;
  holds = λ c r. c ≡ r;
}

-- what a look-up does: it returns a value of the register, which is unchanged; the only error is out of memory, which is counted
pub record LooksInMemory {T : Type 0} (Tells : Register → T → Type 0) (old new : PlainOffice) (result : Result T OfficeFault) : Type 0 where
  pub answer : IfOk result (Tells (register_of old))
  pub register : register_of new ≡ register_of old
  pub plain : IfErr result (λ fault. fault ≡ Memory)
  pub counts : Counts (faults_of old) (faults_of new) result
