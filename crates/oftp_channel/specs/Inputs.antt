-- The octets that a port read, as far as those of the reader are known.
use Rattle.std.specs.Prelude.{◌≡◌, ℕ, ◌+◌, ◌%◌, ◌^◌, ◌⊎◌, List, Option}
use Rattle.std.specs.Io.KnownBytes.{Consumes}
use Rattle.oftp_io.specs.Ports.{IsDone}
use Rattle.oftp_io.specs.declared.port.Port.{Port}
use Rattle.oftp_channel.specs.declared.fault.ReadFault.{ReadFault}
use Rattle.oftp_channel.specs.declared.fault.ReadFault.TheVariants as faults

module _ {X : Type 0} where
  -- it gave these octets, and returned no error
  pub record Gave (remaining : X → Option (List ℕ)) (old new : Port X) (octets : List ℕ) : Type 0 where
    pub bytes : Consumes (remaining old.inner) (remaining new.inner) octets
    pub faults : new.faults ≡ old.faults

  -- it gave some octets, and returned no error
  pub record GaveSome (remaining : X → Option (List ℕ)) (old new : Port X) : Type 0 where
    pub octets : List ℕ
    pub gave : Gave remaining old new octets

  -- it gave some octets, and then it returned an error or its end
  pub record Stopped (remaining : X → Option (List ℕ)) (old new : Port X) : Type 0 where
    pub octets : List ℕ
    pub bytes : Consumes (remaining old.inner) (remaining new.inner) octets
    pub cause : (new.faults ≡ (old.faults + 1) % 2 ^ 64) ⊎ IsDone remaining new

  -- what an error leaves: the octets that were read are lost
  abbrev pub Leaves : (X → Option (List ℕ)) → Port X → Port X → ReadFault → Type 0
  Leaves remaining old new faults.Memory = GaveSome remaining old new
  Leaves remaining old new faults.Input = Stopped remaining old new
  Leaves remaining old new faults.Form = GaveSome remaining old new
