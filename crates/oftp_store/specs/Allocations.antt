-- Whether there is a file of an identity, and else the number of a new one.
use Rattle.std.specs.Prelude.{◌≡◌, ◌+◌, ◌<◌, ◌^◌, ⊤, ℕ, Bool, nat_le, false, if◌then◌else◌, Option, Some, None}
use Rattle.oftp_vfile.specs.declared.limits.Limits.{Limits}
use Rattle.oftp_register.specs.declared.entry.Identity.{Identity}
use Rattle.oftp_register.specs.declared.entry.IncomingState.{IncomingState}
use Rattle.oftp_register.specs.declared.entry.IncomingState.TheVariants.{Open, Whole}
use Rattle.oftp_register.specs.declared.entries.Side.{Side}
use Rattle.oftp_register.specs.declared.entries.Side.TheVariants as side
use Rattle.oftp_register.specs.Register.{Register}
use Rattle.oftp_store.specs.Numbers.{entries_in, file_number, table_of}
use Rattle.oftp_store.specs.FileProgress.{incoming_progress_of}
use Rattle.oftp_store.specs.Reads.{IsToldOf}
use Rattle.oftp_store.specs.declared.queries.progress.IncomingProgress.{IncomingProgress}
use Rattle.oftp_store.specs.declared.queries.allocation.Allocation.{Allocation}
use Rattle.oftp_store.specs.declared.queries.allocation.Allocation.TheVariants as allocation
use Rattle.oftp_store.specs.declared.queries.allocation.IncomingAllocation.{IncomingAllocation}
use Rattle.oftp_store.specs.declared.queries.allocation.IncomingAllocation.TheVariants as incoming_allocation

-- the allocation of a new file in a table with this many files
abbrev pub allocation_after : Limits → ℕ → Allocation
allocation_after limits count = if nat_le limits.files count then allocation.Full else allocation.New (count + 1)

-- the allocation of a file whose number, if it has one, was looked up, in a table with this many files
abbrev pub allocation_of : Limits → ℕ → Option ℕ → Allocation
allocation_of limits count (Some n) = allocation.Existing n
allocation_of limits count None = allocation_after limits count

-- the allocation of the file of an identity
abbrev pub IsAllocationOf : Register → Side → Identity → Allocation → Type 0
IsAllocationOf r which identity allocation = allocation ≡ allocation_of r.limits (entries_in r (table_of which)) (file_number r which identity)

-- its number, if it has one, fits the database
abbrev pub HasSmallNumber : Allocation → Type 0
HasSmallNumber (allocation.Existing n) = n < 2 ^ 63
HasSmallNumber (allocation.New n) = n < 2 ^ 63
HasSmallNumber allocation.Full = ⊤

-- what a start finds of the incoming file of an identity
abbrev pub IsIncomingAllocationOf : Register → Identity → IncomingAllocation → Type 0
IsIncomingAllocationOf r identity (incoming_allocation.Known n progress) = (file_number r side.Incoming identity ≡ Some n) × IsToldOf incoming_progress_of r.incoming n (Some progress)
IsIncomingAllocationOf r identity (incoming_allocation.New n) = IsAllocationOf r side.Incoming identity (allocation.New n)
IsIncomingAllocationOf r identity incoming_allocation.Full = IsAllocationOf r side.Incoming identity allocation.Full

-- an open file with at least this many rows may go on after them

abbrev pub goes_on_in : IncomingState → ℕ → ℕ → Bool
goes_on_in Open rows count = nat_le count rows
goes_on_in Whole rows count = false

abbrev pub goes_on : IncomingProgress → ℕ → Bool
goes_on progress count = goes_on_in progress.state progress.rows count
