-- What an office remembers of the files of its register.
use Rattle.std.specs.Prelude.{◌≡◌, ◌≢◌, ◌⊎◌, ℕ, Bool, true, List, Option, Some, None, is_some, Ok}
use Rattle.std.specs.Ordering.{nat_cmp}
use Rattle.std.specs.BTreeMap.{get}
use Rattle.oftp_register.specs.declared.change.Change.{Change}
use Rattle.oftp_register.specs.declared.entries.Side.{Side}
use Rattle.oftp_register.specs.declared.entries.Side.TheVariants as side
use Rattle.oftp_register.specs.Changes.{apply_all}
use Rattle.oftp_register.specs.LookUps.{in_by_no, out_by_no, units_of}
use Rattle.oftp_register.specs.Offices.{View}
use Rattle.oftp_register.specs.Register.{Register}
use Rattle.oftp_register.specs.Verdicts.{is_received}
use Rattle.oftp_listing.specs.declared.counts.OctetCounts.{OctetCounts}

-- the number of octets that is remembered of the file with a number, if one is
abbrev pub count_of : OctetCounts → Side → ℕ → Option ℕ
count_of counts side.Incoming n = get nat_cmp counts.incoming n
count_of counts side.Outgoing n = get nat_cmp counts.outgoing n

-- nothing is remembered
abbrev pub IsBlank : OctetCounts → Type 0
IsBlank counts = (which : Side) (n : ℕ) → count_of counts which n ≡ None

-- at most this number is remembered besides
pub record AddsCount (old new : OctetCounts) (which : Side) (n units : ℕ) : Type 0 where
  pub here : (count_of new which n ≡ Some units) ⊎ (count_of new which n ≡ count_of old which n)
  pub others : (side : Side) (m : ℕ) → (side ≢ which) ⊎ (m ≢ n) → count_of new side m ≡ count_of old side m

-- No change alters the rows of the file with this number. An incoming file is whole; an outgoing file has all its rows from the beginning.
abbrev pub has_final_rows : Register → Side → ℕ → Bool
has_final_rows r side.Incoming n = is_received (in_by_no r n)
has_final_rows r side.Outgoing n = is_some (out_by_no r n)

-- the number of octets of a file whose rows no change alters
pub record IsCountOf (r : Register) (which : Side) (n units : ℕ) : Type 0 where
  pub is_final : has_final_rows r which n ≡ true
  pub is : units ≡ units_of r which n

-- each number that is remembered is that of such a file of the register
abbrev pub AreCountsOf : Register → OctetCounts → Type 0
AreCountsOf r counts = (which : Side) (n units : ℕ) → count_of counts which n ≡ Some units → IsCountOf r which n units

-- what contracts see of an office that remembers these numbers: it stands if they are those of its register
abbrev pub remembering : OctetCounts → View → View
remembering counts v = record v { stands = v.stands × AreCountsOf v.register counts; opens = λ h. v.opens h.0 }

-- what is remembered of a register is true of it after all changes
abbrev pub CountsStay : Type 0
CountsStay = (counts : OctetCounts) (r s : Register) (changes : List Change) → AreCountsOf r counts → apply_all r changes ≡ Ok s → AreCountsOf s counts
