-- A number that is bound to a statement is the one that the database stores.
use Rattle.std.proofs.Common.{◌≡◌, ◌<◌, ◌^◌, ℕ, ℤ, pos, w64, to_z, of_z, arith}
use Rattle.std.proofs.lemmas.Int.{ints, to_z-of_z}

-- the number of an entry
pub number_bound : (n : ℕ) (value : ℤ) → value ≡ pos n → n < 2 ^ 63 → to_z w64 (of_z w64 value) ≡ pos n
number_bound n value is small = grind (arith, ints, to_z-of_z, is, small)

-- a number of octets or rows
pub count_bound : (n : ℕ) → n < 2 ^ 32 → to_z w64 (of_z w64 (pos n)) ≡ pos n
count_bound n fits = grind (arith, ints, to_z-of_z, fits)
