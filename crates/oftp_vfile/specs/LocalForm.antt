-- The local form of files, in which an operator submits and fetches them.
use Rattle.std.specs.Prelude.{◌≡◌, ◌≤◌, ◌+◌, ◌/◌, ◌%◌, ◌++◌, ◌∷◌, [], ℕ, List, length}
use Rattle.std.specs.List.{flat_map}
use Rattle.oftp_vfile.specs.declared.format.Format.{Format}
use Rattle.oftp_vfile.specs.declared.format.Format.TheVariants.{Fixed, Variable, Unstructured, Text}
use Rattle.oftp_vfile.specs.VirtualFile.{AreRows}

-- the decimal digit of a number at this power of ten, as a character
abbrev pub digit_of : ℕ → ℕ → ℕ
digit_of n place = 48 + n / place % 10

-- the five decimal digits of a number below 100,000
abbrev pub digits_of : ℕ → List ℕ
digits_of n = digit_of n 10000 ∷ digit_of n 1000 ∷ digit_of n 100 ∷ digit_of n 10 ∷ digit_of n 1 ∷ []

-- a row in the local form: a record of V after five digits of its length, any other row as it is
abbrev pub local_row : Format → List ℕ → List ℕ
local_row Fixed row = row
local_row Variable row = digits_of (length row) ++ row
local_row Unstructured row = row
local_row Text row = row

-- the local form of rows: one after another
abbrev pub local_of : Format → List (List ℕ) → List ℕ
local_of format rows = flat_map (local_row format) rows

-- the content is the local form of these rows of a file
abbrev pub IsLocal : Format → ℕ → List ℕ → List (List ℕ) → Type 0
IsLocal format longest content rows = AreRows format longest rows × (content ≡ local_of format rows)

-- the content of a V file begins with this record, and these octets follow
abbrev pub IsFirstRecord : ℕ → List ℕ → List ℕ → List ℕ → Type 0
IsFirstRecord longest content row rest = (content ≡ local_row Variable row ++ rest) × (length row ≤ longest)
