-- Virtual files: their formats, their rows and their counts (RFC 5024, section 1.5).
use Rattle.std.specs.Prelude.{◌≡◌, ◌<◌, ◌≤◌, ◌==◌, ◌++◌, ◌∷◌, [], ℕ, Bool, true, false, List, length, count_by, All, if◌then◌else◌}
use Rattle.std.specs.List.{flat_map}
use Rattle.oftp_vfile.specs.declared.format.TheConstants.{BLOCK, LONGEST_RECORD}
use Rattle.oftp_vfile.specs.declared.format.Format.{Format}
use Rattle.oftp_vfile.specs.declared.format.Format.TheVariants.{Fixed, Variable, Unstructured, Text}

-- whether a file is one stream of octets, and not a list of records (RFC 5024, section 1.5.3)
abbrev pub is_stream : Format → Bool
is_stream Fixed = false
is_stream Variable = false
is_stream Unstructured = true
is_stream Text = true

-- the octets of rows, one row after another
abbrev pub octets_in : List (List ℕ) → List ℕ
octets_in rows = flat_map (λ r. r) rows

-- the unit count of a file: its octets (RFC 5024, section 5.3.8)
abbrev pub units_in : List (List ℕ) → ℕ
units_in rows = length (octets_in rows)

-- the record count of a file: its records in F and V, and 0 in U and T (RFC 5024, section 5.3.8)
abbrev pub records_in : Format → List (List ℕ) → ℕ
records_in format rows = if is_stream format then 0 else length rows

-- how many of these rows, wholly sent, count towards the mark: all records, but only full blocks of a stream (RFC 5024, section
-- 1.5.4)
abbrev pub whole_count : Format → List (List ℕ) → ℕ
whole_count format rows = if is_stream format then count_by (λ (r : List ℕ). length r == BLOCK) rows else length rows

-- The longest record that a file of this format may have, in octets. It is 1 to 16,384 in F and V, and 0 in U and T, which have no records.
abbrev pub IsLongest : Format → ℕ → Type 0
IsLongest Fixed longest = (0 < longest) × (longest ≤ LONGEST_RECORD)
IsLongest Variable longest = (0 < longest) × (longest ≤ LONGEST_RECORD)
IsLongest Unstructured longest = longest ≡ 0
IsLongest Text longest = longest ≡ 0

-- blocks of this size, the last of which may be shorter but isn't empty
abbrev pub AreBlocks : ℕ → List (List ℕ) → Type 0
AreBlocks size [] = Unit {0}
AreBlocks size (r ∷ []) = (0 < length r) × (length r ≤ size)
AreBlocks size (r ∷ q ∷ rs) = (length r ≡ size) × AreBlocks size (q ∷ rs)

-- The rows of a virtual file. In F and V they are records, of exactly the longest length in F and of at most that in V (RFC 5024, section
-- 1.5.3). In U and T they are blocks of 1024 octets, the last of which may be shorter (RFC 5024, section 1.5.4).
abbrev pub AreRows : Format → ℕ → List (List ℕ) → Type 0
AreRows Fixed longest rows = All (λ (r : List ℕ). length r ≡ longest) rows
AreRows Variable longest rows = All (λ (r : List ℕ). length r ≤ longest) rows
AreRows Unstructured longest rows = AreBlocks BLOCK rows
AreRows Text longest rows = AreBlocks BLOCK rows

-- the rows of a file that is closed: the open part is the last row, unless it is empty
abbrev pub closed : List (List ℕ) → List ℕ → List (List ℕ)
closed rows [] = rows
closed rows (x ∷ xs) = rows ++ (x ∷ xs) ∷ []

-- these rows are the first of a list
abbrev pub BeginsWith : List (List ℕ) → List (List ℕ) → Type 0
BeginsWith all first = (more : List (List ℕ)) × (all ≡ first ++ more)
