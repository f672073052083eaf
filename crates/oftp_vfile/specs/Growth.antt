-- How rows and an open tail grow.
use Rattle.std.specs.Prelude.{◌≡◌, ℕ, List, [], ◌∷◌, ◌++◌, length, take, drop, nat_le, if◌then◌else◌}
use Rattle.oftp_vfile.specs.declared.format.TheConstants.{BLOCK}

-- The new rows and the new tail continue the old ones. The old tail, with more octets after it, is still the tail, or the first new row.
abbrev pub HasGrown : List (List ℕ) → List ℕ → List (List ℕ) → List ℕ → Type 0
HasGrown rows tail rows' tail' =
    (more : List ℕ) × (behind : List (List ℕ)) × (rows' ++ tail' ∷ [] ≡ rows ++ (tail ++ more) ∷ behind)

-- these rows, and the block of 1024 octets if it is full
abbrev pub stream_rows : List (List ℕ) → List ℕ → List (List ℕ)
stream_rows rows octets = if nat_le BLOCK (length octets) then rows ++ take BLOCK octets ∷ [] else rows

-- the octets after the full block, or all of them
abbrev pub stream_tail : List ℕ → List ℕ
stream_tail octets = if nat_le BLOCK (length octets) then drop BLOCK octets else octets
