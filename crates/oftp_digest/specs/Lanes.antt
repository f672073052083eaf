-- Four messages side by side: each word of a hash value is a vector, with one lane for each message.
use Rattle.std.specs.Prelude.{ℕ, List, [], ◌∷◌, take, drop, slice_index, slice_index_or}

-- lane j of vector k
abbrev pub lane_at : List (List ℕ) → ℕ → ℕ → ℕ
lane_at x k j = slice_index (slice_index_or x k []) j

-- the eight words of message j
abbrev pub lane : List (List ℕ) → ℕ → List ℕ
lane x j =
    lane_at x 0 j ∷ lane_at x 1 j ∷ lane_at x 2 j ∷ lane_at x 3 j
    ∷ lane_at x 4 j ∷ lane_at x 5 j ∷ lane_at x 6 j ∷ lane_at x 7 j ∷ []

-- the sixteen words of message j
abbrev pub ring : List (List ℕ) → ℕ → List ℕ
ring x j =
    lane_at x 0 j ∷ lane_at x 1 j ∷ lane_at x 2 j ∷ lane_at x 3 j
    ∷ lane_at x 4 j ∷ lane_at x 5 j ∷ lane_at x 6 j ∷ lane_at x 7 j
    ∷ lane_at x 8 j ∷ lane_at x 9 j ∷ lane_at x 10 j ∷ lane_at x 11 j
    ∷ lane_at x 12 j ∷ lane_at x 13 j ∷ lane_at x 14 j ∷ lane_at x 15 j ∷ []

-- so many octets from a place on
abbrev pub part : List ℕ → ℕ → ℕ → List ℕ
part octets at count = take count (drop at octets)
