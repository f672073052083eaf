-- What holds of each lane, and of each word.
use Rattle.std.proofs.Common.{◌≡◌, ℕ, zero, suc, ◌<◌, ◌≤◌, ◌+◌, ◌*◌, ◌/◌, ◌%◌, ◌^◌, List, [], ◌∷◌, length, slice_index, slice_set, replicate, arith, refl, sym, ap, subst, ◌∙◌, inl, inr, Fits, w32}
use Rattle.std.proofs.lemmas.Bool.{cases_eq}
use Rattle.std.proofs.lemmas.List.{ext_get_or, get_or-set_other, get_or-set_same, length-set}
use Rattle.std.proofs.lemmas.Simd.{Each1-get_or, below_from_Fits, get_or-chunk, get_or-replicate, get_or-zip2}
use lib.Lanes.{Each1, zip2}
use Rattle.sha2.specs.Sha256.{word_at}
use Rattle.oftp_digest.specs.Lanes.{lane_at, part, ring}

-- what holds of each of the four lanes
pub below_four : (P : ℕ → Type 0) → P 0 → P 1 → P 2 → P 3 → (j : ℕ) → j < 4 → P j
below_four P p0 p1 p2 p3 zero h = p0
below_four P p0 p1 p2 p3 (suc zero) h = p1
below_four P p0 p1 p2 p3 (suc (suc zero)) h = p2
below_four P p0 p1 p2 p3 (suc (suc (suc zero))) h = p3
below_four P p0 p1 p2 p3 (suc (suc (suc (suc n)))) h = absurd (omega arith)

-- a lane is a word
pub lane_fits : (xs : List ℕ) (j : ℕ) → j < 4 → (length xs ≡ 4) × Each1 (Fits w32) xs → slice_index xs j < 2 ^ 32
lane_fits xs j h fits = Each1-get_or (λ x. x < 2 ^ 32) xs j 0 (omega (arith, fits.0)) (below_from_Fits w32 xs fits.1)

-- a lane of a vector, and one number for all lanes
pub lane_by_number : (f : ℕ → ℕ → ℕ) (xs : List ℕ) (number j : ℕ) → length xs ≡ 4 → j < 4
    → slice_index (zip2 f xs (number ∷ number ∷ number ∷ number ∷ [])) j ≡ f (slice_index xs j) number
lane_by_number f xs number j long h =
    get_or-zip2 f xs (replicate 4 number) j 0 0 0 (omega arith) h ∙ ap (f (slice_index xs j)) (get_or-replicate 4 j number 0 h)

-- what holds of each of the sixteen words
below_sixteen : (P : ℕ → Type 0) → P 0 → P 1 → P 2 → P 3 → P 4 → P 5 → P 6 → P 7 → P 8 → P 9 → P 10 → P 11 → P 12 → P 13 → P 14 → P 15
    → (k : ℕ) → k < 16 → P k
below_sixteen P a0 a1 a2 a3 a4 a5 a6 a7 b0 b1 b2 b3 b4 b5 b6 b7 k h =
    let place : 4 * (k / 4) + k % 4 ≡ k = omega arith in
    let low : k % 4 < 4 = omega arith in
    let of_row = λ (row : ℕ) (p0 : P (4 * row + 0)) (p1 : P (4 * row + 1)) (p2 : P (4 * row + 2)) (p3 : P (4 * row + 3)). below_four (λ j. P (4 * row + j)) p0 p1 p2 p3 (k % 4) low in
    subst P place
    (below_four (λ row. P (4 * row + k % 4)) (of_row 0 a0 a1 a2 a3) (of_row 1 a4 a5 a6 a7) (of_row 2 b0 b1 b2 b3) (of_row 3 b4 b5 b6 b7) (k / 4) (omega arith))

-- word k of message j
pub slice_index-ring : (x : List (List ℕ)) (j k : ℕ) → k < 16 → slice_index (ring x j) k ≡ lane_at x k j
slice_index-ring x j = below_sixteen _ refl refl refl refl refl refl refl refl refl refl refl refl refl refl refl refl

-- a list of sixteen vectors is determined by its places
same_ring : (xs ys : List ℕ) → length xs ≡ 16 → length ys ≡ 16 → ((k : ℕ) → k < 16 → slice_index xs k ≡ slice_index ys k) → xs ≡ ys
same_ring xs ys lx ly same = ext_get_or 0 xs ys (omega arith) (λ k h. same k (omega arith))

-- a vector put into a ring puts its lane into each message's
pub ring-slice_set : (x : List (List ℕ)) (place j : ℕ) (word : List ℕ) → length x ≡ 16 → place < 16
    → ring (slice_set x place word) j ≡ slice_set (ring x j) place (slice_index word j)
ring-slice_set x place j word long h =
    same_ring (ring (slice_set x place word) j) (slice_set (ring x j) place (slice_index word j)) refl (length-set (ring x j) place (slice_index word j)) (λ k below.
    slice_index-ring (slice_set x place word) j k below
    ∙ elim (cases_eq k place) [
      | inl same ↦
          rw same (ap (λ v. slice_index v j) (get_or-set_same x place word [] (omega arith)) ∙ sym (get_or-set_same (ring x j) place (slice_index word j) 0 h))
      | inr other ↦
          ap (λ v. slice_index v j) (get_or-set_other x place k word [] other) ∙ sym (slice_index-ring x j k below)
          ∙ sym (get_or-set_other (ring x j) place k (slice_index word j) 0 other)
    ])

-- a word of a part
pub word_at-part : (octets : List ℕ) (at place : ℕ) → place + 4 ≤ 64 → word_at (part octets at 64) place ≡ word_at octets (at + place)
word_at-part octets at place h =
    let read = λ (k n : ℕ) (low : k < 64) (same : at + k ≡ n). get_or-chunk at 64 octets k 0 low ∙ ap (slice_index octets) same in
    rw (
      read place (at + place) (omega arith) (omega arith),
      read (place + 1) (at + place + 1) (omega arith) (omega arith),
      read (place + 2) (at + place + 2) (omega arith) (omega arith),
      read (place + 3) (at + place + 3) (omega arith) (omega arith),
    ) refl

-- the place of a message
pub place_fits : (stride j : ℕ) → j < 4 → j * stride ≤ 3 * stride
place_fits stride = below_four _ (omega arith) (omega arith) (omega arith) (omega arith)
