-- Rotations of a word, bit by bit: those of a sum of rotations are nested.
use Rattle.std.proofs.Common.{◌≡◌, ℕ, ◌+◌, ◌-◌, ◌*◌, ◌/◌, ◌%◌, ◌^◌, ◌<◌, bit_or, bit_xor, refl, sym, ap, ◌∙◌, inl, inr, arith, mod-lt, pow_pos, shr-shr}
use Rattle.std.proofs.lemmas.Bool.{cases_lt}
use Rattle.std.proofs.lemmas.Nat.{or_lt, shr_le, xor_lt}
use Rattle.std.proofs.lemmas.Nat.Bits.{bit_at-zero, bit_at_above, bit_at_cat_high, bit_at_cat_low, bit_at_or, bit_at_xor, same_from_bits_below}
use Rattle.std.specs.Int.{w32, bit_at, rotate_right}

-- a rotation as two shifts
rotated_is : (x n : ℕ) → 0 < n → n < 32 → rotate_right w32 x n ≡ bit_or (x / 2 ^ n) (x * 2 ^ (32 - n) % 2 ^ 32)
rotated_is x n some few =
    let right : n % 32 ≡ n = omega arith in
    let left : (32 - n) % 32 ≡ 32 - n = omega arith in
    rw (right, left) refl

rotated_lt : (x n : ℕ) → x < 2 ^ 32 → 0 < n → n < 32 → rotate_right w32 x n < 2 ^ 32
rotated_lt x n fits some few =
    rw (rotated_is x n some few) (or_lt 32 (x / 2 ^ n) (x * 2 ^ (32 - n) % 2 ^ 32) (omega (arith, shr_le x n)) (mod-lt _ (pow_pos 32)))

-- a bit of what is shifted to the left
bit_shifted : (x n i : ℕ) → i < 32 → bit_at (x * 2 ^ n % 2 ^ 32) i ≡ bit_at (x * 2 ^ n + 0) i
bit_shifted x n i low =
    let y = x * 2 ^ n in
    let split : y ≡ y / 2 ^ 32 * 2 ^ 32 + y % 2 ^ 32 = omega arith in
    let same : y + 0 ≡ y / 2 ^ 32 * 2 ^ 32 + y % 2 ^ 32 = omega arith in
    sym (ap (λ z. bit_at z i) same ∙ bit_at_cat_low (y / 2 ^ 32) 32 (y % 2 ^ 32) i low)

-- a bit of a rotation
bit_rotated : (x n i : ℕ) → x < 2 ^ 32 → 0 < n → n < 32 → i < 32 → bit_at (rotate_right w32 x n) i ≡ bit_at x ((i + n) % 32)
bit_rotated x n i fits some few low =
    let right = ap (λ z. z % 2) (shr-shr x n i) in
    let both = ap (λ z. bit_at z i) (rotated_is x n some few) ∙ bit_at_or (x / 2 ^ n) (x * 2 ^ (32 - n) % 2 ^ 32) i in
    elim (cases_lt i (32 - n)) [
      | inl lt ↦
          let none = bit_shifted x (32 - n) i low ∙ bit_at_cat_low x (32 - n) 0 i lt ∙ bit_at-zero i in
          let place : n + i ≡ (i + n) % 32 = omega arith in
          both ∙ rw none (omega (arith, right, ap (bit_at x) place))
      | inr ge ↦
          let none = right ∙ bit_at_above x 32 (n + i) fits (omega arith) in
          let place : i - (32 - n) ≡ (i + n) % 32 = omega arith in
          let left = bit_shifted x (32 - n) i low ∙ bit_at_cat_high x (32 - n) 0 i (pow_pos (32 - n)) ge ∙ ap (bit_at x) place in
          both ∙ omega (arith, none, left)
    ]

-- two rotations of a word under xor, with the rotation by a done once
pub nested_two : (x a b : ℕ) → x < 2 ^ 32 → 0 < a → 0 < b → a + b < 32
    → rotate_right w32 (bit_xor x (rotate_right w32 x b)) a ≡ bit_xor (rotate_right w32 x a) (rotate_right w32 x (a + b))
nested_two x a b fits sa sb few =
    let inner = xor_lt 32 x (rotate_right w32 x b) fits (rotated_lt x b fits sb (omega arith)) in
    same_from_bits_below 32 _ _ (rotated_lt (bit_xor x (rotate_right w32 x b)) a inner sa (omega arith))
    (xor_lt 32 (rotate_right w32 x a) (rotate_right w32 x (a + b)) (rotated_lt x a fits sa (omega arith)) (rotated_lt x (a + b) fits (omega arith) few))
    (λ i low.
    let p = (i + a) % 32 in
    let place : (p + b) % 32 ≡ (i + (a + b)) % 32 = omega arith in
    let bits = (bit_at x p + bit_at x ((i + (a + b)) % 32)) % 2 in
    let nested : (bit_at x p + bit_at (rotate_right w32 x b) p) % 2 ≡ bits = rw (bit_rotated x b p fits sb (omega arith) (omega arith), place) refl in
    let plain : (bit_at (rotate_right w32 x a) i + bit_at (rotate_right w32 x (a + b)) i) % 2 ≡ bits =
    rw (bit_rotated x a i fits sa (omega arith) low, bit_rotated x (a + b) i fits (omega arith) few low) refl in
    bit_rotated (bit_xor x (rotate_right w32 x b)) a i inner sa (omega arith) low
    ∙ bit_at_xor x (rotate_right w32 x b) p ∙ nested ∙ sym (bit_at_xor (rotate_right w32 x a) (rotate_right w32 x (a + b)) i ∙ plain))

sum_of_three : (p q r : ℕ) → (p + (q + r) % 2) % 2 ≡ ((p + q) % 2 + r) % 2
sum_of_three p q r = omega arith

-- three rotations of a word under xor, each inside the one before
pub nested_three : (x a b c : ℕ) → x < 2 ^ 32 → 0 < a → 0 < b → 0 < c → a + (b + c) < 32
    → rotate_right w32 (bit_xor x (rotate_right w32 (bit_xor x (rotate_right w32 x c)) b)) a
    ≡ bit_xor (bit_xor (rotate_right w32 x a) (rotate_right w32 x (a + b))) (rotate_right w32 x (a + (b + c)))
nested_three x a b c fits sa sb sc few =
    let near = rotate_right w32 x b in
    let far = rotate_right w32 x (b + c) in
    let nearest : near < 2 ^ 32 = rotated_lt x b fits sb (omega arith) in
    let farther : far < 2 ^ 32 = rotated_lt x (b + c) fits (omega arith) (omega arith) in
    let both = xor_lt 32 near far nearest farther in
    let inner = xor_lt 32 x (bit_xor near far) fits both in
    let ra = rotate_right w32 x a in
    let rab = rotate_right w32 x (a + b) in
    let rabc = rotate_right w32 x (a + (b + c)) in
    let la : ra < 2 ^ 32 = rotated_lt x a fits sa (omega arith) in
    let lab : rab < 2 ^ 32 = rotated_lt x (a + b) fits (omega arith) (omega arith) in
    let labc : rabc < 2 ^ 32 = rotated_lt x (a + (b + c)) fits (omega arith) few in
    ap (λ y. rotate_right w32 (bit_xor x y) a) (nested_two x b c fits sb sc (omega arith))
    ∙ same_from_bits_below 32 _ _ (rotated_lt (bit_xor x (bit_xor near far)) a inner sa (omega arith)) (xor_lt 32 (bit_xor ra rab) rabc (xor_lt 32 ra rab la lab) labc)
    (λ i low.
    let p = (i + a) % 32 in
    let second : (p + b) % 32 ≡ (i + (a + b)) % 32 = omega arith in
    let third : (p + (b + c)) % 32 ≡ (i + (a + (b + c))) % 32 = omega arith in
    let q = bit_at x ((i + (a + b)) % 32) in
    let r = bit_at x ((i + (a + (b + c))) % 32) in
    let nested : (bit_at x p + (bit_at near p + bit_at far p) % 2) % 2 ≡ (bit_at x p + (q + r) % 2) % 2 =
    rw (bit_rotated x b p fits sb (omega arith) (omega arith), bit_rotated x (b + c) p fits (omega arith) (omega arith) (omega arith), second, third) refl in
    let plain : ((bit_at ra i + bit_at rab i) % 2 + bit_at rabc i) % 2 ≡ ((bit_at x p + q) % 2 + r) % 2 =
    rw (
      bit_rotated x a i fits sa (omega arith) low,
      bit_rotated x (a + b) i fits (omega arith) (omega arith) low,
      bit_rotated x (a + (b + c)) i fits (omega arith) few low,
    ) refl in
    bit_rotated (bit_xor x (bit_xor near far)) a i inner sa (omega arith) low
    ∙ bit_at_xor x (bit_xor near far) p ∙ ap (λ y. (bit_at x p + y) % 2) (bit_at_xor near far p) ∙ nested ∙ sum_of_three (bit_at x p) q r
    ∙ sym (bit_at_xor (bit_xor ra rab) rabc i ∙ ap (λ y. (y + bit_at rabc i) % 2) (bit_at_xor ra rab i) ∙ plain))
