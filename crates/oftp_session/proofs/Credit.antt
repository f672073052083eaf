-- A window of credit: payloads are counted modulo the window.
use Rattle.std.proofs.Common.{◌≡◌, ℕ, suc, ◌-◌, ◌%◌, ◌<◌, ◌≤◌, max, ap, ◌∙◌, arith}
use Rattle.std.proofs.Math.Nat.{suc-mod, mod-lt, mod-eq_of_lt, mod_self}

-- a payload that leaves credit
pub place_open : (n w c : ℕ) → 0 < w → 1 < c → max 1 c ≡ w - n % w → suc n % w ≡ suc (n % w)
place_open n w c some more is = suc-mod n w ∙ mod-eq_of_lt (let h : suc (n % w) < w = omega arith in h)

-- the last payload of a window
pub place_full : (n w c : ℕ) → 0 < w → c ≤ 1 → max 1 c ≡ w - n % w → suc n % w ≡ 0
place_full n w c some last is =
    let below = mod-lt n some in
    let whole : suc (n % w) ≡ w = omega (arith, below) in
    suc-mod n w ∙ ap (λ (m : ℕ). m % w) whole ∙ mod_self w
