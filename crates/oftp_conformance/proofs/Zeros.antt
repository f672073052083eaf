-- Digits that stand for 0.
use Rattle.std.proofs.Common.{◌≡◌, ℕ, ◌+◌, ◌-◌, ◌*◌, true, ◌&&◌, List, [], ◌∷◌, arith}
use Rattle.std.specs.Prelude.{◌==◌, fold}
use Rattle.std.specs.List.{list_all}
use Rattle.std.proofs.lemmas.Grind.{common_steps}
use Rattle.oftp_wire.specs.Octets.{is_digit, number}

-- one more digit
step : (n c : ℕ) → is_digit c ≡ true → (n * 10 + (c - 48) == 0) ≡ (n == 0 && c == 48)
step n c d = grind (arith, common_steps)

-- digits after a number stand for 0 if it is 0, and each of them is
zeros_after : (n : ℕ) (w : List ℕ) → list_all is_digit w ≡ true
    → (fold (λ n c. n * 10 + (c - 48)) n w == 0) ≡ (n == 0 && list_all (λ c. c == 48) w)
zeros_after n [] d = grind (arith, common_steps)
zeros_after n (c ∷ cs) d = grind (arith, common_steps, step n c, zeros_after (n * 10 + (c - 48)) cs)

-- digits stand for 0 if each of them is 0
pub zeros : (w : List ℕ) → list_all is_digit w ≡ true → (number w == 0) ≡ list_all (λ c. c == 48) w
zeros w d = zeros_after 0 w d
