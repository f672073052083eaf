-- The tests of two numbers.
use Rattle.std.proofs.Common.{◌≡◌, ◌==◌, ◌<◌, ℕ, true, false, arith}
use Rattle.std.proofs.lemmas.Bool.Decides.{nat_tests}

pub unlike : (m n : ℕ) → m < n → (m == n) ≡ false
unlike m n h = grind (arith, nat_tests, h)

pub above : (m n : ℕ) → n < m → (m == n) ≡ false
above m n h = grind (arith, nat_tests, h)

pub alike : (n : ℕ) → (n == n) ≡ true
alike n = grind (arith, nat_tests)
