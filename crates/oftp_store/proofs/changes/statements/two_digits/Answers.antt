use Rattle.std.proofs.Common.{◌≡◌, refl, ap, ◌∙◌, arith, [], ◌∷◌, ◌++◌, ℕ, ◌/◌, ◌%◌, ◌+◌, ◌<◌}
use Rattle.oftp_wire.specs.Octets.{decimal}
use Rattle.oftp_store.proofs.changes.statements.two_digits.Goals as goal

two : (n : ℕ) → n < 100 → (48 + n / 10) ∷ (48 + n % 10) ∷ [] ≡ decimal 2 n
unfolding decimal
two n small = let tens : n / 10 % 10 ≡ n / 10 = omega (arith, small) in rw tens refl

pub returns-clause-digits : goal.returns-clause-digits
returns-clause-digits c =
    c.push-2.ensures.items ∙ ap (λ xs. xs ++ (48 + c.get-value.result % 10) ∷ []) (c.push.ensures.items ∙ ap (λ xs. xs ++ (48 + c.get-value.result / 10) ∷ []) c.new-digits.ensures)
    ∙ two _ c.get-value.ensures.fits ∙ ap (decimal 2) c.get-value.ensures.value
