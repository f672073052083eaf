-- The test for UTF-8.
use Rattle.std.proofs.Common.{◌≡◌, ℕ, List, false, true, refl}
use Rattle.std.specs.Str.{IsUtf8, is_utf8}
use Rattle.std.proofs.lemmas.Str.{IsUtf8-from_is_utf8, is_utf8-from_IsUtf8}

-- the test for UTF-8 says no
pub not_utf8 : (octets : List ℕ) → (IsUtf8 octets → ⊥) → is_utf8 octets ≡ false
not_utf8 octets broken = elim (is_utf8 octets) as (λ b. is_utf8 octets ≡ b → b ≡ false) [
  | true ↦ λ e. absurd (broken (IsUtf8-from_is_utf8 octets e))
  | false ↦ λ e. refl
] refl

-- the test says yes
pub utf8_is : (octets : List ℕ) → IsUtf8 octets → is_utf8 octets ≡ true
utf8_is octets whole = is_utf8-from_IsUtf8 octets whole
