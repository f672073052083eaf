-- What the scans of octets find.
use Rattle.std.proofs.Common.{◌≡◌, ℕ, Bool, true, false, List, [], ◌∷◌, take, refl}
use Rattle.std.specs.List.{list_all, prefix_len}
use Rattle.std.specs.Str.{IsUtf8, is_utf8}
use Rattle.std.proofs.Math.Numerals.{one-add}
use Rattle.std.proofs.lemmas.Str.{IsUtf8-from_is_utf8, is_utf8-from_IsUtf8}
use Rattle.oftp_wire.specs.Octets.{is_allowed}

-- one more octet
front_step : (p : ℕ → Bool) (c : ℕ) (cs : List ℕ) (b : Bool) → p c ≡ b → list_all p (take (prefix_len p cs) cs) ≡ true → list_all p (take (prefix_len p (c ∷ cs)) (c ∷ cs)) ≡ true
front_step p c cs true e h = rw (e, one-add, e) h
front_step p c cs false e h = rw e refl

-- the beginning passes the test
front_passes : (p : ℕ → Bool) (w : List ℕ) → list_all p (take (prefix_len p w) w) ≡ true
front_passes p [] = refl
front_passes p (c ∷ cs) = front_step p c cs (p c) refl (front_passes p cs)

-- the value has only allowed characters
pub value_allowed : (w : List ℕ) → list_all is_allowed (take (prefix_len is_allowed w) w) ≡ true
value_allowed w = front_passes is_allowed w

-- by the result of the test
not_by : (w : List ℕ) (b : Bool) → is_utf8 w ≡ b → (IsUtf8 w → ⊥) → is_utf8 w ≡ false
not_by w true e h = absurd (h (IsUtf8-from_is_utf8 w e))
not_by w false e h = e

-- the test fails if octets aren't UTF-8
pub not_utf8 : (w : List ℕ) → (IsUtf8 w → ⊥) → is_utf8 w ≡ false
not_utf8 w h = not_by w (is_utf8 w) refl h

-- the result of the test, either way
pub ruleset utf8_test = (is_utf8-from_IsUtf8, not_utf8)
