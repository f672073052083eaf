-- What the scans of octets find.
use Rattle.std.proofs.Common.{◌≡◌, ℕ, zero, suc, ◌<◌, Bool, true, ◌&&◌, ◌||◌, eqb, leb, List, [], ◌∷◌, refl, inl, inr, arith, Result, Ok, Err, IsOk, MatchResult}
use Rattle.std.specs.List.{list_all}
use Rattle.std.specs.Str.{IsUtf8, IsAscii}
use Rattle.std.proofs.lemmas.Bool.{eqb-true, leb-true, and_parts, or_cases}
use Rattle.std.proofs.lemmas.Str.{IsUtf8-from_ascii}
use Rattle.oftp_wire.specs.Octets.{is_allowed, is_digit, IsName, IsDigits}

-- one of two tests
or_small : (a b : Bool) (c : ℕ) → (a ≡ true → c < 128) → (b ≡ true → c < 128) → (a || b) ≡ true → c < 128
or_small a b c p q h = elim (or_cases a b h) [ inl e ↦ p e | inr e ↦ q e ]

-- a range below 128
range_small : (lo hi c : ℕ) → hi < 128 → (leb lo c && leb c hi) ≡ true → c < 128
range_small lo hi c le h = let e = leb-true c hi (and_parts (leb lo c) (leb c hi) h).1 in omega arith

-- one character below 128
one_small : (c d : ℕ) → d < 128 → eqb c d ≡ true → c < 128
one_small c d le h = let e = eqb-true c d h in omega arith

-- an allowed character is ASCII
allowed_small : (c : ℕ) → is_allowed c ≡ true → c < 128
unfolding is_allowed
allowed_small c h =
    or_small _ _ c (or_small _ _ c (or_small _ _ c (or_small _ _ c
    (or_small _ _ c (or_small _ _ c (or_small _ _ c (range_small 48 57 c (omega arith)) (range_small 65 90 c (omega arith)))
    (one_small c 47 (omega arith))) (one_small c 45 (omega arith))) (one_small c 46 (omega arith))) (one_small c 38 (omega arith)))
    (one_small c 40 (omega arith))) (one_small c 41 (omega arith)) h

-- octets that pass a test for ASCII are ASCII
each_small : (p : ℕ → Bool) → ((c : ℕ) → p c ≡ true → c < 128) → (v : List ℕ) → list_all p v ≡ true → IsAscii v
each_small p small [] h zero = omega arith
each_small p small [] h (suc i) = omega arith
each_small p small (c ∷ cs) h zero = small c (and_parts (p c) (list_all p cs) h).0
each_small p small (c ∷ cs) h (suc i) = each_small p small cs (and_parts (p c) (list_all p cs) h).1 i

-- UTF-8 isn't refused as a text
pub is_text : {T E A : Type 0} (P : T → Type 0) (Q : E → Type 0) (r : Result T E) → MatchResult r P (λ e. (A → ⊥) × Q e) → A → IsOk r
is_text P Q (Ok x) h a = refl
is_text P Q (Err e) h a = absurd (h.0 a)

-- a name is a text
pub name_utf8 : (n : ℕ) (v : List ℕ) → IsName n v → IsUtf8 v
name_utf8 n v h = IsUtf8-from_ascii v (each_small is_allowed allowed_small v h.1)

-- digits are a text
pub digits_utf8 : (n : ℕ) (v : List ℕ) → IsDigits n v → IsUtf8 v
digits_utf8 n v h = IsUtf8-from_ascii v (each_small is_digit (λ c. range_small 48 57 c (omega arith)) v h.1)
