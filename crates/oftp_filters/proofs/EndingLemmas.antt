-- What comes behind the first octet of a text, and endings of it.
use Rattle.std.proofs.Common.{◌≡◌, ◌-◌, ◌<◌, ◌≤◌, ℕ, Bool, List, [], ◌∷◌, arith, drop, false, length, refl, slice_index_or, subst, sym, take, true}
use Rattle.std.proofs.lemmas.List.{take_all}
use Rattle.oftp_filters.specs.Patterns.{an_ending, matches}
use Rattle.oftp_filters.specs.declared.pattern.TheConstants.{ANY}

-- what comes behind the first octet
pub behind : (x : ℕ) (xs : List ℕ) → take (length (x ∷ xs) - 1) (drop 1 (x ∷ xs)) ≡ xs
behind x xs = take_all (length (x ∷ xs) - 1) xs (omega arith)

-- the text behind its first octet is shorter
pub behind_shorter : (xs : List ℕ) → 1 ≤ length xs → length (take (length xs - 1) (drop 1 xs)) < length xs
behind_shorter [] le = absurd (omega (arith, le))
behind_shorter (x ∷ xs) le = subst (λ (ys : List ℕ). length ys < length (x ∷ xs)) (sym (behind x xs)) (omega arith)

pub ending_found : (has : List ℕ → Bool) (xs : List ℕ) → has xs ≡ true → an_ending has xs ≡ true
ending_found has [] is = is
ending_found has (x ∷ xs) is = rw is refl

pub ending_missed : (has : List ℕ → Bool) (xs : List ℕ) → 1 ≤ length xs → has xs ≡ false
    → an_ending has xs ≡ an_ending has (take (length xs - 1) (drop 1 xs))
ending_missed has [] le is = absurd (omega (arith, le))
ending_missed has (x ∷ xs) le is =
    subst (λ (ys : List ℕ). an_ending has (x ∷ xs) ≡ an_ending has ys) (sym (behind x xs)) (rw is refl)

pub last_ending : (has : List ℕ → Bool) (xs : List ℕ) → length xs < 1 → an_ending has xs ≡ has []
last_ending has [] lt = refl
last_ending has (x ∷ xs) lt = absurd (omega (arith, lt))

pub matches-any : (pattern text : List ℕ) → 1 ≤ length pattern → slice_index_or pattern 0 0 ≡ ANY
    → matches pattern text ≡ an_ending (matches (take (length pattern - 1) (drop 1 pattern))) text
matches-any [] text le is = absurd (omega (arith, le))
matches-any (sign ∷ pattern) text le is =
    subst (λ (ps : List ℕ). matches (sign ∷ pattern) text ≡ an_ending (matches ps) text) (sym (behind sign pattern)) (rw is refl)
