-- Behind the place of the password each octet stays as it is.
use Rattle.std.proofs.Common.{Bool, ◌≡◌, ◌==◌, ◌||◌, ℕ, ◌≤◌, List, [], ◌∷◌, ◌++◌, Option, None, Some, true, false, refl, sym, ap, ◌∙◌, arith, if◌then◌else◌}
use Rattle.std.proofs.lemmas.Bool.Decides.{nat_tests}
use Rattle.std.proofs.lemmas.List.{append-nil, append_assoc}
use Rattle.oftp_wire.specs.Octets.{is_allowed}
use Rattle.oftp_contents.specs.Passwords.{IsTakenAlike, LeavesOctets, followed, hidden_octet, own_octet, passed_by, password_end, shown_octet}
use Rattle.oftp_contents.specs.declared.passwords.PasswordFinder.{PasswordFinder}

-- no password is there
none_there : (password : List ℕ) (f : PasswordFinder) → password_end f.order ≤ f.passed → own_octet password f ≡ None
unfolding own_octet
none_there password f over = grind (arith, nat_tests, over)

-- and an octet more changes nothing
stays : (f : PasswordFinder) (octet : ℕ) → password_end f.order ≤ f.passed → passed_by f octet ≡ f
unfolding passed_by
stays f octet over = grind (arith, nat_tests, over)

all_stay : (change : Option ℕ → ℕ → ℕ) → ((octet : ℕ) → change None octet ≡ octet) → (f : PasswordFinder) → password_end f.order ≤ f.passed
    → (password before octets : List ℕ) → followed change password f before octets ≡ record { finder = f; octets = before ++ octets }
all_stay change same f over password before [] = ap (λ z. record { finder = f; octets = z }) (sym (append-nil before))
all_stay change same f over password before (octet ∷ rest) =
    let behind = all_stay change same f over password (before ++ octet ∷ []) rest in
    let joined = ap (λ z. record { finder = f; octets = z }) (append_assoc before (octet ∷ []) rest) in
    rw (none_there password f over) rw (stays f octet over) rw (same octet) (behind ∙ joined)

pub left : (change : Option ℕ → ℕ → ℕ) → ((octet : ℕ) → change None octet ≡ octet) → (f : PasswordFinder) → password_end f.order ≤ f.passed
    → LeavesOctets change f
left change same f over = all_stay change same f over

pub hidden_same : (octet : ℕ) → hidden_octet None octet ≡ octet
unfolding hidden_octet
hidden_same octet = refl

pub shown_same : (octet : ℕ) → shown_octet None octet ≡ octet
unfolding shown_octet
shown_same octet = refl

allowed_33 : is_allowed 33 ≡ false
unfolding is_allowed
allowed_33 = refl

allowed_65 : is_allowed 65 ≡ true
unfolding is_allowed
allowed_65 = refl

allowed_66 : is_allowed 66 ≡ true
unfolding is_allowed
allowed_66 = refl

allowed_32 : is_allowed 32 ≡ false
unfolding is_allowed
allowed_32 = refl

allowed_42 : is_allowed 42 ≡ false
unfolding is_allowed
allowed_42 = refl

-- a space stays
of_space : (own : ℕ) → IsTakenAlike own 32 (shown_octet (Some own) (hidden_octet (Some own) 32))
unfolding hidden_octet shown_octet
of_space own = record { same = λ e. e; other = λ n. n; space = refl; allowed = refl }

-- the right character comes back
of_own : (own : ℕ) → (own == 32) ≡ false → shown_octet (Some own) (hidden_octet (Some own) own) ≡ own
unfolding hidden_octet shown_octet
of_own own no_space = grind (arith, nat_tests, no_space)

-- another character that is allowed
of_other : (own octet : ℕ) → (octet == 32) ≡ false → (octet == own) ≡ false → is_allowed octet ≡ true
    → shown_octet (Some own) (hidden_octet (Some own) octet) ≡ (if own == 65 then 66 else 65)
unfolding hidden_octet shown_octet
of_other own octet no_space other allowed = rw no_space rw other rw allowed refl

-- any other octet
of_foreign : (own octet : ℕ) → (octet == 32) ≡ false → (octet == own) ≡ false → is_allowed octet ≡ false
    → shown_octet (Some own) (hidden_octet (Some own) octet) ≡ 33
unfolding hidden_octet shown_octet
of_foreign own octet no_space other allowed = rw no_space rw other rw allowed refl

-- what another allowed character is played as
stand_in : (own octet : ℕ) → (a : Bool) → (own == 65) ≡ a → (octet == 32) ≡ false → (octet == own) ≡ false → is_allowed octet ≡ true
    → IsTakenAlike own octet (if own == 65 then 66 else 65)
stand_in own octet true is_a no_space other allowed = rw is_a record {
  same = λ e. grind (arith, nat_tests, other, e);
  other = λ n e. grind (arith, nat_tests, is_a, e);
  space = grind (arith, nat_tests, no_space);
  allowed = allowed_66 ∙ sym allowed;
}
stand_in own octet false is_a no_space other allowed = rw is_a record {
  same = λ e. grind (arith, nat_tests, other, e);
  other = λ n e. grind (arith, nat_tests, is_a, e);
  space = grind (arith, nat_tests, no_space);
  allowed = allowed_65 ∙ sym allowed;
}

-- no character that a password may have is 33
not_33 : (own : ℕ) → (own == 32) || is_allowed own ≡ true → ¬ (33 ≡ own)
not_33 own good e = grind (arith, nat_tests, allowed_33, good, e)

alike_by : (own octet : ℕ) → (s e a : Bool) → (octet == 32) ≡ s → (octet == own) ≡ e → is_allowed octet ≡ a → (own == 32) || is_allowed own ≡ true
    → IsTakenAlike own octet (shown_octet (Some own) (hidden_octet (Some own) octet))
alike_by own octet true e a is_space is_own allowed good =
    let same : octet ≡ 32 = grind (arith, nat_tests, is_space) in
    rw same (of_space own)
alike_by own octet false true a no_space is_own allowed good =
    let same : octet ≡ own = grind (arith, nat_tests, is_own) in
    let full : (own == 32) ≡ false = ap (λ z. z == 32) (sym same) ∙ no_space in
    rw same rw (of_own own full) (record { same = λ z. z; other = λ z. z; space = refl; allowed = refl })
alike_by own octet false false true no_space other allowed good =
    rw (of_other own octet no_space other allowed) (stand_in own octet (own == 65) refl no_space other allowed)
alike_by own octet false false false no_space other foreign good =
    rw (of_foreign own octet no_space other foreign) (record {
      same = λ e. grind (arith, nat_tests, other, e);
      other = λ n. not_33 own good;
      space = grind (arith, nat_tests, no_space);
      allowed = allowed_33 ∙ sym foreign;
    })

pub alike : (own octet : ℕ) → (own == 32) || is_allowed own ≡ true → IsTakenAlike own octet (shown_octet (Some own) (hidden_octet (Some own) octet))
alike own octet good = alike_by own octet (octet == 32) (octet == own) (is_allowed octet) refl refl refl good
