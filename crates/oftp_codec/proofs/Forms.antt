-- What each form allows is the encoding of its values.
use Rattle.std.proofs.Common.{◌≡◌, ℕ, zero, suc, ◌+◌, ◌-◌, ◌^◌, ◌<◌, ◌≤◌, Bool, true, false, ◌||◌, cond, eqb, ltb, List, [], ◌∷◌, ◌++◌, length, take, drop, Some, None, refl, sym, ap, subst, ◌∙◌, arith, inl, inr}
use Rattle.std.specs.Prelude.{◌⊎◌, codes}
use Rattle.std.specs.List.{list_all, list_any, prefix_len}
use Rattle.std.specs.Str.{IsUtf8, bytes_eq}
use Rattle.std.proofs.Math.Numerals.{one-add}
use Rattle.std.proofs.lemmas.Bool.{eqb-true, ltb-false, le-ltb, and_parts, or_cases}
use Rattle.std.proofs.lemmas.List.{length-take, length-drop, length-append, length-replicate, take-append-drop, take_at, drop_at}
use Rattle.std.proofs.lemmas.Str.{IsUtf8-from_is_utf8}
use Rattle.std.proofs.lemmas.Slice.Eq.{bytes_eq-Decides}
use Rattle.oftp_wire.specs.declared.fault.WireFault.{WireFault}
use Rattle.oftp_wire.specs.declared.fault.WireFault.TheVariants.{WrongLength}
use Rattle.oftp_wire.specs.Octets.{part, is_digit, is_allowed, spaces, padded, value_of, is_padded, decimal, number, IsName, IsDigits}
use Rattle.oftp_codec.specs.Form.{Form, Name, Digits, OneOf, DigitsIf, Return, Utf8, size, allows, complaint, fault_of}
use Rattle.oftp_codec.specs.Reading.{layout_from, flag_form, mode_form, format_form}
use Rattle.oftp_codec.specs.Tables.{mode_of, format_of, has_records}
use Rattle.oftp_codec.specs.Tables.{flag_words, flag_octets, mode_words, mode_octets, format_words, format_octets, longest_of, is_recorded}
use Rattle.oftp_codec.specs.declared.format.Format.{Format}
use Rattle.oftp_codec.specs.declared.format.Format.TheVariants.{Fixed, Variable, Unstructured, Text}
use Rattle.oftp_wire.proofs.Decimals.{number_is}
use Rattle.oftp_codec.proofs.Scans.{value_allowed}

-- ---- a field without error

-- the field at an offset has no error; a record, so that lemmas find form and offset
pub record IsFine (form : Form) (at : ℕ) (o : List ℕ) : Type 0 where
  pub fine : fault_of form at o ≡ None

-- if neither test gives an error, the first is false and the second true
none_parts : (b d : Bool) (e f : WireFault) → cond b (Some e) (cond d None (Some f)) ≡ None → (b ≡ false) × (d ≡ true)
none_parts true d e f h = absurd cc
none_parts false true e f h = (refl, refl)
none_parts false false e f h = absurd cc

-- what is known of a field without error
pub record Found (form : Form) (at : ℕ) (o : List ℕ) : Type 0 where
  pub within : at + size form ≤ length o
  pub allowed : allows form (part at (size form) o) ≡ true

-- a field without error is within the octets and has an allowed value
pub found : {form : Form} {at : ℕ} {o : List ℕ} → IsFine form at o → Found form at o
unfolding fault_of
found {form} {at} {o} h =
    let p = none_parts (ltb (length o) (at + size form)) (allows form (part at (size form) o)) WrongLength (complaint form at) h.fine in
    record { within = ltb-false _ _ p.0; allowed = p.1 }

-- and the other way round
pub fine_from : (form : Form) (at : ℕ) (o : List ℕ) → at + size form ≤ length o → allows form (part at (size form) o) ≡ true → fault_of form at o ≡ None
unfolding fault_of
fine_from form at o within allowed = rw (le-ltb (length o) (at + size form) within, allowed) refl

-- a slice within the octets has its length
pub length-part : (at n : ℕ) (o : List ℕ) → at + n ≤ length o → length (part at n o) ≡ n
length-part at n o h = omega (arith, length-take n (drop at o), length-drop at o)

-- ---- names

-- if each octet is a space, the octets are spaces
all_spaces : (w : List ℕ) → list_all (λ c. eqb c 32) w ≡ true → w ≡ spaces (length w)
all_spaces [] h = refl
all_spaces (c ∷ cs) h =
    let p = and_parts (eqb c 32) (list_all (λ d. eqb d 32) cs) h in
    let e : c ≡ 32 = eqb-true c 32 p.0 in
    rw e (ap (λ (x : List ℕ). 32 ∷ x) (all_spaces cs p.1))

-- each of some spaces is a space
spaces_all : (n : ℕ) → list_all (λ c. eqb c 32) (spaces n) ≡ true
spaces_all zero = refl
spaces_all (suc n) = spaces_all n

-- padded octets are their value, padded
pub padded_is : (w : List ℕ) → is_padded w ≡ true → w ≡ padded (length w) (value_of w)
padded_is w h =
    let k = prefix_len is_allowed w in
    let rest = all_spaces (drop k w) h in
    let len : length (drop k w) ≡ length w - length (take k w) = omega (arith, length-drop k w, length-take k w) in
    sym (take-append-drop k w) ∙ ap (λ (x : List ℕ). take k w ++ x) (rest ∙ ap spaces len)

-- no space is an allowed character
front_spaces : (m : ℕ) → prefix_len is_allowed (spaces m) ≡ 0
unfolding is_allowed
front_spaces zero = refl
front_spaces (suc m) = refl

-- a padded value begins with as many allowed octets as it has
prefix_len-padded : (v : List ℕ) (m : ℕ) → list_all is_allowed v ≡ true → prefix_len is_allowed (v ++ spaces m) ≡ length v
prefix_len-padded [] m h = front_spaces m
prefix_len-padded (c ∷ cs) m h =
    let p = and_parts (is_allowed c) (list_all is_allowed cs) h in
    rw p.0 (one-add (prefix_len is_allowed (cs ++ spaces m)) ∙ ap suc (prefix_len-padded cs m p.1))

-- the value of a padded value is the value
pub value_of-padded : (n : ℕ) (v : List ℕ) → list_all is_allowed v ≡ true → value_of (padded n v) ≡ v
value_of-padded n v h = rw (prefix_len-padded v (n - length v) h) (take_at v (spaces (n - length v)) (length v) refl)

-- a padded value is padded
pub is_padded-padded : (n : ℕ) (v : List ℕ) → list_all is_allowed v ≡ true → is_padded (padded n v) ≡ true
is_padded-padded n v h = rw (prefix_len-padded v (n - length v) h, drop_at v (spaces (n - length v)) (length v) refl) (spaces_all (n - length v))

-- a padded value fills its field
pub length-padded : (n : ℕ) (v : List ℕ) → length v ≤ n → length (padded n v) ≡ n
length-padded n v h = omega (arith, length-append v (spaces (n - length v)), length-replicate {A = ℕ} (n - length v) 32)

-- ---- what a field without error encodes

-- a field X(n) without error encodes its value
pub name_ok : {n at : ℕ} {o : List ℕ} → IsFine (Name n) at o → IsName n (value_of (part at n o)) × (part at n o ≡ padded n (value_of (part at n o)))
name_ok {n} {at} {o} h =
    let f = found h in
    let w = part at n o in
    let len : length w ≡ n = length-part at n o f.within in
    ((omega (arith, len, length-take (prefix_len is_allowed w) w), value_allowed w), padded_is w f.allowed ∙ ap (λ (k : ℕ). padded k (value_of w)) len)

-- a field 9(n) without error encodes its digits
pub digits_ok : {n at : ℕ} {o : List ℕ} → IsFine (Digits n) at o → IsDigits n (part at n o) × (part at n o ≡ part at n o)
digits_ok {n} {at} {o} h = let f = found h in ((length-part at n o f.within, f.allowed), refl)

-- a field 9(n) without error encodes its number
pub count_ok : {n at : ℕ} {o : List ℕ} → IsFine (Digits n) at o → (number (part at n o) < 10 ^ n) × (part at n o ≡ decimal n (number (part at n o)))
count_ok {n} {at} {o} h =
    let f = found h in
    let r = number_is n (part at n o) (length-part at n o f.within) f.allowed in
    (r.small, sym r.again)

-- a number that another part of the table has
pub length_ok : {n at : ℕ} {o : List ℕ} (m : ℕ) → IsFine (Digits n) at o → number (part at n o) ≡ m → (m < 10 ^ n) × (part at n o ≡ decimal n m)
length_ok {n} {at} {o} m h e = subst (λ (x : ℕ). (x < 10 ^ n) × (part at n o ≡ decimal n x)) e (count_ok h)

-- fixed octets without error are these octets
pub word_ok : {v : List ℕ} {n at : ℕ} {o : List ℕ} → IsFine (OneOf n (v ∷ [])) at o → Unit {0} × (part at n o ≡ v)
word_ok {v} {n} {at} {o} h =
    let f = found h in
    (tt, elim (or_cases (bytes_eq (part at n o) v) false f.allowed) [ inl e ↦ (bytes_eq-Decides (part at n o) v).0 e | inr e ↦ absurd cc ])

-- a carriage return without error is 0D or 8D
pub return_ok : {at : ℕ} {o : List ℕ} → IsFine Return at o → Unit {0} × ((part at 1 o ≡ 13 ∷ []) ⊎ (part at 1 o ≡ 141 ∷ []))
return_ok {at} {o} h =
    let w = part at 1 o in
    (tt, elim (or_cases (bytes_eq w (13 ∷ [])) (bytes_eq w (141 ∷ [])) (found h).allowed) [ inl e ↦ inl ((bytes_eq-Decides w (13 ∷ [])).0 e) | inr e ↦ inr ((bytes_eq-Decides w (141 ∷ [])).0 e) ])

-- a text without error is in its range
pub text_ok : {n at : ℕ} {o : List ℕ} → n ≤ 999 → IsFine (Utf8 n) at o → ((length (part at n o) ≡ n) × (n ≤ 999) × IsUtf8 (part at n o)) × (part at n o ≡ part at n o)
text_ok {n} {at} {o} le h = let f = found h in ((length-part at n o f.within, le, IsUtf8-from_is_utf8 (part at n o) f.allowed), refl)

-- ---- fields with few values

-- one of the words, or another
among : (w v : List ℕ) (vs : List (List ℕ)) → list_any (bytes_eq w) (v ∷ vs) ≡ true → (w ≡ v) ⊎ (list_any (bytes_eq w) vs ≡ true)
among w v vs h = elim (or_cases (bytes_eq w v) (list_any (bytes_eq w) vs) h) [ inl e ↦ inl ((bytes_eq-Decides w v).0 e) | inr e ↦ inr e ]

-- octets encode the value f, which is one of some words
abbrev IsChoice : (List ℕ → List ℕ) → List (List ℕ) → ℕ → List ℕ → Type 0
IsChoice f ws n w = ((length (f w) ≡ n) × (list_any (bytes_eq (f w)) ws ≡ true)) × (w ≡ f w)

-- P holds of each word
abbrev OfEach : (List ℕ → Type 0) → List (List ℕ) → Type 0
OfEach P [] = Unit {0}
OfEach P (v ∷ vs) = P v × OfEach P vs

-- what holds of each word holds of the one that was found
chosen : (P : List ℕ → Type 0) (ws : List (List ℕ)) (w : List ℕ) → list_any (bytes_eq w) ws ≡ true → OfEach P ws → P w
chosen P [] w h each = absurd cc
chosen P (v ∷ vs) w h each = elim (among w v vs h) [ inl e ↦ subst P (sym e) each.0 | inr e ↦ chosen P vs w e each.1 ]

-- a flag without error is Y or N
pub flag_ok : {at : ℕ} {o : List ℕ} → IsFine flag_form at o → IsChoice (λ w. flag_octets (bytes_eq w (codes "Y"))) flag_words 1 (part at 1 o)
flag_ok {at} {o} h =
    chosen (IsChoice (λ w. flag_octets (bytes_eq w (codes "Y"))) flag_words 1) flag_words (part at 1 o) (found h).allowed
    (((refl, refl), refl), (((refl, refl), refl), tt))

-- a mode without error is its letter
pub mode_ok : {at : ℕ} {o : List ℕ} → IsFine mode_form at o → IsChoice (λ w. mode_octets (mode_of w)) mode_words 1 (part at 1 o)
mode_ok {at} {o} h =
    chosen (IsChoice (λ w. mode_octets (mode_of w)) mode_words 1) mode_words (part at 1 o) (found h).allowed
    (((refl, refl), refl), (((refl, refl), refl), (((refl, refl), refl), tt)))

-- a format without error is its letter
pub format_ok : {at : ℕ} {o : List ℕ} (n : ℕ) → IsFine format_form at o → IsChoice (λ w. format_octets (layout_from (format_of w) n)) format_words 1 (part at 1 o)
format_ok {at} {o} n h =
    chosen (IsChoice (λ w. format_octets (layout_from (format_of w) n)) format_words 1) format_words (part at 1 o) (found h).allowed
    (((refl, refl), refl), (((refl, refl), refl), (((refl, refl), refl), (((refl, refl), refl), tt))))

-- a layout has records where its format has
pub recorded_is : (f : Format) (n : ℕ) → is_recorded (layout_from f n) ≡ has_records f
recorded_is Fixed n = refl
recorded_is Variable n = refl
recorded_is Unstructured n = refl
recorded_is Text n = refl

-- octets encode the longest record of a format
pub record IsLongest (f : Format) (w : List ℕ) : Type 0 where
  pub small : longest_of (layout_from f (number w)) < 10 ^ 5
  pub zero_unless : has_records f ≡ false → longest_of (layout_from f (number w)) ≡ 0
  pub says : w ≡ decimal 5 (longest_of (layout_from f (number w)))

-- by the four formats
longest_by : (f : Format) (w : List ℕ) → number w < 10 ^ 5 → w ≡ decimal 5 (number w) → (has_records f || eqb (number w) 0) ≡ true → IsLongest f w
longest_by Fixed w lt e h = record { small = lt; zero_unless = λ u. absurd cc; says = e }
longest_by Variable w lt e h = record { small = lt; zero_unless = λ u. absurd cc; says = e }
longest_by Unstructured w lt e h = record { small = omega arith; zero_unless = λ u. refl; says = e ∙ ap (decimal 5) (eqb-true (number w) 0 h) }
longest_by Text w lt e h = record { small = omega arith; zero_unless = λ u. refl; says = e ∙ ap (decimal 5) (eqb-true (number w) 0 h) }

-- a longest record without error is its number
pub longest_ok : {at : ℕ} {o : List ℕ} (f : Format) → IsFine (DigitsIf (has_records f) 5) at o → IsLongest f (part at 5 o)
longest_ok {at} {o} f h =
    let w = part at 5 o in
    let g = found h in
    let p = and_parts (list_all is_digit w) (has_records f || eqb (number w) 0) g.allowed in
    let r = number_is 5 w (length-part at 5 o g.within) p.0 in
    longest_by f w r.small (sym r.again) p.1
