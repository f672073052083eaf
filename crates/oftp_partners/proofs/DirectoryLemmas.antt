-- An index by codes, and the places of partners by their codes.
use Rattle.std.proofs.Common.{◌≡◌, ℕ, length, List, [], ◌∷◌, ◌++◌, Option, Some, None, option_map, is_some, Bool, true, false, cond, refl, sym, ◌∙◌, inl, inr, ⊎_elim, ◌⊎◌, subst, Vec, suc, get_or, ltb, arith}
use Rattle.std.specs.declared.alloc.Global.{Global}
use Rattle.std.specs.declared.cmp.Ordering.{Ordering}
use Rattle.std.specs.Prelude.{option_and_then, slice_get, IfSome}
use Rattle.std.specs.Borrow.{Bor}
use Rattle.std.proofs.lemmas.Option.{slice_get_read, slice_get_past}
use Rattle.std.proofs.lemmas.Bool.Decides.{nat_tests}
use Rattle.std.specs.Ordering.{is_eq, nat_cmp}
use Rattle.std.specs.Cmp.Lexicographic.{slice_cmp}
use Rattle.std.specs.Str.{bytes_eq}
use Rattle.std.specs.Map.{lookup, KeepsOthers, IsKeyTest, AreApart}
use Rattle.std.specs.BTreeMap.{BTreeMap, UpdatesBy}
use Rattle.std.proofs.lemmas.Bool.{cases_Bool, cond-true, cond-false}
use Rattle.std.proofs.lemmas.Cmp.{nat_list_eq_equiv, nat_list_cmp_total, eq_by_cmp_equiv}
use Rattle.std.proofs.lemmas.Slice.Eq.{bytes_eq-Decides}
use Rattle.std.proofs.lemmas.Map.Text.{is_eq-slice_cmp}
use Rattle.oftp_partners.specs.declared.partner.Partner.{Partner}
use Rattle.oftp_partners.specs.Book.{partner_at}
use Rattle.oftp_partners.specs.Directory.{place_at, indexed_at, IsIndex}

-- an element after one more
slice_get-more : {X : Type 0} (x : X) (xs : List X) (o : Option ℕ) → option_and_then (slice_get xs) o ≡ option_and_then (slice_get (x ∷ xs)) (option_map suc o)
slice_get-more x xs None = refl
slice_get-more x xs (Some i) = refl

-- an index is within a list if the next one is
is_some-suc : (o : Option ℕ) → is_some (option_map suc o) ≡ is_some o
is_some-suc None = refl
is_some-suc (Some i) = refl

-- an option with or without a value
cases_is_some : {X : Type 0} (o : Option X) → (o ≡ None) ⊎ (is_some o ≡ true)
cases_is_some None = inl refl
cases_is_some (Some x) = inr refl

-- the partner with a code is the one at its index
pub partner_at-place : (code : List ℕ) (ps : List Partner) → partner_at code ps ≡ option_and_then (slice_get ps) (place_at code ps)
partner_at-place code [] = refl
partner_at-place code (p ∷ ps) =
    elim (cases_Bool (bytes_eq p.code code)) [
      | inl same ↦ rw same refl
      | inr other ↦ rw other (partner_at-place code ps ∙ slice_get-more p ps (place_at code ps))
    ]

-- a code that no partner has has no index
place_at-none : (code : List ℕ) (ps : List Partner) → partner_at code ps ≡ None → place_at code ps ≡ None
place_at-none code [] h = refl
place_at-none code (p ∷ ps) h =
    elim (cases_Bool (bytes_eq p.code code)) [
      | inl same ↦ absurd (cc (rw same at h))
      | inr other ↦ rw other (rw (place_at-none code ps (rw other at h)) refl)
    ]

-- the index of a partner after all others, where no other has its code
place_at-last : (code : List ℕ) (ps : List Partner) (x : Partner) → place_at code ps ≡ None → bytes_eq x.code code ≡ true → place_at code (ps ++ x ∷ []) ≡ Some (length ps)
place_at-last code [] x h same = rw same refl
place_at-last code (p ∷ ps) x h same =
    elim (cases_Bool (bytes_eq p.code code)) [
      | inl here ↦ absurd (cc (rw here at h))
      | inr other ↦ elim (cases_is_some (place_at code ps)) [
        | inl none ↦ rw (other, place_at-last code ps x none same) refl
        | inr some ↦ absurd (cc (rw other at h, is_some-suc (place_at code ps)))
      ]
    ]

-- an index stays, and other codes still have none
place_at-other : (code : List ℕ) (ps : List Partner) (x : Partner) → bytes_eq x.code code ≡ false → place_at code (ps ++ x ∷ []) ≡ place_at code ps
place_at-other code [] x other = rw other refl
place_at-other code (p ∷ ps) x other = rw (place_at-other code ps x other) refl

-- the indexes with one more partner, with a new code
place_at-push : (code : List ℕ) (ps : List Partner) (x : Partner) → place_at x.code ps ≡ None → place_at code (ps ++ x ∷ []) ≡ cond (bytes_eq x.code code) (Some (length ps)) (place_at code ps)
place_at-push code ps x new =
    elim (cases_Bool (bytes_eq x.code code)) [
      | inl same ↦ rw same (place_at-last code ps x (subst (λ l. place_at l ps ≡ None) ((bytes_eq-Decides x.code code).0 same) new) same)
      | inr other ↦ rw other (place_at-other code ps x other)
    ]

-- what the index has leads to the partner
pub partner_at-indexed : (m : BTreeMap (Vec ℕ Global) ℕ) (ps : List Partner) (code : List ℕ) (told : Option ℕ) → IsIndex m ps → told ≡ indexed_at m code
    → option_and_then (slice_get ps) told ≡ partner_at code ps
partner_at-indexed m ps code told index is = rw (is, index code) (sym (partner_at-place code ps))

-- what `get` borrows is the element
pub slice_get-lent : (ps : List Partner) (i : ℕ) (lent : Option (Bor Partner)) → is_some lent ≡ ltb i (length ps)
    → IfSome lent (λ p. p.now ≡ get_or ps i p.now) → option_map (λ p. p.now) lent ≡ slice_get ps i
slice_get-lent ps i None past h = sym (slice_get_past ps i (grind (arith, nat_tests)))
slice_get-lent ps i (Some p) within h = sym (slice_get_read ps (length ps) i p.now refl (grind (arith, nat_tests)) h)

-- octets that differ from some differ from their equals
apart : (bs cs ks : List ℕ) → bytes_eq bs cs ≡ false → is_eq (slice_cmp nat_cmp bs ks) ≡ true → is_eq (slice_cmp nat_cmp cs ks) ≡ false
apart bs cs ks n y = is_eq-slice_cmp cs ks ∙ nat_list_eq_equiv.symm cs ks ∙ sym (nat_list_eq_equiv.congr bs ks cs (sym (is_eq-slice_cmp bs ks) ∙ y)) ∙ n

-- a change at one key doesn't affect what another test finds
module _ {K X : Type 0} (eq : K → K → Bool) (test : K → Bool) where
  other_entries : (old new : List (K × X)) → KeepsOthers eq test old new → (other : K → Bool) → IsKeyTest eq other → AreApart test other → lookup other new ≡ lookup other old
  unfolding KeepsOthers
  other_entries old new h = h

-- the order of keys that are octets
abbrev octets_cmp : Vec ℕ Global → Vec ℕ Global → Ordering
octets_cmp x y = slice_cmp nat_cmp x.items y.items

-- an index after a change under one code
indexed_at-update : (m n : BTreeMap (Vec ℕ Global) ℕ) (key : Vec ℕ Global) (w : Option ℕ) → UpdatesBy octets_cmp (octets_cmp key) m n w
    → (code : List ℕ) → indexed_at n code ≡ cond (bytes_eq key.items code) w (indexed_at m code)
indexed_at-update m n key w h code =
    ⊎_elim
    (λ y. subst (λ l. indexed_at n l ≡ w) ((bytes_eq-Decides key.items code).0 y) h.1 ∙ sym (cond-true (bytes_eq key.items code) w (indexed_at m code) y))
    (λ e. other_entries _ _ _ _ h.3 _ (λ x y. (eq_by_cmp_equiv nat_list_cmp_total).congr code x.items y.items) (λ k. apart key.items code k.items e)
    ∙ sym (cond-false (bytes_eq key.items code) w (indexed_at m code) e))
    (cases_Bool (bytes_eq key.items code))

-- an index with one more partner, with a new code
pub IsIndex-push : (m n : BTreeMap (Vec ℕ Global) ℕ) (key : Vec ℕ Global) (ps : List Partner) (x : Partner) (i : ℕ) → IsIndex m ps → partner_at x.code ps ≡ None
    → key.items ≡ x.code → i ≡ length ps → UpdatesBy octets_cmp (octets_cmp key) m n (Some i) → IsIndex n (ps ++ x ∷ [])
IsIndex-push m n key ps x i index new named last up code =
    indexed_at-update m n key (Some i) up code
    ∙ rw (named, last, index code) (sym (place_at-push code ps x (place_at-none x.code ps new)))
