-- A look-up finds each partner, if each code is new.
use Rattle.std.proofs.Common.{◌≡◌, ℕ, ◌≤◌, length, List, [], ◌∷◌, ◌++◌, Option, Some, None, is_some, true, false, cond, refl, ◌∙◌, inl, inr, arith}
use Rattle.std.proofs.lemmas.Bool.{cases_Bool, or_parts}
use Rattle.std.specs.List.{AllByRecursion}
use Rattle.std.specs.Str.{bytes_eq}
use Rattle.std.proofs.lemmas.Cmp.{nat_list_eq_equiv}
use Rattle.oftp_partners.specs.declared.partner.Station.{Station}
use Rattle.oftp_partners.specs.declared.partner.Partner.{Partner}
use Rattle.oftp_partners.specs.Book.{partner_at, is_taken, IsStation, IsPartner, ArePartners, IsBook}

-- a partner after all others is found where no other is
at_last : (code : List ℕ) (ps : List Partner) (x : Partner) → partner_at code ps ≡ None → partner_at code (ps ++ x ∷ []) ≡ cond (bytes_eq x.code code) (Some x) None
at_last code [] x h = refl
at_last code (p ∷ ps) x h =
    elim (cases_Bool (bytes_eq p.code code)) [
      | inl same ↦ absurd (cc (rw same at h))
      | inr other ↦ rw other (at_last code ps x (rw other at h))
    ]

-- a partner that is found stays found
at_more : (code : List ℕ) (ps : List Partner) (x q : Partner) → partner_at code ps ≡ Some q → partner_at code (ps ++ x ∷ []) ≡ Some q
at_more code [] x q h = absurd (cc)
at_more code (p ∷ ps) x q h =
    elim (cases_Bool (bytes_eq p.code code)) [
      | inl same ↦ rw same (rw same at h)
      | inr other ↦ rw other (at_more code ps x q (rw other at h))
    ]

-- each partner is found with one more after it
each_more : (qs ps : List Partner) (x : Partner) → AllByRecursion (λ p. partner_at p.code ps ≡ Some p) qs → partner_at x.code (ps ++ x ∷ []) ≡ Some x
    → AllByRecursion (λ p. partner_at p.code (ps ++ x ∷ []) ≡ Some p) (qs ++ x ∷ [])
each_more [] ps x h last = (last, tt)
each_more (q ∷ qs) ps x h last = (at_more q.code ps x q h.0, each_more qs ps x h.1 last)

-- one more partner in its ranges
ranges_more : (ps : List Partner) (x : Partner) → AllByRecursion IsPartner ps → IsPartner x → AllByRecursion IsPartner (ps ++ x ∷ [])
ranges_more [] x h last = (last, tt)
ranges_more (p ∷ ps) x h last = (h.0, ranges_more ps x h.1 last)

-- an option without a value
none_from : {X : Type 0} (o : Option X) → is_some o ≡ false → o ≡ None
none_from None h = refl
none_from (Some x) h = absurd (cc)

-- a code that isn't taken isn't a partner's
pub free_code : (s : Station) (ps : List Partner) (code : List ℕ) → is_taken s ps code ≡ false → partner_at code ps ≡ None
unfolding is_taken
free_code s ps code new = none_from _ (or_parts (bytes_eq s.code code) (is_some (partner_at code ps)) new).1

pub are_partners_none : (s : Station) → ArePartners s []
are_partners_none s = record { ranges = tt; found = tt; own = refl }

pub are_partners_push : (s : Station) (ps : List Partner) (x : Partner) → ArePartners s ps → IsPartner x → is_taken s ps x.code ≡ false → ArePartners s (ps ++ x ∷ [])
unfolding is_taken
are_partners_push s ps x h ranged new =
    let (apart, free) = or_parts (bytes_eq s.code x.code) (is_some (partner_at x.code ps)) new in
    let none : partner_at x.code ps ≡ None = none_from _ free in
    let turned : bytes_eq x.code s.code ≡ false = nat_list_eq_equiv.symm x.code s.code ∙ apart in
    let itself : bytes_eq x.code x.code ≡ true = nat_list_eq_equiv.refl x.code in
    record {
      ranges = ranges_more ps x h.ranges ranged;
      found = each_more ps ps x h.found (at_last x.code ps x none ∙ rw itself refl);
      own = at_last s.code ps x h.own ∙ rw turned refl;
    }

pub is_book : (s : Station) (ps : List Partner) (n : ℕ) → length ps ≡ n → n ≤ 1000 → IsStation s → ArePartners s ps → IsBook (record { station = s; partners = ps })
is_book s ps n e few ranged h = record { station = ranged; partners = h; few = omega arith }
