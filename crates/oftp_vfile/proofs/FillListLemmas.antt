-- Only fill follows the filling rule.
use Rattle.std.proofs.Common.{◌≡◌, ℕ, suc, zero, ◌+◌, ◌-◌, ◌<◌, ◌≤◌, Bool, true, false, cond, nat_lt, eqb, List, [], ◌∷◌, ◌++◌, length, take, drop, map, refl, sym, ap, ◌∙◌, subst, arith, All}
use Rattle.std.proofs.lemmas.Bool.{eqb-false, ltb-false, ltb-true}
use Rattle.std.proofs.lemmas.List.{length-append, length-drop, length-take-le}
use Rattle.std.proofs.lemmas.List.Elements.{All-cons, All-nil}
use Rattle.oftp_vfile.specs.Subrecord.{Subrecord, payload_of}
use Rattle.oftp_vfile.specs.Filling.{Filling, left_of, IfBuffer, IsFirstPayload}
use Rattle.oftp_vfile.specs.Fill.{needs, next_length, next_subrecord, behind, Packs, Fills, packed, fill_from, weight, fill}
use Rattle.oftp_vfile.specs.Packing.{PacksNext}
use Rattle.oftp_vfile.specs.declared.filling.Filled.{Filled}
use Rattle.oftp_vfile.specs.declared.filling.Filled.TheVariants.{Buffer, Done, More}
use Rattle.oftp_vfile.proofs.PackingLemmas.{needs_most, needs_some}
use Rattle.oftp_vfile.proofs.FillerLemmas.{packs_nothing, packs_one}

-- what is packed is a payload
pub packs_packed : (fuel free : ℕ) (records : List (List ℕ)) → free ≤ fuel → Packs free records (packed fuel free records).0 (packed fuel free records).1
unfolding packed
packs_packed zero free [] h = (refl, tt)
packs_packed zero free (r ∷ rs) h = (refl, omega (arith, needs_some r))
packs_packed (suc k) free [] h = (refl, tt)
packs_packed (suc k) free (r ∷ rs) h =
    let s : Subrecord = next_subrecord r free in
    let rest : List Subrecord × List (List ℕ) = packed k (free - (1 + length s.octets)) (behind r rs free) in
    let P : Bool → Type 0 = λ b. (b ≡ nat_lt free (needs r)) → Packs free (r ∷ rs) ((cond {A = List Subrecord × List (List ℕ)} b ([], r ∷ rs) (s ∷ rest.0, rest.1)).0) ((cond {A =
    List Subrecord × List (List ℕ)} b ([], r ∷ rs) (s ∷ rest.0, rest.1)).1) in
    let both : (b : Bool) → P b = λ b. elim b as P [
      | true ↦ λ e. (refl, ltb-true _ _ (sym e))
      | false ↦ λ e. (
        ltb-false _ _ (sym e),
        refl,
        packs_packed k (free - (1 + length s.octets)) (behind r rs free) (let n = needs_some r in let f : needs r ≤ free =
            ltb-false _ _ (sym e) in omega arith),
      )
    ] in
    both (nat_lt free (needs r)) refl

weight_behind : (r : List ℕ) (rs : List (List ℕ)) (free : ℕ) → needs r ≤ free → weight (behind r rs free) < weight (r ∷ rs)
weight_behind r rs free h =
    let n : ℕ = next_length r free in
    let Q : Bool → Type 0 = λ b. (b ≡ eqb n (length r)) → weight (cond b rs (drop n r ∷ rs)) < length r + 1 + weight rs in
    let both : (b : Bool) → Q b = λ b. elim b as Q [
      | true ↦ λ e. omega arith
      | false ↦ λ e. (let ne : n ≡ length r → ⊥ = eqb-false _ _ (sym e) in let l = length-drop n r in let k = long r h ne in omega (arith, l, k))
    ] in
    both (eqb n (length r)) refl
  where
    long : (r : List ℕ) → needs r ≤ free → (next_length r free ≡ length r → ⊥) → (0 < next_length r free) × (next_length r free ≤ length r)
    long [] h ne = absurd (ne (omega arith))
    long (x ∷ xs) h ne = (omega arith, omega arith)

weight_packs : (free : ℕ) (records : List (List ℕ)) (ss : List Subrecord) (left : List (List ℕ)) → Packs free records ss left → weight left + length ss ≤ weight records
weight_packs free records [] left p = let e = ap weight p.0 in omega (arith, e)
weight_packs free [] (s ∷ ss) left p = absurd p
weight_packs free (r ∷ rs) (s ∷ ss) left p = omega (arith, weight_behind r rs free p.0, weight_packs (free - (1 + length s.octets)) (behind r rs free) ss left p.2)

some_packed : (free : ℕ) (r : List ℕ) (rs : List (List ℕ)) (ss : List Subrecord) (left : List (List ℕ)) → 2 ≤ free → Packs free (r ∷ rs) ss left → 0 < length ss
some_packed free r rs [] left h p = absurd (let q : free < needs r = p.1 in let n = needs_most r in omega arith)
some_packed free r rs (s ∷ ss) left h p = omega arith

-- the payloads of fill are those of the rule
pub fills_fill : (fuel size : ℕ) (records : List (List ℕ)) → 2 ≤ size → weight records ≤ fuel → Fills size records (fill_from fuel size records)
unfolding fill_from
fills_fill zero size [] h w = refl
fills_fill zero size (r ∷ rs) h w = absurd (omega arith)
fills_fill (suc k) size [] h w = refl
fills_fill (suc k) size (r ∷ rs) h w =
    let p = packed size size (r ∷ rs) in
    let q : Packs size (r ∷ rs) p.0 p.1 = packs_packed size size (r ∷ rs) (omega arith) in
    let some = some_packed size r rs p.0 p.1 h q in
    let less = weight_packs size (r ∷ rs) p.0 p.1 q in
    (some, p.1, q, fills_fill k size p.1 h (omega (arith, some, less, w)))

-- no other payloads are
pub fills_one : (size : ℕ) (records : List (List ℕ)) (a b : List (List Subrecord)) → Fills size records a → Fills size records b → a ≡ b
fills_one size records [] [] p q = refl
fills_one size records [] (t ∷ ts) p q = absurd (packs_nothing size t q.1 q.0 (subst (λ (x : List (List ℕ)). Packs size x t q.1) p q.2))
fills_one size records (s ∷ ss) [] p q = absurd (packs_nothing size s p.1 p.0 (subst (λ (x : List (List ℕ)). Packs size x s p.1) q p.2))
fills_one size records (s ∷ ss) (t ∷ ts) p q =
    let same = packs_one size records s t p.1 q.1 p.2 q.2 in
    let rest = fills_one size p.1 ss ts p.3 (subst (λ (x : List (List ℕ)). Fills size x ts) (sym same.1) q.3) in
    ap (λ (x : List Subrecord). x ∷ ss) same.0 ∙ ap (λ (x : List (List Subrecord)). t ∷ x) rest

-- a payload is the first of fill, and the others are fill of what is left
pub fill_first : (size : ℕ) (records : List (List ℕ)) (ss : List Subrecord) (left : List (List ℕ)) → 2 ≤ size → 0 < length ss → Packs size records ss left
    → fill size records ≡ payload_of ss ∷ fill size left
fill_first size records ss left h s p =
    let all : Fills size records (ss ∷ fill_from (weight left) size left) = (s, left, p, fills_fill (weight left) size left h (omega arith)) in
    ap (map payload_of) (fills_one size records (fill_from (weight records) size records) (ss ∷ fill_from (weight left) size left) (fills_fill (weight records) size records h (omega arith)) all)

pub first_next : (size : ℕ) (old new : Filling) (rows : List (List ℕ)) (last : Bool) (octets : List ℕ) → 2 ≤ size → PacksNext size old new rows last octets
    → IsFirstPayload size old new rows last octets
first_next size old new rows last octets h n more b =
    let p = n more b in
    fill_first size (left_of old (rows ++ more)) p.0 _ h p.2 p.3 ∙ ap (λ (x : List ℕ). x ∷ fill size (left_of new (drop (new.row - old.row) rows ++ more))) (sym p.1)

pub first_if : (size : ℕ) (old new : Filling) (rows : List (List ℕ)) (last : Bool) (out : List ℕ) (r : Filled) → 2 ≤ size
    → IfBuffer r (λ n. (n ≤ size) × PacksNext size old new rows last (take n out)) → IfBuffer r (λ n. (n ≤ size) × IsFirstPayload size old new rows last (take n out))
first_if size old new rows last out (Buffer n) h p = (p.0, first_next size old new rows last (take n out) h p.1)
first_if size old new rows last out Done h p = tt
first_if size old new rows last out More h p = tt

-- a payload has an octet and fits
packs_fits : (free : ℕ) (records : List (List ℕ)) (ss : List Subrecord) (left : List (List ℕ)) → Packs free records ss left → length (payload_of ss) ≤ free
packs_fits free records [] left p = omega arith
packs_fits free [] (s ∷ ss) left p = absurd p
packs_fits free (r ∷ rs) (s ∷ ss) left p =
    let ih = packs_fits (free - (1 + length s.octets)) (behind r rs free) ss left p.2 in
    let n : length s.octets ≡ next_length r free = ap (λ (x : Subrecord). length x.octets) p.1 ∙ length-take-le (next_length r free) r (omega arith) in
    let some = needs_some r in
    omega (arith, ih, n, some, p.0, length-append s.octets (payload_of ss))

payload_some : (ss : List Subrecord) → 0 < length ss → 0 < length (payload_of ss)
payload_some [] h = h
payload_some (s ∷ ss) h = omega arith

fills_fit : (size : ℕ) (records : List (List ℕ)) (subs : List (List Subrecord)) → Fills size records subs → All (λ (p : List ℕ). (0 < length p) × (length p ≤ size)) (map payload_of subs)
fills_fit size records [] p = All-nil (λ (p : List ℕ). (0 < length p) × (length p ≤ size))
fills_fit size records (ss ∷ rest) p =
    All-cons (λ (q : List ℕ). (0 < length q) × (length q ≤ size)) (payload_of ss) (map payload_of rest) (payload_some ss p.0, packs_fits size records ss p.1 p.2) (fills_fit size p.1 rest p.3)

pub fill_fits : (size : ℕ) (records : List (List ℕ)) → 2 ≤ size → All (λ (p : List ℕ). (0 < length p) × (length p ≤ size)) (fill size records)
fill_fits size records h = fills_fit size records (fill_from (weight records) size records) (fills_fill (weight records) size records h (omega arith))
