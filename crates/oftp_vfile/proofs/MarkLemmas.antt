-- No more rows are wholly sent than there are.
use Rattle.std.proofs.Common.{◌≡◌, ℕ, suc, zero, ◌+◌, ◌-◌, ◌*◌, ◌/◌, ◌≤◌, Bool, true, false, cond, eqb, nat_lt, List, [], ◌∷◌, ◌++◌, length, take, drop, count_by, refl, ap, arith}
use Rattle.std.specs.List.{flat_map}
use Rattle.std.proofs.lemmas.Bool.{eqb-true}
use Rattle.std.proofs.lemmas.List.{length-append, length-drop, length-take-le}
use Rattle.std.proofs.lemmas.List.Sums.{sum_by-append, sum_by-cons}
use Rattle.std.proofs.lemmas.List.Concat.{flat_map-append}
use Rattle.oftp_vfile.specs.declared.format.TheConstants.{BLOCK}
use Rattle.oftp_vfile.specs.declared.format.Format.{Format}
use Rattle.oftp_vfile.specs.declared.format.Format.TheVariants.{Fixed, Variable, Unstructured, Text}
use Rattle.oftp_vfile.specs.VirtualFile.{octets_in, AreBlocks, AreRows}
use Rattle.oftp_vfile.specs.Subrecord.{Subrecord, octets_of}
use Rattle.oftp_vfile.specs.Fill.{behind, fill_from, needs, next_length, next_subrecord, packed, weight, wholly_sent}

-- how many records these subrecords end
ended : List Subrecord → ℕ
ended subs = count_by (λ (s : Subrecord). s.ends) subs

ended-cons : (s : Subrecord) (ss : List Subrecord) → ended (s ∷ ss) ≡ cond s.ends 1 0 + ended ss
unfolding ended
ended-cons s ss = sum_by-cons (λ (x : Subrecord). cond x.ends 1 0) s ss

ended-append : (xs ys : List Subrecord) → ended (xs ++ ys) ≡ ended xs + ended ys
unfolding ended
ended-append xs ys = sum_by-append (λ (x : Subrecord). cond x.ends 1 0) xs ys

-- the subrecords and what they leave have the records and the octets that there were
record Splits (records : List (List ℕ)) (p : List Subrecord × List (List ℕ)) : Type 0 where
  rows : ended p.0 + length p.1 ≡ length records
  octets : length (octets_of p.0) + length (octets_in p.1) ≡ length (octets_in records)

-- what is left after one subrecord of a record
left_of_one : (r : List ℕ) (rs : List (List ℕ)) (n : ℕ) (whole : Bool) → eqb n (length r) ≡ whole → n ≤ length r
    → let left = cond whole rs (drop n r ∷ rs) in (cond whole 1 0 + length left ≡ suc (length rs)) × (n + length (octets_in left) ≡ length (octets_in (r ∷ rs)))
left_of_one r rs n true h within = (omega arith, omega (arith, eqb-true n (length r) h, length-append r (octets_in rs)))
left_of_one r rs n false h within = (omega arith, omega (arith, within, length-append r (octets_in rs), length-append (drop n r) (octets_in rs), length-drop n r))

packed_splits : (k free : ℕ) (records : List (List ℕ)) → Splits records (packed k free records)
unfolding packed ended
packed_splits zero free records = record { rows = omega arith; octets = omega arith }
packed_splits (suc k) free [] = record { rows = omega arith; octets = omega arith }
packed_splits (suc k) free (r ∷ rs) = by (packed_splits k (free - (1 + length (next_subrecord r free).octets)) (behind r rs free)) (nat_lt free (needs r))
  where
    s : Subrecord
    s = next_subrecord r free

    left : List (List ℕ)
    left = behind r rs free

    rest : List Subrecord × List (List ℕ)
    rest = packed k (free - (1 + length s.octets)) left

    by : Splits left rest → (full : Bool) → Splits (r ∷ rs) (cond full ([], r ∷ rs) (s ∷ rest.0, rest.1))
    by ih true = record { rows = omega arith; octets = omega arith }
    by ih false =
        let n : length s.octets ≡ next_length r free = length-take-le (next_length r free) r (omega arith) in
        let one = left_of_one r rs (next_length r free) s.ends refl (omega arith) in
        record {
          rows = omega (arith, ih.rows, one.0, ended-cons s rest.0);
          octets = omega (arith, ih.octets, one.1, n, length-append s.octets (octets_of rest.0));
        }

-- the payloads of these records
front : ℕ → ℕ → ℕ → List (List ℕ) → List Subrecord
front m k size records = flat_map (λ ss. ss) (take k (fill_from m size records))

front_few : (m k size : ℕ) (records : List (List ℕ)) → (ended (front m k size records) ≤ length records) × (length (octets_of (front m k size records)) ≤ length (octets_in records))
unfolding front fill_from ended
front_few m zero size records = (omega arith, omega arith)
front_few zero (suc k) size records = (omega arith, omega arith)
front_few (suc m) (suc k) size [] = (omega arith, omega arith)
front_few (suc m) (suc k) size (r ∷ rs) =
    let p = packed size size (r ∷ rs) in
    let one = packed_splits size size (r ∷ rs) in
    let ih = front_few m k size p.1 in
    let more = front m k size p.1 in (
      omega (arith, one.rows, ih.0, ended-append p.0 more),
      omega (arith, one.octets, ih.1, ap length (flat_map-append (λ (s : Subrecord). s.octets) p.0 more), length-append (octets_of p.0) (octets_of more)),
    )

-- blocks have no more octets than they may
blocks_few : (rows : List (List ℕ)) → AreBlocks BLOCK rows → length (octets_in rows) ≤ BLOCK * length rows
blocks_few [] a = omega arith
blocks_few (r ∷ []) a = omega (arith, a.1, length-append r [])
blocks_few (r ∷ q ∷ rs) a = let ih = blocks_few (q ∷ rs) a.1 in omega (arith, a.0, ih, length-append r (octets_in (q ∷ rs)))

stream_few : (k size : ℕ) (rows : List (List ℕ)) → AreBlocks BLOCK rows → let records = octets_in rows ∷ [] in length (octets_of (front (weight records) k size records)) / BLOCK ≤ length rows
stream_few k size rows a =
    let few = (front_few (weight (octets_in rows ∷ [])) k size (octets_in rows ∷ [])).1 in
    omega (arith, few, blocks_few rows a, length-append (octets_in rows) [])

pub sent_few : (format : Format) (longest size k : ℕ) (rows : List (List ℕ)) → AreRows format longest rows → wholly_sent format size rows k ≤ length rows
unfolding front ended
sent_few Fixed longest size k rows a = (front_few (weight rows) k size rows).0
sent_few Variable longest size k rows a = (front_few (weight rows) k size rows).0
sent_few Unstructured longest size k rows a = stream_few k size rows a
sent_few Text longest size k rows a = stream_few k size rows a
