-- The payloads of fill carry the rows of the file, and no other rows.
use Rattle.std.proofs.Common.{◌≡◌, ℕ, suc, ◌+◌, ◌-◌, ◌<◌, ◌≤◌, Bool, true, false, cond, eqb, List, [], ◌∷◌, ◌++◌, length, take, drop, map, refl, sym, ap, ◌∙◌, subst, arith, append_assoc, ◌⊎◌, inl, inr, All}
use Rattle.std.specs.List.{flat_map}
use Rattle.std.proofs.lemmas.Bool.{cases_lt, eqb-true}
use Rattle.std.proofs.lemmas.List.{append-nil, length-append, map-append, length-take, take-append-drop, take_all, same_from_push}
use Rattle.oftp_vfile.specs.declared.format.TheConstants.{BLOCK}
use Rattle.oftp_vfile.specs.declared.format.Format.{Format}
use Rattle.oftp_vfile.specs.declared.format.Format.TheVariants.{Fixed, Variable, Unstructured, Text}
use Rattle.oftp_vfile.specs.declared.taking.Stage.{Stage}
use Rattle.oftp_vfile.specs.declared.taking.Stage.TheVariants.{Fresh, Open, Ended}
use Rattle.oftp_vfile.specs.Subrecord.{Subrecord, payload_of, octets_of, AreShort}
use Rattle.oftp_vfile.specs.Taking.{Taking, Took}
use Rattle.oftp_vfile.specs.VirtualFile.{octets_in, AreBlocks, AreRows, closed}
use Rattle.oftp_vfile.specs.Carries.{is_open, onto, pieces, IsStream, InBlocks, Carried, stage_of, Carries, CarriesWhole}
use Rattle.oftp_vfile.specs.Fill.{payloads_of, next_length, next_subrecord, behind, Packs, Fills, fill_from, weight}
use Rattle.std.proofs.lemmas.List.Elements.{All-push, All-nil, All-cons}
use Rattle.std.proofs.lemmas.List.Concat.{flat_map-append}
use Rattle.oftp_vfile.proofs.CarriesLemmas.{octets_in-pieces, decode, nothing_more, short-append, short-left, short-right, same_lengths, some_piece, pieces_more}
use Rattle.oftp_vfile.proofs.FillerLemmas.{packs_nothing}
use Rattle.oftp_vfile.proofs.FillListLemmas.{fills_fill}

abbrev pub flat : List (List Subrecord) → List Subrecord
flat subs = flat_map (λ (x : List Subrecord). x) subs

-- what is packed and what carries the rest carry the records
packs_pieces : (free : ℕ) (records : List (List ℕ)) (ss : List Subrecord) (left : List (List ℕ)) (rest : List Subrecord) → Packs free records ss left
    → pieces rest ≡ left ++ [] ∷ [] → pieces (ss ++ rest) ≡ records ++ [] ∷ []
packs_pieces free records [] left rest p e = e ∙ ap (λ (x : List (List ℕ)). x ++ [] ∷ []) p.0
packs_pieces free [] (s ∷ ss) left rest p e = absurd p
packs_pieces free (r ∷ rs) (s ∷ ss) left rest p e =
    let n : ℕ = next_length r free in
    let ih : pieces (ss ++ rest) ≡ behind r rs free ++ [] ∷ [] = packs_pieces (free - (1 + length s.octets)) (behind r rs free) ss left rest p.2 e in
    let Q : Bool → Type 0 = λ b. (b ≡ eqb n (length r)) → cond b (take n r ∷ (cond b rs (drop n r ∷ rs) ++ [] ∷ [])) (onto (take n r) (cond b rs (drop n r ∷ rs) ++ [] ∷ [])) ≡ (r ∷ rs) ++ [] ∷ [] in
    let both : (b : Bool) → Q b = λ b. elim b as Q [
      | true ↦ λ t. (let q : n ≡ length r = eqb-true _ _ (sym t) in ap (λ (x : List ℕ). x ∷ (rs ++ [] ∷ [])) (take_all n r (omega arith)))
      | false ↦ λ t. ap (λ (x : List ℕ). x ∷ (rs ++ [] ∷ [])) (take-append-drop n r)
    ] in
    ap (λ (x : Subrecord). cond x.ends (x.octets ∷ pieces (ss ++ rest)) (onto x.octets (pieces (ss ++ rest)))) p.1
    ∙ ap (λ (x : List (List ℕ)). cond (eqb n (length r)) (take n r ∷ x) (onto (take n r) x)) ih
    ∙ both (eqb n (length r)) refl

pub fills_pieces : (size : ℕ) (records : List (List ℕ)) (subs : List (List Subrecord)) → Fills size records subs → pieces (flat subs) ≡ records ++ [] ∷ []
fills_pieces size records [] p = ap (λ (x : List (List ℕ)). x ++ [] ∷ []) (sym p)
fills_pieces size records (ss ∷ rest) p = packs_pieces size records ss p.1 (flat rest) p.2 (fills_pieces size p.1 rest p.3)

packs_short : (free : ℕ) (records : List (List ℕ)) (ss : List Subrecord) (left : List (List ℕ)) (rest : List Subrecord) → Packs free records ss left → AreShort rest → AreShort (ss ++ rest)
packs_short free records [] left rest p h = h
packs_short free [] (s ∷ ss) left rest p h = absurd p
packs_short free (r ∷ rs) (s ∷ ss) left rest p h =
    let short : length (next_subrecord r free).octets < 64 = omega (arith, length-take (next_length r free) r) in
    (subst (λ (x : Subrecord). length x.octets < 64) (sym p.1) short, packs_short (free - (1 + length s.octets)) (behind r rs free) ss left rest p.2 h)

pub fills_short : (size : ℕ) (records : List (List ℕ)) (subs : List (List Subrecord)) → Fills size records subs → AreShort (flat subs)
fills_short size records [] p = tt
fills_short size records (ss ∷ rest) p = packs_short size records ss p.1 (flat rest) p.2 (fills_short size p.1 rest p.3)

stream_cons : (s : Subrecord) (xs : List Subrecord) → s.ends ≡ false → IsStream xs → IsStream (s ∷ xs)
stream_cons s [] e h = tt
stream_cons s (x ∷ xs) e h = (e, h)

stage_cons : (s : Subrecord) (xs : List Subrecord) → 0 < length xs → stage_of (s ∷ xs) ≡ stage_of xs
stage_cons s [] h = absurd (omega arith)
stage_cons s (x ∷ xs) h = refl

-- a payload of one record is its end, or a part without the flag
abbrev Streams : List Subrecord → List (List ℕ) → Type 0
Streams ss left = ((left ≡ []) × IsStream ss × (stage_of ss ≡ Ended) × (0 < length ss)) ⊎ ((q : List ℕ) × (left ≡ q ∷ [])
    × ((rest : List Subrecord) → IsStream rest → 0 < length rest → IsStream (ss ++ rest) × (stage_of (ss ++ rest) ≡ stage_of rest)))

packs_end : (free : ℕ) (s : Subrecord) (ss : List Subrecord) (left : List (List ℕ)) → s.ends ≡ true → Packs free [] ss left → Streams (s ∷ ss) left
packs_end free s [] left e p = inl (p.0, tt, ap (λ (b : Bool). cond b Ended Open) e, omega arith)
packs_end free s (x ∷ xs) left e p = absurd p

stream_part : (s : Subrecord) (ss : List Subrecord) (left : List (List ℕ)) → s.ends ≡ false → Streams ss left → Streams (s ∷ ss) left
stream_part s ss left e (inl h) = inl (h.0, stream_cons s ss e h.1, stage_cons s ss h.3 ∙ h.2, omega arith)
stream_part s ss left e (inr h) = inr (h.0, h.1, λ rest i n. (let r = h.2 rest i n in (stream_cons s (ss ++ rest) e r.0, stage_cons s (ss ++ rest) (omega (arith, length-append ss rest)) ∙ r.1)))

-- one record: only the last subrecord has the end flag
packs_stream : (free : ℕ) (r : List ℕ) (ss : List Subrecord) (left : List (List ℕ)) → Packs free (r ∷ []) ss left → Streams ss left
packs_stream free r [] left p = inr (r, p.0, λ rest h s. (h, refl))
packs_stream free r (s ∷ ss) left p =
    let n : ℕ = next_length r free in
    let e : s.ends ≡ eqb n (length r) = ap (λ (x : Subrecord). x.ends) p.1 in
    let ih = packs_stream (free - (1 + length s.octets)) (drop n r) ss left in
    let Q : Bool → Type 0 = λ b. (s.ends ≡ b) → Packs (free - (1 + length s.octets)) (cond b [] (drop n r ∷ [])) ss left → Streams (s ∷ ss) left in
    let both : (b : Bool) → Q b = λ b. elim b as Q [ true ↦ λ t q. packs_end (free - (1 + length s.octets)) s ss left t q | false ↦ λ t q. stream_part s ss left t (ih q) ] in
    both (eqb n (length r)) e p.2

fills_nothing : (size : ℕ) (subs : List (List Subrecord)) → Fills size [] subs → subs ≡ []
fills_nothing size [] p = refl
fills_nothing size (ss ∷ rest) p = absurd (packs_nothing size ss p.1 p.0 p.2)

-- a stream's payloads have one end flag, on the last subrecord
fills_stream : (size : ℕ) (r : List ℕ) (subs : List (List Subrecord)) → Fills size (r ∷ []) subs → IsStream (flat subs) × (stage_of (flat subs) ≡ Ended) × (0 < length (flat subs))
fills_stream size r [] p = absurd (let q : r ∷ [] ≡ [] = p in cc)
fills_stream size r (ss ∷ rest) p =
    elim (packs_stream size r ss p.1 p.2) [
      | inl h ↦ (let none : rest ≡ [] = fills_nothing size rest (subst (λ (x : List (List ℕ)). Fills size x rest) h.0 p.3) in
          let same : ss ++ flat rest ≡ ss = ap (λ (x : List (List Subrecord)). ss ++ flat x) none ∙ append-nil ss in
          (subst IsStream (sym same) h.1, ap stage_of same ∙ h.2, subst (λ (x : List Subrecord). 0 < length x) (sym same) h.3))
      | inr h ↦ (let k = fills_stream size h.0 rest (subst (λ (x : List (List ℕ)). Fills size x rest) h.1 p.3) in
          let b = h.2 (flat rest) k.0 k.2 in
          (b.0, b.1 ∙ k.1, omega (arith, length-append ss (flat rest), k.2)))
    ]

-- the last subrecord of records ends one
packs_last : (free : ℕ) (records : List (List ℕ)) (ss : List Subrecord) → Packs free records ss [] → 0 < length ss → stage_of ss ≡ Ended
packs_last free records [] p h = absurd (omega arith)
packs_last free [] (s ∷ ss) p h = absurd p
packs_last free (r ∷ rs) (s ∷ []) p h =
    let n : ℕ = next_length r free in
    let e : s.ends ≡ eqb n (length r) = ap (λ (x : Subrecord). x.ends) p.1 in
    let Q : Bool → Type 0 = λ b. (s.ends ≡ b) → ([] ≡ cond b rs (drop n r ∷ rs)) → stage_of (s ∷ []) ≡ Ended in
    let both : (b : Bool) → Q b = λ b. elim b as Q [ true ↦ λ t q. ap (λ (x : Bool). cond x Ended Open) t | false ↦ λ t q. absurd (let z : [] ≡ drop n r ∷ rs = q in cc) ] in
    both (eqb n (length r)) e p.2.0
packs_last free (r ∷ rs) (s ∷ t ∷ ss) p h = packs_last (free - (1 + length s.octets)) (behind r rs free) (t ∷ ss) p.2 (omega arith)

stage_of-append : (xs ys : List Subrecord) → 0 < length ys → stage_of (xs ++ ys) ≡ stage_of ys
stage_of-append [] ys h = refl
stage_of-append (x ∷ []) ys h = stage_cons x ys h
stage_of-append (x ∷ y ∷ xs) ys h = stage_of-append (y ∷ xs) ys h

fills_last : (size : ℕ) (records : List (List ℕ)) (subs : List (List Subrecord)) → Fills size records subs → 0 < length subs → (stage_of (flat subs) ≡ Ended) × (0 < length (flat subs))
fills_last size records [] p h = absurd (omega arith)
fills_last size records (ss ∷ []) p h =
    let last : Packs size records ss [] = subst (λ (x : List (List ℕ)). Packs size records ss x) p.3 p.2 in
    (ap stage_of (append-nil ss) ∙ packs_last size records ss last p.0, subst (λ (x : List Subrecord). 0 < length x) (sym (append-nil ss)) p.0)
fills_last size records (ss ∷ ts ∷ rest) p h =
    let k = fills_last size p.1 (ts ∷ rest) p.3 (omega arith) in
    (stage_of-append ss (flat (ts ∷ rest)) k.1 ∙ k.0, omega (arith, length-append ss (flat (ts ∷ rest)), k.1))

-- the rows of a stream in blocks
pub rows_blocks : (rows : List (List ℕ)) → AreBlocks BLOCK rows → (found : List (List ℕ)) × (tail : List ℕ) × InBlocks (octets_in rows) found tail × (closed found tail ≡ rows)
rows_blocks [] a = ([], [], record { joined = refl; full = All-nil (λ (r : List ℕ). length r ≡ BLOCK); rest = omega arith }, refl)
rows_blocks (r ∷ []) a =
    elim (cases_lt (length r) BLOCK) [
      | inl l ↦ ([], r, record { joined = append-nil r; full = All-nil (λ (x : List ℕ). length x ≡ BLOCK); rest = l }, last r a.0)
      | inr g ↦ (
        r ∷ [],
        [],
        record {
          joined = sym (append-nil (r ++ []));
          full =
              All-push (λ (x : List ℕ). length x ≡ BLOCK) [] r (All-nil (λ (x : List ℕ). length x ≡ BLOCK)) (omega (arith, a.1));
          rest = omega arith;
        },
        refl,
      )
    ]
  where
    last : (q : List ℕ) → 0 < length q → closed [] q ≡ q ∷ []
    last [] h = absurd (omega arith)
    last (x ∷ xs) h = refl
rows_blocks (r ∷ q ∷ rs) a =
    let b = rows_blocks (q ∷ rs) a.1 in (
      r ∷ b.0,
      b.1,
      record {
        joined = ap (λ (x : List ℕ). r ++ x) b.2.joined ∙ sym (append_assoc r (octets_in b.0) b.1);
        full =
            All-cons (λ (x : List ℕ). length x ≡ BLOCK) r b.0 a.0 b.2.full;
        rest = b.2.rest;
      },
      more r b.0 b.1 ∙ ap (λ (x : List (List ℕ)). r ∷ x) b.3,
    )
  where
    more : (r : List ℕ) (found : List (List ℕ)) (tail : List ℕ) → closed (r ∷ found) tail ≡ r ∷ closed found tail
    more r found [] = refl
    more r found (x ∷ xs) = refl

-- a file's payloads have carried all of it
whole_records : (longest size : ℕ) (format : Format) (rows : List (List ℕ)) (subs : List (List Subrecord)) → Fills size rows subs
    → ((ss : List Subrecord) → pieces ss ≡ rows ++ [] ∷ [] → Carried format longest ss rows []) → CarriesWhole format longest (map payload_of subs) rows
whole_records longest size format rows [] p c =
    record { found = rows; tail = []; stage = Fresh; carries = record { subs = []; spelling = refl; short = tt; carried = c [] (fills_pieces size rows [] p); last = refl }; same = refl; over = refl }
whole_records longest size format rows (ss ∷ rest) p c =
    let k = fills_last size rows (ss ∷ rest) p (omega arith) in
    record {
      found = rows;
      tail = [];
      stage = Ended;
      carries = record { subs = ss ∷ rest; spelling = refl; short = fills_short size rows (ss ∷ rest) p; carried = c (flat (ss ∷ rest)) (fills_pieces size rows (ss ∷ rest) p); last = sym k.0 };
      same = refl;
      over = refl;
    }

whole_stream : (longest size : ℕ) (format : Format) (rows : List (List ℕ)) (subs : List (List Subrecord)) → AreBlocks BLOCK rows → Fills size (octets_in rows ∷ []) subs
    → ((ss : List Subrecord) (found : List (List ℕ)) (tail : List ℕ) → IsStream ss → InBlocks (octets_of ss) found tail → Carried format longest ss found tail)
    → CarriesWhole format longest (map payload_of subs) rows
whole_stream longest size format rows subs a p c =
    let b = rows_blocks rows a in
    let k = fills_stream size (octets_in rows) subs p in
    let o : octets_of (flat subs) ≡ octets_in rows = sym (octets_in-pieces (flat subs)) ∙ ap octets_in (fills_pieces size (octets_in rows ∷ []) subs p) ∙ append-nil (octets_in rows) in
    record {
      found = b.0;
      tail = b.1;
      stage = Ended;
      carries = record {
        subs = subs;
        spelling = refl;
        short = fills_short size (octets_in rows ∷ []) subs p;
        carried =
            c (flat subs) b.0 b.1 k.0 (subst (λ (x : List ℕ). InBlocks x b.0 b.1) (sym o) b.2);
        last = sym k.1;
      };
      same = b.3;
      over = refl;
    }

-- fill carries exactly the rows, to the end
pub fill_whole : (format : Format) (longest size : ℕ) (rows : List (List ℕ)) → 2 ≤ size → AreRows format longest rows → CarriesWhole format longest (payloads_of format size rows) rows
fill_whole Fixed longest size rows h a =
    whole_records longest size Fixed rows (fill_from (weight rows) size rows) (fills_fill (weight rows) size rows h (omega arith)) (λ ss e. (e, a, omega arith))
fill_whole Variable longest size rows h a =
    whole_records longest size Variable rows (fill_from (weight rows) size rows) (fills_fill (weight rows) size rows h (omega arith)) (λ ss e. (e, a, omega arith))
fill_whole Unstructured longest size rows h a =
    whole_stream longest size Unstructured rows _ a (fills_fill (weight (octets_in rows ∷ [])) size (octets_in rows ∷ []) h (omega arith)) (λ ss found tail i b. (i, b))
fill_whole Text longest size rows h a =
    whole_stream longest size Text rows _ a (fills_fill (weight (octets_in rows ∷ [])) size (octets_in rows ∷ []) h (omega arith)) (λ ss found tail i b. (i, b))

-- payloads are encoded by one list of subrecords
pub decode_all : (xs ys : List (List Subrecord)) → AreShort (flat xs) → AreShort (flat ys) → map payload_of xs ≡ map payload_of ys → flat xs ≡ flat ys
decode_all [] [] h k e = refl
decode_all [] (y ∷ ys) h k e = absurd (let q : [] ≡ payload_of y ∷ map payload_of ys = e in cc)
decode_all (x ∷ xs) [] h k e = absurd (let q : payload_of x ∷ map payload_of xs ≡ [] = e in cc)
decode_all (x ∷ xs) (y ∷ ys) h k e =
    let e' : payload_of x ∷ map payload_of xs ≡ payload_of y ∷ map payload_of ys = e in
    let hd : payload_of x ≡ payload_of y = cc in
    let tl : map payload_of xs ≡ map payload_of ys = cc in
    let d = decode x y [] (short-left x (flat xs) h) (short-left y (flat ys) k) (append-nil (payload_of x) ∙ hd) in
    let same : y ≡ x = d.1 ∙ ap (λ (z : List Subrecord). x ++ z) (nothing_more d.0 d.2) ∙ append-nil x in
    ap (λ (z : List Subrecord). z ++ flat xs) (sym same) ∙ ap (λ (z : List Subrecord). y ++ z) (decode_all xs ys (short-right x (flat xs) h) (short-right y (flat ys) k) tl)

-- octets are cut in blocks in one way
pub one_full_blocks : (rows rows' : List (List ℕ)) (tail tail' : List ℕ) → All (λ (r : List ℕ). length r ≡ BLOCK) rows → All (λ (r : List ℕ). length r ≡ BLOCK) rows'
    → length tail < BLOCK → length tail' < BLOCK → octets_in rows ++ tail ≡ octets_in rows' ++ tail' → (rows ≡ rows') × (tail ≡ tail')
one_full_blocks [] [] tail tail' a b h k e = (refl, e)
one_full_blocks [] (r ∷ rs) tail tail' a b h k e = absurd (let n : length r ≡ BLOCK = b 0 [] (omega arith) in
    omega (arith, ap length e, n, length-append (r ++ octets_in rs) tail', length-append r (octets_in rs)))
one_full_blocks (r ∷ rs) [] tail tail' a b h k e = absurd (let n : length r ≡ BLOCK = a 0 [] (omega arith) in
    omega (arith, ap length e, n, length-append (r ++ octets_in rs) tail, length-append r (octets_in rs)))
one_full_blocks (r ∷ rs) (q ∷ qs) tail tail' a b h k e =
    let n : length r ≡ BLOCK = a 0 [] (omega arith) in
    let m : length q ≡ BLOCK = b 0 [] (omega arith) in
    let s = same_lengths r q (octets_in rs ++ tail) (octets_in qs ++ tail') (omega arith) (sym (append_assoc r (octets_in rs) tail) ∙ e ∙ append_assoc q (octets_in qs) tail') in
    let t = one_full_blocks rs qs tail tail' (λ i d l. a (suc i) d (omega arith)) (λ i d l. b (suc i) d (omega arith)) h k s.1 in
    (ap (λ (x : List ℕ). x ∷ rs) s.0 ∙ ap (λ (x : List (List ℕ)). q ∷ x) t.0, t.1)

one_carried : (format : Format) (longest : ℕ) (ss : List Subrecord) (rows rows' : List (List ℕ)) (tail tail' : List ℕ) → Carried format longest ss rows tail
    → Carried format longest ss rows' tail' → (rows ≡ rows') × (tail ≡ tail')
one_carried Fixed longest ss rows rows' tail tail' a b = same_from_push rows rows' tail tail' (sym a.0 ∙ b.0)
one_carried Variable longest ss rows rows' tail tail' a b = same_from_push rows rows' tail tail' (sym a.0 ∙ b.0)
one_carried Unstructured longest ss rows rows' tail tail' a b = one_full_blocks rows rows' tail tail' a.1.full b.1.full a.1.rest b.1.rest (sym a.1.joined ∙ b.1.joined)
one_carried Text longest ss rows rows' tail tail' a b = one_full_blocks rows rows' tail tail' a.1.full b.1.full a.1.rest b.1.rest (sym a.1.joined ∙ b.1.joined)

-- payloads carry only one list of rows
pub one_reading : (format : Format) (longest : ℕ) (payloads rows rows' : List (List ℕ)) (tail tail' : List ℕ) (stage stage' : Stage)
    → Carries format longest payloads rows tail stage → Carries format longest payloads rows' tail' stage'
    → (rows ≡ rows') × (tail ≡ tail') × (stage ≡ stage')
one_reading format longest payloads rows rows' tail tail' stage stage' a b =
    let same : flat b.subs ≡ flat a.subs = decode_all b.subs a.subs b.short a.short (sym b.spelling ∙ a.spelling) in
    let c : Carried format longest (flat a.subs) rows' tail' = subst (λ (x : List Subrecord). Carried format longest x rows' tail') same b.carried in
    let r = one_carried format longest (flat a.subs) rows rows' tail tail' a.carried c in
    (r.0, r.1, a.last ∙ ap stage_of (sym same) ∙ sym b.last)

-- a taker that took the payloads of fill holds exactly these rows, with those that were removed, closed
pub taken_back : (t : Taking) (gone : List (List ℕ)) (size : ℕ) (rows : List (List ℕ)) → 2 ≤ size → AreRows t.format t.longest rows → Took t gone (payloads_of t.format size rows)
    → (closed (gone ++ t.rows) t.tail ≡ rows) × (is_open t.stage ≡ false)
taken_back t gone size rows h a k =
    let w = fill_whole t.format t.longest size rows h a in
    let g : Carries t.format t.longest (payloads_of t.format size rows) (gone ++ t.rows) t.tail t.stage =
    record { subs = k.subs; spelling = k.spelling; short = k.short; carried = k.holds.carried; last = k.holds.last } in
    let r = one_reading t.format t.longest (payloads_of t.format size rows) (gone ++ t.rows) w.found t.tail w.tail t.stage w.stage g w.carries in
    (ap (λ (x : List (List ℕ)). closed x t.tail) r.0 ∙ ap (closed w.found) r.1 ∙ w.same, ap is_open r.2 ∙ w.over)

pub flat-append : (xs ys : List (List Subrecord)) → flat (xs ++ ys) ≡ flat xs ++ flat ys
flat-append xs ys = flat_map-append (λ (x : List Subrecord). x) xs ys

-- the records that are wholly sent are those that are gone from what is left
pub sent_records : (size : ℕ) (records left : List (List ℕ)) (subs all rest : List (List Subrecord)) (found : List (List ℕ)) (tail : List ℕ) → Fills size records all
    → Fills size left rest → AreShort (flat subs)
    → map payload_of subs ++ map payload_of rest ≡ map payload_of all → pieces (flat subs) ≡ found ++ tail ∷ [] → length found + length left ≡ length records
sent_records size records left subs all rest found tail a b s e p =
    let short : AreShort (flat (subs ++ rest)) = subst AreShort (sym (flat-append subs rest)) (short-append (flat subs) (flat rest) s (fills_short size left rest b)) in
    let same : flat (subs ++ rest) ≡ flat all = decode_all (subs ++ rest) all short (fills_short size records all a) (map-append payload_of subs rest ∙ e) in
    let q = some_piece (flat rest) in
    let whole : records ++ [] ∷ [] ≡ found ++ (tail ++ q.0) ∷ q.1 = sym (fills_pieces size records all a) ∙ ap pieces (sym same ∙ flat-append subs rest)
    ∙ pieces_more (flat subs) (flat rest) q.0 q.1 q.2 found tail p in
    let others : q.0 ∷ q.1 ≡ left ++ [] ∷ [] = sym q.2 ∙ fills_pieces size left rest b in
    let l1 : length records + 1 ≡ length found + suc (length q.1) = sym (length-append records ([] ∷ [])) ∙ ap length whole ∙ length-append found ((tail ++ q.0) ∷ q.1) in
    let l2 : suc (length q.1) ≡ length left + 1 = ap length others ∙ length-append left ([] ∷ []) in
    omega arith
