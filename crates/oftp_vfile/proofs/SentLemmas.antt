-- How many rows are wholly sent, and the filler's mark.
use Rattle.std.proofs.Common.{◌≡◌, ℕ, suc, zero, ◌+◌, ◌-◌, ◌*◌, ◌/◌, ◌<◌, ◌≤◌, Bool, true, false, cond, eqb, ◌&&◌, List, [], ◌∷◌, ◌++◌, length, get_or, take, drop, map, count_by, refl, sym, ap, ◌∙◌, subst, arith, append_assoc, inl, inr}
use Rattle.std.proofs.Math.Seq.{take-add}
use Rattle.std.proofs.lemmas.Bool.{cases_lt, eq-eqb, eqb-true, false≢true, and_parts}
use Rattle.std.proofs.lemmas.Bool.Decides.{eqb_tells}
use Rattle.std.proofs.lemmas.List.{append-nil, length-append, length-drop, length-take-le, drop-append-le, drop-drop, drop_all, get_or-drop, take-append-drop, take-append-le, take_at, take-map, nil_from_length, length_push}
use Rattle.std.proofs.lemmas.List.Sums.{sum_by-append, sum_by-cons}
use Rattle.std.proofs.lemmas.List.Concat.{flat_map-append}
use Rattle.oftp_vfile.specs.declared.format.TheConstants.{BLOCK}
use Rattle.oftp_vfile.specs.declared.format.Format.{Format}
use Rattle.oftp_vfile.specs.declared.format.Format.TheVariants.{Fixed, Variable, Unstructured, Text}
use Rattle.oftp_vfile.specs.declared.taking.Stage.{Stage}
use Rattle.oftp_vfile.specs.declared.filling.Filled.{Filled}
use Rattle.oftp_vfile.specs.declared.filling.Filled.TheVariants.{Buffer, Done, More}
use Rattle.oftp_vfile.specs.VirtualFile.{is_stream, octets_in, whole_count, AreBlocks, AreRows}
use Rattle.oftp_vfile.specs.Subrecord.{Subrecord, payload_of, octets_of, AreShort}
use Rattle.oftp_vfile.specs.Carries.{Carries, Carried, pieces, onto}
use Rattle.oftp_vfile.specs.Fill.{Fills, behind, fill_from, weight, fill, records_of, payloads_of, rows_ended, wholly_sent}
use Rattle.oftp_vfile.specs.Filling.{Filling, new_filling, from_offset, left_of, AreBehind, IsFirstPayload, IfBuffer, nothing_left, Moves, FillsNext, Sent, AreLent}
use Rattle.oftp_vfile.proofs.PackingLemmas.{from_offset-zero}
use Rattle.oftp_vfile.proofs.FillerLemmas.{left_records, left_stream, in_octets}
use Rattle.oftp_vfile.specs.Packing.{PacksNext}
use Rattle.oftp_vfile.proofs.FillListLemmas.{fills_fill, first_if}
use Rattle.oftp_vfile.proofs.CarriesLemmas.{octets_in-pieces, octets_in-push, some_piece, short-append, short-left, blocks_length}
use Rattle.oftp_vfile.proofs.TakingLemmas.{last_of}
use Rattle.oftp_vfile.proofs.FillCarriesLemmas.{flat, flat-append, fills_pieces, fills_short, decode_all, sent_records}

-- a filler at its first row has all rows left
left_new : (format : Format) (from : ℕ) (rows : List (List ℕ)) → left_of (new_filling format from) rows ≡ records_of format rows
left_new Fixed from rows = from_offset-zero rows
left_new Variable from rows = from_offset-zero rows
left_new Unstructured from rows = refl
left_new Text from rows = refl

whole_count-nil : (format : Format) → whole_count format [] ≡ 0
whole_count-nil Fixed = refl
whole_count-nil Variable = refl
whole_count-nil Unstructured = refl
whole_count-nil Text = refl

whole_count-append : (format : Format) (xs ys : List (List ℕ)) → whole_count format (xs ++ ys) ≡ whole_count format xs + whole_count format ys
whole_count-append Fixed xs ys = length-append xs ys
whole_count-append Variable xs ys = length-append xs ys
whole_count-append Unstructured xs ys = sum_by-append (λ (r : List ℕ). cond (eqb (length r) BLOCK) 1 0) xs ys
whole_count-append Text xs ys = sum_by-append (λ (r : List ℕ). cond (eqb (length r) BLOCK) 1 0) xs ys

-- a filler at its first row has sent nothing
pub sent_new : (format : Format) (size from : ℕ) (rows : List (List ℕ)) → Sent (new_filling format from) size from rows []
sent_new format size from rows =
    let z : from - from ≡ 0 = omega arith in
    record {
      began = omega arith;
      within = omega arith;
      place = λ o. absurd (omega arith);
      split = ap (λ n. fill size (left_of (new_filling format from) (drop n rows))) z ∙ ap (fill size) (left_new format from rows);
      mark = let n : whole_count format (take (from - from) rows) ≡ 0 = ap (λ k. whole_count format (take k rows)) z ∙ whole_count-nil format in omega (arith, n);
      over = λ _ d. absurd (false≢true d);
    }

in_front : (xs ys : List (List ℕ)) (n : ℕ) → n < length (get_or xs 0 []) → n < length (get_or (xs ++ ys) 0 [])
in_front [] ys n q = absurd (omega arith)
in_front (x ∷ xs) ys n q = q

none_behind : (format : Format) (last : Bool) (more : List (List ℕ)) → last ≡ true → AreBehind format last more → more ≡ []
none_behind format last more e b = subst (λ (x : Bool). AreBehind format x more) e b

-- one more payload is the next of the file's
pub sent_step : (size : ℕ) (old new : Filling) (from : ℕ) (file lent payloads : List (List ℕ)) (last : Bool) (octets : List ℕ) → Sent old size from file payloads → AreLent old from file lent last
    → IsFirstPayload size old new lent last octets → Moves old new lent last → Sent new size from file (payloads ++ octets ∷ [])
sent_step size old new from file lent payloads last octets s a f m =
    let more : List (List ℕ) = a.0 in
    let before : ℕ = old.row - from in
    let k : ℕ = new.row - old.row in
    let e : drop before file ≡ lent ++ more = a.1 in
    let le : k ≤ length lent = omega (arith, m.ahead, m.within) in
    let at : before + k ≡ new.row - from = omega (arith, s.began, m.ahead) in
    let same : drop k lent ++ more ≡ drop (new.row - from) file = sym (drop-append-le k lent more le) ∙ ap (drop k) (sym e) ∙ drop-drop k before file ∙ ap (λ n. drop n file) at in
    let first : fill size (left_of old (drop before file)) ≡ octets ∷ fill size (left_of new (drop (new.row - from) file)) =
    ap (λ (x : List (List ℕ)). fill size (left_of old x)) e ∙ f more a.2 ∙ ap (λ (x : List (List ℕ)). octets ∷ fill size (left_of new x)) same in
    let long : length lent + length more ≡ length file - before = sym (length-append lent more) ∙ ap length (sym e) ∙ length-drop before file in
    let front : take (new.row - from) file ≡ take before file ++ take k lent =
    ap (λ n. take n file) (sym at) ∙ take-add before k file ∙ ap (λ (x : List (List ℕ)). take before file ++ take k x) e
    ∙ ap (λ (x : List (List ℕ)). take before file ++ x) (take-append-le k lent more le) in
    let counted : whole_count new.format (take (new.row - from) file) ≡ whole_count old.format (take before file) + whole_count old.format (take k lent) =
    ap (λ (x : Format). whole_count x (take (new.row - from) file)) m.format ∙ ap (whole_count old.format) front ∙ whole_count-append old.format (take before file) (take k lent) in
    record {
      began = omega (arith, s.began, m.ahead);
      within = omega (arith, long, m.within, s.within, s.began);
      place = λ o. subst (λ (x : List (List ℕ)). new.offset < length (get_or x 0 [])) same (in_front (drop k lent) more new.offset (m.place o));
      split = append_assoc payloads (octets ∷ []) (fill size (left_of new (drop (new.row - from) file))) ∙ ap (λ (x : List (List ℕ)). payloads ++ x) (sym first) ∙ s.split
          ∙ ap (λ (x : Format). payloads_of x size file) (sym m.format);
      mark = omega (arith, m.mark, s.mark, counted);
      over = λ t d. (let o = m.over (ap is_stream (sym m.format) ∙ t) d in let n : length more ≡ 0 = ap length (none_behind old.format last more o.0 a.2) in
          omega (arith, o.1, n, long, s.within, s.began));
    }

sent_if : (size : ℕ) (old new : Filling) (from : ℕ) (file lent payloads : List (List ℕ)) (last : Bool) (out : List ℕ) (r : Filled) → Sent old size from file payloads
    → AreLent old from file lent last
    → IfBuffer r (λ n. (n ≤ size) × IsFirstPayload size old new lent last (take n out)) → FillsNext size old new lent last r → IfBuffer r (λ n. Sent new size from file (payloads ++ take n out ∷ []))
sent_if size old new from file lent payloads last out (Buffer n) s a f h = sent_step size old new from file lent payloads last (take n out) s a f.1 h.moves
sent_if size old new from file lent payloads last out Done s a f h = tt
sent_if size old new from file lent payloads last out More s a f h = tt

nothing_filled : (size : ℕ) (f : Filling) (lent more : List (List ℕ)) (last : Bool) → nothing_left f lent last ≡ true → AreBehind f.format last more → fill size (left_of f (lent ++ more)) ≡ []
unfolding fill_from
nothing_filled size f lent more last n behind =
    let rest : List (List ℕ) = lent ++ more in
    let P : Bool → Type 0 = λ b. cond b f.done (eqb (length lent) 0 && last) ≡ true → fill size (cond b (cond f.done [] (drop f.offset (octets_in rest) ∷ [])) (from_offset f.offset rest)) ≡ [] in
    let both : (b : Bool) → P b = λ b. elim b as P [
      | true ↦ λ d. ap (λ (x : Bool). fill size (cond x [] (drop f.offset (octets_in rest) ∷ []))) d
      | false ↦ λ d. (let t = and_parts _ _ d in let none : rest ≡ [] = ap (λ (x : List (List ℕ)). x ++ more) (nil_from_length lent (eqb-true _ _ t.0))
          ∙ none_behind f.format last more t.1 behind in ap (λ (x : List (List ℕ)). fill size (from_offset f.offset x)) none)
    ] in
    both (is_stream f.format) n

-- if nothing is left, all payloads were made
sent_all : (size : ℕ) (f : Filling) (from : ℕ) (file lent payloads : List (List ℕ)) (last : Bool) → Sent f size from file payloads → AreLent f from file lent last
    → nothing_left f lent last ≡ true → payloads ≡ payloads_of f.format size file
sent_all size f from file lent payloads last s a n =
    sym (append-nil payloads) ∙ ap (λ (x : List (List ℕ)). payloads ++ x) (sym (ap (λ (x : List (List ℕ)). fill size (left_of f x)) a.1 ∙ nothing_filled size f lent a.0 last n a.2)) ∙ s.split

sent_done : (size : ℕ) (f new : Filling) (from : ℕ) (file lent payloads : List (List ℕ)) (last : Bool) (r : Filled) → Sent f size from file payloads
    → AreLent f from file lent last → FillsNext size f new lent last r → r ≡ Done → payloads ≡ payloads_of f.format size file
sent_done size f new from file lent payloads last r s a h d = sent_all size f from file lent payloads last s a (subst (λ (x : Filled). FillsNext size f new lent last x) d h).none

-- what a call of the filler says that returned the next payload of the given rows
pub record Tells (size : ℕ) (old new : Filling) (lent : List (List ℕ)) (last : Bool) (out : List ℕ) (r : Filled) : Type 0 where
  pub buffer : IfBuffer r (λ n. (n ≤ size) × IsFirstPayload size old new lent last (take n out))
  pub sent : (from : ℕ) (file payloads : List (List ℕ)) → Sent old size from file payloads → AreLent old from file lent last
      → IfBuffer r (λ n. Sent new size from file (payloads ++ take n out ∷ []))
  pub all : (from : ℕ) (file payloads : List (List ℕ)) → Sent old size from file payloads → AreLent old from file lent last → r ≡ Done
      → payloads ≡ payloads_of old.format size file

pub tells : (size : ℕ) (old new : Filling) (lent : List (List ℕ)) (last : Bool) (out : List ℕ) (r : Filled) → 2 ≤ size
    → IfBuffer r (λ n. (n ≤ size) × PacksNext size old new lent last (take n out)) → FillsNext size old new lent last r → Tells size old new lent last out r
tells size old new lent last out r room packs fills =
    let first = first_if size old new lent last out r room packs in
    record {
      buffer = first;
      sent = λ from file payloads s k. sent_if size old new from file lent payloads last out r s k first fills;
      all = λ from file payloads s k. sent_done size old new from file lent payloads last r s k fills;
    }

-- each end flag makes one more piece
pieces_length : (ss : List Subrecord) → length (pieces ss) ≡ suc (count_by (λ (s : Subrecord). s.ends) ss)
pieces_length [] = refl
pieces_length (s ∷ ss) =
    let ih = pieces_length ss in
    let r = some_piece ss in
    let more : count_by (λ (x : Subrecord). x.ends) (s ∷ ss) ≡ cond {A = ℕ} s.ends 1 0 + count_by (λ (x : Subrecord). x.ends) ss = sum_by-cons (λ (x : Subrecord). cond {A = ℕ} x.ends 1 0) s ss in
    let P : Bool → Type 0 = λ b. length (cond b (s.octets ∷ pieces ss) (onto s.octets (pieces ss))) ≡ suc (cond {A = ℕ} b 1 0 + count_by (λ (x : Subrecord). x.ends) ss) in
    let both : (b : Bool) → P b = λ b. elim b as P [
      | true ↦ omega (arith, ih)
      | false ↦ (let l : length (onto s.octets (pieces ss)) ≡ length (pieces ss) = ap (λ (x : List (List ℕ)). length (onto s.octets x)) r.2 ∙ ap length (sym r.2) in omega (arith, l, ih))
    ] in
    both s.ends ∙ ap suc (sym more)

found_records : (ss : List Subrecord) (found : List (List ℕ)) (tail : List ℕ) → pieces ss ≡ found ++ tail ∷ [] → length found ≡ count_by (λ (s : Subrecord). s.ends) ss
found_records ss found tail e = let l : length (pieces ss) ≡ length found + 1 = ap length e ∙ length_push found tail in omega (arith, l, pieces_length ss)

blocks_found : (octets : List ℕ) (found : List (List ℕ)) (tail : List ℕ) → length octets ≡ BLOCK * length found + length tail → length tail < BLOCK → length found ≡ length octets / BLOCK
blocks_found octets found tail e h = omega arith

-- the rows that subrecords carry are those that they finish
found_ended : (format : Format) (longest : ℕ) (ss : List Subrecord) (found : List (List ℕ)) (tail : List ℕ) → Carried format longest ss found tail → length found ≡ rows_ended format ss
found_ended Fixed longest ss found tail c = found_records ss found tail c.0
found_ended Variable longest ss found tail c = found_records ss found tail c.0
found_ended Unstructured longest ss found tail c = blocks_found (octets_of ss) found tail (blocks_length (octets_of ss) found tail c.1) c.1.rest
found_ended Text longest ss found tail c = blocks_found (octets_of ss) found tail (blocks_length (octets_of ss) found tail c.1) c.1.rest

-- the subrecords of the first k payloads are short
front_short : (size k : ℕ) (records : List (List ℕ)) (all : List (List Subrecord)) → Fills size records all → AreShort (flat (take k all))
front_short size k records all f =
    let e : flat all ≡ flat (take k all) ++ flat (drop k all) = ap flat (sym (take-append-drop k all)) ∙ flat-append (take k all) (drop k all) in
    short-left (flat (take k all)) (flat (drop k all)) (subst AreShort e (fills_short size records all f))

-- how many rows the first k payloads of a file carry
pub sent_found : (format : Format) (longest size k : ℕ) (rows found : List (List ℕ)) (tail : List ℕ) (stage : Stage) → 2 ≤ size
    → Carries format longest (take k (payloads_of format size rows)) found tail stage → length found ≡ wholly_sent format size rows k
sent_found format longest size k rows found tail stage h c =
    let records : List (List ℕ) = records_of format rows in
    let all : List (List Subrecord) = fill_from (weight records) size records in
    let f : Fills size records all = fills_fill (weight records) size records h (omega arith) in
    let same : flat c.subs ≡ flat (take k all) = decode_all c.subs (take k all) c.short (front_short size k records all f) (sym c.spelling ∙ take-map payload_of k all) in
    found_ended format longest (flat c.subs) found tail c.carried ∙ ap (rows_ended format) same

octets_filled : (size : ℕ) (records : List (List ℕ)) (all : List (List Subrecord)) → Fills size records all → octets_of (flat all) ≡ octets_in records
octets_filled size records all f = sym (octets_in-pieces (flat all)) ∙ ap octets_in (fills_pieces size records all f) ∙ octets_in-push records [] ∙ append-nil (octets_in records)

-- the octets that were sent, and those that are left
sent_octets : (size : ℕ) (records left : List (List ℕ)) (subs all rest : List (List Subrecord)) → Fills size records all → Fills size left rest → AreShort (flat subs)
    → map payload_of subs ++ map payload_of rest ≡ map payload_of all → length (octets_of (flat subs)) + length (octets_in left) ≡ length (octets_in records)
sent_octets size records left subs all rest a b s e =
    let short : AreShort (flat (subs ++ rest)) = subst AreShort (sym (flat-append subs rest)) (short-append (flat subs) (flat rest) s (fills_short size left rest b)) in
    let same : flat (subs ++ rest) ≡ flat all = decode_all (subs ++ rest) all short (fills_short size records all a) (map-append' subs rest ∙ e) in
    let whole : octets_of (flat subs) ++ octets_of (flat rest) ≡ octets_of (flat all) = sym (flat_map-append (λ (x : Subrecord). x.octets) (flat subs) (flat rest))
    ∙ ap octets_of (sym (flat-append subs rest) ∙ same) in
    omega (arith, length-append (octets_of (flat subs)) (octets_of (flat rest)), ap length whole, ap length (octets_filled size left rest b), ap length (octets_filled size records all a))
  where
    map-append' : (xs ys : List (List Subrecord)) → map payload_of (xs ++ ys) ≡ map payload_of xs ++ map payload_of ys
    map-append' [] ys = refl
    map-append' (x ∷ xs) ys = ap (λ (z : List (List ℕ)). payload_of x ∷ z) (map-append' xs ys)

-- a row counts where it is full
counted : (r : List ℕ) (rs : List (List ℕ)) → count_by (λ (x : List ℕ). eqb (length x) BLOCK) (r ∷ rs) ≡ cond {A = ℕ} (eqb (length r) BLOCK) 1 0 + count_by (λ (x : List ℕ). eqb (length x) BLOCK) rs
counted r rs = sum_by-cons (λ (x : List ℕ). cond {A = ℕ} (eqb (length x) BLOCK) 1 0) r rs

-- the first rows of a stream: full blocks, and, if these are all rows, a shorter one
blocks_front : (rows : List (List ℕ)) (k : ℕ) → AreBlocks BLOCK rows → k ≤ length rows
    → (rest : ℕ) × (length (octets_in (take k rows)) ≡ BLOCK * count_by (λ (r : List ℕ). eqb (length r) BLOCK) (take k rows) + rest) × (rest < BLOCK)
    × (k < length rows → (rest ≡ 0) × (length (get_or rows k []) ≤ BLOCK))
blocks_front rows zero a h = (0, omega arith, omega arith, λ l. (refl, first rows a l))
  where
    first : (rows : List (List ℕ)) → AreBlocks BLOCK rows → 0 < length rows → length (get_or rows 0 []) ≤ BLOCK
    first [] a l = absurd (omega arith)
    first (r ∷ []) a l = a.1
    first (r ∷ q ∷ rs) a l = omega (arith, a.0)
blocks_front [] (suc k) a h = absurd (omega arith)
blocks_front (r ∷ []) (suc zero) a h =
    elim (eqb_tells (length r) BLOCK) [
      | inl e ↦ (
        0,
        (let b : cond {A = ℕ} (eqb (length r) BLOCK) 1 0 ≡ 1 = ap (λ (x : Bool). cond {A = ℕ} x 1 0) e.0 in omega (arith, b, e.1, length-append r [], counted r [])),
        omega arith,
        λ l. absurd (omega arith),
      )
      | inr e ↦ (
        length r,
        (let b : cond {A = ℕ} (eqb (length r) BLOCK) 1 0 ≡ 0 = ap (λ (x : Bool). cond {A = ℕ} x 1 0) e.0 in omega (arith, b, length-append r [], counted r [])),
        (let n : length r ≡ BLOCK → ⊥ = e.1 in omega (arith, a.1)),
        λ l. absurd (omega arith),
      )
    ]
blocks_front (r ∷ []) (suc (suc k)) a h = absurd (omega arith)
blocks_front (r ∷ q ∷ rs) (suc k) a h =
    let b = blocks_front (q ∷ rs) k a.1 (omega arith) in
    let full : cond {A = ℕ} (eqb (length r) BLOCK) 1 0 ≡ 1 = ap (λ (x : Bool). cond {A = ℕ} x 1 0) (eq-eqb (length r) BLOCK a.0) in
    (b.0, omega (arith, b.1, full, a.0, length-append r (octets_in (take k (q ∷ rs))), counted r (take k (q ∷ rs))), b.2, λ l. b.3 (omega arith))

-- how many blocks these octets fill
filled_blocks : (sent part rest count offset : ℕ) → sent ≡ part + offset → part ≡ BLOCK * count + rest → rest + offset < BLOCK → sent / BLOCK ≡ count
filled_blocks sent part rest count offset e p l = omega arith

below : (o m : ℕ) → m ≤ BLOCK → (0 < o → o < m) → o < BLOCK
below zero m q r = omega arith
below (suc j) m q r = let x : suc j < m = r (omega arith) in omega arith

-- what follows the full blocks that were sent is less than one
small_rest : (rows : List (List ℕ)) (k o rest : ℕ) → (0 < o → o < length (get_or (drop k rows) 0 [])) → rest < BLOCK
    → (k < length rows → (rest ≡ 0) × (length (get_or rows k []) ≤ BLOCK)) → rest + o < BLOCK
small_rest rows k o rest p r g =
    elim (cases_lt k (length rows)) [
      | inl l ↦ (let b = g l in
          let e : get_or (drop k rows) 0 [] ≡ get_or rows k [] = get_or-drop k rows 0 [] ∙ ap (λ n. get_or rows n []) (omega arith) in
          let s : o < BLOCK = below o (length (get_or (drop k rows) 0 [])) (omega (arith, b.1, ap length e)) p in
          omega (arith, b.0, s))
      | inr m ↦ (let none : drop k rows ≡ [] = drop_all k rows m in
          let z : o < 1 = nothing o (λ q. subst (λ (x : List (List ℕ)). o < length (get_or x 0 [])) none (p q)) in
          omega (arith, z, r))
    ]
  where
    nothing : (o : ℕ) → (0 < o → o < 0) → o < 1
    nothing zero q = omega arith
    nothing (suc j) q = absurd (let x : suc j < 0 = q (omega arith) in omega arith)

stream_mark : (f : Filling) (size from : ℕ) (rows payloads : List (List ℕ)) (subs : List (List Subrecord)) → is_stream f.format ≡ true → AreBlocks BLOCK rows → Sent f size from rows payloads
    → length (octets_of (flat subs)) + length (octets_in (left_of f (drop (f.row - from) rows))) ≡ length (octets_in rows)
    → length (octets_of (flat subs)) / BLOCK ≡ count_by (λ (r : List ℕ). eqb (length r) BLOCK) (take (f.row - from) rows)
stream_mark f size from rows payloads subs e a s n =
    let k : ℕ = f.row - from in
    let le : k ≤ length rows = omega (arith, s.within, s.began) in
    let b = blocks_front rows k a le in
    let total : length (octets_in rows) ≡ length (octets_in (take k rows)) + length (octets_in (drop k rows)) =
    ap (λ (x : List (List ℕ)). length (octets_in x)) (sym (take-append-drop k rows)) ∙ ap length (flat_map-append (λ (x : List ℕ). x) (take k rows) (drop k rows))
    ∙ length-append (octets_in (take k rows)) (octets_in (drop k rows)) in
    let S : ℕ = length (octets_of (flat subs)) in
    let P : Bool → Type 0 = λ d. (d ≡ f.done) → S / BLOCK ≡ count_by (λ (r : List ℕ). eqb (length r) BLOCK) (take k rows) in
    let both : (d : Bool) → P d = λ d. elim d as P [
      | true ↦ λ t.
          let none : left_of f (drop k rows) ≡ [] = ap (λ (x : Bool). cond x (cond f.done [] (drop f.offset (octets_in (drop k rows)) ∷ [])) (from_offset f.offset (drop k rows))) e
          ∙ ap (λ (x : Bool). cond x [] (drop f.offset (octets_in (drop k rows)) ∷ [])) (sym t) in
          let over : f.row ≡ from + length rows = s.over e (sym t) in
          let gone : drop k rows ≡ [] = drop_all k rows (omega (arith, over)) in
          filled_blocks S (length (octets_in (take k rows))) b.0 _ 0 (omega (
            arith,
            n,
            total,
            ap (λ (x : List (List ℕ)). length (octets_in x)) none,
            ap (λ (x : List (List ℕ)). length (octets_in x)) gone,
          )) b.1 (omega (arith, b.2))
      | false ↦ λ t.
          let left : left_of f (drop k rows) ≡ drop f.offset (octets_in (drop k rows)) ∷ [] = left_stream f (drop k rows) e (sym t) in
          let within : f.offset ≤ length (octets_in (drop k rows)) = in_octets (drop k rows) f.offset s.place in
          let o : length (octets_in (left_of f (drop k rows))) ≡ length (octets_in (drop k rows)) - f.offset = ap (λ (x : List (List ℕ)). length (octets_in x)) left
          ∙ ap length (append-nil (drop f.offset (octets_in (drop k rows)))) ∙ length-drop f.offset (octets_in (drop k rows)) in
          filled_blocks S (length (octets_in (take k rows))) b.0 _ f.offset (omega (arith, n, total, o, within)) b.1 (small_rest rows k f.offset b.0 s.place b.2 b.3)
    ] in
    both f.done refl

stream_blocks : (format : Format) (longest : ℕ) (rows : List (List ℕ)) → is_stream format ≡ true → AreRows format longest rows → AreBlocks BLOCK rows
stream_blocks Fixed longest rows e a = absurd (false≢true e)
stream_blocks Variable longest rows e a = absurd (false≢true e)
stream_blocks Unstructured longest rows e a = a
stream_blocks Text longest rows e a = a

length-from_offset : (n : ℕ) (rows : List (List ℕ)) → length (from_offset n rows) ≡ length rows
length-from_offset n [] = refl
length-from_offset n (r ∷ rs) = refl

records_mark : (f : Filling) (size from : ℕ) (rows payloads : List (List ℕ)) (subs all rest : List (List Subrecord)) → is_stream f.format ≡ false → Sent f size from rows payloads
    → Fills size (records_of f.format rows) all → Fills size (left_of f (drop (f.row - from) rows)) rest → AreShort (flat subs) → map payload_of subs ++ map payload_of rest ≡ map payload_of all
    → length (take (f.row - from) rows) ≡ count_by (λ (s : Subrecord). s.ends) (flat subs)
records_mark f size from rows payloads subs all rest e s a b short j =
    let k : ℕ = f.row - from in
    let le : k ≤ length rows = omega (arith, s.within, s.began) in
    let r = some_piece (flat subs) in
    let l = last_of r.0 r.1 in
    let p : pieces (flat subs) ≡ l.0 ++ l.1 ∷ [] = r.2 ∙ l.2 in
    let n = sent_records size (records_of f.format rows) (left_of f (drop k rows)) subs all rest l.0 l.1 a b short j p in
    let l1 : length (left_of f (drop k rows)) ≡ length rows - k = ap length (left_records f (drop k rows) e) ∙ length-from_offset f.offset (drop k rows) ∙ length-drop k rows in
    let l2 : length (records_of f.format rows) ≡ length rows = ap (λ (x : Bool). length (cond x (octets_in rows ∷ []) rows)) e in
    omega (arith, n, l1, l2, le, length-take-le k rows le, found_records (flat subs) l.0 l.1 p)

-- the mark of a filler is the row at which it began and the rows wholly sent since
pub mark_sent : (f : Filling) (longest size from : ℕ) (rows payloads : List (List ℕ)) → 2 ≤ size → AreRows f.format longest rows → Sent f size from rows payloads
    → f.mark ≡ from + wholly_sent f.format size rows (length payloads)
mark_sent f longest size from rows payloads h a s =
    let records : List (List ℕ) = records_of f.format rows in
    let k : ℕ = f.row - from in
    let left : List (List ℕ) = left_of f (drop k rows) in
    let all : List (List Subrecord) = fill_from (weight records) size records in
    let rest : List (List Subrecord) = fill_from (weight left) size left in
    let fa : Fills size records all = fills_fill (weight records) size records h (omega arith) in
    let fl : Fills size left rest = fills_fill (weight left) size left h (omega arith) in
    let n : ℕ = length payloads in
    let subs : List (List Subrecord) = take n all in
    let front : payloads ≡ map payload_of subs = sym (take_at payloads (fill size left) n refl) ∙ ap (take n) s.split ∙ take-map payload_of n all in
    let short : AreShort (flat subs) = front_short size n records all fa in
    let joined : map payload_of subs ++ map payload_of rest ≡ map payload_of all = ap (λ (x : List (List ℕ)). x ++ map payload_of rest) (sym front) ∙ s.split in
    let P : Bool → Type 0 = λ b. (b ≡ is_stream f.format)
    → cond b (count_by (λ (r : List ℕ). eqb (length r) BLOCK) (take k rows)) (length (take k rows))
    ≡ cond b (length (octets_of (flat subs)) / BLOCK) (count_by (λ (s : Subrecord). s.ends) (flat subs)) in
    let both : (b : Bool) → P b = λ b. elim b as P [
      | true ↦ λ e. (let o : length (octets_in records) ≡ length (octets_in rows) = ap (λ (x : Bool). length (octets_in (cond x (octets_in rows ∷ []) rows))) (sym e)
          ∙ ap length (append-nil (octets_in rows)) in
          sym (stream_mark f size from rows payloads subs (sym e) (stream_blocks f.format longest rows (sym e) a) s (sent_octets size records left subs all rest fa fl short joined ∙ o)))
      | false ↦ λ e. records_mark f size from rows payloads subs all rest (sym e) s fa fl short joined
    ] in
    let same : whole_count f.format (take k rows) ≡ wholly_sent f.format size rows n = both (is_stream f.format) refl in
    s.mark ∙ ap (λ (x : ℕ). from + x) same
