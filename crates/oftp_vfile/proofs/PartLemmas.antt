-- What a part of a file adds to its rows, cut off anywhere; and the end of a file, by its counts alone.
use Rattle.std.proofs.Common.{◌≡◌, ℕ, suc, ◌<◌, ◌≤◌, false, List, [], ◌∷◌, ◌++◌, length, map, All, refl, sym, ap, ◌∙◌, subst, arith, append_assoc}
use Rattle.std.proofs.lemmas.List.{append-nil, length-append, same_from_push}
use Rattle.std.proofs.lemmas.List.Concat.{flat_map-append}
use Rattle.oftp_vfile.specs.declared.format.TheConstants.{BLOCK}
use Rattle.oftp_vfile.specs.declared.format.Format.{Format}
use Rattle.oftp_vfile.specs.declared.format.Format.TheVariants.{Fixed, Variable, Unstructured, Text}
use Rattle.oftp_vfile.specs.declared.taking.Stage.{Stage}
use Rattle.oftp_vfile.specs.VirtualFile.{octets_in, units_in, records_in, closed, BeginsWith, AreRows}
use Rattle.oftp_vfile.specs.Subrecord.{Subrecord, payload_of, octets_of, AreShort}
use Rattle.oftp_vfile.specs.Carries.{pieces, InBlocks, Carries, CarriesWhole, is_open, stage_of}
use Rattle.oftp_vfile.specs.Fill.{payloads_of, records_of, fill_from, weight}
use Rattle.oftp_vfile.proofs.CarriesLemmas.{decode, nothing_more, short-left, short-right, some_piece, pieces_more, same_lengths}
use Rattle.oftp_vfile.proofs.ClosedLemmas.{ended_piece, octets_in-closed}
use Rattle.oftp_vfile.proofs.FillCarriesLemmas.{flat, fill_whole, fills_short, one_full_blocks}
use Rattle.oftp_vfile.proofs.FillListLemmas.{fills_fill}
use Rattle.oftp_vfile.proofs.TakingLemmas.{last_of}

-- if the first payloads of a list are encoded by subrecords, those of the list continue them
pub subs_go_on : (subs all : List (List Subrecord)) (next : List (List ℕ)) → AreShort (flat subs) → AreShort (flat all)
    → map payload_of subs ++ next ≡ map payload_of all → (rest : List Subrecord) × (flat all ≡ flat subs ++ rest)
subs_go_on [] all next h k e = (flat all, refl)
subs_go_on (x ∷ xs) [] next h k e = absurd (let q : payload_of x ∷ (map payload_of xs ++ next) ≡ [] = e in cc)
subs_go_on (x ∷ xs) (y ∷ ys) next h k e =
    let e' : payload_of x ∷ (map payload_of xs ++ next) ≡ payload_of y ∷ map payload_of ys = e in
    let hd : payload_of x ≡ payload_of y = cc in
    let tl : map payload_of xs ++ next ≡ map payload_of ys = cc in
    let d = decode x y [] (short-left x (flat xs) h) (short-left y (flat ys) k) (append-nil (payload_of x) ∙ hd) in
    let same : y ≡ x = d.1 ∙ ap (λ (z : List Subrecord). x ++ z) (nothing_more d.0 d.2) ∙ append-nil x in
    let ih = subs_go_on xs ys next (short-right x (flat xs) h) (short-right y (flat ys) k) tl in
    let first : flat (y ∷ ys) ≡ x ++ flat ys = ap (λ (z : List Subrecord). z ++ flat ys) same in
    (ih.0, first ∙ ap (λ (z : List Subrecord). x ++ z) ih.1 ∙ sym (append_assoc x (flat xs) ih.0))

-- the subrecords of a whole list continue those of its first payloads
go_on : (format : Format) (longest : ℕ) (payloads next rows found : List (List ℕ)) (tail end : List ℕ) (stage last : Stage)
    → (c : Carries format longest payloads rows tail stage) → (w : Carries format longest (payloads ++ next) found end last)
    → (rest : List Subrecord) × (flat w.subs ≡ flat c.subs ++ rest)
go_on format longest payloads next rows found tail end stage last c w =
    subs_go_on c.subs w.subs next c.short w.short (ap (λ (x : List (List ℕ)). x ++ next) (sym c.spelling) ∙ w.spelling)

-- pieces before others: the finished rows of the first ones are a beginning of all
rows_in_front : (rows found : List (List ℕ)) (tail end : List ℕ) (subs all rest : List Subrecord)
    → pieces all ≡ found ++ end ∷ [] → pieces subs ≡ rows ++ tail ∷ [] → all ≡ subs ++ rest → BeginsWith found rows
rows_in_front rows found tail end subs all rest e f g =
    let q = some_piece rest in
    let whole : found ++ end ∷ [] ≡ rows ++ (tail ++ q.0) ∷ q.1 = sym e ∙ ap pieces g ∙ pieces_more subs rest q.0 q.1 q.2 rows tail f in
    let r = last_of (tail ++ q.0) q.1 in
    let last : rows ++ (tail ++ q.0) ∷ q.1 ≡ (rows ++ r.0) ++ r.1 ∷ [] =
    ap (λ (x : List (List ℕ)). rows ++ x) r.2 ∙ sym (append_assoc rows r.0 (r.1 ∷ [])) in
    (r.0, (same_from_push found (rows ++ r.0) end r.1 (whole ∙ last)).0)

closed_begins : (found : List (List ℕ)) (end : List ℕ) → BeginsWith (closed found end) found
closed_begins found [] = ([], sym (append-nil found))
closed_begins found (x ∷ xs) = ((x ∷ xs) ∷ [], refl)

begins_trans : (a b c : List (List ℕ)) → BeginsWith a b → BeginsWith b c → BeginsWith a c
begins_trans a b c h k = (k.0 ++ h.0, h.1 ∙ ap (λ x. x ++ h.0) k.1 ∙ append_assoc c k.0 h.0)

-- full blocks before others
blocks_in_front : (rows found : List (List ℕ)) (behind end : List ℕ) → All (λ (r : List ℕ). length r ≡ BLOCK) rows
    → All (λ (r : List ℕ). length r ≡ BLOCK) found → length end < BLOCK → octets_in found ++ end ≡ octets_in rows ++ behind → BeginsWith found rows
blocks_in_front [] found behind end a b l e = (found, refl)
blocks_in_front (r ∷ rs) [] behind end a b l e =
    let n : length r ≡ BLOCK = a 0 [] (omega arith) in
    absurd (omega (arith, ap length e, n, l, length-append (r ++ octets_in rs) behind, length-append r (octets_in rs)))
blocks_in_front (r ∷ rs) (q ∷ qs) behind end a b l e =
    let n : length r ≡ BLOCK = a 0 [] (omega arith) in
    let m : length q ≡ BLOCK = b 0 [] (omega arith) in
    let split = sym (append_assoc q (octets_in qs) end) ∙ e ∙ append_assoc r (octets_in rs) behind in
    let s = same_lengths q r (octets_in qs ++ end) (octets_in rs ++ behind) (omega (arith, n, m)) split in
    let ih = blocks_in_front rs qs behind end (λ i d h. a (suc i) d (omega arith)) (λ i d h. b (suc i) d (omega arith)) l s.1 in
    (ih.0, ap (λ (x : List ℕ). x ∷ qs) s.0 ∙ ap (λ (x : List (List ℕ)). r ∷ x) ih.1)

stream_in_front : (rows found : List (List ℕ)) (tail end : List ℕ) (subs all rest : List Subrecord)
    → InBlocks (octets_of all) found end → InBlocks (octets_of subs) rows tail → all ≡ subs ++ rest → BeginsWith found rows
stream_in_front rows found tail end subs all rest w c g =
    let parts : octets_of all ≡ octets_of subs ++ octets_of rest = ap octets_of g ∙ flat_map-append (λ (x : Subrecord). x.octets) subs rest in
    let split : octets_in found ++ end ≡ octets_in rows ++ (tail ++ octets_of rest) =
    sym w.joined ∙ parts ∙ ap (λ (x : List ℕ). x ++ octets_of rest) c.joined ∙ append_assoc (octets_in rows) tail (octets_of rest) in
    blocks_in_front rows found (tail ++ octets_of rest) end c.full w.full w.rest split

in_front : (format : Format) (longest : ℕ) (payloads next rows found : List (List ℕ)) (tail end : List ℕ) (stage last : Stage)
    → Carries format longest payloads rows tail stage → Carries format longest (payloads ++ next) found end last → BeginsWith found rows
in_front format longest payloads next rows found tail end stage last c w = by format c w (go_on format longest payloads next rows found tail end stage last c w)
  where
    by : (format : Format) → (c : Carries format longest payloads rows tail stage) → (w : Carries format longest (payloads ++ next) found end last)
        → (rest : List Subrecord) × (flat w.subs ≡ flat c.subs ++ rest) → BeginsWith found rows
    by Fixed c w g = rows_in_front rows found tail end (flat c.subs) (flat w.subs) g.0 w.carried.0 c.carried.0 g.1
    by Variable c w g = rows_in_front rows found tail end (flat c.subs) (flat w.subs) g.0 w.carried.0 c.carried.0 g.1
    by Unstructured c w g = stream_in_front rows found tail end (flat c.subs) (flat w.subs) g.0 w.carried.1 c.carried.1 g.1
    by Text c w g = stream_in_front rows found tail end (flat c.subs) (flat w.subs) g.0 w.carried.1 c.carried.1 g.1

-- the rows that a part carries, cut off anywhere, are a beginning of the rows
pub part_begins : (format : Format) (longest : ℕ) (file payloads next rows : List (List ℕ)) (tail : List ℕ) (stage : Stage)
    → CarriesWhole format longest (payloads ++ next) file → Carries format longest payloads rows tail stage → BeginsWith file rows
part_begins format longest file payloads next rows tail stage w c =
    let whole : BeginsWith file w.found = subst (λ f. BeginsWith f w.found) w.same (closed_begins w.found w.tail) in
    begins_trans file w.found rows whole (in_front format longest payloads next rows w.found tail w.tail stage w.stage c w.carries)

-- the rows that the first payloads of fill carry are a beginning of the file's rows
pub carried_begins : (format : Format) (longest size : ℕ) (file payloads next rows : List (List ℕ)) (tail : List ℕ) (stage : Stage)
    → 2 ≤ size → AreRows format longest file → payloads ++ next ≡ payloads_of format size file
    → Carries format longest payloads rows tail stage → BeginsWith file rows
carried_begins format longest size file payloads next rows tail stage h a split c =
    let whole = subst (λ x. CarriesWhole format longest x file) (sym split) (fill_whole format longest size file h a) in
    part_begins format longest file payloads next rows tail stage whole c

-- a beginning with as many rows is all
begins_all : (file rows : List (List ℕ)) → BeginsWith file rows → length rows ≡ length file → rows ≡ file
begins_all file rows (more, is) l = by more is
  where
    by : (more : List (List ℕ)) → file ≡ rows ++ more → rows ≡ file
    by [] e = sym (append-nil rows) ∙ sym e
    by (x ∷ xs) e = absurd (omega (arith, ap length e, length-append rows (x ∷ xs), l))

records_close : (file rows : List (List ℕ)) (tail : List ℕ) (ss : List Subrecord)
    → is_open (stage_of ss) ≡ false → pieces ss ≡ rows ++ tail ∷ [] → BeginsWith file rows → length rows ≡ length file → closed rows tail ≡ file
records_close file rows tail ss o e b l = ap (closed rows) (ended_piece ss rows tail o e) ∙ begins_all file rows b l

nothing_behind : (a b : List ℕ) → length (a ++ b) ≡ length a → a ++ b ≡ a
nothing_behind a [] l = append-nil a
nothing_behind a (x ∷ xs) l = absurd (omega (arith, l, length-append a (x ∷ xs)))

-- if as many octets were received as the whole has, the blocks are those of the whole
stream_closes : (file rows found : List (List ℕ)) (tail end : List ℕ) (subs all rest : List Subrecord)
    → InBlocks (octets_of all) found end → InBlocks (octets_of subs) rows tail → all ≡ subs ++ rest → closed found end ≡ file
    → units_in (closed rows tail) ≡ units_in file → closed rows tail ≡ file
stream_closes file rows found tail end subs all rest w c g same units =
    let parts : octets_of all ≡ octets_of subs ++ octets_of rest = ap octets_of g ∙ flat_map-append (λ (x : Subrecord). x.octets) subs rest in
    let here : length (octets_of subs) ≡ units_in file = ap length (c.joined ∙ sym (octets_in-closed rows tail)) ∙ units in
    let there : length (octets_of all) ≡ units_in file = ap length (w.joined ∙ sym (octets_in-closed found end)) ∙ ap units_in same in
    let none = nothing_behind (octets_of subs) (octets_of rest) (ap length (sym parts) ∙ there ∙ sym here) in
    let r = one_full_blocks rows found tail end c.full w.full c.rest w.rest (sym c.joined ∙ sym none ∙ sym parts ∙ w.joined) in
    ap (λ x. closed x tail) r.0 ∙ ap (closed found) r.1 ∙ same

-- a part that is closed, and has the counts of the file, carries all of it
pub part_closes : (format : Format) (longest : ℕ) (file payloads next rows : List (List ℕ)) (tail : List ℕ) (stage : Stage)
    → CarriesWhole format longest (payloads ++ next) file → Carries format longest payloads rows tail stage → is_open stage ≡ false
    → records_in format rows ≡ records_in format file → units_in (closed rows tail) ≡ units_in file → closed rows tail ≡ file
part_closes format longest file payloads next rows tail stage w c o records units =
    by format w c (part_begins format longest file payloads next rows tail stage w c)
    (go_on format longest payloads next rows w.found tail w.tail stage w.stage c w.carries) records
  where
    by : (format : Format) → (w : CarriesWhole format longest (payloads ++ next) file) → (c : Carries format longest payloads rows tail stage) → BeginsWith file rows
        → (rest : List Subrecord) × (flat w.carries.subs ≡ flat c.subs ++ rest) → records_in format rows ≡ records_in format file → closed rows tail ≡ file
    by Fixed w c b g n = records_close file rows tail (flat c.subs) (ap is_open (sym c.last) ∙ o) c.carried.0 b n
    by Variable w c b g n = records_close file rows tail (flat c.subs) (ap is_open (sym c.last) ∙ o) c.carried.0 b n
    by Unstructured w c b g n =
        stream_closes file rows w.found tail w.tail (flat c.subs) (flat w.carries.subs) g.0 w.carries.carried.1 c.carried.1 g.1 w.same units
    by Text w c b g n =
        stream_closes file rows w.found tail w.tail (flat c.subs) (flat w.carries.subs) g.0 w.carries.carried.1 c.carried.1 g.1 w.same units

-- a payload among those that short subrecords encode is encoded by them
pub spelled_payload : (before next : List (List ℕ)) (payload : List ℕ) (all : List (List Subrecord)) → AreShort (flat all)
    → before ++ payload ∷ next ≡ map payload_of all → (ss : List Subrecord) × AreShort ss × (payload ≡ payload_of ss)
spelled_payload [] next payload [] h e = absurd (let q : payload ∷ next ≡ [] = e in cc)
spelled_payload [] next payload (y ∷ ys) h e =
    let e' : payload ∷ next ≡ payload_of y ∷ map payload_of ys = e in
    (y, short-left y (flat ys) h, let hd : payload ≡ payload_of y = cc in hd)
spelled_payload (b ∷ bs) next payload [] h e = absurd (let q : b ∷ (bs ++ payload ∷ next) ≡ [] = e in cc)
spelled_payload (b ∷ bs) next payload (y ∷ ys) h e =
    let e' : b ∷ (bs ++ payload ∷ next) ≡ payload_of y ∷ map payload_of ys = e in
    let tl : bs ++ payload ∷ next ≡ map payload_of ys = cc in
    spelled_payload bs next payload ys (short-right y (flat ys) h) tl

-- short subrecords encode each payload that fill makes of a file
pub fill_payload : (format : Format) (size : ℕ) (file before next : List (List ℕ)) (payload : List ℕ) → 2 ≤ size
    → before ++ payload ∷ next ≡ payloads_of format size file → (ss : List Subrecord) × AreShort ss × (payload ≡ payload_of ss)
fill_payload format size file before next payload h e =
    let records = records_of format file in
    let fills = fills_fill (weight records) size records h (omega arith) in
    spelled_payload before next payload (fill_from (weight records) size records) (fills_short size records _ fills) e
