-- The payloads that a taker takes carry its rows, and payloads that carry rows within the limits have no error.
use Rattle.std.proofs.Common.{◌≡◌, ◌≢◌, ℕ, suc, ◌+◌, ◌*◌, ◌/◌, ◌%◌, ◌<◌, ◌≤◌, Bool, true, false, cond, nat_le, eqb, ◌&&◌, Some, None, List, [], ◌∷◌, ◌++◌, length, get_or, take, drop, map, refl, sym, ap, ◌∙◌, subst, arith, append_assoc, All, not}
use Rattle.std.specs.List.{flat_map}
use Rattle.std.proofs.lemmas.Bool.{eq-eqb, eqb-true, leb-false, leb-true, le-leb, le-ltb, lt-leb, ltb-false, false≢true, not-false, not_from_true, or_from, or_parts}
use Rattle.std.proofs.lemmas.List.{append-nil, length-append, length-drop, take-append-drop, same_from_push, length_push, map-append, length-take-le, get_or_at}
use Rattle.std.proofs.lemmas.List.Elements.{All-push, All-nil}
use Rattle.std.proofs.lemmas.List.Concat.{flat_map-append}
use Rattle.oftp_vfile.specs.declared.format.TheConstants.{BLOCK, MOST_ROWS}
use Rattle.oftp_vfile.specs.declared.format.Format.{Format}
use Rattle.oftp_vfile.specs.declared.format.Format.TheVariants.{Fixed, Variable, Unstructured, Text}
use Rattle.oftp_vfile.specs.declared.taking.Stage.{Stage}
use Rattle.oftp_vfile.specs.declared.taking.Stage.TheVariants.{Fresh, Open, Ended}
use Rattle.oftp_vfile.specs.declared.fault.TakeFault.{TakeFault}
use Rattle.oftp_vfile.specs.Growth.{stream_rows, stream_tail}
use Rattle.oftp_vfile.specs.Subrecord.{Subrecord, header, payload_of, octets_of, AreShort}
use Rattle.oftp_vfile.specs.Taking.{Taking, is_ended, added, added_all, new_rows, is_too_big, is_wrong_size, fault_at, fault_in, IsAllowed, AreAllowed, Walked, FirstFault, new_taking, CarriesWithin, IsSameFile, HasTaken, Took}
use Rattle.oftp_vfile.specs.VirtualFile.{is_stream, octets_in}
use Rattle.oftp_vfile.specs.Carries.{onto, pieces, IsStream, InBlocks, Carried, stage_of}
use Rattle.oftp_vfile.proofs.TakingLemmas.{NoFault, last_of, no_fault, fault_none, not_too_big, added-rows_few, restored, restored-all}

-- there is a piece
pub some_piece : (ss : List Subrecord) → (p : List ℕ) × (ps : List (List ℕ)) × (pieces ss ≡ p ∷ ps)
some_piece [] = ([], [], refl)
some_piece (s ∷ ss) =
    let r = some_piece ss in
    let P : Bool → Type 0 = λ b. (p : List ℕ) × (ps : List (List ℕ)) × (cond b (s.octets ∷ pieces ss) (onto s.octets (pieces ss)) ≡ p ∷ ps) in
    let both : (b : Bool) → P b = λ b. elim b as P [ true ↦ (s.octets, pieces ss, refl) | false ↦ (s.octets ++ r.0, r.1, ap (onto s.octets) r.2) ] in
    both s.ends

abbrev Joins : List (List ℕ) → List (List ℕ) → List ℕ → List (List ℕ) → Type 0
Joins xs xys p ps = (rows : List (List ℕ)) (tail : List ℕ) → xs ≡ rows ++ tail ∷ [] → xys ≡ rows ++ (tail ++ p) ∷ ps

joins_ended : (octets : List ℕ) (xs xys : List (List ℕ)) (p : List ℕ) (ps : List (List ℕ)) → (q : List ℕ) (qs : List (List ℕ)) → xs ≡ q ∷ qs → Joins xs xys p ps
    → Joins (octets ∷ xs) (octets ∷ xys) p ps
joins_ended octets xs xys p ps q qs g ih [] tail e = absurd (let l : suc (length (q ∷ qs)) ≡ 1 = ap (λ (x : List (List ℕ)). suc (length x)) (sym g) ∙ ap length e in omega arith)
joins_ended octets xs xys p ps q qs g ih (r ∷ rs) tail e =
    let h : octets ≡ r = cc in
    let t : xs ≡ rs ++ tail ∷ [] = cc in
    ap (λ (x : List ℕ). x ∷ xys) h ∙ ap (λ (x : List (List ℕ)). r ∷ x) (ih rs tail t)

joins_open : (octets : List ℕ) (xs xys : List (List ℕ)) (p : List ℕ) (ps : List (List ℕ)) → (q : List ℕ) (qs : List (List ℕ)) → xs ≡ q ∷ qs → Joins xs xys p ps
    → Joins (onto octets xs) (onto octets xys) p ps
joins_open octets xs xys p ps q qs g ih [] tail e =
    let f : (octets ++ q) ∷ qs ≡ tail ∷ [] = ap (onto octets) (sym g) ∙ e in
    let t : octets ++ q ≡ tail = cc in
    let n : qs ≡ [] = cc in
    let k : xys ≡ (q ++ p) ∷ ps = ih [] q (g ∙ ap (λ (x : List (List ℕ)). q ∷ x) n) in
    ap (onto octets) k ∙ ap (λ (x : List ℕ). x ∷ ps) (sym (append_assoc octets q p)) ∙ ap (λ (x : List ℕ). (x ++ p) ∷ ps) t
joins_open octets xs xys p ps q qs g ih (r ∷ rs) tail e =
    let f : (octets ++ q) ∷ qs ≡ r ∷ (rs ++ tail ∷ []) = ap (onto octets) (sym g) ∙ e in
    let h : octets ++ q ≡ r = cc in
    let t : qs ≡ rs ++ tail ∷ [] = cc in
    let k : xys ≡ (q ∷ rs) ++ (tail ++ p) ∷ ps = ih (q ∷ rs) tail (g ∙ ap (λ (x : List (List ℕ)). q ∷ x) t) in
    ap (onto octets) k ∙ ap (λ (x : List ℕ). x ∷ (rs ++ (tail ++ p) ∷ ps)) h

-- what more subrecords add: the first of their pieces continues the open part
pub pieces_more : (xs ys : List Subrecord) (p : List ℕ) (ps : List (List ℕ)) → pieces ys ≡ p ∷ ps → (rows : List (List ℕ)) (tail : List ℕ) → pieces xs ≡ rows ++ tail ∷ []
    → pieces (xs ++ ys) ≡ rows ++ (tail ++ p) ∷ ps
pieces_more [] ys p ps f rows tail e =
    let same = same_from_push [] rows [] tail e in
    f ∙ ap (λ (x : List ℕ). (x ++ p) ∷ ps) same.1 ∙ ap (λ (x : List (List ℕ)). x ++ (tail ++ p) ∷ ps) same.0
pieces_more (s ∷ xs) ys p ps f rows tail e =
    let ih = pieces_more xs ys p ps f in
    let g = some_piece xs in
    let P : Bool → Type 0 = λ b. cond b (s.octets ∷ pieces xs) (onto s.octets (pieces xs)) ≡ rows ++ tail ∷ []
    → cond b (s.octets ∷ pieces (xs ++ ys)) (onto s.octets (pieces (xs ++ ys))) ≡ rows ++ (tail ++ p) ∷ ps in
    let both : (b : Bool) → P b = λ b. elim b as P [
      | true ↦ joins_ended s.octets (pieces xs) (pieces (xs ++ ys)) p ps g.0 g.1 g.2 ih rows tail
      | false ↦ joins_open s.octets (pieces xs) (pieces (xs ++ ys)) p ps g.0 g.1 g.2 ih rows tail
    ] in
    both s.ends e

-- one more subrecord
pub pieces_push : (ss : List Subrecord) (s : Subrecord) (rows : List (List ℕ)) (tail : List ℕ) → pieces ss ≡ rows ++ tail ∷ []
    → pieces (ss ++ s ∷ []) ≡ (cond s.ends (rows ++ (tail ++ s.octets) ∷ []) rows) ++ (cond s.ends [] (tail ++ s.octets)) ∷ []
pieces_push ss s rows tail e =
    let P : Bool → Type 0 = λ b. (b ≡ s.ends) → pieces (ss ++ s ∷ []) ≡ (cond b (rows ++ (tail ++ s.octets) ∷ []) rows) ++ (cond b [] (tail ++ s.octets)) ∷ [] in
    let both : (b : Bool) → P b = λ b. elim b as P [
      | true ↦ λ t. pieces_more ss (s ∷ []) s.octets ([] ∷ []) (ap (λ (x : Bool). cond x (s.octets ∷ [] ∷ []) ((s.octets ++ []) ∷ [])) (sym t)) rows tail e
          ∙ sym (append_assoc rows ((tail ++ s.octets) ∷ []) ([] ∷ []))
      | false ↦ λ t. pieces_more ss (s ∷ []) s.octets [] (ap (λ (x : Bool). cond x (s.octets ∷ [] ∷ []) ((s.octets ++ []) ∷ [])) (sym t)
          ∙ ap (λ (x : List ℕ). x ∷ []) (append-nil s.octets)) rows tail e
    ] in
    both s.ends refl

pub stage_of-push : (ss : List Subrecord) (s : Subrecord) → stage_of (ss ++ s ∷ []) ≡ cond s.ends Ended Open
stage_of-push [] s = refl
stage_of-push (t ∷ []) s = refl
stage_of-push (t ∷ u ∷ ss) s = stage_of-push (u ∷ ss) s

ended_no : (b : Bool) → is_ended (cond b Ended Open) ≡ false → b ≡ false
ended_no true e = cc
ended_no false e = refl

pub is_stream-push : (ss : List Subrecord) (s : Subrecord) → IsStream ss → is_ended (stage_of ss) ≡ false → IsStream (ss ++ s ∷ [])
is_stream-push [] s h e = tt
is_stream-push (t ∷ []) s h e = (ended_no t.ends e, tt)
is_stream-push (t ∷ u ∷ ss) s h e = (h.0, is_stream-push (u ∷ ss) s h.1 e)

pub octets_of-push : (ss : List Subrecord) (s : Subrecord) → octets_of (ss ++ s ∷ []) ≡ octets_of ss ++ s.octets
octets_of-push ss s = flat_map-append (λ (x : Subrecord). x.octets) ss (s ∷ []) ∙ ap (λ (x : List ℕ). octets_of ss ++ x) (append-nil s.octets)

pub octets_in-push : (rows : List (List ℕ)) (r : List ℕ) → octets_in (rows ++ r ∷ []) ≡ octets_in rows ++ r
octets_in-push rows r = flat_map-append (λ (x : List ℕ). x) rows (r ∷ []) ∙ ap (λ (x : List ℕ). octets_in rows ++ x) (append-nil r)

-- more octets in blocks
pub blocks_more : (octets more : List ℕ) (rows : List (List ℕ)) (tail : List ℕ) → InBlocks octets rows tail → length more < 64
    → InBlocks (octets ++ more) (stream_rows rows (tail ++ more)) (stream_tail (tail ++ more))
blocks_more octets more rows tail b h =
    let all : List ℕ = tail ++ more in
    let j : octets ++ more ≡ octets_in rows ++ all = ap (λ (x : List ℕ). x ++ more) b.joined ∙ append_assoc (octets_in rows) tail more in
    let l : length all ≡ length tail + length more = length-append tail more in
    let P : Bool → Type 0 = λ t. (t ≡ nat_le BLOCK (length all)) → InBlocks (octets ++ more) (cond t (rows ++ take BLOCK all ∷ []) rows) (cond t (drop BLOCK all) all) in
    let both : (t : Bool) → P t = λ t. elim t as P [
      | true ↦ λ e. (let q : BLOCK ≤ length all = leb-true _ _ (sym e) in record {
        joined = j ∙ ap (λ (x : List ℕ). octets_in rows ++ x) (sym (take-append-drop BLOCK all)) ∙ sym (append_assoc (octets_in rows) (take BLOCK all) (drop BLOCK all))
            ∙ ap (λ (x : List ℕ). x ++ drop BLOCK all) (sym (octets_in-push rows (take BLOCK all)));
        full = All-push (λ (r : List ℕ). length r ≡ BLOCK) rows (take BLOCK all) b.full (length-take-le BLOCK all q);
        rest = omega (arith, length-drop BLOCK all, b.rest, h, l);
      })
      | false ↦ λ e. record { joined = j; full = b.full; rest = leb-false BLOCK (length all) (sym e) }
    ] in
    both (nat_le BLOCK (length all)) refl

-- what a header encodes
pub header_says : (s : Subrecord) → length s.octets < 64 → (header s % 64 ≡ length s.octets) × (nat_le 128 (header s) ≡ s.ends) × (header s % 128 ≡ length s.octets)
header_says s h =
    let n : ℕ = length s.octets in
    let P : Bool → Type 0 = λ b. (cond b (128 + n) n % 64 ≡ n) × (nat_le 128 (cond b (128 + n) n) ≡ b) × (cond b (128 + n) n % 128 ≡ n) in
    let both : (b : Bool) → P b = λ b. elim b as P [ true ↦ (omega arith, le-leb 128 (128 + n) (omega arith), omega arith) | false ↦ (omega arith, lt-leb 128 n (omega arith), omega arith) ] in
    both s.ends

and_left : (b : Bool) → (true && b) ≡ false → b ≡ false
and_left b e = e

abbrev all_after : Format → List (List ℕ) → List ℕ → Subrecord → List (List ℕ)
all_after format all tail s = cond (is_stream format) (stream_rows all (tail ++ s.octets)) (cond s.ends (all ++ (tail ++ s.octets) ∷ []) all)

abbrev tail_after : Format → List ℕ → Subrecord → List ℕ
tail_after format tail s = cond (is_stream format) (stream_tail (tail ++ s.octets)) (cond s.ends [] (tail ++ s.octets))

carried_record : (longest : ℕ) (P : List ℕ → Type 0) (ss : List Subrecord) (s : Subrecord) (all : List (List ℕ)) (tail : List ℕ)
    → (pieces ss ≡ all ++ tail ∷ []) × All P all × (length tail ≤ longest) → (s.ends ≡ true → P (tail ++ s.octets)) → length tail + length s.octets ≤ longest
    → (pieces (ss ++ s ∷ []) ≡ cond s.ends (all ++ (tail ++ s.octets) ∷ []) all ++ cond s.ends [] (tail ++ s.octets) ∷ [])
    × All P (cond s.ends (all ++ (tail ++ s.octets) ∷ []) all) × (length (cond s.ends [] (tail ++ s.octets)) ≤ longest)
carried_record longest P ss s all tail c p h =
    let Q : Bool → Type 0 = λ b. (b ≡ s.ends) → All P (cond b (all ++ (tail ++ s.octets) ∷ []) all) × (length (cond b [] (tail ++ s.octets)) ≤ longest) in
    let both : (b : Bool) → Q b = λ b. elim b as Q [ true ↦ λ e. (All-push P all (tail ++ s.octets) c.1 (p (sym e)), omega arith) | false ↦ λ e. (c.1, omega (arith, length-append tail s.octets)) ] in
    let r = both s.ends refl in
    (pieces_push ss s all tail c.0, r.0, r.1)

pub carried_added : (format : Format) (longest : ℕ) (ss : List Subrecord) (s : Subrecord) (all : List (List ℕ)) (tail : List ℕ) → Carried format longest ss all tail
    → (is_stream format && is_ended (stage_of ss)) ≡ false
    → is_wrong_size format longest (length tail + length s.octets) s.ends ≡ false → length s.octets < 64
    → Carried format longest (ss ++ s ∷ []) (all_after format all tail s) (tail_after format tail s)
carried_added Fixed longest ss s all tail c e w h =
    let b = or_parts _ _ w in
    let size : s.ends ≡ true → length (tail ++ s.octets) ≡ longest = λ t. length-append tail s.octets
    ∙ eqb-true _ _ (not-false _ (ap (λ (x : Bool). x && not (eqb (length tail + length s.octets) longest)) (sym t) ∙ b.1)) in
    carried_record longest (λ (r : List ℕ). length r ≡ longest) ss s all tail c size (ltb-false _ _ b.0)
carried_added Variable longest ss s all tail c e w h =
    let le : length tail + length s.octets ≤ longest = ltb-false _ _ w in
    carried_record longest (λ (r : List ℕ). length r ≤ longest) ss s all tail c (λ _. omega (arith, length-append tail s.octets)) le
carried_added Unstructured longest ss s all tail c e w h = (
  is_stream-push ss s c.0 e,
  subst (λ (x : List ℕ). InBlocks x (stream_rows all (tail ++ s.octets)) (stream_tail (tail ++ s.octets))) (sym (octets_of-push ss s)) (blocks_more (octets_of ss) s.octets all tail c.1 h),
)
carried_added Text longest ss s all tail c e w h = (
  is_stream-push ss s c.0 e,
  subst (λ (x : List ℕ). InBlocks x (stream_rows all (tail ++ s.octets)) (stream_tail (tail ++ s.octets))) (sym (octets_of-push ss s)) (blocks_more (octets_of ss) s.octets all tail c.1 h),
)

rows_after : (gone rows : List (List ℕ)) (tail : List ℕ) (s : Subrecord) (format : Format) → all_after format (gone ++ rows) tail s ≡ gone ++ all_after format rows tail s
rows_after gone rows tail s format =
    let octets : List ℕ = tail ++ s.octets in
    let push : (r : List ℕ) → (gone ++ rows) ++ r ∷ [] ≡ gone ++ (rows ++ r ∷ []) = λ r. append_assoc gone rows (r ∷ []) in
    let P : Bool → Bool → Bool → Type 0 =
    λ a b d. cond a (cond d ((gone ++ rows) ++ take BLOCK octets ∷ []) (gone ++ rows)) (cond b ((gone ++ rows) ++ octets ∷ []) (gone ++ rows))
    ≡ gone ++ cond a (cond d (rows ++ take BLOCK octets ∷ []) rows) (cond b (rows ++ octets ∷ []) rows) in
    let every : (a b d : Bool) → P a b d = λ a b d. elim a as (λ a. P a b d) [
      | true ↦ elim d as (λ d. P true b d) [ true ↦ push (take BLOCK octets) | false ↦ refl ]
      | false ↦
          elim b as (λ b. P false b d) [
            | true ↦ push octets
            | false ↦ refl
          ]
    ] in
    every (is_stream format) s.ends (nat_le BLOCK (length octets))

-- a taker that takes one more allowed subrecord holds it
pub holds_added : (t : Taking) (gone : List (List ℕ)) (ss : List Subrecord) (s : Subrecord) → HasTaken t gone ss → IsAllowed t s → HasTaken (added t s) gone (ss ++ s ∷ [])
holds_added t gone ss s h a =
    let f : NoFault t (header s) (length s.octets) = no_fault t (header s) (length s.octets) a.1 in
    let says = header_says s a.0 in
    let fits : is_too_big t s.ends (length s.octets) ≡ false = subst (λ (x : ℕ). is_too_big t s.ends x ≡ false) says.0 (subst (λ (x : Bool). is_too_big t x (header s % 64) ≡ false) says.1 f.fits) in
    let fit = not_too_big t s.ends (length s.octets) fits in
    let sized : is_wrong_size t.format t.longest (length t.tail + length s.octets) s.ends ≡ false =
    let ends = subst (λ (x : Bool). is_wrong_size t.format t.longest (length t.tail + header s % 64) x ≡ false) says.1 f.sized in
    subst (λ (x : ℕ). is_wrong_size t.format t.longest (length t.tail + x) s.ends ≡ false) says.0 ends in
    let on : (is_stream t.format && is_ended (stage_of ss)) ≡ false = subst (λ (x : Stage). (is_stream t.format && is_ended x) ≡ false) h.last f.on in
    let few = added-rows_few t s in
    let carried = carried_added t.format t.longest ss s (gone ++ t.rows) t.tail h.carried on sized a.0 in
    let P : List (List ℕ) → Type 0 = λ x. Carried t.format t.longest (ss ++ s ∷ []) x (tail_after t.format t.tail s) in
    record {
      carried = subst P (rows_after gone t.rows t.tail s t.format) carried;
      away = h.away;
      last = sym (stage_of-push ss s);
      units = ap (λ x. x + length s.octets) h.units ∙ sym (length-append (octets_of ss) s.octets) ∙ ap length (sym (octets_of-push ss s));
      octets = λ _. omega (arith, fit.0);
      few = omega (arith, fit.1, few, h.away);
    }

pub holds_all : (t : Taking) (gone : List (List ℕ)) (ss rs : List Subrecord) → HasTaken t gone ss → AreAllowed t rs → HasTaken (added_all t rs) gone (ss ++ rs)
holds_all t gone ss [] h a = subst (λ (x : List Subrecord). HasTaken t gone x) (sym (append-nil ss)) h
holds_all t gone ss (r ∷ rs) h a =
    subst (λ (x : List Subrecord). HasTaken (added_all (added t r) rs) gone x) (append_assoc ss (r ∷ []) rs) (holds_all (added t r) gone (ss ++ r ∷ []) rs (holds_added t gone ss r h a.0) a.1)

pub short-append : (xs ys : List Subrecord) → AreShort xs → AreShort ys → AreShort (xs ++ ys)
short-append [] ys h k = k
short-append (x ∷ xs) ys h k = (h.0, short-append xs ys h.1 k)

pub short-left : (xs ys : List Subrecord) → AreShort (xs ++ ys) → AreShort xs
short-left [] ys h = tt
short-left (x ∷ xs) ys h = (h.0, short-left xs ys h.1)

pub short-right : (xs ys : List Subrecord) → AreShort (xs ++ ys) → AreShort ys
short-right [] ys h = h
short-right (x ∷ xs) ys h = short-right xs ys h.1

pub allowed_short : (t : Taking) (ss : List Subrecord) → AreAllowed t ss → AreShort ss
allowed_short t [] a = tt
allowed_short t (s ∷ ss) a = (a.0.0, allowed_short (added t s) ss a.1)

flat-push : (subs : List (List Subrecord)) (ss : List Subrecord) → flat_map (λ (x : List Subrecord). x) (subs ++ ss ∷ []) ≡ flat_map (λ (x : List Subrecord). x) subs ++ ss
flat-push subs ss = flat_map-append (λ (x : List Subrecord). x) subs (ss ∷ []) ∙ ap (λ (x : List Subrecord). flat_map (λ (y : List Subrecord). y) subs ++ x) (append-nil ss)

-- a taker that took payloads, and walks through one more, took it too
pub took_walked : (old new : Taking) (gone payloads : List (List ℕ)) (payload : List ℕ) → Took old gone payloads → Walked old new payload [] → Took new gone (payloads ++ payload ∷ [])
took_walked old new gone payloads payload t w =
    let flat : List Subrecord = flat_map (λ (x : List Subrecord). x) t.subs in
    let all : HasTaken (added_all old w.subs) gone (flat ++ w.subs) = holds_all old gone flat w.subs t.holds w.allowed in
    let holds : HasTaken new gone (flat ++ w.subs) = subst (λ (x : Taking). HasTaken x gone (flat ++ w.subs)) (sym w.after) all in
    record {
      subs = t.subs ++ w.subs ∷ [];
      spelling = ap (λ (x : List (List ℕ)). x ++ payload ∷ []) t.spelling ∙ ap (λ (x : List ℕ). map payload_of t.subs ++ x ∷ []) (w.spelling ∙ append-nil (payload_of w.subs))
          ∙ sym (map-append payload_of t.subs (w.subs ∷ []));
      short = subst AreShort (sym (flat-push t.subs w.subs)) (short-append flat w.subs t.short (allowed_short old w.subs w.allowed));
      holds = subst (λ (x : List Subrecord). HasTaken new gone x) (sym (flat-push t.subs w.subs)) holds;
    }

pub took_new : (format : Format) (longest kept_rows kept_units limit : ℕ) → kept_rows ≤ MOST_ROWS → Took (new_taking format longest kept_rows kept_units limit) [] []
took_new format longest kept_rows kept_units limit h =
    record {
      subs = [];
      spelling = refl;
      short = tt;
      holds = record {
        carried = none format;
        away = refl;
        last = refl;
        units = refl;
        octets = λ n. absurd (n refl);
        few = omega arith;
      };
    }
  where
    none : (g : Format) → Carried g longest [] [] []
    none Fixed = (refl, All-nil (λ (r : List ℕ). length r ≡ longest), omega arith)
    none Variable = (refl, All-nil (λ (r : List ℕ). length r ≤ longest), omega arith)
    none Unstructured = (tt, record { joined = refl; full = All-nil (λ (r : List ℕ). length r ≡ BLOCK); rest = omega arith })
    none Text = (tt, record { joined = refl; full = All-nil (λ (r : List ℕ). length r ≡ BLOCK); rest = omega arith })

pub took_away : (t : Taking) (gone payloads : List (List ℕ)) → Took t gone payloads → Took (record t { rows = []; away = t.away + length t.rows }) (gone ++ t.rows) payloads
took_away t gone payloads k =
    let h = k.holds in
    let ss : List Subrecord = flat_map (λ (x : List Subrecord). x) k.subs in
    let l = length-append gone t.rows in
    record {
      subs = k.subs;
      spelling = k.spelling;
      short = k.short;
      holds = record {
        carried = subst (λ (x : List (List ℕ)). Carried t.format t.longest ss x t.tail) (sym (append-nil (gone ++ t.rows))) h.carried;
        away = omega (arith, h.away, l);
        last = h.last;
        units = h.units;
        octets = h.octets;
        few = omega (arith, l, h.few);
      };
    }

pub same_lengths : (a b x y : List ℕ) → length a ≡ length b → a ++ x ≡ b ++ y → (a ≡ b) × (x ≡ y)
same_lengths [] [] x y l e = (refl, e)
same_lengths [] (b ∷ bs) x y l e = absurd (omega arith)
same_lengths (a ∷ as') [] x y l e = absurd (omega arith)
same_lengths (a ∷ as') (b ∷ bs) x y l e =
    let h : a ≡ b = cc in
    let t : as' ++ x ≡ bs ++ y = cc in
    let r = same_lengths as' bs x y (omega arith) t in
    (ap (λ (z : ℕ). z ∷ as') h ∙ ap (λ (z : List ℕ). b ∷ z) r.0, r.1)

-- subrecords are encoded in one way: what begins with them has them first
pub decode : (xs ys : List Subrecord) (rest : List ℕ) → AreShort xs → AreShort ys → payload_of xs ++ rest ≡ payload_of ys → (more : List Subrecord) × (ys ≡ xs ++ more) × (rest ≡ payload_of more)
decode [] ys rest h k e = (ys, refl, e)
decode (x ∷ xs) [] rest h k e = absurd (let q : header x ∷ (x.octets ++ payload_of xs ++ rest) ≡ [] = e in cc)
decode (x ∷ xs) (y ∷ ys) rest h k e =
    let a = header_says x h.0 in
    let b = header_says y k.0 in
    let e' : header x ∷ ((x.octets ++ payload_of xs) ++ rest) ≡ header y ∷ (y.octets ++ payload_of ys) = e in
    let hd : header x ≡ header y = cc in
    let tl : (x.octets ++ payload_of xs) ++ rest ≡ y.octets ++ payload_of ys = cc in
    let len : length x.octets ≡ length y.octets = sym a.0 ∙ ap (λ n. n % 64) hd ∙ b.0 in
    let flag : x.ends ≡ y.ends = sym a.1 ∙ ap (λ n. nat_le 128 n) hd ∙ b.1 in
    let both = same_lengths x.octets y.octets (payload_of xs ++ rest) (payload_of ys) len (sym (append_assoc x.octets (payload_of xs) rest) ∙ tl) in
    let r = decode xs ys rest h.1 k.1 both.1 in
    let same : y ≡ x = ap (λ (z : Bool). record { ends = z; octets = y.octets }) (sym flag) ∙ ap (λ (z : List ℕ). record { ends = x.ends; octets = z }) (sym both.0) in
    (r.0, ap (λ (z : Subrecord). z ∷ ys) same ∙ ap (λ (z : List Subrecord). x ∷ z) r.1, r.2)

pub nothing_more : (ss : List Subrecord) → [] ≡ payload_of ss → ss ≡ []
nothing_more [] e = refl
nothing_more (s ∷ ss) e = absurd (let q : [] ≡ header s ∷ (s.octets ++ payload_of ss) = e in cc)

decode_last : (xs ys : List (List Subrecord)) (payload : List ℕ) → AreShort (flat_map (λ (x : List Subrecord). x) xs) → AreShort (flat_map (λ (x : List Subrecord). x) ys)
    → map payload_of xs ++ payload ∷ [] ≡ map payload_of ys
    → (p : List Subrecord) × (flat_map (λ (x : List Subrecord). x) ys ≡ flat_map (λ (x : List Subrecord). x) xs ++ p) × (payload ≡ payload_of p)
decode_last [] [] payload h k e = absurd (let q : payload ∷ [] ≡ [] = e in cc)
decode_last [] (y ∷ []) payload h k e = (y, append-nil y, (let q : payload ∷ [] ≡ payload_of y ∷ [] = e in cc))
decode_last [] (y ∷ z ∷ ys) payload h k e = absurd (let q : payload ∷ [] ≡ payload_of y ∷ payload_of z ∷ map payload_of ys = e in cc)
decode_last (x ∷ xs) [] payload h k e = absurd (let q : payload_of x ∷ (map payload_of xs ++ payload ∷ []) ≡ [] = e in cc)
decode_last (x ∷ xs) (y ∷ ys) payload h k e =
    let fx : List Subrecord = flat_map (λ (z : List Subrecord). z) xs in
    let fy : List Subrecord = flat_map (λ (z : List Subrecord). z) ys in
    let e' : payload_of x ∷ (map payload_of xs ++ payload ∷ []) ≡ payload_of y ∷ map payload_of ys = e in
    let hd : payload_of x ≡ payload_of y = cc in
    let tl : map payload_of xs ++ payload ∷ [] ≡ map payload_of ys = cc in
    let d = decode x y [] (short-left x fx h) (short-left y fy k) (append-nil (payload_of x) ∙ hd) in
    let same : y ≡ x = d.1 ∙ ap (λ (z : List Subrecord). x ++ z) (nothing_more d.0 d.2) ∙ append-nil x in
    let r = decode_last xs ys payload (short-right x fx h) (short-right y fy k) tl in
    (r.0, ap (λ (z : List Subrecord). z ++ fy) same ∙ ap (λ (z : List Subrecord). x ++ z) r.1 ∙ sym (append_assoc x fx r.0), r.2)

-- the pieces joined are the octets
octets_in-onto : (octets : List ℕ) (ps : List (List ℕ)) → octets_in (onto octets ps) ≡ octets ++ octets_in ps
octets_in-onto octets [] = refl
octets_in-onto octets (p ∷ ps) = append_assoc octets p (octets_in ps)

pub octets_in-pieces : (ss : List Subrecord) → octets_in (pieces ss) ≡ octets_of ss
octets_in-pieces [] = refl
octets_in-pieces (s ∷ ss) =
    let P : Bool → Type 0 = λ b. octets_in (cond b (s.octets ∷ pieces ss) (onto s.octets (pieces ss))) ≡ s.octets ++ octets_of ss in
    let ih = ap (λ (x : List ℕ). s.octets ++ x) (octets_in-pieces ss) in
    let both : (b : Bool) → P b = λ b. elim b as P [ true ↦ ih | false ↦ octets_in-onto s.octets (pieces ss) ∙ ih ] in
    both s.ends

joined_pieces : (ss : List Subrecord) (rows : List (List ℕ)) (tail : List ℕ) → pieces ss ≡ rows ++ tail ∷ [] → octets_of ss ≡ octets_in rows ++ tail
joined_pieces ss rows tail e = sym (octets_in-pieces ss) ∙ ap octets_in e ∙ octets_in-push rows tail

pub carried-joined : (format : Format) (longest : ℕ) (ss : List Subrecord) (rows : List (List ℕ)) (tail : List ℕ) → Carried format longest ss rows tail → octets_of ss ≡ octets_in rows ++ tail
carried-joined Fixed longest ss rows tail c = joined_pieces ss rows tail c.0
carried-joined Variable longest ss rows tail c = joined_pieces ss rows tail c.0
carried-joined Unstructured longest ss rows tail c = c.1.joined
carried-joined Text longest ss rows tail c = c.1.joined

-- a stream that goes on hasn't ended
stream_on : (xs : List Subrecord) (s : Subrecord) (ys : List Subrecord) → IsStream (xs ++ s ∷ ys) → is_ended (stage_of xs) ≡ false
stream_on [] s ys h = refl
stream_on (x ∷ []) s ys h = ap (λ (b : Bool). is_ended (cond b Ended Open)) h.0
stream_on (x ∷ y ∷ xs) s ys h = stream_on (y ∷ xs) s ys h.1

pub going_on : (format : Format) (longest : ℕ) (xs : List Subrecord) (s : Subrecord) (ys : List Subrecord) (rows : List (List ℕ)) (tail : List ℕ)
    → Carried format longest (xs ++ s ∷ ys) rows tail → (is_stream format && is_ended (stage_of xs)) ≡ false
going_on Fixed longest xs s ys rows tail c = refl
going_on Variable longest xs s ys rows tail c = refl
going_on Unstructured longest xs s ys rows tail c = stream_on xs s ys c.0
going_on Text longest xs s ys rows tail c = stream_on xs s ys c.0

stage_some : (xs : List Subrecord) (s : Subrecord) (ys : List Subrecord) → stage_of (xs ++ s ∷ ys) ≡ Fresh → ⊥
stage_some [] s [] e = by_flag s.ends e
  where
    by_flag : (b : Bool) → cond b Ended Open ≡ Fresh → ⊥
    by_flag true q = cc
    by_flag false q = cc
stage_some [] s (y ∷ ys) e = stage_some [] y ys e
stage_some (x ∷ []) s ys e = stage_some [] s ys e
stage_some (x ∷ y ∷ xs) s ys e = stage_some (y ∷ xs) s ys e

-- the first piece of what follows: the octets of the subrecord if it ends its record, and then more pieces
first_piece : (s : Subrecord) (ys : List Subrecord) → (p : List ℕ) × (ps : List (List ℕ)) × (more : List ℕ) × (pieces (s ∷ ys) ≡ p ∷ ps) × (p ≡ s.octets ++ more)
    × (s.ends ≡ true → (more ≡ []) × (0 < length ps))
first_piece s ys =
    let r = some_piece ys in
    let P : Bool → Type 0 = λ b. (p : List ℕ) × (ps : List (List ℕ)) × (more : List ℕ) × (cond b (s.octets ∷ pieces ys) (onto s.octets (pieces ys)) ≡ p ∷ ps)
    × (p ≡ s.octets ++ more) × (b ≡ true → (more ≡ []) × (0 < length ps)) in
    let both : (b : Bool) → P b = λ b. elim b as P [
      | true ↦ (s.octets, pieces ys, [], refl, sym (append-nil s.octets), λ _. (refl, subst (λ (x : List (List ℕ)). 0 < length x) (sym r.2) (omega arith)))
      | false ↦ (s.octets ++ r.0, r.1, r.0, ap (onto s.octets) r.2, refl, λ e. absurd (false≢true e))
    ] in
    both s.ends

-- a piece among rows and an open part is one of the rows, or the open part if nothing follows it
piece_among : (P : List ℕ → Type 0) (longest : ℕ) (rows all : List (List ℕ)) (tail p : List ℕ) (ps : List (List ℕ)) → rows ++ tail ∷ [] ≡ all ++ p ∷ ps → All P rows
    → ((r : List ℕ) → P r → length r ≤ longest) → length tail ≤ longest
    → (length p ≤ longest) × (0 < length ps → P p) × (length all + length ps ≡ length rows)
piece_among P longest rows all tail p [] e a b h =
    let s = same_from_push rows all tail p e in
    (subst (λ (x : List ℕ). length x ≤ longest) s.1 h, λ q. absurd (let z : 0 < 0 = q in omega arith), omega (arith, ap length s.0))
piece_among P longest rows all tail p (q ∷ qs) e a b h =
    let r = last_of q qs in
    let s = same_from_push rows (all ++ p ∷ r.0) tail r.1 (e ∙ ap (λ (x : List (List ℕ)). all ++ p ∷ x) r.2 ∙ sym (append_assoc all (p ∷ r.0) (r.1 ∷ []))) in
    let lt : length all < length rows = omega (arith, ap length s.0, length-append all (p ∷ r.0)) in
    let at : get_or rows (length all) [] ≡ p = ap (λ (x : List (List ℕ)). get_or x (length all) []) s.0 ∙ get_or_at all p r.0 [] (length all) refl in
    let has : P p = subst P at (a (length all) [] lt) in
    let n : suc (length qs) ≡ length r.0 + 1 = ap length r.2 ∙ length_push r.0 r.1 in
    (b p has, λ _. has, omega (arith, ap length s.0, length-append all (p ∷ r.0), n))

-- a stream's blocks are as many as its octets fill
pub blocks_length : (octets : List ℕ) (rows : List (List ℕ)) (tail : List ℕ) → InBlocks octets rows tail → length octets ≡ BLOCK * length rows + length tail
blocks_length octets rows tail b = ap length b.joined ∙ length-append (octets_in rows) tail ∙ ap (λ n. n + length tail) (whole rows b.full)
  where
    whole : (rs : List (List ℕ)) → All (λ (r : List ℕ). length r ≡ BLOCK) rs → length (octets_in rs) ≡ BLOCK * length rs
    whole [] a = omega arith
    whole (r ∷ rs) a =
        let one : length r ≡ BLOCK = a 0 [] (omega arith) in
        let more : length (octets_in rs) ≡ BLOCK * length rs = whole rs (λ k d h. a (suc k) d (omega arith)) in
        omega (arith, length-append r (octets_in rs), one, more)

-- what a record's subrecord leaves room for, if the records go on
record_on : (longest : ℕ) (P : List ℕ → Type 0) (xs : List Subrecord) (s : Subrecord) (ys : List Subrecord) (all rows : List (List ℕ)) (tail tail1 : List ℕ)
    → pieces xs ≡ all ++ tail ∷ [] → pieces (xs ++ s ∷ ys) ≡ rows ++ tail1 ∷ [] → All P rows → ((r : List ℕ) → P r → length r ≤ longest) → length tail1 ≤ longest
    → (length tail + length s.octets ≤ longest) × (s.ends ≡ true → P (tail ++ s.octets)) × (length all + cond s.ends 1 0 ≤ length rows)
record_on longest P xs s ys all rows tail tail1 e f a b h =
    let g = first_piece s ys in
    let k : rows ++ tail1 ∷ [] ≡ all ++ (tail ++ g.0) ∷ g.1 = sym f ∙ pieces_more xs (s ∷ ys) g.0 g.1 g.3 all tail e in
    let m = piece_among P longest rows all tail1 (tail ++ g.0) g.1 k a b h in
    let l : length (tail ++ g.0) ≡ length tail + length s.octets + length g.2 = length-append tail g.0 ∙ ap (λ (x : List ℕ). length tail + length x) g.4
    ∙ ap (λ n. length tail + n) (length-append s.octets g.2) ∙ omega arith in
    let same : s.ends ≡ true → tail ++ g.0 ≡ tail ++ s.octets = λ t. ap (λ (x : List ℕ). tail ++ x) (g.4 ∙ ap (λ (x : List ℕ). s.octets ++ x) ((g.5 t).0) ∙ append-nil s.octets) in
    let Q : Bool → Type 0 = λ c. (c ≡ s.ends) → length all + cond c 1 0 ≤ length rows in
    let both : (c : Bool) → Q c = λ c. elim c as Q [ true ↦ λ t. (let q = (g.5 (sym t)).1 in omega (arith, q, m.2)) | false ↦ λ t. omega (arith, m.2) ] in
    (omega (arith, m.0, l), λ t. subst P (same t) (m.1 ((g.5 t).1)), both s.ends refl)

-- what stays within the limits and sizes
on_within : (format : Format) (longest : ℕ) (xs : List Subrecord) (s : Subrecord) (ys : List Subrecord) (all rows : List (List ℕ)) (tail tail1 : List ℕ)
    → Carried format longest xs all tail → Carried format longest (xs ++ s ∷ ys) rows tail1
    → (length all + cond (is_stream format) ((length tail + length s.octets) / BLOCK) (cond s.ends 1 0) ≤ length rows) × (is_wrong_size format longest (length tail + length s.octets) s.ends ≡ false)
on_within Fixed longest xs s ys all rows tail tail1 c d =
    let r = record_on longest (λ (r : List ℕ). length r ≡ longest) xs s ys all rows tail tail1 c.0 d.0 d.1 (λ r e. omega arith) d.2 in
    let Q : Bool → Type 0 = λ b. (b ≡ s.ends) → (b && not (eqb (length tail + length s.octets) longest)) ≡ false in
    let both : (b : Bool) → Q b = λ b. elim b as Q [ true ↦ λ t. not_from_true _ (eq-eqb _ _ (sym (length-append tail s.octets) ∙ r.1 (sym t))) | false ↦ λ t. refl ] in
    (r.2, or_from _ _ (le-ltb longest (length tail + length s.octets) r.0) (both s.ends refl))
on_within Variable longest xs s ys all rows tail tail1 c d =
    let r = record_on longest (λ (r : List ℕ). length r ≤ longest) xs s ys all rows tail tail1 c.0 d.0 d.1 (λ r e. e) d.2 in
    (r.2, le-ltb longest (length tail + length s.octets) r.0)
on_within Unstructured longest xs s ys all rows tail tail1 c d =
    let a = blocks_length (octets_of xs) all tail c.1 in
    let b = blocks_length (octets_of (xs ++ s ∷ ys)) rows tail1 d.1 in
    let l : length (octets_of (xs ++ s ∷ ys)) ≡ length (octets_of xs) + (length s.octets + length (octets_of ys)) =
    ap length (flat_map-append (λ (x : Subrecord). x.octets) xs (s ∷ ys)) ∙ length-append (octets_of xs) (s.octets ++ octets_of ys)
    ∙ ap (λ n. length (octets_of xs) + n) (length-append s.octets (octets_of ys)) in
    (omega (arith, a, b, l, d.1.rest), refl)
on_within Text longest xs s ys all rows tail tail1 c d =
    let a = blocks_length (octets_of xs) all tail c.1 in
    let b = blocks_length (octets_of (xs ++ s ∷ ys)) rows tail1 d.1 in
    let l : length (octets_of (xs ++ s ∷ ys)) ≡ length (octets_of xs) + (length s.octets + length (octets_of ys)) =
    ap length (flat_map-append (λ (x : Subrecord). x.octets) xs (s ∷ ys)) ∙ length-append (octets_of xs) (s.octets ++ octets_of ys)
    ∙ ap (λ n. length (octets_of xs) + n) (length-append s.octets (octets_of ys)) in
    (omega (arith, a, b, l, d.1.rest), refl)

-- if what follows carries rows within the limits, the next subrecord has no error
no_fault_within : (t : Taking) (gone : List (List ℕ)) (xs : List Subrecord) (s : Subrecord) (ys : List Subrecord) (rows : List (List ℕ)) (tail : List ℕ) → HasTaken t gone xs
    → Carried t.format t.longest (xs ++ s ∷ ys) rows tail → length s.octets < 64
    → t.kept_units + length (octets_in rows ++ tail) ≤ t.limit → t.kept_rows + length rows ≤ MOST_ROWS → NoFault t (header s) (length (s.octets ++ payload_of ys))
no_fault_within t gone xs s ys rows tail h c n o r =
    let says = header_says s n in
    let w = on_within t.format t.longest xs s ys (gone ++ t.rows) rows t.tail tail h.carried c in
    let l : length (octets_of (xs ++ s ∷ ys)) ≡ length (octets_of xs) + (length s.octets + length (octets_of ys)) =
    ap length (flat_map-append (λ (x : Subrecord). x.octets) xs (s ∷ ys)) ∙ length-append (octets_of xs) (s.octets ++ octets_of ys)
    ∙ ap (λ n. length (octets_of xs) + n) (length-append s.octets (octets_of ys)) in
    let j : length (octets_of (xs ++ s ∷ ys)) ≡ length (octets_in rows ++ tail) = ap length (carried-joined t.format t.longest (xs ++ s ∷ ys) rows tail c) in
    let d = length-append gone t.rows in
    let fits : is_too_big t s.ends (length s.octets) ≡ false = or_from _ _ (le-ltb t.limit (t.kept_units + t.units + length s.octets) (omega (arith, o, j, l, h.units)))
    (le-ltb MOST_ROWS (t.kept_rows + t.away + length t.rows + new_rows t s.ends (length s.octets)) (omega (arith, r, w.0, d, h.away))) in
    let ends : is_wrong_size t.format t.longest (length t.tail + length s.octets) (nat_le 128 (header s)) ≡ false =
    subst (λ (x : Bool). is_wrong_size t.format t.longest (length t.tail + length s.octets) x ≡ false) (sym says.1) w.1 in
    record {
      plain = omega (arith, says.2, n);
      within = omega (arith, says.0, length-append s.octets (payload_of ys));
      fits = subst (λ (x : ℕ). is_too_big t (nat_le 128 (header s)) x ≡ false) (sym says.0) (subst (λ (x : Bool). is_too_big t x (length s.octets) ≡ false) (sym says.1) fits);
      on = subst (λ (x : Stage). (is_stream t.format && is_ended x) ≡ false) (sym h.last) (going_on t.format t.longest xs s ys rows tail c);
      sized = subst (λ (x : ℕ). is_wrong_size t.format t.longest (length t.tail + x) (nat_le 128 (header s)) ≡ false) (sym says.0) ends;
    }

same_limits : (t old : Taking) (payloads : List (List ℕ)) → restored t old ≡ old → CarriesWithin old payloads → CarriesWithin t payloads
same_limits t old payloads e c =
    let d : CarriesWithin (restored t old) payloads = subst (λ (x : Taking). CarriesWithin x payloads) (sym e) c in
    record { rows = d.rows; tail = d.tail; stage = d.stage; carries = d.carries; octets = d.octets; few = d.few }

no_fault_next : (t : Taking) (gone : List (List ℕ)) (xs more : List Subrecord) (rows : List (List ℕ)) (tail : List ℕ) (stage : Stage) (f : TakeFault) → HasTaken t gone xs
    → AreShort more → Carried t.format t.longest (xs ++ more) rows tail → stage ≡ stage_of (xs ++ more)
    → (stage ≢ Fresh → t.kept_units + length (octets_in rows ++ tail) ≤ t.limit) → t.kept_rows + length rows ≤ MOST_ROWS → fault_in t (payload_of more) ≡ Some f → ⊥
no_fault_next t gone xs [] rows tail stage f h a c l o r e = let q : None ≡ Some f = e in cc
no_fault_next t gone xs (s ∷ ys) rows tail stage f h a c l o r e =
    let n = no_fault_within t gone xs s ys rows tail h c a.0 (o (λ q. stage_some xs s ys (sym l ∙ q))) r in
    let none : fault_at t (header s) (length (s.octets ++ payload_of ys)) ≡ None = fault_none t (header s) (length (s.octets ++ payload_of ys)) n in
    let q : None ≡ Some f = sym none ∙ e in
    cc

-- a payload that carries rows within the limits, after those before, has no error
pub no_first_fault : (old : Taking) (gone payloads : List (List ℕ)) (payload : List ℕ) (f : TakeFault) → Took old gone payloads → CarriesWithin old (payloads ++ payload ∷ [])
    → FirstFault old payload f → ⊥
no_first_fault old gone payloads payload f k c ff =
    let mid : Taking = ff.before in
    let rest : List ℕ = ff.rest in
    let w : Walked old mid payload rest = ff.walked in
    let flat : List Subrecord = flat_map (λ (x : List Subrecord). x) k.subs in
    let back : restored mid old ≡ old = ap (λ (x : Taking). restored x old) w.after ∙ restored-all old w.subs in
    let m : CarriesWithin mid (payloads ++ payload ∷ []) = same_limits mid old (payloads ++ payload ∷ []) back c in
    let d = decode_last k.subs m.carries.subs payload k.short m.carries.short (ap (λ (x : List (List ℕ)). x ++ payload ∷ []) (sym k.spelling) ∙ m.carries.spelling) in
    let all : List Subrecord = flat_map (λ (x : List Subrecord). x) m.carries.subs in
    let short : AreShort d.0 = short-right flat d.0 (subst AreShort d.1 m.carries.short) in
    let p = decode w.subs d.0 rest (allowed_short old w.subs w.allowed) short (sym w.spelling ∙ d.2) in
    let split : all ≡ (flat ++ w.subs) ++ p.0 = d.1 ∙ ap (λ (x : List Subrecord). flat ++ x) p.1 ∙ sym (append_assoc flat w.subs p.0) in
    let holds : HasTaken mid gone (flat ++ w.subs) = subst (λ (x : Taking). HasTaken x gone (flat ++ w.subs)) (sym w.after) (holds_all old gone flat w.subs k.holds w.allowed) in
    let more : AreShort p.0 = short-right w.subs p.0 (subst AreShort p.1 short) in
    no_fault_next mid gone (flat ++ w.subs) p.0 m.rows m.tail m.stage f holds more
    (subst (λ (x : List Subrecord). Carried mid.format mid.longest x m.rows m.tail) split m.carries.carried)
    (m.carries.last ∙ ap stage_of split) m.octets m.few (ap (fault_in mid) (sym p.2) ∙ ff.faulty)

-- the payloads that a taker took carry its rows within the limits
pub took_within : (t : Taking) (gone payloads : List (List ℕ)) → Took t gone payloads → CarriesWithin t payloads
took_within t gone payloads k =
    let h = k.holds in
    let flat : List Subrecord = flat_map (λ (x : List Subrecord). x) k.subs in
    record {
      rows = gone ++ t.rows;
      tail = t.tail;
      stage = t.stage;
      carries = record { subs = k.subs; spelling = k.spelling; short = k.short; carried = h.carried; last = h.last };
      octets = λ n. (let some : flat ≡ [] → ⊥ = λ e. n (h.last ∙ ap stage_of e) in let l = h.octets some in
          omega (arith, l, h.units, ap length (carried-joined t.format t.longest flat (gone ++ t.rows) t.tail h.carried)));
      few = omega (arith, length-append gone t.rows, h.few);
    }

pub walked_same : (old mid : Taking) (payload rest : List ℕ) → Walked old mid payload rest → IsSameFile old mid
walked_same old mid payload rest w =
    let r : restored mid old ≡ old = ap (λ (x : Taking). restored x old) w.after ∙ restored-all old w.subs in
    record {
      format = ap (λ x. x.format) r;
      longest = ap (λ x. x.longest) r;
      limit = ap (λ x. x.limit) r;
      kept_rows = ap (λ x. x.kept_rows) r;
      kept_units = ap (λ x. x.kept_units) r;
      away = ap (λ x. x.away) r;
    }
