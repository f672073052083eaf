-- What a taker does with subrecords, one after another, and how it is restored.
use Rattle.std.proofs.Common.{◌≡◌, ℕ, ◌+◌, ◌-◌, ◌<◌, ◌≤◌, ◌%◌, ◌/◌, ◌^◌, Bool, true, false, cond, nat_le, ◌&&◌, Option, Some, None, List, [], ◌∷◌, ◌++◌, length, take, drop, refl, sym, ap, ◌∙◌, subst, arith, append_assoc}
use Rattle.std.proofs.lemmas.Bool.{leb-false, ltb-false, lt-leb, le-ltb, leb-true, or_parts}
use Rattle.std.proofs.lemmas.List.{append-nil, length-append, length-take-le, length_push, same_from_push, length-drop, take-append-drop}
use Rattle.std.proofs.lemmas.List.Concat.{flat_map-append}
use Rattle.oftp_vfile.specs.declared.format.TheConstants.{BLOCK, MOST_ROWS}
use Rattle.oftp_vfile.proofs.GrowthLemmas.{goes_on_same, goes_on_longer, goes_on_closed, filled_block}
use Rattle.oftp_vfile.specs.Growth.{HasGrown, stream_rows, stream_tail}
use Rattle.oftp_vfile.specs.Subrecord.{Subrecord, header, spelled, payload_of}
use Rattle.oftp_vfile.specs.Taking.{Taking, is_ended, added, added_all, new_rows, is_too_big, is_wrong_size, fault_at, IsAllowed, AreAllowed, Walked}
use Rattle.oftp_vfile.specs.VirtualFile.{is_stream}

-- where a choice gives none, its test failed
no_first : {A : Type 0} (b : Bool) (x : A) (y : Option A) → cond b (Some x) y ≡ None → (b ≡ false) × (y ≡ None)
no_first true x y e = cc
no_first false x y e = (refl, e)

-- what a subrecord without an error preserves
pub record NoFault (t : Taking) (h room : ℕ) : Type 0 where
  pub plain : h % 128 < 64
  pub within : h % 64 ≤ room
  pub fits : is_too_big t (nat_le 128 h) (h % 64) ≡ false
  pub on : (is_stream t.format && is_ended t.stage) ≡ false
  pub sized : is_wrong_size t.format t.longest (length t.tail + h % 64) (nat_le 128 h) ≡ false

pub no_fault : (t : Taking) (h room : ℕ) → fault_at t h room ≡ None → NoFault t h room
no_fault t h room e =
    let a = no_first _ _ _ e in
    let b = no_first _ _ _ a.1 in
    let c = no_first _ _ _ b.1 in
    let d = no_first _ _ _ c.1 in
    let f = no_first _ _ _ d.1 in
    record { plain = leb-false _ _ b.0; within = ltb-false _ _ c.0; fits = d.0; on = a.0; sized = f.0 }

none_if : {A : Type 0} (b : Bool) (x : A) (y : Option A) → b ≡ false → y ≡ None → cond b (Some x) y ≡ None
none_if true x y e f = cc
none_if false x y e f = f

pub fault_none : (t : Taking) (h room : ℕ) → NoFault t h room → fault_at t h room ≡ None
fault_none t h room n =
    none_if _ _ _ n.on (none_if _ _ _ (lt-leb 64 (h % 128) n.plain) (none_if _ _ _ (le-ltb room (h % 64) n.within) (none_if _ _ _ n.fits (none_if _ _ _ n.sized refl))))

-- the header of the subrecord that was read
header_again : (h : ℕ) (octets : List ℕ) → h < 256 → h % 128 < 64 → length octets ≡ h % 64 → header (record { ends = nat_le 128 h; octets = octets }) ≡ h
header_again h octets b p n =
    let P : Bool → Type 0 = λ t. (t ≡ nat_le 128 h) → cond t (128 + length octets) (length octets) ≡ h in
    let both : (t : Bool) → P t = λ t. elim t as P [
      | true ↦ λ e. (let q : 128 ≤ h = leb-true 128 h (sym e) in omega arith)
      | false ↦ λ e. (let q : h < 128 = leb-false 128 h (sym e) in omega arith)
    ] in
    both (nat_le 128 h) refl

pub are_allowed_more : (t : Taking) (ss : List Subrecord) (s : Subrecord) → AreAllowed t ss → IsAllowed (added_all t ss) s → AreAllowed t (ss ++ s ∷ [])
are_allowed_more t [] s a i = (i, tt)
are_allowed_more t (r ∷ rs) s a i = (a.0, are_allowed_more (added t r) rs s a.1 i)

pub added_all-append : (t : Taking) (ss rs : List Subrecord) → added_all t (ss ++ rs) ≡ added_all (added_all t ss) rs
added_all-append t [] rs = refl
added_all-append t (s ∷ ss) rs = added_all-append (added t s) ss rs

pub payload_of-append : (ss rs : List Subrecord) → payload_of (ss ++ rs) ≡ payload_of ss ++ payload_of rs
payload_of-append ss rs = flat_map-append spelled ss rs

-- one more subrecord was taken
pub walked_more : (old mid new : Taking) (payload after : List ℕ) (h : ℕ)
    → Walked old mid payload (h ∷ after) → fault_at mid h (length after) ≡ None → h < 256
    → new ≡ added mid (record { ends = nat_le 128 h; octets = take (h % 64) after })
    → Walked old new payload (drop (h % 64) after)
walked_more old mid new payload after h w e b n =
    let f : NoFault mid h (length after) = no_fault mid h (length after) e in
    let octets : List ℕ = take (h % 64) after in
    let s : Subrecord = record { ends = nat_le 128 h; octets = octets } in
    let len : length octets ≡ h % 64 = length-take-le (h % 64) after f.within in
    let again : header s ≡ h = header_again h octets b f.plain len in
    let short : length octets < 64 = omega arith in
    let on : fault_at mid h (h % 64) ≡ None = fault_none mid h (h % 64) (record { plain = f.plain; within = omega arith; fits = f.fits; on = f.on; sized = f.sized }) in
    let none : fault_at mid (header s) (length octets) ≡ None = ap (λ x. fault_at mid x (length octets)) again ∙ ap (λ x. fault_at mid h x) len ∙ on in
    let allowed : IsAllowed mid s = (short, none) in
    record {
      subs = w.subs ++ s ∷ [];
      spelling = w.spelling ∙ ap (λ x. payload_of w.subs ++ x) (ap (λ x. h ∷ x) (sym (take-append-drop (h % 64) after)) ∙ ap (λ x. x ∷ (octets ++ drop (h % 64) after)) (sym again)
          ∙ ap (λ x. (header s ∷ x) ++ drop (h % 64) after) (sym (append-nil octets)))
          ∙ sym (append_assoc (payload_of w.subs) (payload_of (s ∷ [])) (drop (h % 64) after)) ∙ ap (λ x. x ++ drop (h % 64) after) (sym (payload_of-append w.subs (s ∷ [])));
      allowed = are_allowed_more old w.subs s w.allowed (subst (λ (x : Taking). IsAllowed x s) w.after allowed);
      after = n ∙ ap (λ (x : Taking). added x s) w.after ∙ sym (added_all-append old w.subs (s ∷ []));
    }

-- what fits
pub not_too_big : (t : Taking) (ends : Bool) (n : ℕ) → is_too_big t ends n ≡ false → (t.kept_units + t.units + n ≤ t.limit) × (t.kept_rows + t.away + length t.rows + new_rows t ends n ≤ MOST_ROWS)
not_too_big t ends n e =
    let b = or_parts _ _ e in
    (ltb-false _ _ b.0, ltb-false _ _ b.1)

pub stream_tail_short : (octets : List ℕ) → length octets < 2048 → length (stream_tail octets) < BLOCK
stream_tail_short octets h =
    let P : Bool → Type 0 = λ t. (t ≡ nat_le BLOCK (length octets)) → length (cond t (drop BLOCK octets) octets) < BLOCK in
    let both : (t : Bool) → P t = λ t. elim t as P [ true ↦ λ e. (omega (arith, length-drop BLOCK octets)) | false ↦ λ e. leb-false BLOCK (length octets) (sym e) ] in
    both (nat_le BLOCK (length octets)) refl

pub stream_rows_few : (rows : List (List ℕ)) (octets : List ℕ) → length (stream_rows rows octets) ≤ length rows + length octets / BLOCK
stream_rows_few rows octets =
    let P : Bool → Type 0 = λ t. (t ≡ nat_le BLOCK (length octets)) → length (cond t (rows ++ take BLOCK octets ∷ []) rows) ≤ length rows + length octets / BLOCK in
    let both : (t : Bool) → P t = λ t. elim t as P [
      | true ↦ λ e. (let q : BLOCK ≤ length octets = leb-true _ _ (sym e) in omega (arith, length_push rows (take BLOCK octets)))
      | false ↦ λ e. omega arith
    ] in
    both (nat_le BLOCK (length octets)) refl

-- how long a taker's open tail may be
pub added-tail_short : (t : Taking) (s : Subrecord) → length s.octets < 64 → (is_stream t.format ≡ true → length t.tail < BLOCK) → is_stream (added t s).format ≡ true → length (added t s).tail < BLOCK
added-tail_short t s n h e =
    let q : length t.tail < BLOCK = h e in
    let octets : List ℕ = t.tail ++ s.octets in
    let short : length (stream_tail octets) < BLOCK = stream_tail_short octets (omega (arith, length-append t.tail s.octets)) in
    let P : Bool → Type 0 = λ b. length (cond b (stream_tail octets) (cond s.ends [] octets)) < BLOCK in
    subst P (sym e) short

pub added-rows_few : (t : Taking) (s : Subrecord) → length (added t s).rows ≤ length t.rows + new_rows t s.ends (length s.octets)
added-rows_few t s =
    let octets : List ℕ = t.tail ++ s.octets in
    let P : Bool → Bool → Type 0 =
    λ b d. length (cond b (stream_rows t.rows octets) (cond d (t.rows ++ octets ∷ []) t.rows)) ≤ length t.rows + cond b ((length t.tail + length s.octets) / BLOCK) (cond d 1 0) in
    let few : length (stream_rows t.rows octets) ≤ length t.rows + (length t.tail + length s.octets) / BLOCK = let f = stream_rows_few t.rows octets in let l =
    length-append t.tail s.octets in subst (λ (n : ℕ). length (stream_rows t.rows octets) ≤ length t.rows + n / BLOCK) l f in
    let both : (b d : Bool) → P b d = λ b d. elim b as (λ b. P b d) [ true ↦ few | false ↦ elim d as (λ d. P false d) [ true ↦ omega (arith, length_push t.rows octets) | false ↦ omega arith ] ] in
    both (is_stream t.format) s.ends

-- a taker as it was before some subrecords, with its constants
abbrev pub restored : Taking → Taking → Taking
restored t old = record t { rows = old.rows; tail = old.tail; units = old.units; stage = old.stage }

pub restored-all : (t : Taking) (ss : List Subrecord) → restored (added_all t ss) t ≡ t
restored-all t [] = refl
restored-all t (s ∷ ss) = ap (λ (x : Taking). restored x t) (restored-all (added t s) ss)

-- a list that isn't empty has a last element
pub last_of : {A : Type 0} (x : A) (xs : List A) → (front : List A) × (last : A) × (x ∷ xs ≡ front ++ last ∷ [])
last_of x [] = ([], x, refl)
last_of x (y ∷ ys) = let r = last_of y ys in (x ∷ r.0, r.1, ap (λ zs. x ∷ zs) r.2)

goes_on-then : (a : List (List ℕ)) (x : List ℕ) (b : List (List ℕ)) (y : List ℕ) (c : List (List ℕ)) (z : List ℕ) (m : List ℕ) (k : List (List ℕ)) → b ++ y ∷ [] ≡ a ++ (x ++ m) ∷ k
    → HasGrown b y c z → HasGrown a x c z
goes_on-then a x b y c z m [] e h =
    let same : (b ≡ a) × (y ≡ x ++ m) = same_from_push b a y (x ++ m) e in
    (m ++ h.0, h.1, h.2 ∙ ap (λ (q : List (List ℕ)). q ++ (y ++ h.0) ∷ h.1) same.0 ∙ ap (λ (q : List ℕ). a ++ (q ++ h.0) ∷ h.1) same.1 ∙ ap (λ (q : List ℕ). a ++ q ∷ h.1) (append_assoc x m h.0))
goes_on-then a x b y c z m (r ∷ rs) e h =
    let l = last_of r rs in
    let same : (b ≡ a ++ (x ++ m) ∷ l.0) × (y ≡ l.1) =
    same_from_push b (a ++ (x ++ m) ∷ l.0) y l.1 (e ∙ ap (λ (q : List (List ℕ)). a ++ (x ++ m) ∷ q) l.2 ∙ sym (append_assoc a ((x ++ m) ∷ l.0) (l.1 ∷ []))) in
    (m, l.0 ++ (y ++ h.0) ∷ h.1, h.2 ∙ ap (λ (q : List (List ℕ)). q ++ (y ++ h.0) ∷ h.1) same.0 ∙ append_assoc a ((x ++ m) ∷ l.0) ((y ++ h.0) ∷ h.1))

goes_on-trans : (a : List (List ℕ)) (x : List ℕ) (b : List (List ℕ)) (y : List ℕ) (c : List (List ℕ)) (z : List ℕ) → HasGrown a x b y → HasGrown b y c z → HasGrown a x c z
goes_on-trans a x b y c z g h = goes_on-then a x b y c z g.0 g.1 g.2 h

goes_on-stream : (rows : List (List ℕ)) (tail octets : List ℕ) → length tail < BLOCK → HasGrown rows tail (stream_rows rows (tail ++ octets)) (stream_tail (tail ++ octets))
goes_on-stream rows tail octets h =
    let all : List ℕ = tail ++ octets in
    let room : ℕ = BLOCK - length tail in
    let e : length tail + room ≡ BLOCK = omega arith in
    let P : Bool → Type 0 = λ t. HasGrown rows tail (cond t (rows ++ take BLOCK all ∷ []) rows) (cond t (drop BLOCK all) all) in
    let both : (t : Bool) → P t = λ t. elim t as P [
      | true ↦ goes_on_closed rows tail _ (drop BLOCK all) (take room octets) (ap (λ (x : List ℕ). rows ++ x ∷ []) (filled_block tail octets room e))
      | false ↦ goes_on_longer rows tail rows all octets refl refl
    ] in
    both (nat_le BLOCK (length all))

goes_on-grown : (rows : List (List ℕ)) (tail octets : List ℕ) (b d : Bool) → (b ≡ true → length tail < BLOCK)
    → HasGrown rows tail (cond b (stream_rows rows (tail ++ octets)) (cond d (rows ++ (tail ++ octets) ∷ []) rows)) (cond b (stream_tail (tail ++ octets)) (cond d [] (tail ++ octets)))
goes_on-grown rows tail octets true d h = goes_on-stream rows tail octets (h refl)
goes_on-grown rows tail octets false true h = goes_on_closed rows tail _ [] octets refl
goes_on-grown rows tail octets false false h = goes_on_longer rows tail rows (tail ++ octets) octets refl refl

goes_on-added : (t : Taking) (s : Subrecord) → (is_stream t.format ≡ true → length t.tail < BLOCK) → HasGrown t.rows t.tail (added t s).rows (added t s).tail
goes_on-added t s h = goes_on-grown t.rows t.tail s.octets (is_stream t.format) s.ends h

pub goes_on-all : (t : Taking) (ss : List Subrecord) → AreAllowed t ss → (is_stream t.format ≡ true → length t.tail < BLOCK) → HasGrown t.rows t.tail (added_all t ss).rows (added_all t ss).tail
goes_on-all t [] a h = goes_on_same t.rows t.tail t.rows t.tail refl refl
goes_on-all t (s ∷ ss) a h =
    let u = added t s in
    let v = added_all t (s ∷ ss) in
    goes_on-trans t.rows t.tail u.rows u.tail v.rows v.tail (goes_on-added t s h) (goes_on-all u ss a.1 (added-tail_short t s a.0.0 h))

-- after some subrecords of a payload the taker can be restored
pub walked_back : (old mid : Taking) (payload rest : List ℕ) → Walked old mid payload rest → (is_stream old.format ≡ true → length old.tail < BLOCK)
    → HasGrown old.rows old.tail mid.rows mid.tail × (restored mid old ≡ old)
walked_back old mid payload rest w h = (
  subst (λ (x : Taking). HasGrown old.rows old.tail x.rows x.tail) (sym w.after) (goes_on-all old w.subs w.allowed h),
  ap (λ (x : Taking). restored x old) w.after ∙ restored-all old w.subs,
)

-- what the call that restores a taker leaves
pub put_back : (v old w mid : Taking) (payload rest : List ℕ) (rows : List (List ℕ)) (tail : List ℕ) (row_count tail_len : ℕ) → v ≡ old → w ≡ mid
    → Walked old mid payload rest → (is_stream v.format ≡ true → length v.tail < BLOCK)
    → ((r : List (List ℕ)) → (f : List ℕ) → HasGrown r f w.rows w.tail → length r ≡ row_count → length f ≡ tail_len → (rows ≡ r) × (tail ≡ f))
    → length v.rows ≡ row_count → length v.tail ≡ tail_len
    → (record w { rows = rows; tail = tail; units = v.units; stage = v.stage } ≡ old) × (rows ≡ v.rows) × (tail ≡ v.tail) × (w.limit ≡ v.limit) × (w.kept_rows ≡ v.kept_rows)
    × (w.kept_units ≡ v.kept_units) × (w.away ≡ v.away) × (w.format ≡ v.format)
put_back v old w mid payload rest rows tail row_count tail_len ve we walked h back n m =
    let b = walked_back old mid payload rest walked (subst (λ (x : Taking). is_stream x.format ≡ true → length x.tail < BLOCK) ve h) in
    let g : HasGrown v.rows v.tail w.rows w.tail =
    subst (λ (x : Taking). HasGrown v.rows v.tail x.rows x.tail) (sym we) (subst (λ (x : Taking). HasGrown x.rows x.tail mid.rows mid.tail) (sym ve) b.0) in
    let same = back v.rows v.tail g n m in
    let r : restored w v ≡ v = ap (λ (x : Taking). restored x v) we ∙ ap (λ (x : Taking). restored mid x) ve ∙ b.1 ∙ sym ve in (
      ap (λ (x : List (List ℕ)). record w { rows = x; tail = tail; units = v.units; stage = v.stage }) same.0
          ∙ ap (λ (x : List ℕ). record w { rows = v.rows; tail = x; units = v.units; stage = v.stage }) same.1 ∙ r ∙ ve,
      same.0,
      same.1,
      ap (λ x. x.limit) r,
      ap (λ x. x.kept_rows) r,
      ap (λ x. x.kept_units) r,
      ap (λ x. x.away) r,
      ap (λ x. x.format) r,
    )

-- the rows and the tail that a subrecord leaves
pub grown_stream : (t : Taking) (s : Subrecord) (rows : List (List ℕ)) (tail : List ℕ) → is_stream t.format ≡ true → rows ≡ stream_rows t.rows (t.tail ++ s.octets)
    → tail ≡ stream_tail (t.tail ++ s.octets) → (rows ≡ (added t s).rows) × (tail ≡ (added t s).tail)
grown_stream t s rows tail e r q =
    let octets : List ℕ = t.tail ++ s.octets in
    (r ∙ ap (λ (b : Bool). cond b (stream_rows t.rows octets) (cond s.ends (t.rows ++ octets ∷ []) t.rows)) (sym e), q ∙ ap (λ (b : Bool). cond b (stream_tail octets) (cond s.ends [] octets)) (sym e))

pub grown_record : (t : Taking) (s : Subrecord) (rows : List (List ℕ)) (tail : List ℕ) → is_stream t.format ≡ false
    → rows ≡ cond s.ends (t.rows ++ (t.tail ++ s.octets) ∷ []) t.rows → tail ≡ cond s.ends [] (t.tail ++ s.octets) → (rows ≡ (added t s).rows) × (tail ≡ (added t s).tail)
grown_record t s rows tail e r q =
    let octets : List ℕ = t.tail ++ s.octets in
    (r ∙ ap (λ (b : Bool). cond b (stream_rows t.rows octets) (cond s.ends (t.rows ++ octets ∷ []) t.rows)) (sym e), q ∙ ap (λ (b : Bool). cond b (stream_tail octets) (cond s.ends [] octets)) (sym e))

-- the invariant of a taker
pub record Bounded (t : Taking) : Type 0 where
  pub short : is_stream t.format ≡ true → length t.tail < BLOCK
  pub fits : t.kept_units + t.limit < 2 ^ 63
  pub taken : t.units ≤ t.limit
  pub few : t.kept_rows + t.away + length t.rows ≤ MOST_ROWS

pub bounded_added : (t : Taking) (s : Subrecord) (rows : List (List ℕ)) (tail : List ℕ) → Bounded t → length s.octets < 64 → is_too_big t s.ends (length s.octets) ≡ false
    → (rows ≡ (added t s).rows) × (tail ≡ (added t s).tail)
    → Bounded (record t { rows = rows; tail = tail; units = t.units + length s.octets })
bounded_added t s rows tail b n f e =
    let fit = not_too_big t s.ends (length s.octets) f in
    record {
      short = λ h. subst (λ (x : List ℕ). length x < BLOCK) (sym e.1) (added-tail_short t s n b.short h);
      fits = b.fits;
      taken = omega arith;
      few = let l : length rows ≡ length (added t s).rows = ap length e.0 in let m = added-rows_few t s in omega (arith, l, m, fit.1);
    }
