-- A taker from which rows were removed goes on as it would with them.
use Rattle.std.proofs.Common.{◌≡◌, ℕ, zero, suc, ◌+◌, ◌≤◌, Bool, true, false, cond, nat_le, nat_lt, ◌&&◌, ◌||◌, Option, None, Some, Result, Ok, Err, List, [], ◌∷◌, ◌++◌, length, take, drop, refl, sym, ap, ◌∙◌, arith}
use Rattle.std.specs.Option.{option_or}
use Rattle.std.proofs.lemmas.List.{length-drop, drop-append-le}
use Rattle.std.proofs.Math.Seq.{drop-length}
use Rattle.oftp_vfile.specs.declared.format.TheConstants.{BLOCK, MOST_ROWS}
use Rattle.oftp_vfile.specs.declared.fault.TakeFault.{TakeFault}
use Rattle.oftp_vfile.specs.declared.fault.TakeFault.TheVariants as fault
use Rattle.oftp_vfile.specs.VirtualFile.{is_stream}
use Rattle.oftp_vfile.specs.Subrecord.{Subrecord, has_end, has_compression, count_in}
use Rattle.oftp_vfile.specs.Taking.{Taking, added, is_ended, is_too_big, is_wrong_size, new_rows, fault_at, counts_of}
use Rattle.oftp_vfile.specs.Reading.{subrecord_in, fault_before, unless_fault, then_go_on, take_subrecords, taken, shed, shed_in}
use Rattle.oftp_vfile.proofs.ReadingLemmas.{added_rows}

shed_count : (k : ℕ) (t : Taking) (a : ℕ) → k ≤ length t.rows → a + (t.away + k) + length (drop k t.rows) ≡ a + t.away + length t.rows
shed_count k t a h = omega (arith, h, length-drop k t.rows)

shed_big : (k : ℕ) (t : Taking) (ends : Bool) (n : ℕ) → k ≤ length t.rows → is_too_big (shed k t) ends n ≡ is_too_big t ends n
shed_big k t ends n h = ap (λ (m : ℕ). nat_lt t.limit (t.kept_units + t.units + n) || nat_lt MOST_ROWS (m + new_rows t ends n)) (shed_count k t t.kept_rows h)

shed_fault : (k : ℕ) (t : Taking) (header room : ℕ) → k ≤ length t.rows → fault_at (shed k t) header room ≡ fault_at t header room
shed_fault k t header room h =
    ap (λ (big : Bool). cond (is_stream t.format && is_ended t.stage) (Some fault.AfterEnd)
    (cond (has_compression header) (Some fault.Compressed)
    (cond (nat_lt room (count_in header)) (Some fault.Cut)
    (cond big (Some fault.TooBig)
    (cond (is_wrong_size t.format t.longest (length t.tail + count_in header) (has_end header)) (Some fault.RecordSize) None)))))
    (shed_big k t (has_end header) (count_in header) h)

shed_rows : (k : ℕ) (t : Taking) (s : Subrecord) → k ≤ length t.rows → (added (shed k t) s).rows ≡ drop k (added t s).rows
shed_rows k t s h = by (is_stream t.format) (nat_le BLOCK (length (t.tail ++ s.octets))) s.ends
  where
    by : (a b c : Bool) → cond a (cond b (drop k t.rows ++ take BLOCK (t.tail ++ s.octets) ∷ []) (drop k t.rows)) (cond c (drop k t.rows ++ (t.tail ++ s.octets) ∷ []) (drop k t.rows))
        ≡ drop k (cond a (cond b (t.rows ++ take BLOCK (t.tail ++ s.octets) ∷ []) t.rows) (cond c (t.rows ++ (t.tail ++ s.octets) ∷ []) t.rows))
    by true true c = sym (drop-append-le k t.rows (take BLOCK (t.tail ++ s.octets) ∷ []) h)
    by true false c = refl
    by false b true = sym (drop-append-le k t.rows ((t.tail ++ s.octets) ∷ []) h)
    by false b false = refl

shed_added : (k : ℕ) (t : Taking) (s : Subrecord) → k ≤ length t.rows → added (shed k t) s ≡ shed k (added t s)
shed_added k t s h = ap (λ (rows : List (List ℕ)). record (added (shed k t) s) { rows = rows }) (shed_rows k t s h)

-- one subrecord
shed_one : (k : ℕ) (fault : Option TakeFault) (x y : Taking) (f : Taking → Result Taking TakeFault) → x ≡ shed k y → f (shed k y) ≡ shed_in k (f y)
    → then_go_on (unless_fault fault x) f ≡ shed_in k (then_go_on (unless_fault fault y) f)
shed_one k (Some fault) x y f e h = refl
shed_one k None x y f e h = ap f e ∙ h

shed_walk : (n k : ℕ) (t : Taking) (payload : List ℕ) → k ≤ length t.rows → take_subrecords n (shed k t) payload ≡ shed_in k (take_subrecords n t payload)
unfolding take_subrecords
shed_walk zero k t payload h = refl
shed_walk (suc n) k t [] h = refl
shed_walk (suc n) k t (header ∷ rest) h =
    let s = subrecord_in header rest in
    let more = added_rows t s in
    let go : Taking → Result Taking TakeFault = λ after. take_subrecords n after (drop (count_in header) rest) in
    ap (λ (x : Option TakeFault). then_go_on (unless_fault (option_or x (cond (nat_le 256 header) (Some fault.Cut) None)) (added (shed k t) s)) go) (shed_fault k t header (length rest) h)
    ∙ shed_one k (fault_before t header (length rest)) (added (shed k t) s) (added t s) go (shed_added k t s h) (shed_walk n k (added t s) (drop (count_in header) rest) (omega (arith, h, more)))

pub shed_taken : (k : ℕ) (t : Taking) (payload : List ℕ) → k ≤ length t.rows → taken (shed k t) payload ≡ shed_in k (taken t payload)
shed_taken k t payload h = shed_walk (length payload) k t payload h

-- the result of the taker without its rows is that of the whole one
pub shed_ok : (k : ℕ) (t new : Taking) (payload : List ℕ) → k ≤ length t.rows → taken (shed k t) payload ≡ Ok new → (after : Taking) × (taken t payload ≡ Ok after) × (new ≡ shed k after)
shed_ok k t new payload h e = by (taken t payload) refl (sym (shed_taken k t payload h) ∙ e)
  where
    by : (r : Result Taking TakeFault) → taken t payload ≡ r → shed_in k r ≡ Ok new → (after : Taking) × (taken t payload ≡ Ok after) × (new ≡ shed k after)
    by (Ok after) is f = let same : shed k after ≡ new = cc in (after, is, sym same)
    by (Err fault) is f = absurd (cc)

pub shed_err : (k : ℕ) (t : Taking) (payload : List ℕ) (fault : TakeFault) → k ≤ length t.rows → taken (shed k t) payload ≡ Err fault → taken t payload ≡ Err fault
shed_err k t payload fault h e = by (taken t payload) refl (sym (shed_taken k t payload h) ∙ e)
  where
    by : (r : Result Taking TakeFault) → taken t payload ≡ r → shed_in k r ≡ Err fault → taken t payload ≡ Err fault
    by (Ok after) is f = absurd (cc)
    by (Err other) is f = let same : other ≡ fault = cc in is ∙ ap (λ (x : TakeFault). let y : Result Taking TakeFault = Err x in y) same

-- its counts are those of the whole one
pub shed_counts : (k : ℕ) (t : Taking) → k ≤ length t.rows → counts_of (shed k t) ≡ counts_of t
shed_counts k t h = ap (λ (n : ℕ). (cond (is_stream t.format) 0 n, t.kept_units + t.units)) (shed_count k t t.kept_rows h)

-- all its rows were removed
pub shed_all : (k : ℕ) (t : Taking) → k ≤ length t.rows → (record (shed k t) { rows = []; away = (shed k t).away + length (shed k t).rows }) ≡ shed (length t.rows) t
shed_all k t h =
    let n : t.away + k + length (drop k t.rows) ≡ t.away + length t.rows = omega (arith, h, length-drop k t.rows) in
    ap (λ (m : ℕ). let x : Taking = record t { rows = []; away = m } in x) n
    ∙ ap (λ (rows : List (List ℕ)). let x : Taking = record t { rows = rows; away = t.away + length t.rows } in x) (sym (drop-length t.rows))
