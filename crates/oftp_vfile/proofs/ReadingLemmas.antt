-- What a taker does with a payload as a function is what the taker's relation says.
use Rattle.std.proofs.Common.{◌%◌, append_assoc, true, false, cond, ◌≡◌, ℕ, zero, suc, ◌<◌, ◌≤◌, nat_le, Bool, Option, None, Some, Result, Ok, Err, List, [], ◌∷◌, ◌++◌, length, take, drop, refl, sym, ap, ◌∙◌, subst, arith}
use Rattle.std.specs.Option.{option_or}
use Rattle.std.proofs.lemmas.Bool.{leb-false, leb-true, lt-leb}
use Rattle.std.proofs.lemmas.List.{append-nil, length-append, length-drop, length-take-le, take-append-drop}
use Rattle.std.proofs.Math.Seq.{take-append_seam, drop-append_seam}
use Rattle.oftp_vfile.specs.declared.format.TheConstants.{BLOCK}
use Rattle.oftp_vfile.specs.declared.fault.TakeFault.{TakeFault}
use Rattle.oftp_vfile.specs.declared.fault.TakeFault.TheVariants.{Cut}
use Rattle.oftp_vfile.specs.VirtualFile.{is_stream}
use Rattle.oftp_vfile.specs.Subrecord.{Subrecord, header, header_octet, payload_of, count_in, AreShort}
use Rattle.oftp_vfile.specs.Taking.{Taking, Walked, FirstFault, added, added_all, fault_at, fault_in, AreAllowed, Took}
use Rattle.oftp_vfile.proofs.TakingLemmas.{NoFault, no_fault, fault_none}
use Rattle.oftp_vfile.proofs.CarriesLemmas.{header_says, took_walked}
use Rattle.std.specs.Result.{result_unwrap_or}
use Rattle.oftp_vfile.specs.Reading.{subrecord_in, fault_before, unless_fault, then_go_on, take_subrecords, taken, taken_all}

-- no error before a subrecord: none at its header, which is an octet

neither : (fault : Option TakeFault) (beyond : Bool) → option_or fault (cond beyond (Some Cut) None) ≡ None → (fault ≡ None) × (beyond ≡ false)
neither None true h = absurd (cc)
neither None false h = (refl, refl)
neither (Some fault) beyond h = absurd (cc)

pub none_before : (t : Taking) (first room : ℕ) → fault_before t first room ≡ None → (fault_at t first room ≡ None) × (first < 256)
none_before t first room h = let parts = neither (fault_at t first room) (nat_le 256 first) h in (parts.0, leb-false 256 first parts.1)

header_below : (ends : Bool) (count : ℕ) → count < 64 → header_octet ends count < 256
header_below true count h = omega arith
header_below false count h = omega arith

either : (fault : Option TakeFault) (beyond : Bool) (told : TakeFault) → fault ≡ Some told → option_or fault (cond beyond (Some Cut) None) ≡ Some told
either None beyond told h = absurd (cc)
either (Some fault) beyond told h = h

-- an encoded subrecord has the error of its header, or none
spelled_before : (t : Taking) (s : Subrecord) (room : ℕ) → length s.octets < 64 → fault_at t (header s) room ≡ None → fault_before t (header s) room ≡ None
spelled_before t s room short h =
    ap (λ (fault : Option TakeFault). option_or fault (cond (nat_le 256 (header s)) (Some Cut) None)) h
    ∙ ap (λ (beyond : Bool). cond beyond (Some Cut) None) (lt-leb 256 (header s) (header_below s.ends (length s.octets) short))

-- if a result is reached, there was no error before it
pub went_on : {A B : Type 0} (fault : Option TakeFault) (x : A) (f : A → Result B TakeFault) (y : B) → then_go_on (unless_fault fault x) f ≡ Ok y → (fault ≡ None) × (f x ≡ Ok y)
went_on None x f y h = (refl, h)
went_on (Some fault) x f y h = absurd (cc)

-- a subrecord is read as it was encoded
subrecord_again : (s : Subrecord) (rest : List ℕ) → length s.octets < 64 → subrecord_in (header s) (s.octets ++ rest) ≡ s
subrecord_again s rest short =
    let says = header_says s short in
    let octets : take (count_in (header s)) (s.octets ++ rest) ≡ s.octets = ap (λ n. take n (s.octets ++ rest)) says.0 ∙ take-append_seam s.octets rest in
    let made : Bool → List ℕ → Subrecord = λ b o. record { ends = b; octets = o } in
    ap (λ b. made b (take (count_in (header s)) (s.octets ++ rest))) says.1 ∙ ap (made s.ends) octets

-- if there is no error with more octets after, there is none with its own alone
no_fault_alone : (t : Taking) (s : Subrecord) (rest : List ℕ) → length s.octets < 64 → fault_at t (header s) (length (s.octets ++ rest)) ≡ None → fault_at t (header s) (length s.octets) ≡ None
no_fault_alone t s rest short h =
    let n : NoFault t (header s) (length (s.octets ++ rest)) = no_fault t (header s) (length (s.octets ++ rest)) h in
    let says = header_says s short in
    fault_none t (header s) (length s.octets) (record { plain = n.plain; within = omega (arith, says.0); fits = n.fits; on = n.on; sized = n.sized })

-- a payload of subrecords that is taken
pub walk_spelled : (n : ℕ) (t : Taking) (ss : List Subrecord) (after : Taking) → AreShort ss → length (payload_of ss) ≤ n → take_subrecords n t (payload_of ss) ≡ Ok after
    → AreAllowed t ss × (after ≡ added_all t ss)
unfolding take_subrecords
walk_spelled zero t [] after short few h = (tt, cc)
walk_spelled zero t (s ∷ ss) after short few h = absurd (omega (arith, few))
walk_spelled (suc n) t [] after short few h = (tt, cc)
walk_spelled (suc n) t (s ∷ ss) after short few h =
    let behind : List ℕ = payload_of ss in
    let first = added t (subrecord_in (header s) (s.octets ++ behind)) in
    let go : Taking → Result Taking TakeFault = λ x. take_subrecords n x (drop (count_in (header s)) (s.octets ++ behind)) in
    let on = went_on (fault_before t (header s) (length (s.octets ++ behind))) first go after h in
    let says = header_says s short.0 in
    let rest : drop (count_in (header s)) (s.octets ++ behind) ≡ behind = ap (λ k. drop k (s.octets ++ behind)) says.0 ∙ drop-append_seam s.octets behind in
    let next : take_subrecords n (added t s) behind ≡ Ok after =
    subst (λ (x : Subrecord). take_subrecords n (added t x) behind ≡ Ok after) (subrecord_again s behind short.0)
    (subst (λ (x : List ℕ). take_subrecords n (added t (subrecord_in (header s) (s.octets ++ behind))) x ≡ Ok after) rest on.1) in
    let few' : length behind ≤ n = omega (arith, few, length-append s.octets behind) in
    let ih = walk_spelled n (added t s) ss after short.1 few' next in
    (((short.0, no_fault_alone t s behind short.0 (none_before t (header s) (length (s.octets ++ behind)) on.0).0), ih.0), ih.1)

-- whatever is taken is a payload of subrecords

subrecord_first : (first : ℕ) (rest : List ℕ) → first < 256 → first % 128 < 64 → first % 64 ≤ length rest
    → (length (subrecord_in first rest).octets < 64) × (header (subrecord_in first rest) ≡ first)
subrecord_first first rest octet plain within =
    let long : length (take (first % 64) rest) ≡ first % 64 = length-take-le (first % 64) rest within in
    let by : (ends : Bool) → nat_le 128 first ≡ ends → header_octet ends (first % 64) ≡ first =
    λ ends. elim ends as (λ (b : Bool). nat_le 128 first ≡ b → header_octet b (first % 64) ≡ first) [
      | true ↦ λ h. let over = leb-true 128 first h in omega arith
      | false ↦ λ h. let under = leb-false 128 first h in omega arith
    ] in
    (omega (arith, long), ap (header_octet (nat_le 128 first)) long ∙ by (nat_le 128 first) refl)

pub taken_spelled : (n : ℕ) (t : Taking) (payload : List ℕ) (after : Taking) → length payload ≤ n → take_subrecords n t payload ≡ Ok after
    → (ss : List Subrecord) × (payload ≡ payload_of ss) × AreShort ss
unfolding take_subrecords
taken_spelled zero t [] after few h = ([], refl, tt)
taken_spelled zero t (first ∷ rest) after few h = absurd (omega (arith, few))
taken_spelled (suc n) t [] after few h = ([], refl, tt)
taken_spelled (suc n) t (first ∷ rest) after few h =
    let s = subrecord_in first rest in
    let on = went_on (fault_before t first (length rest)) (added t s) (λ x. take_subrecords n x (drop (count_in first) rest)) after h in
    let none = none_before t first (length rest) on.0 in
    let plain : NoFault t first (length rest) = no_fault t first (length rest) none.0 in
    let says = subrecord_first first rest none.1 plain.plain plain.within in
    let less : length (drop (count_in first) rest) ≤ n = omega (arith, few, length-drop (count_in first) rest) in
    let more = taken_spelled n (added t s) (drop (count_in first) rest) after less on.1 in (
      s ∷ more.0,
      ap (λ (x : List ℕ). first ∷ x) (sym (take-append-drop (count_in first) rest)) ∙ ap (λ (x : ℕ). x ∷ (s.octets ++ drop (count_in first) rest)) (sym says.1)
          ∙ ap (λ (x : List ℕ). header s ∷ (s.octets ++ x)) more.1,
      (says.0, more.2),
    )

-- a payload of subrecords that is taken was walked through, so that a taker that took those before took it too
pub took_one : (t after : Taking) (gone payloads : List (List ℕ)) (ss : List Subrecord) → AreShort ss → Took t gone payloads → taken t (payload_of ss) ≡ Ok after
    → Took after gone (payloads ++ payload_of ss ∷ [])
took_one t after gone payloads ss short took h =
    let w = walk_spelled (length (payload_of ss)) t ss after short (omega arith) h in
    took_walked t after gone payloads (payload_of ss) took (record { subs = ss; spelling = sym (append-nil (payload_of ss)); allowed = w.0; after = w.1 })

-- so a taker that took those before took any payload that it takes
pub took_next : (t after : Taking) (gone payloads : List (List ℕ)) (payload : List ℕ) → Took t gone payloads → taken t payload ≡ Ok after → Took after gone (payloads ++ payload ∷ [])
took_next t after gone payloads payload took h =
    let spelled = taken_spelled (length payload) t payload after (omega arith) h in
    subst (λ (x : List ℕ). Took after gone (payloads ++ x ∷ [])) (sym spelled.1)
    (took_one t after gone payloads spelled.0 spelled.2 took (subst (λ (x : List ℕ). taken t x ≡ Ok after) spelled.1 h))

-- a taker keeps the constants of its file
then_same : {A : Type 0} (fault : Option TakeFault) (x : A) (f : A → Result Taking TakeFault) (after t : Taking) → then_go_on (unless_fault fault x) f ≡ Ok after
    → (f x ≡ Ok after → (after.format ≡ t.format) × (after.longest ≡ t.longest)) → (after.format ≡ t.format) × (after.longest ≡ t.longest)
then_same fault x f after t h k = k (went_on fault x f after h).1

pub take_same : (n : ℕ) (t : Taking) (payload : List ℕ) (after : Taking) → take_subrecords n t payload ≡ Ok after → (after.format ≡ t.format) × (after.longest ≡ t.longest)
unfolding take_subrecords
take_same zero t payload after h = let is : t ≡ after = cc in (ap (λ (x : Taking). x.format) (sym is), ap (λ (x : Taking). x.longest) (sym is))
take_same (suc n) t [] after h = let is : t ≡ after = cc in (ap (λ (x : Taking). x.format) (sym is), ap (λ (x : Taking). x.longest) (sym is))
take_same (suc n) t (first ∷ rest) after h =
    then_same (fault_before t first (length rest)) (added t (subrecord_in first rest)) (λ x. take_subrecords n x (drop (count_in first) rest)) after t h
    (λ g. take_same n (added t (subrecord_in first rest)) (drop (count_in first) rest) after g)

unwrapped_same : (t : Taking) (r : Result Taking TakeFault) → ((after : Taking) → r ≡ Ok after → (after.format ≡ t.format) × (after.longest ≡ t.longest)) → let after : Taking =
    result_unwrap_or r t in (after.format ≡ t.format) × (after.longest ≡ t.longest)
unwrapped_same t (Ok after) h = h after refl
unwrapped_same t (Err fault) h = (refl, refl)

pub taken_all_same : (t : Taking) (payloads : List (List ℕ)) → ((taken_all t payloads).format ≡ t.format) × ((taken_all t payloads).longest ≡ t.longest)
taken_all_same t [] = (refl, refl)
taken_all_same t (p ∷ ps) =
    let one = unwrapped_same t (taken t p) (λ after h. take_same (length p) t p after h) in
    let more = taken_all_same (result_unwrap_or (taken t p) t) ps in
    (more.0 ∙ one.0, more.1 ∙ one.1)

-- one more payload
pub taken_all_push : (t : Taking) (payloads : List (List ℕ)) (p : List ℕ) → taken_all t (payloads ++ p ∷ []) ≡ result_unwrap_or (taken (taken_all t payloads) p) (taken_all t payloads)
taken_all_push t [] p = refl
taken_all_push t (q ∷ qs) p = taken_all_push (result_unwrap_or (taken t q) t) qs p

-- the other way round: what is walked through is what the function gives

-- if there is no error with its own octets alone, there is none with more after
no_fault_more : (t : Taking) (s : Subrecord) (rest : List ℕ) → fault_at t (header s) (length s.octets) ≡ None → fault_at t (header s) (length (s.octets ++ rest)) ≡ None
no_fault_more t s rest h =
    let n : NoFault t (header s) (length s.octets) = no_fault t (header s) (length s.octets) h in
    fault_none t (header s) (length (s.octets ++ rest)) (record { plain = n.plain; within = omega (arith, n.within, length-append s.octets rest); fits = n.fits; on = n.on; sized = n.sized })

goes_on : {A B : Type 0} (fault : Option TakeFault) (x : A) (f : A → Result B TakeFault) → fault ≡ None → then_go_on (unless_fault fault x) f ≡ f x
goes_on None x f h = refl
goes_on (Some fault) x f h = absurd (cc)

stops : {A B : Type 0} (fault : Option TakeFault) (x : A) (f : A → Result B TakeFault) (told : TakeFault) → fault ≡ Some told → then_go_on (unless_fault fault x) f ≡ Err told
stops None x f told h = absurd (cc)
stops (Some fault) x f told h = let is : fault ≡ told = cc in ap (λ (k : TakeFault). then_go_on (unless_fault (Some k) x) f) is

-- subrecords that are allowed are walked through, and the rest is left
walk_allowed : (n : ℕ) (t : Taking) (ss : List Subrecord) (rest : List ℕ) → AreAllowed t ss → length (payload_of ss ++ rest) ≤ n
    → (m : ℕ) × (length rest ≤ m) × (take_subrecords n t (payload_of ss ++ rest) ≡ take_subrecords m (added_all t ss) rest)
unfolding take_subrecords
walk_allowed n t [] rest allowed few = (n, few, refl)
walk_allowed zero t (s ∷ ss) rest allowed few = absurd (omega (arith, few))
walk_allowed (suc n) t (s ∷ ss) rest allowed few =
    let short = allowed.0.0 in
    let behind : List ℕ = payload_of ss ++ rest in
    let split : (s.octets ++ payload_of ss) ++ rest ≡ s.octets ++ behind = append_assoc s.octets (payload_of ss) rest in
    let says = header_says s short in
    let next : drop (count_in (header s)) (s.octets ++ behind) ≡ behind = ap (λ k. drop k (s.octets ++ behind)) says.0 ∙ drop-append_seam s.octets behind in
    let few' : length behind ≤ n = omega (arith, few, ap length split, length-append s.octets behind) in
    let ih = walk_allowed n (added t s) ss rest allowed.1 few' in
    let first = added t (subrecord_in (header s) (s.octets ++ behind)) in
    let go : Taking → Result Taking TakeFault = λ x. take_subrecords n x (drop (count_in (header s)) (s.octets ++ behind)) in
    let Step : List ℕ → Result Taking TakeFault =
    λ x. then_go_on (unless_fault (fault_before t (header s) (length x)) (added t (subrecord_in (header s) x))) (λ after. take_subrecords n after (drop (count_in (header s)) x)) in (
      ih.0,
      ih.1,
      ap Step split
          ∙ goes_on (fault_before t (header s) (length (s.octets ++ behind))) first go (spelled_before t s (length (s.octets ++ behind)) short (no_fault_more t s behind allowed.0.1))
          ∙ ap (λ (x : Subrecord). take_subrecords n (added t x) (drop (count_in (header s)) (s.octets ++ behind))) (subrecord_again s behind short)
          ∙ ap (λ (x : List ℕ). take_subrecords n (added t s) x) next
          ∙ ih.2,
    )

none_left : (m : ℕ) (t : Taking) → take_subrecords m t [] ≡ Ok t
unfolding take_subrecords
none_left zero t = refl
none_left (suc m) t = refl

pub walk_taken : (t after : Taking) (payload : List ℕ) → Walked t after payload [] → taken t payload ≡ Ok after
walk_taken t after payload w =
    let n : length (payload_of w.subs ++ []) ≤ length payload = omega (arith, ap length w.spelling) in
    let ih = walk_allowed (length payload) t w.subs [] w.allowed n in
    ap (take_subrecords (length payload) t) w.spelling ∙ ih.2 ∙ none_left ih.0 (added_all t w.subs) ∙ ap (λ (x : Taking). let y : Result Taking TakeFault = Ok x in y) (sym w.after)

fault_left : (m : ℕ) (t : Taking) (rest : List ℕ) (fault : TakeFault) → length rest ≤ m → fault_in t rest ≡ Some fault → take_subrecords m t rest ≡ Err fault
unfolding take_subrecords
fault_left m t [] fault few h = absurd (cc)
fault_left zero t (x ∷ rest) fault few h = absurd (omega (arith, few))
fault_left (suc m) t (x ∷ rest) fault few h =
    stops (fault_before t x (length rest)) (added t (subrecord_in x rest)) (λ after. take_subrecords m after (drop (count_in x) rest)) fault
    (either (fault_at t x (length rest)) (nat_le 256 x) fault h)

pub fault_taken : (t : Taking) (payload : List ℕ) (fault : TakeFault) → FirstFault t payload fault → taken t payload ≡ Err fault
fault_taken t payload fault f =
    let mid = f.before in
    let rest = f.rest in
    let w = f.walked in
    let n : length (payload_of w.subs ++ rest) ≤ length payload = omega (arith, ap length w.spelling) in
    let ih = walk_allowed (length payload) t w.subs rest w.allowed n in
    let at : fault_in (added_all t w.subs) rest ≡ Some fault = subst (λ (x : Taking). fault_in x rest ≡ Some fault) w.after f.faulty in
    ap (take_subrecords (length payload) t) w.spelling ∙ ih.2 ∙ fault_left ih.0 (added_all t w.subs) rest fault ih.1 at

-- a subrecord removes no row
pub added_rows : (t : Taking) (s : Subrecord) → length t.rows ≤ length (added t s).rows
added_rows t s = by (is_stream t.format) (nat_le BLOCK (length (t.tail ++ s.octets))) s.ends
  where
    by : (a b c : Bool) → length t.rows
        ≤ length (cond a (cond b (t.rows ++ take BLOCK (t.tail ++ s.octets) ∷ []) t.rows) (cond c (t.rows ++ (t.tail ++ s.octets) ∷ []) t.rows))
    by true true c = omega (arith, length-append t.rows (take BLOCK (t.tail ++ s.octets) ∷ []))
    by true false c = omega arith
    by false b true = omega (arith, length-append t.rows ((t.tail ++ s.octets) ∷ []))
    by false b false = omega arith

-- subrecords remove none
pub more_rows : (n : ℕ) (t : Taking) (payload : List ℕ) (after : Taking) → take_subrecords n t payload ≡ Ok after → length t.rows ≤ length after.rows
unfolding take_subrecords
more_rows zero t payload after h = let is : t ≡ after = cc in subst (λ (x : Taking). length t.rows ≤ length x.rows) is (omega arith)
more_rows (suc n) t [] after h = let is : t ≡ after = cc in subst (λ (x : Taking). length t.rows ≤ length x.rows) is (omega arith)
more_rows (suc n) t (first ∷ rest) after h =
    let next = added t (subrecord_in first rest) in
    let on = went_on (fault_before t first (length rest)) next (λ x. take_subrecords n x (drop (count_in first) rest)) after h in
    let one = added_rows t (subrecord_in first rest) in
    let more = more_rows n next (drop (count_in first) rest) after on.1 in
    omega (arith, one, more)
