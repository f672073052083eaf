-- A payload has only one first error.
use Rattle.std.proofs.Common.{◌≡◌, ℕ, ◌%◌, Bool, Some, None, List, [], ◌∷◌, ◌++◌, length, nat_le, sym, ap, ◌∙◌, subst, arith, append_assoc}
use Rattle.std.proofs.lemmas.List.{length-append}
use Rattle.oftp_vfile.specs.declared.fault.TakeFault.{TakeFault}
use Rattle.oftp_vfile.specs.Subrecord.{Subrecord, header, spelled, payload_of}
use Rattle.oftp_vfile.specs.Taking.{Taking, added, added_all, fault_at, fault_in, IsAllowed, AreAllowed, FirstFault}
use Rattle.oftp_vfile.proofs.TakingLemmas.{NoFault, no_fault, fault_none}
use Rattle.oftp_vfile.proofs.CarriesLemmas.{header_says, same_lengths}

-- a subrecord that is taken has no error, whatever follows it
taken_no_fault : (t : Taking) (s : Subrecord) (rest : List ℕ) (f : TakeFault) → IsAllowed t s → fault_in t (spelled s ++ rest) ≡ Some f → ⊥
taken_no_fault t s rest f a e =
    let n : NoFault t (header s) (length s.octets) = no_fault t (header s) (length s.octets) a.1 in
    let none : fault_at t (header s) (length (s.octets ++ rest)) ≡ None =
    fault_none t (header s) (length (s.octets ++ rest)) (record { plain = n.plain; within = omega (arith, n.within, length-append s.octets rest); fits = n.fits; on = n.on; sized = n.sized }) in
    let q : None ≡ Some f = sym none ∙ e in
    cc

-- two beginnings of one payload that end before a faulty subrecord are the same
same_fault : (t : Taking) (xs ys : List Subrecord) (r q : List ℕ) (f g : TakeFault) → AreAllowed t xs → AreAllowed t ys → payload_of xs ++ r ≡ payload_of ys ++ q
    → fault_in (added_all t xs) r ≡ Some f → fault_in (added_all t ys) q ≡ Some g → f ≡ g
same_fault t [] [] r q f g a b e m n = let s : Some f ≡ Some g = sym m ∙ ap (fault_in t) e ∙ n in cc
same_fault t [] (y ∷ ys) r q f g a b e m n = absurd (taken_no_fault t y (payload_of ys ++ q) f b.0 (ap (fault_in t) (sym (e ∙ append_assoc (spelled y) (payload_of ys) q)) ∙ m))
same_fault t (x ∷ xs) [] r q f g a b e m n = absurd (taken_no_fault t x (payload_of xs ++ r) g a.0 (ap (fault_in t) (sym (append_assoc (spelled x) (payload_of xs) r) ∙ e) ∙ n))
same_fault t (x ∷ xs) (y ∷ ys) r q f g a b e m n =
    let u = header_says x a.0.0 in
    let v = header_says y b.0.0 in
    let e' : header x ∷ ((x.octets ++ payload_of xs) ++ r) ≡ header y ∷ ((y.octets ++ payload_of ys) ++ q) = e in
    let hd : header x ≡ header y = cc in
    let tl : (x.octets ++ payload_of xs) ++ r ≡ (y.octets ++ payload_of ys) ++ q = cc in
    let len : length x.octets ≡ length y.octets = sym u.0 ∙ ap (λ n. n % 64) hd ∙ v.0 in
    let flag : x.ends ≡ y.ends = sym u.1 ∙ ap (λ n. nat_le 128 n) hd ∙ v.1 in
    let both = same_lengths x.octets y.octets (payload_of xs ++ r) (payload_of ys ++ q) len (sym (append_assoc x.octets (payload_of xs) r) ∙ tl ∙ append_assoc y.octets (payload_of ys) q) in
    let same : y ≡ x = ap (λ (z : Bool). record { ends = z; octets = y.octets }) (sym flag) ∙ ap (λ (z : List ℕ). record { ends = x.ends; octets = z }) (sym both.0) in
    same_fault (added t x) xs ys r q f g a.1 (subst (λ (z : Subrecord). AreAllowed (added t z) ys) same b.1) both.1 m (ap (λ (z : Subrecord). fault_in (added_all (added t z) ys) q) (sym same) ∙ n)

-- a payload has only one first error
pub one_fault : (t : Taking) (payload : List ℕ) (f g : TakeFault) → FirstFault t payload f → FirstFault t payload g → f ≡ g
one_fault t payload f g a b =
    let first = ap (λ (x : Taking). fault_in x a.rest) (sym a.walked.after) ∙ a.faulty in
    let second = ap (λ (x : Taking). fault_in x b.rest) (sym b.walked.after) ∙ b.faulty in
    same_fault t a.walked.subs b.walked.subs a.rest b.rest f g a.walked.allowed b.walked.allowed (sym a.walked.spelling ∙ b.walked.spelling) first second
