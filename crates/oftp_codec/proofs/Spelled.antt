-- What holds of every table: an encoding has no error and is of one command, and the canonical octets are an encoding.
use Rattle.std.proofs.Common.{◌≡◌, ℕ, ◌+◌, ◌≤◌, Bool, true, false, ◌||◌, eqb, List, [], ◌∷◌, length, drop, None, refl, sym, ap, subst, ◌∙◌, arith, inl, inr}
use Rattle.std.specs.List.{list_all}
use Rattle.std.proofs.lemmas.Bool.{eq-eqb, and_from}
use Rattle.std.proofs.lemmas.List.{length-append, length-replicate, take_at, drop_at, drop-drop}
use Rattle.std.proofs.lemmas.Str.{is_utf8-from_IsUtf8}
use Rattle.std.proofs.lemmas.Slice.Eq.{bytes_eq-Decides}
use Rattle.oftp_wire.specs.Octets.{part, is_digit, value_of, number}
use Rattle.oftp_codec.specs.Form.{size, allows, fault_of, end_fault}
use Rattle.oftp_codec.specs.Row.{Row, word, name, digits, count, choice, longest, reserved, return, payload, text, at_of, form_of, spelled, Fits, Says, Table, EachSays, EachFits, IsSpelled, canon_of, first_fault, fault_in}
use Rattle.oftp_wire.proofs.Decimals.{length-decimal, decimal_digits, number-decimal}
use Rattle.oftp_codec.proofs.Forms.{fine_from, value_of-padded, is_padded-padded, length-padded}

-- each row begins where the one before it ends
abbrev pub Contiguous : {S : Type 0} → ℕ → List (Row S) → ℕ → Type 0
Contiguous k [] end = k ≡ end
Contiguous k (r ∷ rs) end = (at_of r ≡ k) × Contiguous (k + size (form_of r)) rs end

-- rows end after their beginning
contiguous_le : {S : Type 0} (k : ℕ) (rows : List (Row S)) (end : ℕ) → Contiguous k rows end → k ≤ end
contiguous_le k [] end h = omega arith
contiguous_le k (r ∷ rs) end h = let ih = contiguous_le (k + size (form_of r)) rs end h.1 in omega arith

-- ---- an encoding has no error

-- octets that encode a value are allowed
says_allowed : {S : Type 0} (r : Row S) (s : S) (w : List ℕ) → Fits r s → Says r s w → allows (form_of r) w ≡ true
says_allowed (word k v) s w f e = rw (e, (bytes_eq-Decides v v).1 refl) refl
says_allowed (name k n a) s w f e = rw e (is_padded-padded n (a s) f.1)
says_allowed (digits k n a) s w f e = rw e f.1
says_allowed (count k n a) s w f e = rw e (decimal_digits n (a s))
says_allowed (choice k n ws a) s w f e = rw e f.1
says_allowed (longest k b n a) s w f e =
    and_from (list_all is_digit w) (b || eqb (number w) 0) (rw e (decimal_digits n (a s))) (zero_unless b f.1 (ap number e ∙ number-decimal n (a s) f.0)) where
      zero_unless : (b : Bool) → (b ≡ false → a s ≡ 0) → number w ≡ a s → (b || eqb (number w) 0) ≡ true
      zero_unless true h v = refl
      zero_unless false h v = eq-eqb (number w) 0 (v ∙ h refl)
says_allowed (reserved k n) s w f e = refl
says_allowed (return k) s w f e = elim e [ inl x ↦ rw x refl | inr x ↦ rw x refl ]
says_allowed (payload k n a) s w f e = refl
says_allowed (text k n a) s w f e = rw e (is_utf8-from_IsUtf8 (a s) f.2)

-- octets of a table's length have no error at its end
pub ends_well : (end : ℕ) (o : List ℕ) → length o ≡ end → end_fault end o ≡ None
unfolding end_fault
ends_well end o e = rw (eq-eqb (length o) end e) refl

-- from a row on
no_fault_from : {S : Type 0} (k : ℕ) (rows : List (Row S)) (end : ℕ) (s : S) (o : List ℕ) → Contiguous k rows end → length o ≡ end → EachSays rows s o → first_fault rows end o ≡ None
no_fault_from k [] end s o h e says = ends_well end o e
no_fault_from k (r ∷ rs) end s o h e says =
    let le = contiguous_le (k + size (form_of r)) rs end h.1 in
    let fine : fault_of (form_of r) (at_of r) o ≡ None = fine_from (form_of r) (at_of r) o (omega (arith, h.0)) (says_allowed r s (part (at_of r) (size (form_of r)) o) says.0.0 says.0.1) in
    rw fine (no_fault_from (k + size (form_of r)) rs end s o h.1 e says.1)

-- an encoding has no error
pub no_fault : {S : Type 0} (t : Table S) (s : S) (o : List ℕ) → Contiguous 0 t.rows t.end → IsSpelled t s o → fault_in t o ≡ None
no_fault t s o h e = no_fault_from 0 t.rows t.end s o h e.whole e.fields

-- ---- an encoding is of one command

-- two commands have the same value of a row
abbrev pub SameAt : {S : Type 0} → Row S → S → S → Type 0
SameAt (word k w) s t = Unit {0}
SameAt (name k n f) s t = f s ≡ f t
SameAt (digits k n f) s t = f s ≡ f t
SameAt (count k n f) s t = f s ≡ f t
SameAt (choice k n ws f) s t = f s ≡ f t
SameAt (longest k b n f) s t = f s ≡ f t
SameAt (reserved k n) s t = Unit {0}
SameAt (return k) s t = Unit {0}
SameAt (payload k n f) s t = f s ≡ f t
SameAt (text k n f) s t = f s ≡ f t

-- octets encode one value
same_at : {S : Type 0} (r : Row S) (s t : S) (w : List ℕ) → Fits r s → Says r s w → Fits r t → Says r t w → SameAt r s t
same_at (word k w) s t o f e g d = tt
same_at (name k n a) s t o f e g d = sym (value_of-padded n (a s) f.1) ∙ ap value_of (sym e ∙ d) ∙ value_of-padded n (a t) g.1
same_at (digits k n a) s t o f e g d = sym e ∙ d
same_at (count k n a) s t o f e g d = sym (number-decimal n (a s) f) ∙ ap number (sym e ∙ d) ∙ number-decimal n (a t) g
same_at (choice k n ws a) s t o f e g d = sym e ∙ d
same_at (longest k b n a) s t o f e g d = sym (number-decimal n (a s) f.0) ∙ ap number (sym e ∙ d) ∙ number-decimal n (a t) g.0
same_at (reserved k n) s t o f e g d = tt
same_at (return k) s t o f e g d = tt
same_at (payload k n a) s t o f e g d = sym e ∙ d
same_at (text k n a) s t o f e g d = sym e ∙ d

-- two commands have the same values of rows
abbrev pub EachSame : {S : Type 0} → List (Row S) → S → S → Type 0
EachSame [] s t = Unit {0}
EachSame (r ∷ rs) s t = SameAt r s t × EachSame rs s t

-- octets encode one value of each row
pub each_same : {S : Type 0} (rows : List (Row S)) (s t : S) (o : List ℕ) → EachSays rows s o → EachSays rows t o → EachSame rows s t
each_same [] s t o f g = tt
each_same (r ∷ rs) s t o f g = (same_at r s t (part (at_of r) (size (form_of r)) o) f.0.0 f.0.1 g.0.0 g.0.1, each_same rs s t o f.1 g.1)

-- ---- the canonical encoding is one

-- a field's canonical octets fill it
length-spelled : {S : Type 0} (r : Row S) (s : S) → Fits r s → length (spelled r s) ≡ size (form_of r)
length-spelled (word k w) s f = refl
length-spelled (name k n a) s f = length-padded n (a s) f.0
length-spelled (digits k n a) s f = f.0
length-spelled (count k n a) s f = length-decimal n (a s)
length-spelled (choice k n ws a) s f = f.0
length-spelled (longest k b n a) s f = length-decimal n (a s)
length-spelled (reserved k n) s f = length-replicate {A = ℕ} n 32
length-spelled (return k) s f = refl
length-spelled (payload k n a) s f = f
length-spelled (text k n a) s f = f.0

-- a field's canonical octets encode its value
spelled_says : {S : Type 0} (r : Row S) (s : S) → Says r s (spelled r s)
spelled_says (word k w) s = refl
spelled_says (name k n a) s = refl
spelled_says (digits k n a) s = refl
spelled_says (count k n a) s = refl
spelled_says (choice k n ws a) s = refl
spelled_says (longest k b n a) s = refl
spelled_says (reserved k n) s = tt
spelled_says (return k) s = inl refl
spelled_says (payload k n a) s = refl
spelled_says (text k n a) s = refl

-- canonical octets reach to the end of rows
length-canon : {S : Type 0} (k : ℕ) (rows : List (Row S)) (end : ℕ) (s : S) → Contiguous k rows end → EachFits rows s → k + length (canon_of rows s) ≡ end
length-canon k [] end s h f = omega (arith, h)
length-canon k (r ∷ rs) end s h f =
    let ih = length-canon (k + size (form_of r)) rs end s h.1 f.1 in
    omega (arith, length-append (spelled r s) (canon_of rs s), length-spelled r s f.0)

-- from a row on
canon_says : {S : Type 0} (k : ℕ) (rows : List (Row S)) (end : ℕ) (s : S) (o : List ℕ) → Contiguous k rows end → EachFits rows s → drop k o ≡ canon_of rows s → EachSays rows s o
canon_says k [] end s o h f e = tt
canon_says k (r ∷ rs) end s o h f e =
    let n = size (form_of r) in
    let len = length-spelled r s f.0 in
    let here : part (at_of r) n o ≡ spelled r s = rw (h.0, e) (take_at (spelled r s) (canon_of rs s) n len) in
    let rest : drop (k + n) o ≡ canon_of rs s = sym (drop-drop n k o) ∙ ap (drop n) e ∙ drop_at (spelled r s) (canon_of rs s) n len in
    ((f.0, subst (Says r s) (sym here) (spelled_says r s)), canon_says (k + n) rs end s o h.1 f.1 rest)

-- the canonical octets are an encoding
pub canon_spelled : {S : Type 0} (t : Table S) (s : S) → Contiguous 0 t.rows t.end → EachFits t.rows s → IsSpelled t s (canon_of t.rows s)
canon_spelled t s h f = record {
  whole = omega (arith, length-canon 0 t.rows t.end s h f);
  fields = canon_says 0 t.rows t.end s (canon_of t.rows s) h f refl;
}
