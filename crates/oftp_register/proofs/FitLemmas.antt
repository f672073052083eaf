-- Which changes are fit for a register in memory, and that it stays sound.
use Rattle.std.proofs.Common.{◌≡◌, ◌↔◌, ◌<◌, ℕ, zero, suc, ◌&&◌, Bool, false, IsTrue, nat_lt, nat_le, List, [], ◌∷◌, length, map, get_or, All, Some, None, Result, Ok, Err, ap, sym, ◌∙◌, subst, arith, add-one}
use Rattle.std.specs.Vec.{vec_len}
use Rattle.std.proofs.lemmas.List.{length-map}
use Rattle.std.proofs.lemmas.List.Elements.{All-cons, All-head, All-map, All-nil, All-tail}
use Rattle.oftp_vfile.specs.declared.format.Format.{Format}
use Rattle.oftp_vfile.specs.VirtualFile.{IsLongest}
use Rattle.oftp_register.specs.declared.change.Change.{Change}
use Rattle.oftp_register.specs.declared.change.Change.TheVariants as change
use Rattle.oftp_register.specs.declared.entry.Identity.{Identity}
use Rattle.oftp_register.specs.declared.office.OfficeFault.{OfficeFault}
use Rattle.oftp_register.specs.declared.office.OfficeFault.TheVariants.{Store, Memory, Refused}
use Rattle.oftp_register.specs.declared.plain.incoming.IncomingFile.{IncomingFile}
use Rattle.oftp_register.specs.declared.plain.lists.Lists.{Lists}
use Rattle.oftp_register.specs.Register.{Register, Incoming}
use Rattle.oftp_register.specs.Changes.{apply}
use Rattle.oftp_register.specs.Soundness.{AtNumber, Ends, GoesOn, IfOpen, IsFit, IsSound, MayStart}
use Rattle.oftp_register.specs.Lists.{IsPlace, CarriesOut, incoming_of, register_in}
use Rattle.oftp_register.proofs.Places.{above, above_again}
use Rattle.oftp_register.proofs.KeepLemmas.{apply_keeps}

-- a fact of the entry at a place
at_place : {S A : Type 0} (view : S → A) (P : A → Type 0) (xs : List S) (i : ℕ) (x : S) → i < length xs → x ≡ get_or xs i x → AtNumber P (suc i) (map view xs) ↔ P (view x)
at_place view P [] i x within is = absurd (omega (arith, within))
at_place view P (z ∷ xs) zero x within is = (λ h. subst (λ y. P (view y)) (sym is) h, λ h. subst (λ y. P (view y)) is h)
at_place view P (z ∷ xs) (suc i) x within is = at_place view P xs i x (omega (arith, within)) is

-- a number without an entry
at_no_place : {A : Type 0} (P : A → Type 0) (n : ℕ) (xs : List A) → (nat_lt 0 n && nat_le n (length xs)) ≡ false → AtNumber P n xs
at_no_place P zero xs h = tt
at_no_place P (suc n) [] h = tt
at_no_place P (suc zero) (x ∷ xs) h = absurd (omega (arith, above 0 (suc (length xs)) h))
at_no_place P (suc (suc n)) (x ∷ xs) h = at_no_place P (suc n) xs (above_again n (length xs) h)

-- the premise on the file with a number
pub fit_at : (o : Lists) (P : Incoming → Type 0) (n i len : ℕ) (x : IncomingFile) → len ≡ vec_len o.incoming → IsPlace n len (Some i) → x ≡ get_or o.incoming.items i x
    → AtNumber P n (map incoming_of o.incoming.items) ↔ P (incoming_of x)
fit_at o P n i len x length_is place is =
    let within : i < length o.incoming.items = omega (arith, place.1, length_is, o.incoming.ok.0) in
    subst (λ k. AtNumber P k (map incoming_of o.incoming.items) ↔ P (incoming_of x)) (sym (place.0 ∙ add-one i)) (at_place incoming_of P o.incoming.items i x within is)

pub fit_nowhere : (o : Lists) (P : Incoming → Type 0) (n len : ℕ) → len ≡ vec_len o.incoming → IsPlace n len None → AtNumber P n (map incoming_of o.incoming.items)
fit_nowhere o P n len length_is h =
    let counted : length (map incoming_of o.incoming.items) ≡ len = length-map o.incoming.items incoming_of ∙ sym (length_is ∙ o.incoming.ok.0) in
    at_no_place P n (map incoming_of o.incoming.items) (ap (λ k. nat_lt 0 n && nat_le n k) counted ∙ h)

-- the premise of a change of this register, by its check
pub tests_fit : (r : Register) (change kind : Change) (Asked : Type 0) (answer : Bool) → change ≡ kind → Asked ↔ IsFit r kind → IsTrue answer ↔ Asked → IsTrue answer ↔ IsFit r change
tests_fit r change kind Asked answer is asks tests =
    (λ yes. subst (IsFit r) (sym is) (asks.0 (tests.0 yes)), λ fit. tests.1 (asks.1 (subst (IsFit r) is fit)))

-- the premises of the changes on a file that exists
pub keep_asks : (r : Register) (n : ℕ) (rows : List (List ℕ)) → AtNumber (λ (f : Incoming). IfOpen f.state (GoesOn rows f)) n r.incoming ↔ IsFit r (change.Keep n rows)
unfolding IsFit
keep_asks r n rows = (λ h. h, λ h. h)

pub close_asks : (r : Register) (n : ℕ) (rows : List (List ℕ)) → AtNumber (λ (f : Incoming). IfOpen f.state (Ends rows f)) n r.incoming ↔ IsFit r (change.Close n rows)
unfolding IsFit
close_asks r n rows = (λ h. h, λ h. h)

-- a fact of each entry
all_of : {S A : Type 0} (P : A → Type 0) (view : S → A) (xs : List S) → All P (map view xs) → All (λ x. P (view x)) xs
all_of P view [] h = All-nil (λ x. P (view x))
all_of P view (x ∷ xs) h = All-cons (λ y. P (view y)) x xs (All-head P (view x) (map view xs) h) (all_of P view xs (All-tail P (view x) (map view xs) h))

pub start_asks : (o : Lists) (files : List IncomingFile) (identity : Identity) (format : Format) (longest : ℕ) (description : List ℕ) (count : ℕ) → files ≡ o.incoming.items
    → (IsLongest format longest × All (λ (f : IncomingFile). MayStart identity format longest count (incoming_of f)) files)
    ↔ IsFit (register_in o) (change.Start identity format longest description count)
unfolding IsFit
start_asks o files identity format longest description count lent =
    let Asked = MayStart identity format longest count in
    let OfEach = λ (fs : List IncomingFile). All (λ (f : IncomingFile). Asked (incoming_of f)) fs in (
      λ h. (h.0, All-map Asked incoming_of o.incoming.items (subst OfEach lent h.1)),
      λ h. (h.0, subst OfEach (sym lent) (all_of Asked incoming_of o.incoming.items h.1)),
    )

-- a fit change leaves the register sound, whatever its outcome
pub makes_sound : {T : Type 0} (old new : Lists) (k : Change) (result : Result T OfficeFault) → IsSound (register_in old) → IsFit (register_in old) k
    → CarriesOut register_in (apply (register_in old) k) old new result → IsSound (register_in new)
makes_sound old new k (Ok x) sound fit h = apply_keeps (register_in old) k (register_in new) sound fit h
makes_sound old new k (Err Store) sound fit h = absurd h
makes_sound old new k (Err Memory) sound fit h = subst IsSound (sym h) sound
makes_sound old new k (Err (Refused cause)) sound fit h = subst IsSound (sym h.1) sound
