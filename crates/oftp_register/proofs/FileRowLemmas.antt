-- The rows of a file that is kept.
use Rattle.std.proofs.Common.{◌≡◌, ℕ, zero, suc, ◌<◌, ◌≤◌, ◌&&◌, nat_lt, nat_le, List, [], ◌∷◌, length, map, get_or, take, drop, All, Some, None, slice_get, ap, sym, ◌∙◌, arith, add-one, length-take, length-drop}
use Rattle.std.specs.Option.{unwrap_or}
use Rattle.std.specs.Prelude.{Vec}
use Rattle.std.specs.Vec.{vec_len}
use Rattle.std.proofs.lemmas.List.{length-map}
use Rattle.std.proofs.lemmas.List.Elements.{All-head, All-tail}
use Rattle.oftp_register.specs.declared.entries.Side.{Side}
use Rattle.oftp_register.specs.declared.entries.Side.TheVariants as side
use Rattle.oftp_register.specs.Register.{Register, Incoming, Outgoing}
use Rattle.oftp_register.specs.Soundness.{IsSound, IsSoundIncoming, IsSoundOutgoing}
use Rattle.oftp_register.specs.LookUps.{AreRowsWithin, entry_at, file_rows}
use Rattle.oftp_register.specs.Lists.{IsPlace}
use Rattle.oftp_vfile.specs.VirtualFile.{units_in}
use Rattle.oftp_register.proofs.UnitLemmas.{incoming_units, outgoing_units}
use Rattle.oftp_register.proofs.LookUpLemmas.{entry_at-nowhere, entry_at-place}
use Rattle.oftp_vfile.specs.declared.format.TheConstants.{MOST_ROWS}
use Rattle.oftp_register.specs.declared.fit.TheConstants.{MOST_UNITS}

-- what holds of no rows, and of the rows of each entry, holds of those at an index
rows_at : {A : Type 0} (P : A → Type 0) (rows : A → List (List ℕ)) (Q : List (List ℕ) → Type 0) → Q [] → ((x : A) → P x → Q (rows x)) → (xs : List A) (i : ℕ) → All P xs
    → Q (unwrap_or (slice_get (map rows xs) i) [])
rows_at P rows Q none each [] i all = none
rows_at P rows Q none each (x ∷ xs) zero all = each x (All-head P x xs all)
rows_at P rows Q none each (x ∷ xs) (suc i) all = rows_at P rows Q none each xs i (All-tail P x xs all)

-- so it holds of those of a number in a sound register
file_rows_are : (Q : List (List ℕ) → Type 0) → Q [] → ((f : Incoming) → IsSoundIncoming f → Q f.rows) → ((f : Outgoing) → IsSoundOutgoing f → Q f.rows) → (r : Register) (which : Side) (n : ℕ)
    → IsSound r → Q (file_rows r which n)
file_rows_are Q none comes goes r side.Incoming zero sound = none
file_rows_are Q none comes goes r side.Incoming (suc i) sound = rows_at IsSoundIncoming (λ (f : Incoming). f.rows) Q none comes r.incoming i sound.incoming
file_rows_are Q none comes goes r side.Outgoing zero sound = none
file_rows_are Q none comes goes r side.Outgoing (suc i) sound = rows_at IsSoundOutgoing (λ (f : Outgoing). f.rows) Q none goes r.outgoing i sound.outgoing

-- no file has more rows than it may
pub few_rows : (r : Register) (which : Side) (n : ℕ) → IsSound r → length (file_rows r which n) ≤ MOST_ROWS
few_rows = file_rows_are (λ rows. length rows ≤ MOST_ROWS) (omega arith) (λ f sound. sound.few) (λ f sound. sound.few)

-- no file has more octets than it may
pub few_units : (r : Register) (which : Side) (n : ℕ) → IsSound r → units_in (file_rows r which n) ≤ MOST_UNITS
few_units = file_rows_are (λ rows. units_in rows ≤ MOST_UNITS) (omega arith) incoming_units outgoing_units

-- a part of few rows
pub part_within : (from most : ℕ) (rows : List (List ℕ)) → length rows ≤ MOST_ROWS → AreRowsWithin from most (take most (drop from rows))
part_within from most rows few = record {
  asked = omega (arith, length-take most (drop from rows));
  few = λ some. omega (arith, length-take most (drop from rows), length-drop from rows);
}

-- the rows of the file with a number in a list
pub rows_found : {S A Z : Type 0} (view : S → A) (rows : A → List (List ℕ)) (files : Vec S Z) (n i len : ℕ) (x : S) → len ≡ vec_len files → IsPlace n len (Some i)
    → x ≡ get_or files.items i x → unwrap_or (entry_at n (map rows (map view files.items))) [] ≡ rows (view x)
rows_found view rows files n i len x length_is place is =
    let within : i < length files.items = omega (arith, place.1, length_is, files.ok.0) in
    ap (λ k. unwrap_or (entry_at k (map rows (map view files.items))) []) (place.0 ∙ add-one i) ∙ ap (λ e. unwrap_or e []) (entry_at-place view rows files.items i x within is)

-- a number without a file has none
pub no_rows_found : {S A Z : Type 0} (view : S → A) (rows : A → List (List ℕ)) (files : Vec S Z) (n len : ℕ) → len ≡ vec_len files → IsPlace n len None
    → unwrap_or (entry_at n (map rows (map view files.items))) [] ≡ []
no_rows_found view rows files n len length_is place =
    let all = map rows (map view files.items) in
    let counted : length all ≡ len = length-map (map view files.items) rows ∙ length-map files.items view ∙ sym (length_is ∙ files.ok.0) in
    ap (λ e. unwrap_or e []) (entry_at-nowhere all n (ap (λ k. nat_lt 0 n && nat_le n k) counted ∙ place))
