-- The number of octets of a file follows from its format, its longest record, the number of its rows and the last row.
use Rattle.std.proofs.Common.{◌≡◌, ◌+◌, ◌-◌, ◌*◌, ◌<◌, ◌≤◌, ◌++◌, ◌&&◌, ℕ, zero, suc, nat_lt, nat_le, List, [], ◌∷◌, length, drop, map, get_or, All, Option, None, Some, slice_get, refl, sym, ap, ◌∙◌, arith, add-one, length-append}
use Rattle.std.specs.Prelude.{Vec}
use Rattle.std.specs.Vec.{vec_len}
use Rattle.std.proofs.Math.Nat.{suc-mul}
use Rattle.std.specs.List.{flat_map}
use Rattle.std.specs.Option.{option_map, unwrap_or}
use Rattle.std.proofs.lemmas.List.{length-map}
use Rattle.std.proofs.lemmas.List.Elements.{All-head, All-tail}
use Rattle.std.proofs.lemmas.Option.{slice_get-map}
use Rattle.oftp_vfile.specs.declared.format.Format.{Format}
use Rattle.oftp_vfile.specs.declared.format.Format.TheVariants.{Fixed, Variable, Unstructured, Text}
use Rattle.oftp_vfile.specs.declared.format.TheConstants.{BLOCK}
use Rattle.oftp_vfile.specs.VirtualFile.{AreBlocks, units_in}
use Rattle.oftp_register.specs.declared.entry.IncomingState.{IncomingState}
use Rattle.oftp_register.specs.declared.entry.IncomingState.TheVariants.{Open, Whole}
use Rattle.oftp_register.specs.declared.entries.Side.{Side}
use Rattle.oftp_register.specs.declared.entries.Side.TheVariants as side
use Rattle.oftp_register.specs.Register.{Register, Incoming, Outgoing}
use Rattle.oftp_register.specs.Soundness.{FitsState, IsSound, IsSoundIncoming, IsSoundOutgoing}
use Rattle.oftp_register.specs.LookUps.{entry_at, file_rows, units_of}
use Rattle.oftp_register.specs.Lists.{IsPlace}
use Rattle.oftp_register.specs.Units.{UnitsAreTold, file_format, units_in_blocks, units_told}
use Rattle.oftp_register.proofs.LookUpLemmas.{entry_at-nowhere, entry_at-place}

-- one row before others
row_more : (r : List ℕ) (rows : List (List ℕ)) → units_in (r ∷ rows) ≡ length r + units_in rows
row_more r rows = length-append r (flat_map (λ (q : List ℕ). q) rows)

-- records of one length
records_counted : (longest : ℕ) (rows : List (List ℕ)) → All (λ (r : List ℕ). length r ≡ longest) rows → units_in rows ≡ length rows * longest
records_counted longest [] all = omega arith
records_counted longest (r ∷ rows) all =
    let head : length r ≡ longest = All-head (λ (q : List ℕ). length q ≡ longest) r rows all in
    let rest : units_in rows ≡ length rows * longest = records_counted longest rows (All-tail (λ (q : List ℕ). length q ≡ longest) r rows all) in
    omega (arith, row_more r rows, head, rest, suc-mul (length rows) longest)

-- full blocks, and then one more row
ends_in : (r : List ℕ) (q : List ℕ) (rows : List (List ℕ)) → length r ≡ BLOCK → units_in (q ∷ rows) ≡ units_in_blocks (q ∷ rows) → units_in (r ∷ q ∷ rows) ≡ units_in_blocks (r ∷ q ∷ rows)
ends_in r q rows full rest =
    let before : length (r ∷ q ∷ rows) - 1 ≡ suc (length (q ∷ rows) - 1) = omega arith in
    let last : units_in (drop (length (r ∷ q ∷ rows) - 1) (r ∷ q ∷ rows)) ≡ units_in (drop (length (q ∷ rows) - 1) (q ∷ rows)) = ap (λ k. units_in (drop k (r ∷ q ∷ rows))) before in
    omega (arith, row_more r (q ∷ rows), full, rest, before, last)

blocks_counted : (rows : List (List ℕ)) → AreBlocks BLOCK rows → units_in rows ≡ units_in_blocks rows
blocks_counted [] blocks = refl
blocks_counted (r ∷ []) blocks = omega arith
blocks_counted (r ∷ q ∷ rows) blocks = ends_in r q rows blocks.0 (blocks_counted (q ∷ rows) blocks.1)

full_counted : (rows : List (List ℕ)) → All (λ (r : List ℕ). length r ≡ BLOCK) rows → units_in rows ≡ units_in_blocks rows
full_counted [] full = refl
full_counted (r ∷ []) full = omega arith
full_counted (r ∷ q ∷ rows) full =
    ends_in r q rows (All-head (λ (p : List ℕ). length p ≡ BLOCK) r (q ∷ rows) full) (full_counted (q ∷ rows) (All-tail (λ (p : List ℕ). length p ≡ BLOCK) r (q ∷ rows) full))

pub units_are_told : UnitsAreTold
units_are_told Open Fixed longest rows fits = records_counted longest rows fits
units_are_told Open Variable longest rows fits = refl
units_are_told Open Unstructured longest rows fits = full_counted rows fits
units_are_told Open Text longest rows fits = full_counted rows fits
units_are_told Whole Fixed longest rows fits = records_counted longest rows fits
units_are_told Whole Variable longest rows fits = refl
units_are_told Whole Unstructured longest rows fits = blocks_counted rows fits
units_are_told Whole Text longest rows fits = blocks_counted rows fits

-- ---- the file with a number

-- the octets of these rows by a format, if there is one: without one there are none
abbrev told_in : Option (Format × ℕ) → List (List ℕ) → ℕ
told_in None rows = 0
told_in (Some (format, longest)) rows = units_told format longest rows

told_at : {A : Type 0} (P : A → Type 0) (format_of : A → Format × ℕ) (rows : A → List (List ℕ)) → ((x : A) → P x → units_in (rows x) ≡ units_told (format_of x).0 (format_of x).1 (rows x))
    → (xs : List A) (i : ℕ) → All P xs
    → units_in (unwrap_or (slice_get (map rows xs) i) []) ≡ told_in (option_map format_of (slice_get xs i)) (unwrap_or (slice_get (map rows xs) i) [])
told_at P format_of rows each [] i all = refl
told_at P format_of rows each (x ∷ xs) zero all = each x (All-head P x xs all)
told_at P format_of rows each (x ∷ xs) (suc i) all = told_at P format_of rows each xs i (All-tail P x xs all)

told_of_file : (r : Register) (which : Side) (n : ℕ) → IsSound r → units_of r which n ≡ told_in (file_format r which n) (file_rows r which n)
told_of_file r side.Incoming zero sound = refl
told_of_file r side.Incoming (suc i) sound =
    told_at IsSoundIncoming (λ (f : Incoming). (f.format, f.longest)) (λ (f : Incoming). f.rows) (λ f fine. units_are_told f.state f.format f.longest f.rows fine.fits) r.incoming i sound.incoming
told_of_file r side.Outgoing zero sound = refl
told_of_file r side.Outgoing (suc i) sound =
    told_at IsSoundOutgoing (λ (f : Outgoing). (f.format, f.longest)) (λ (f : Outgoing). f.rows) (λ f fine. units_are_told Whole f.format f.longest f.rows fine.fits) r.outgoing i sound.outgoing

-- the octets of the file with a number
pub units_of_file : (r : Register) (which : Side) (n : ℕ) (format : Format) (longest : ℕ) → IsSound r → Some (format, longest) ≡ file_format r which n
    → units_told format longest (file_rows r which n) ≡ units_of r which n
units_of_file r which n format longest sound is = sym (told_of_file r which n sound ∙ ap (λ found. told_in found (file_rows r which n)) (sym is))

-- a number without a file has none
pub units_of_none : (r : Register) (which : Side) (n : ℕ) → IsSound r → None ≡ file_format r which n → 0 ≡ units_of r which n
units_of_none r which n sound is = sym (told_of_file r which n sound ∙ ap (λ found. told_in found (file_rows r which n)) (sym is))

-- ---- a file in a list

-- the format of the file with a number in a list
pub told_found : {S A B Z : Type 0} (view : S → A) (tell : A → B) (files : Vec S Z) (n i len : ℕ) (x : S) → len ≡ vec_len files → IsPlace n len (Some i)
    → x ≡ get_or files.items i x → option_map tell (entry_at n (map view files.items)) ≡ Some (tell (view x))
told_found view tell files n i len x length_is place is =
    let within : i < length files.items = omega (arith, place.1, length_is, files.ok.0) in
    ap (λ k. option_map tell (entry_at k (map view files.items))) (place.0 ∙ add-one i) ∙ sym (slice_get-map tell (map view files.items) i) ∙ entry_at-place view tell files.items i x within is

-- a number without a file has no format
pub told_nowhere : {S A B Z : Type 0} (view : S → A) (tell : A → B) (files : Vec S Z) (n len : ℕ) → len ≡ vec_len files → IsPlace n len None
    → option_map tell (entry_at n (map view files.items)) ≡ None
told_nowhere view tell files n len length_is place =
    let all = map view files.items in
    let counted : length all ≡ len = length-map files.items view ∙ sym (length_is ∙ files.ok.0) in
    ap (option_map tell) (entry_at-nowhere all n (ap (λ k. nat_lt 0 n && nat_le n k) counted ∙ place))
