-- How many octets the rows of a sound file have.
use Rattle.std.proofs.Common.{◌≡◌, ℕ, ◌*◌, ◌≤◌, List, [], ◌∷◌, length, All, arith, length-append}
use Rattle.std.specs.List.{flat_map}
use Rattle.std.proofs.lemmas.List.Elements.{All-cons, All-head, All-tail, All-nil, All-weaker}
use Rattle.oftp_vfile.specs.declared.format.Format.{Format}
use Rattle.oftp_vfile.specs.declared.format.Format.TheVariants.{Fixed, Variable, Unstructured, Text}
use Rattle.oftp_vfile.specs.VirtualFile.{AreBlocks, AreRows, IsLongest, units_in}
use Rattle.oftp_register.specs.declared.entry.IncomingState.{IncomingState}
use Rattle.oftp_register.specs.declared.entry.IncomingState.TheVariants.{Open, Whole}
use Rattle.oftp_register.specs.Register.{Incoming, Outgoing}
use Rattle.oftp_register.specs.Soundness.{AreFullRows, FitsState, IsSoundIncoming, IsSoundOutgoing}
use Rattle.oftp_vfile.specs.declared.format.TheConstants.{BLOCK, LONGEST_RECORD}
use Rattle.oftp_register.specs.declared.fit.TheConstants.{MOST_UNITS}

-- no row is longer than this
abbrev AreShort : List (List ℕ) → Type 0
AreShort rows = All (λ (r : List ℕ). length r ≤ LONGEST_RECORD) rows

full_short : (format : Format) (longest : ℕ) (rows : List (List ℕ)) → IsLongest format longest → AreFullRows format longest rows → AreShort rows
full_short Fixed longest rows sized = All-weaker (λ (r : List ℕ). length r ≡ longest) (λ (r : List ℕ). length r ≤ LONGEST_RECORD) (λ r e. omega (arith, e, sized.1)) rows
full_short Variable longest rows sized = All-weaker (λ (r : List ℕ). length r ≤ longest) (λ (r : List ℕ). length r ≤ LONGEST_RECORD) (λ r e. omega (arith, e, sized.1)) rows
full_short Unstructured longest rows sized = All-weaker (λ (r : List ℕ). length r ≡ BLOCK) (λ (r : List ℕ). length r ≤ LONGEST_RECORD) (λ r e. omega (arith, e)) rows
full_short Text longest rows sized = All-weaker (λ (r : List ℕ). length r ≡ BLOCK) (λ (r : List ℕ). length r ≤ LONGEST_RECORD) (λ r e. omega (arith, e)) rows

blocks_short : (rows : List (List ℕ)) → AreBlocks BLOCK rows → AreShort rows
blocks_short [] blocks = All-nil (λ (r : List ℕ). length r ≤ LONGEST_RECORD)
blocks_short (r ∷ []) blocks = All-cons (λ (q : List ℕ). length q ≤ LONGEST_RECORD) r [] (omega (arith, blocks.1)) (All-nil (λ (q : List ℕ). length q ≤ LONGEST_RECORD))
blocks_short (r ∷ q ∷ rows) blocks = All-cons (λ (p : List ℕ). length p ≤ LONGEST_RECORD) r (q ∷ rows) (omega (arith, blocks.0)) (blocks_short (q ∷ rows) blocks.1)

rows_short : (format : Format) (longest : ℕ) (rows : List (List ℕ)) → IsLongest format longest → AreRows format longest rows → AreShort rows
rows_short Fixed longest rows sized = full_short Fixed longest rows sized
rows_short Variable longest rows sized = full_short Variable longest rows sized
rows_short Unstructured longest rows sized = blocks_short rows
rows_short Text longest rows sized = blocks_short rows

fits_short : (state : IncomingState) (format : Format) (longest : ℕ) (rows : List (List ℕ)) → IsLongest format longest → FitsState state format longest rows → AreShort rows
fits_short Open = full_short
fits_short Whole = rows_short

-- the octets of short rows
short_units : (rows : List (List ℕ)) → AreShort rows → units_in rows ≤ LONGEST_RECORD * length rows
short_units [] all = omega arith
short_units (r ∷ rows) all =
    let head : length r ≤ LONGEST_RECORD = All-head (λ (q : List ℕ). length q ≤ LONGEST_RECORD) r rows all in
    let rest : units_in rows ≤ LONGEST_RECORD * length rows = short_units rows (All-tail (λ (q : List ℕ). length q ≤ LONGEST_RECORD) r rows all) in
    omega (arith, length-append r (flat_map (λ (q : List ℕ). q) rows))

pub incoming_units : (f : Incoming) → IsSoundIncoming f → units_in f.rows ≤ MOST_UNITS
incoming_units f sound = omega (arith, short_units f.rows (fits_short f.state f.format f.longest f.rows sound.longest sound.fits), sound.few)

pub outgoing_units : (f : Outgoing) → IsSoundOutgoing f → units_in f.rows ≤ MOST_UNITS
outgoing_units f sound = omega (arith, short_units f.rows (rows_short f.format f.longest f.rows sound.longest sound.fits), sound.few)
