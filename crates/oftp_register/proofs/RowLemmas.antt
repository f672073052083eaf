-- Rows that fit a format.
use Rattle.std.proofs.Common.{◌≡◌, ℕ, zero, suc, ◌<◌, ◌≤◌, List, [], ◌∷◌, ◌++◌, length, take, drop, All, arith}
use Rattle.std.proofs.lemmas.List.Elements.{All-nil, All-cons, All-append, All-take, All-head, All-tail}
use Rattle.oftp_vfile.specs.declared.format.Format.{Format}
use Rattle.oftp_vfile.specs.declared.format.Format.TheVariants.{Fixed, Variable, Unstructured, Text}
use Rattle.oftp_vfile.specs.VirtualFile.{AreBlocks, AreRows}
use Rattle.oftp_vfile.proofs.LendLemmas.{rows_from}
use Rattle.oftp_register.specs.Soundness.{AreFullRows}
use Rattle.oftp_vfile.specs.declared.format.TheConstants.{BLOCK}

-- no row
pub full-nil : (format : Format) (longest : ℕ) → AreFullRows format longest []
full-nil Fixed longest = All-nil (λ (r : List ℕ). length r ≡ longest)
full-nil Variable longest = All-nil (λ (r : List ℕ). length r ≤ longest)
full-nil Unstructured longest = All-nil (λ (r : List ℕ). length r ≡ BLOCK)
full-nil Text longest = All-nil (λ (r : List ℕ). length r ≡ BLOCK)

-- full rows and then more
pub full-append : (format : Format) (longest : ℕ) (rows more : List (List ℕ)) → AreFullRows format longest rows → AreFullRows format longest more → AreFullRows format longest (rows ++ more)
full-append Fixed longest rows more = All-append (λ (r : List ℕ). length r ≡ longest) rows more
full-append Variable longest rows more = All-append (λ (r : List ℕ). length r ≤ longest) rows more
full-append Unstructured longest rows more = All-append (λ (r : List ℕ). length r ≡ BLOCK) rows more
full-append Text longest rows more = All-append (λ (r : List ℕ). length r ≡ BLOCK) rows more

-- the first of full rows
pub full-take : (format : Format) (longest : ℕ) (n : ℕ) (rows : List (List ℕ)) → AreFullRows format longest rows → AreFullRows format longest (take n rows)
full-take Fixed longest n rows = All-take (λ (r : List ℕ). length r ≡ longest) n rows
full-take Variable longest n rows = All-take (λ (r : List ℕ). length r ≤ longest) n rows
full-take Unstructured longest n rows = All-take (λ (r : List ℕ). length r ≡ BLOCK) n rows
full-take Text longest n rows = All-take (λ (r : List ℕ). length r ≡ BLOCK) n rows

-- full blocks and then blocks
blocks-append : (size : ℕ) (rows more : List (List ℕ)) → 0 < size → All (λ (r : List ℕ). length r ≡ size) rows → AreBlocks size more → AreBlocks size (rows ++ more)
blocks-append size [] more positive full blocks = blocks
blocks-append size (r ∷ []) [] positive full blocks =
    let e = All-head (λ (q : List ℕ). length q ≡ size) r [] full in (omega (arith, e), omega (arith, e))
blocks-append size (r ∷ []) (q ∷ more) positive full blocks = (All-head (λ (p : List ℕ). length p ≡ size) r [] full, blocks)
blocks-append size (r ∷ q ∷ rows) more positive full blocks =
    (All-head (λ (p : List ℕ). length p ≡ size) r (q ∷ rows) full, blocks-append size (q ∷ rows) more positive (All-tail (λ (p : List ℕ). length p ≡ size) r (q ∷ rows) full) blocks)

-- full rows and then the last ones
pub rows-append : (format : Format) (longest : ℕ) (rows more : List (List ℕ)) → AreFullRows format longest rows → AreRows format longest more → AreRows format longest (rows ++ more)
rows-append Fixed longest rows more = All-append (λ (r : List ℕ). length r ≡ longest) rows more
rows-append Variable longest rows more = All-append (λ (r : List ℕ). length r ≤ longest) rows more
rows-append Unstructured longest rows more = blocks-append BLOCK rows more (omega arith)
rows-append Text longest rows more = blocks-append BLOCK rows more (omega arith)

-- blocks are full blocks and a last one, which may be shorter
pub blocks_split : (size : ℕ) (full : List (List ℕ)) (last : List ℕ) → AreBlocks size (full ++ last ∷ []) → ((0 < length last) × (length last ≤ size)) × All (λ (r : List ℕ). length r ≡ size) full
blocks_split size [] last blocks = (blocks, All-nil (λ (r : List ℕ). length r ≡ size))
blocks_split size (r ∷ []) last blocks = (blocks.1, All-cons (λ (q : List ℕ). length q ≡ size) r [] blocks.0 (All-nil (λ (q : List ℕ). length q ≡ size)))
blocks_split size (r ∷ q ∷ full) last blocks =
    let rest = blocks_split size (q ∷ full) last blocks.1 in
    (rest.0, All-cons (λ (p : List ℕ). length p ≡ size) r (q ∷ full) blocks.0 rest.1)

pub blocks_joined : (size : ℕ) (full : List (List ℕ)) (last : List ℕ) → 0 < length last → length last ≤ size → All (λ (r : List ℕ). length r ≡ size) full → AreBlocks size (full ++ last ∷ [])
blocks_joined size full last some within all = blocks-append size full (last ∷ []) (omega arith) all (some, within)

-- some rows, from one on
blocks-take : (size n : ℕ) (rows : List (List ℕ)) → 0 < size → AreBlocks size rows → AreBlocks size (take n rows)
blocks-take size zero rows positive blocks = tt
blocks-take size (suc n) [] positive blocks = tt
blocks-take size (suc zero) (r ∷ []) positive blocks = blocks
blocks-take size (suc (suc n)) (r ∷ []) positive blocks = blocks
blocks-take size (suc zero) (r ∷ q ∷ rows) positive blocks = (omega (arith, positive, blocks.0), omega (arith, blocks.0))
blocks-take size (suc (suc n)) (r ∷ q ∷ rows) positive blocks = (blocks.0, blocks-take size (suc n) (q ∷ rows) positive blocks.1)

rows-take : (format : Format) (longest n : ℕ) (rows : List (List ℕ)) → AreRows format longest rows → AreRows format longest (take n rows)
rows-take Fixed longest n rows = All-take (λ (r : List ℕ). length r ≡ longest) n rows
rows-take Variable longest n rows = All-take (λ (r : List ℕ). length r ≤ longest) n rows
rows-take Unstructured longest n rows = blocks-take BLOCK n rows (omega arith)
rows-take Text longest n rows = blocks-take BLOCK n rows (omega arith)

pub rows-part : (format : Format) (longest from most : ℕ) (rows : List (List ℕ)) → AreRows format longest rows → AreRows format longest (take most (drop from rows))
rows-part format longest from most rows fits = rows-take format longest most (drop from rows) (rows_from format longest from rows fits)
