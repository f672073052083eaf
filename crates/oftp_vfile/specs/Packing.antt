-- What the filler's loops have written so far.
use Rattle.std.specs.Prelude.{◌≡◌, ℕ, Bool, true, false, List, [], ◌∷◌, ◌++◌, ◌-◌, ◌<◌, length, drop}
use Rattle.oftp_vfile.specs.VirtualFile.{octets_in}
use Rattle.oftp_vfile.specs.Subrecord.{Subrecord, payload_of}
use Rattle.oftp_vfile.specs.Fill.{Packs}
use Rattle.oftp_vfile.specs.Filling.{Filling, left_of, AreBehind}

-- These octets are subrecords of the records so far. Whatever packs what is left, and further records, packs all of them after these.
abbrev pub HasPacked : ℕ → List (List ℕ) → List ℕ → ℕ → List (List ℕ) → Type 0
HasPacked free records octets free' records' =
    (sofar : List Subrecord) × (octets ≡ payload_of sofar)
    × ((more : List (List ℕ)) (ss : List Subrecord) (left : List (List ℕ)) → Packs free' (records' ++ more) ss left → Packs free (records ++ more) (sofar ++ ss) left)

-- the octets of the rows from a place on
abbrev pub rest_at : List (List ℕ) → ℕ → ℕ → List ℕ
rest_at rows row offset = drop offset (octets_in (drop row rows))

-- the octets after the given ones: none if these were the last, else some
abbrev pub IsTail : Bool → List ℕ → Type 0
IsTail true tail = tail ≡ []
IsTail false tail = 0 < length tail

-- the same as HasPacked for a stream, which is one record that more octets may follow
abbrev pub HasStreamed : Bool → ℕ → List ℕ → List ℕ → ℕ → List ℕ → Type 0
HasStreamed last free stream octets free' stream' =
    (sofar : List Subrecord) × (octets ≡ payload_of sofar)
    × ((tail : List ℕ) (ss : List Subrecord) (left : List (List ℕ)) → IsTail last tail → Packs free' ((stream' ++ tail) ∷ []) ss left → Packs free ((stream ++ tail) ∷ []) (sofar ++ ss) left)

-- a stream was packed to its end
abbrev pub HasEnded : ℕ → List ℕ → List ℕ → Type 0
HasEnded free stream octets = (sofar : List Subrecord) × (octets ≡ payload_of sofar) × Packs free (stream ∷ []) sofar []

-- These octets are subrecords that the filling rule packs of what is left, whatever rows follow the given ones. This is in terms of the
-- rule itself; IsFirstPayload says it of the list that fill makes.
abbrev pub PacksNext : ℕ → Filling → Filling → List (List ℕ) → Bool → List ℕ → Type 0
PacksNext size old new rows last octets =
    (more : List (List ℕ)) → AreBehind old.format last more →
    (ss : List Subrecord) × (octets ≡ payload_of ss) × (0 < length ss)
    × Packs size (left_of old (rows ++ more)) ss (left_of new (drop (new.row - old.row) rows ++ more))
