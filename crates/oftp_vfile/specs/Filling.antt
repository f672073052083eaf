-- A filler: its place, and the payloads that it makes of the rows that it borrows.
use Rattle.std.specs.Prelude.{◌≡◌, ℕ, Bool, true, false, List, [], ◌∷◌, ◌++◌, ◌+◌, ◌-◌, ◌<◌, ◌≤◌, ◌==◌, ◌&&◌, length, take, drop, slice_index_or, if◌then◌else◌}
use Rattle.oftp_vfile.specs.declared.format.Format.{Format}
use Rattle.oftp_vfile.specs.declared.format.Format.TheVariants.{Fixed, Variable, Unstructured, Text}
use Rattle.oftp_vfile.specs.declared.filling.Filled.{Filled}
use Rattle.oftp_vfile.specs.declared.filling.Filled.TheVariants.{Buffer, Done, More}
use Rattle.oftp_vfile.specs.VirtualFile.{is_stream, octets_in, whole_count}
use Rattle.oftp_vfile.specs.Subrecord.{Subrecord}
use Rattle.oftp_vfile.specs.Fill.{Packs, fill, payloads_of}

-- The place of a filler: the row, and how many octets of it were sent. Also whether the end of a stream was sent, and how many rows count
-- as wholly sent.
pub record Filling : Type 0 where
  pub format : Format
  pub row : ℕ
  pub offset : ℕ
  pub done : Bool
  pub mark : ℕ

-- a filler that begins at a row
abbrev pub new_filling : Format → ℕ → Filling
new_filling format from = record { format = format; row = from; offset = 0; done = false; mark = from }

-- a filler that moved on by `row` of the given rows, to an offset of the next
abbrev pub advanced : Filling → List (List ℕ) → ℕ → ℕ → Filling
advanced f rows row offset =
    record f { row = f.row + row; offset = offset; mark = f.mark + whole_count f.format (take row rows) }

-- the rest of the first row, and the other rows
abbrev pub from_offset : ℕ → List (List ℕ) → List (List ℕ)
from_offset n [] = []
from_offset n (r ∷ rs) = drop n r ∷ rs

-- what a filler still has to send, as records, where these are the rows from its row on: a stream is one record
abbrev pub left_of : Filling → List (List ℕ) → List (List ℕ)
left_of f rows =
    if is_stream f.format then (if f.done then [] else drop f.offset (octets_in rows) ∷ []) else from_offset f.offset rows

-- the rows after the given ones: none if these were the last, else some, of which the first may be empty only in V
abbrev pub AreBehind : Format → Bool → List (List ℕ) → Type 0
AreBehind format true more = more ≡ []
AreBehind format false [] = ⊥
AreBehind Fixed false (r ∷ rs) = 0 < length r
AreBehind Variable false (r ∷ rs) = Unit {0}
AreBehind Unstructured false (r ∷ rs) = 0 < length r
AreBehind Text false (r ∷ rs) = 0 < length r

-- These octets are the first payload that `fill` makes of what is left. It makes the others of what is left after them, whatever rows
-- follow the given ones.
abbrev pub IsFirstPayload : ℕ → Filling → Filling → List (List ℕ) → Bool → List ℕ → Type 0
IsFirstPayload size old new rows last octets =
    (more : List (List ℕ)) → AreBehind old.format last more →
    fill size (left_of old (rows ++ more)) ≡ octets ∷ fill size (left_of new (drop (new.row - old.row) rows ++ more))

-- a fact about the length of the payload that was written
abbrev pub IfBuffer : Filled → (ℕ → Type 0) → Type 0
IfBuffer (Buffer n) P = P n
IfBuffer Done P = Unit {0}
IfBuffer More P = Unit {0}

-- whether nothing is left to send
abbrev pub nothing_left : Filling → List (List ℕ) → Bool → Bool
nothing_left f rows last = if is_stream f.format then f.done else (length rows == 0) && last

-- the shortest row that may follow others
abbrev pub least : Format → List ℕ
least Fixed = 0 ∷ []
least Variable = []
least Unstructured = 0 ∷ []
least Text = 0 ∷ []

-- the next payload reaches the end of the given rows and has room for more: the shortest further row would fit whole
abbrev pub Reaches : ℕ → Filling → List (List ℕ) → Type 0
Reaches size f rows = (ss : List Subrecord) × (0 < length ss) × Packs size (left_of f (rows ++ least f.format ∷ [])) ss []

-- the filler's place is in the first of the given rows
abbrev pub IsInRows : Filling → List (List ℕ) → Type 0
IsInRows f rows = 0 < f.offset → f.offset < length (slice_index_or rows 0 [])

-- a filler moved on within the given rows, to the end of a stream only if these are the last
pub record Moves (old new : Filling) (rows : List (List ℕ)) (last : Bool) : Type 0 where
  pub format : new.format ≡ old.format
  pub ahead : old.row ≤ new.row
  pub within : new.row ≤ old.row + length rows
  pub place : IsInRows new (drop (new.row - old.row) rows)
  pub mark : new.mark ≡ old.mark + whole_count old.format (take (new.row - old.row) rows)
  pub over : is_stream old.format ≡ true → new.done ≡ true → (last ≡ true) × (new.row ≡ old.row + length rows)

-- the next payload was written: the filler moved on, something was left to send, and no subrecord of a further row would fit
pub record IsWritten (size : ℕ) (old new : Filling) (rows : List (List ℕ)) (last : Bool) : Type 0 where
  pub moves : Moves old new rows last
  pub some : nothing_left old rows last ≡ false
  pub full : last ≡ false → Reaches size old rows → ⊥

-- more rows are asked for: rows follow, and a subrecord of one could fit
pub record AsksForMore (size : ℕ) (old new : Filling) (rows : List (List ℕ)) (last : Bool) : Type 0 where
  pub coming : last ≡ false
  pub some : nothing_left old rows last ≡ false
  pub reaches : Reaches size old rows
  pub same : new ≡ old

-- nothing is left to send
pub record IsDone (old new : Filling) (rows : List (List ℕ)) (last : Bool) : Type 0 where
  pub none : nothing_left old rows last ≡ true
  pub same : new ≡ old

-- what a filler with this result did
abbrev pub FillsNext : ℕ → Filling → Filling → List (List ℕ) → Bool → Filled → Type 0
FillsNext size old new rows last (Buffer n) = IsWritten size old new rows last
FillsNext size old new rows last More = AsksForMore size old new rows last
FillsNext size old new rows last Done = IsDone old new rows last

-- A filler that began at row `from` made these payloads of at most `size` octets. These are the rows of the file from there on. They are
-- the first of all payloads, and those of what is left are the others.
pub record Sent (f : Filling) (size from : ℕ) (rows payloads : List (List ℕ)) : Type 0 where
  pub began : from ≤ f.row
  pub within : f.row ≤ from + length rows
  pub place : IsInRows f (drop (f.row - from) rows)
  pub split : payloads ++ fill size (left_of f (drop (f.row - from) rows)) ≡ payloads_of f.format size rows
  pub mark : f.mark ≡ from + whole_count f.format (take (f.row - from) rows)
  pub over : is_stream f.format ≡ true → f.done ≡ true → f.row ≡ from + length rows

-- the given rows, and whether they are the last, are those of the file from the filler's row on
abbrev pub AreLent : Filling → ℕ → List (List ℕ) → List (List ℕ) → Bool → Type 0
AreLent f from rows lent last =
    (more : List (List ℕ)) × (drop (f.row - from) rows ≡ lent ++ more) × AreBehind f.format last more
