-- Theorems about these definitions.
use Rattle.std.specs.Prelude.{◌≡◌, ℕ, false, List, ◌++◌, ◌+◌, ◌<◌, ◌≤◌, length, map, take, All, Bool, true, drop, ◌-◌}
use Rattle.oftp_vfile.specs.declared.format.Format.{Format}
use Rattle.oftp_vfile.specs.declared.taking.Stage.{Stage}
use Rattle.oftp_vfile.specs.declared.fault.TakeFault.{TakeFault}
use Rattle.oftp_vfile.specs.VirtualFile.{is_stream, AreRows, IsLongest, closed, records_in, units_in, BeginsWith}
use Rattle.oftp_vfile.specs.Subrecord.{Subrecord, payload_of}
use Rattle.oftp_vfile.specs.Carries.{Carries, CarriesWhole, is_open}
use Rattle.oftp_vfile.specs.Taking.{Taking, Took, CarriesWithin, FirstFault, counts_of}
use Rattle.oftp_vfile.specs.Reading.{taken, shed, shed_in}
use Rattle.oftp_vfile.specs.Fill.{Fills, fill_from, weight, fill, payloads_of, wholly_sent}
use Rattle.oftp_vfile.specs.Filling.{Filling, AreLent, IsInRows, Reaches, Sent}
use Rattle.oftp_vfile.specs.LocalForm.{IsLocal}

-- there is one list of payloads that follows the filling rule, and it is fill
abbrev pub FillIsOne : Type 0
FillIsOne = (size : ℕ) (records : List (List ℕ)) → 2 ≤ size → Fills size records (fill_from (weight records) size records)
    × ((subs : List (List Subrecord)) → Fills size records subs → map payload_of subs ≡ fill size records)

-- the payloads of fill aren't empty, and have at most size octets
abbrev pub FillFits : Type 0
FillFits = (size : ℕ) (records : List (List ℕ)) → 2 ≤ size → All (λ (p : List ℕ). (0 < length p) × (length p ≤ size)) (fill size records)

-- the payloads of a file carry exactly its rows, to the end
abbrev pub FillIsWhole : Type 0
FillIsWhole = (format : Format) (longest size : ℕ) (rows : List (List ℕ)) → 2 ≤ size → AreRows format longest rows
    → CarriesWhole format longest (payloads_of format size rows) rows

-- payloads carry only one list of rows
abbrev pub OneReading : Type 0
OneReading = (format : Format) (longest : ℕ) (payloads rows rows' : List (List ℕ)) (tail tail' : List ℕ) (stage stage' : Stage)
    → Carries format longest payloads rows tail stage → Carries format longest payloads rows' tail' stage'
    → (rows ≡ rows') × (tail ≡ tail') × (stage ≡ stage')

-- a taker that took the payloads of fill holds exactly these rows, with those that were removed, and is closed
abbrev pub FillIsTaken : Type 0
FillIsTaken = (t : Taking) (gone : List (List ℕ)) (size : ℕ) (rows : List (List ℕ)) → 2 ≤ size → AreRows t.format t.longest rows
    → Took t gone (payloads_of t.format size rows) → (closed (gone ++ t.rows) t.tail ≡ rows) × (is_open t.stage ≡ false)

-- the rows that the first k payloads carry are as many as are wholly sent after them
abbrev pub WhollySent : Type 0
WhollySent = (format : Format) (longest size k : ℕ) (rows found : List (List ℕ)) (tail : List ℕ) (stage : Stage) → 2 ≤ size
    → Carries format longest (take k (payloads_of format size rows)) found tail stage → length found ≡ wholly_sent format size rows k

-- the mark of a filler is the row at which it began and the rows wholly sent since
abbrev pub MarkIsSent : Type 0
MarkIsSent = (f : Filling) (longest size from : ℕ) (rows payloads : List (List ℕ)) → 2 ≤ size → AreRows f.format longest rows
    → Sent f size from rows payloads → f.mark ≡ from + wholly_sent f.format size rows (length payloads)

-- the rows of a file from a row on are rows of a file
abbrev pub RowsFrom : Type 0
RowsFrom = (format : Format) (longest c : ℕ) (rows : List (List ℕ)) → AreRows format longest rows → AreRows format longest (drop c rows)

-- the next n rows from the filler's row on, or all that are left if these are fewer, are such as it may borrow
abbrev pub LendsRows : Type 0
LendsRows = (f : Filling) (longest size from n : ℕ) (rows payloads : List (List ℕ)) (last : Bool)
    → IsLongest f.format longest → AreRows f.format longest rows → Sent f size from rows payloads → 0 < n
    → (last ≡ true → length (drop (f.row - from) rows) ≤ n) → (last ≡ false → n < length (drop (f.row - from) rows))
    → AreLent f from rows (take n (drop (f.row - from) rows)) last
    × IsInRows f (take n (drop (f.row - from) rows))
    × (is_stream f.format ≡ true → All (λ (r : List ℕ). 0 < length r) (take n (drop (f.row - from) rows)))

-- more rows are asked for only where fewer were given than the payload has octets
abbrev pub MoreAreFew : Type 0
MoreAreFew = (f : Filling) (size : ℕ) (rows : List (List ℕ)) → IsInRows f rows → (is_stream f.format ≡ true → All (λ (r : List ℕ). 0 < length r) rows)
    → Reaches size f rows → length rows < size

-- the payloads that a taker took carry its rows within the limits
abbrev pub TookIsWithin : Type 0
TookIsWithin = (t : Taking) (gone payloads : List (List ℕ)) → Took t gone payloads
    → Carries t.format t.longest payloads (gone ++ t.rows) t.tail t.stage × CarriesWithin t payloads

-- the counts of a taker are those of the file so far: of the rows kept before, those that it took, and its open part
abbrev pub CountsAreFile : Type 0
CountsAreFile = (t : Taking) (kept gone payloads : List (List ℕ)) → Took t gone payloads → t.kept_rows ≡ length kept → t.kept_units ≡ units_in kept
    → counts_of t ≡ (records_in t.format (kept ++ (gone ++ t.rows)), units_in (closed (kept ++ (gone ++ t.rows)) t.tail))

-- if payloads are closed, the rows that they carry are those of a file, with the open part of a stream as the last
abbrev pub ClosedIsFile : Type 0
ClosedIsFile = (format : Format) (longest : ℕ) (payloads rows : List (List ℕ)) (tail : List ℕ) (stage : Stage)
    → Carries format longest payloads rows tail stage → is_open stage ≡ false → AreRows format longest (closed rows tail)

-- a payload has only one first fault
abbrev pub OneFault : Type 0
OneFault = (t : Taking) (payload : List ℕ) (f g : TakeFault) → FirstFault t payload f → FirstFault t payload g → f ≡ g

-- a content is the local form of only one file
abbrev pub OneFile : Type 0
OneFile = (format : Format) (longest : ℕ) (content : List ℕ) (rows rows' : List (List ℕ)) → IsLongest format longest
    → IsLocal format longest content rows → IsLocal format longest content rows' → rows ≡ rows'

-- the rows that a part of a file's payloads carries, cut off anywhere, are a beginning of the rows of the file
abbrev pub PartBegins : Type 0
PartBegins = (format : Format) (longest : ℕ) (file payloads next rows : List (List ℕ)) (tail : List ℕ) (stage : Stage)
    → CarriesWhole format longest (payloads ++ next) file → Carries format longest payloads rows tail stage → BeginsWith file rows

-- the rows that the first payloads of a file carry, as the filling rule makes them, are a beginning of its rows
abbrev pub CarriedBegins : Type 0
CarriedBegins = (format : Format) (longest size : ℕ) (file payloads next rows : List (List ℕ)) (tail : List ℕ) (stage : Stage)
    → 2 ≤ size → AreRows format longest file → payloads ++ next ≡ payloads_of format size file
    → Carries format longest payloads rows tail stage → BeginsWith file rows

-- a part of a file's payloads that is closed, and has the counts of the file, carries all of it
abbrev pub PartCloses : Type 0
PartCloses = (format : Format) (longest : ℕ) (file payloads next rows : List (List ℕ)) (tail : List ℕ) (stage : Stage)
    → CarriesWhole format longest (payloads ++ next) file → Carries format longest payloads rows tail stage → is_open stage ≡ false
    → records_in format rows ≡ records_in format file → units_in (closed rows tail) ≡ units_in file → closed rows tail ≡ file

-- a taker without its first rows accepts and refuses what the whole one does
abbrev pub ShedTaken : Type 0
ShedTaken = (k : ℕ) (t : Taking) (payload : List ℕ) → k ≤ length t.rows → taken (shed k t) payload ≡ shed_in k (taken t payload)
