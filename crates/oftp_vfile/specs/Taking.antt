-- A taker: its state, what it refuses, and what it took.
use Rattle.std.specs.Prelude.{◌≡◌, ◌≢◌, ℕ, Bool, true, false, Option, Some, None, List, [], ◌∷◌, ◌++◌, ◌+◌, ◌/◌, ◌<◌, ◌≤◌, length, map, nat_lt, ◌==◌, ◌&&◌, ◌||◌, not, if◌then◌else◌}
use Rattle.std.specs.List.{flat_map}
use Rattle.oftp_vfile.specs.declared.format.TheConstants.{BLOCK, MOST_ROWS}
use Rattle.oftp_vfile.specs.declared.format.Format.{Format}
use Rattle.oftp_vfile.specs.declared.format.Format.TheVariants.{Fixed, Variable, Unstructured, Text}
use Rattle.oftp_vfile.specs.declared.taking.Stage.{Stage}
use Rattle.oftp_vfile.specs.declared.taking.Stage.TheVariants.{Fresh, Open, Ended}
use Rattle.oftp_vfile.specs.declared.fault.TakeFault.{TakeFault}
use Rattle.oftp_vfile.specs.declared.fault.TakeFault.TheVariants.{Cut, Compressed, RecordSize, AfterEnd, TooBig}
use Rattle.oftp_vfile.specs.VirtualFile.{is_stream, octets_in}
use Rattle.oftp_vfile.specs.Growth.{stream_rows, stream_tail}
use Rattle.oftp_vfile.specs.Subrecord.{Subrecord, header, payload_of, octets_of, has_end, has_compression, count_in, AreShort}
use Rattle.oftp_vfile.specs.Carries.{Carried, Carries, stage_of}

-- The state of a taker: the file and its limit, what is kept of it from before, and how many rows were removed. Also the rows and the open
-- tail that it has, the octets that it took, and whether a subrecord was received and ended.
pub record Taking : Type 0 where
  pub format : Format
  pub longest : ℕ
  pub limit : ℕ
  pub kept_rows : ℕ
  pub kept_units : ℕ
  pub away : ℕ
  pub rows : List (List ℕ)
  pub tail : List ℕ
  pub units : ℕ
  pub stage : Stage

-- a taker that has taken nothing
abbrev pub new_taking : Format → ℕ → ℕ → ℕ → ℕ → Taking
new_taking format longest kept_rows kept_units limit = record {
  format = format;
  longest = longest;
  limit = limit;
  kept_rows = kept_rows;
  kept_units = kept_units;
  away = 0;
  rows = [];
  tail = [];
  units = 0;
  stage = Fresh;
}

-- the record count and the unit count of the whole file so far (RFC 5024, section 5.3.8)
abbrev pub counts_of : Taking → ℕ × ℕ
counts_of t = (if is_stream t.format then 0 else t.kept_rows + t.away + length t.rows, t.kept_units + t.units)

-- whether the last subrecord has the end flag
abbrev pub is_ended : Stage → Bool
is_ended Fresh = false
is_ended Open = false
is_ended Ended = true

-- a taker after one more subrecord
abbrev pub added : Taking → Subrecord → Taking
added t s =
    let octets = t.tail ++ s.octets in
    record t {
      rows = if is_stream t.format then stream_rows t.rows octets else if s.ends then t.rows ++ octets ∷ [] else t.rows;
      tail = if is_stream t.format then stream_tail octets else if s.ends then [] else octets;
      units = t.units + length s.octets;
      stage = if s.ends then Ended else Open;
    }

-- a taker after these subrecords
abbrev pub added_all : Taking → List Subrecord → Taking
added_all t [] = t
added_all t (s ∷ ss) = added_all (added t s) ss

-- how many rows a subrecord of n octets finishes
abbrev pub new_rows : Taking → Bool → ℕ → ℕ
new_rows t ends n = if is_stream t.format then (length t.tail + n) / BLOCK else if ends then 1 else 0

-- whether the file exceeds its limit of octets, or 1,000,000 rows, with a subrecord of n octets
abbrev pub is_too_big : Taking → Bool → ℕ → Bool
is_too_big t ends n =
    nat_lt t.limit (t.kept_units + t.units + n) || nat_lt MOST_ROWS (t.kept_rows + t.away + length t.rows + new_rows t ends n)

-- whether a record that has n octets so far breaks the rule on its length
abbrev pub is_wrong_size : Format → ℕ → ℕ → Bool → Bool
is_wrong_size Fixed longest n ends = nat_lt longest n || (ends && not (n == longest))
is_wrong_size Variable longest n ends = nat_lt longest n
is_wrong_size Unstructured longest n ends = false
is_wrong_size Text longest n ends = false

-- The fault of a subrecord with this header and `room` octets after it. Where several apply, the order decides.
abbrev pub fault_at : Taking → ℕ → ℕ → Option TakeFault
fault_at t h room =
    if is_stream t.format && is_ended t.stage then Some AfterEnd
    else if has_compression h then Some Compressed
    else if nat_lt room (count_in h) then Some Cut
    else if is_too_big t (has_end h) (count_in h) then Some TooBig
    else if is_wrong_size t.format t.longest (length t.tail + count_in h) (has_end h) then Some RecordSize
    else None

-- the fault of the subrecord that these octets begin with, if there is one
abbrev pub fault_in : Taking → List ℕ → Option TakeFault
fault_in t [] = None
fault_in t (h ∷ rest) = fault_at t h (length rest)

-- a subrecord that a taker accepts
abbrev pub IsAllowed : Taking → Subrecord → Type 0
IsAllowed t s = (length s.octets < 64) × (fault_at t (header s) (length s.octets) ≡ None)

-- subrecords that a taker accepts, one after another
abbrev pub AreAllowed : Taking → List Subrecord → Type 0
AreAllowed t [] = Unit {0}
AreAllowed t (s ∷ ss) = IsAllowed t s × AreAllowed (added t s) ss

-- the first part of a payload, up to `rest`, was taken
pub record Walked (old new : Taking) (payload rest : List ℕ) : Type 0 where
  pub subs : List Subrecord
  pub spelling : payload ≡ payload_of subs ++ rest
  pub allowed : AreAllowed old subs
  pub after : new ≡ added_all old subs

-- the first faulty subrecord of a payload has this fault
pub record FirstFault (t : Taking) (payload : List ℕ) (f : TakeFault) : Type 0 where
  pub before : Taking
  pub rest : List ℕ
  pub walked : Walked t before payload rest
  pub faulty : fault_in before rest ≡ Some f

-- the state of a taker after these subrecords, where these rows were removed
pub record HasTaken (t : Taking) (gone : List (List ℕ)) (ss : List Subrecord) : Type 0 where
  pub carried : Carried t.format t.longest ss (gone ++ t.rows) t.tail
  pub away : t.away ≡ length gone
  pub last : t.stage ≡ stage_of ss
  pub units : t.units ≡ length (octets_of ss)
  pub octets : ss ≢ [] → t.kept_units + t.units ≤ t.limit
  pub few : t.kept_rows + (length gone + length t.rows) ≤ MOST_ROWS

-- a taker took these payloads, and these rows were removed from it
pub record Took (t : Taking) (gone payloads : List (List ℕ)) : Type 0 where
  pub subs : List (List Subrecord)
  pub spelling : payloads ≡ map payload_of subs
  pub short : AreShort (flat_map (λ ss. ss) subs)
  pub holds : HasTaken t gone (flat_map (λ ss. ss) subs)

-- these payloads carry rows within the limits of a taker's file
pub record CarriesWithin (t : Taking) (payloads : List (List ℕ)) : Type 0 where
  pub rows : List (List ℕ)
  pub tail : List ℕ
  pub stage : Stage
  pub carries : Carries t.format t.longest payloads rows tail stage
  pub octets : stage ≢ Fresh → t.kept_units + length (octets_in rows ++ tail) ≤ t.limit
  pub few : t.kept_rows + length rows ≤ MOST_ROWS

-- the parts of a taker that no payload changes
pub record IsSameFile (s t : Taking) : Type 0 where
  pub format : t.format ≡ s.format
  pub longest : t.longest ≡ s.longest
  pub limit : t.limit ≡ s.limit
  pub kept_rows : t.kept_rows ≡ s.kept_rows
  pub kept_units : t.kept_units ≡ s.kept_units
  pub away : t.away ≡ s.away
