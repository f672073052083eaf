-- The payloads of a file, by the filling rule (RFC 5024, section 7.3).
use Rattle.std.specs.Prelude.{◌≡◌, ℕ, suc, zero, List, [], ◌∷◌, ◌+◌, ◌-◌, ◌/◌, ◌<◌, ◌≤◌, ◌==◌, min, nat_lt, length, map, take, drop, count_by, if◌then◌else◌}
use Rattle.std.specs.List.{flat_map}
use Rattle.oftp_vfile.specs.declared.format.TheConstants.{BLOCK}
use Rattle.oftp_vfile.specs.declared.format.Format.{Format}
use Rattle.oftp_vfile.specs.VirtualFile.{is_stream, octets_in}
use Rattle.oftp_vfile.specs.Subrecord.{Subrecord, payload_of, octets_of}

-- How many octets the next subrecord of a record needs, if these octets of it are left. It needs its header, and an octet if there is one.
abbrev pub needs : List ℕ → ℕ
needs [] = 1
needs (x ∷ xs) = 2

-- how many octets of the record the next subrecord has, if `free` octets are free
abbrev pub next_length : List ℕ → ℕ → ℕ
next_length octets free = min 63 (min (length octets) (free - 1))

-- the next subrecord of a record of which these octets are left
abbrev pub next_subrecord : List ℕ → ℕ → Subrecord
next_subrecord octets free = record { ends = next_length octets free == length octets; octets = take (next_length octets free) octets }

-- what is left of the records after it
abbrev pub behind : List ℕ → List (List ℕ) → ℕ → List (List ℕ)
behind octets records free =
    if next_length octets free == length octets then records else drop (next_length octets free) octets ∷ records

-- no subrecord of these records fits
abbrev pub IsFull : ℕ → List (List ℕ) → Type 0
IsFull free [] = Unit {0}
IsFull free (r ∷ rs) = free < needs r

-- The filling rule (a choice within RFC 5024, section 7.3). With `free` octets free, and these (rests of) records to send, a payload has
-- these subrecords, and leaves the other records. Each subrecord is as long as possible, and the payload ends only where the next one
-- doesn't fit.
abbrev pub Packs : ℕ → List (List ℕ) → List Subrecord → List (List ℕ) → Type 0
Packs free records [] left = (left ≡ records) × IsFull free records
Packs free [] (s ∷ ss) left = ⊥
Packs free (r ∷ rs) (s ∷ ss) left =
    (needs r ≤ free) × (s ≡ next_subrecord r free) × Packs (free - (1 + length s.octets)) (behind r rs free) ss left

-- the payloads of at most size octets for these records, as subrecords: none is empty, and nothing is left
abbrev pub Fills : ℕ → List (List ℕ) → List (List Subrecord) → Type 0
Fills size records [] = records ≡ []
Fills size records (ss ∷ rest) = (0 < length ss) × (left : List (List ℕ)) × Packs size records ss left × Fills size left rest

-- the subrecords of a payload with `free` octets free, and the records after them, in at most k steps
unfoldable pub packed : ℕ → ℕ → List (List ℕ) → List Subrecord × List (List ℕ)
packed zero free records = ([], records)
packed (suc k) free [] = ([], [])
packed (suc k) free (r ∷ rs) =
    let s = next_subrecord r free in
    let rest = packed k (free - (1 + length s.octets)) (behind r rs free) in
    if nat_lt free (needs r) then ([], r ∷ rs) else (s ∷ rest.0, rest.1)

-- the payloads for these records, as subrecords, at most this many
unfoldable pub fill_from : ℕ → ℕ → List (List ℕ) → List (List Subrecord)
fill_from zero size records = []
fill_from (suc k) size [] = []
fill_from (suc k) size (r ∷ rs) = let p = packed size size (r ∷ rs) in p.0 ∷ fill_from k size p.1

-- no more payloads than this are needed for records
abbrev pub weight : List (List ℕ) → ℕ
weight [] = 0
weight (r ∷ rs) = length r + 1 + weight rs

-- the payloads of at most size octets for these records
abbrev pub fill : ℕ → List (List ℕ) → List (List ℕ)
fill size records = map payload_of (fill_from (weight records) size records)

-- what a transfer of these rows sends, as records: a stream is one record (RFC 5024, section 7.2 on unstructured files; T goes likewise)
abbrev pub records_of : Format → List (List ℕ) → List (List ℕ)
records_of format rows = if is_stream format then octets_in rows ∷ [] else rows

-- fill: the one list of payloads of at most size octets that carries exactly these rows, to the end, by the filling rule
abbrev pub payloads_of : Format → ℕ → List (List ℕ) → List (List ℕ)
payloads_of format size rows = fill size (records_of format rows)

-- how many rows these subrecords finish; in a stream only full blocks count
abbrev pub rows_ended : Format → List Subrecord → ℕ
rows_ended format subs = if is_stream format then length (octets_of subs) / BLOCK else count_by (λ (s : Subrecord). s.ends) subs

-- How many of these rows are wholly sent after k payloads, if in a stream only full blocks count. A transfer that breaks there is
-- continued from there (RFC 5024, section 1.5.4).
abbrev pub wholly_sent : Format → ℕ → List (List ℕ) → ℕ → ℕ
wholly_sent format size rows k =
    rows_ended format (flat_map (λ ss. ss) (take k (fill_from (weight (records_of format rows)) size (records_of format rows))))
