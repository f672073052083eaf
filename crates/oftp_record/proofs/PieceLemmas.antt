-- Entries that share out octets: their bodies one behind another, and the record that they make.
use Rattle.std.proofs.Common.{◌≡◌, ℕ, zero, suc, ◌+◌, ◌-◌, ◌*◌, ◌<◌, ◌≤◌, inl, inr, List, [], ◌∷◌, ◌++◌, length, take, drop, refl, sym, ap, ◌∙◌, append_assoc, append-nil, arith, length-append, length-drop, add-one}
use Rattle.std.proofs.Math.Nat.{mul-le-mul_right}
use Rattle.std.proofs.lemmas.Bool.{cases_lt}
use Rattle.std.proofs.lemmas.List.{drop-append-le, drop_at, take-append-le, take_all}
use Rattle.std.proofs.lemmas.Simd.{length-chunk}
use Rattle.oftp_record.specs.Entries.{Noted, entry_body, entry_digest, entry_header, entry_octets}
use Rattle.oftp_record.specs.Pieces.{Shared, piece_entries, piece_entry}
use Rattle.oftp_record.specs.Records.{last_digest, record_octets}
use Rattle.oftp_record.specs.declared.header.TheConstants.{HEADER_LEN}
use Rattle.oftp_record.proofs.HeaderLemmas.{body_length}

-- a part before the end of octets
part_front : (at count : ℕ) (xs ys : List ℕ) → at + count ≤ length xs → take count (drop at (xs ++ ys)) ≡ take count (drop at xs)
part_front at count xs ys h =
    ap (take count) (drop-append-le at xs ys (omega (arith, h))) ∙ take-append-le count (drop at xs) ys (omega (arith, h, length-drop at xs))

-- one part more of the same length
pub part_more : (part : ℕ → List ℕ) (count place : ℕ) (xs ys : List ℕ) → length xs ≡ place * count → length ys ≡ count
    → ((j : ℕ) → j < place → take count (drop (j * count) xs) ≡ part j) → ys ≡ part place
    → (j : ℕ) → j < place + 1 → take count (drop (j * count) (xs ++ ys)) ≡ part j
part_more part count place xs ys long size before last j below = elim (cases_lt j place) [
  | inl lt ↦
      part_front (j * count) count xs ys (omega (arith, long, mul-le-mul_right {m = j + 1} {n = place} count (omega (arith, lt)))) ∙ before j lt
  | inr ge ↦
      let here : j ≡ place = omega (arith, below, ge) in
      rw here (ap (take count) (drop_at xs ys (place * count) long) ∙ take_all count ys (omega (arith, size)) ∙ last)
]

-- header, head and piece are the body of an entry
pub piece_body : (s : Shared) (size place count : ℕ) → place * size + size ≤ length s.octets → count ≡ length s.head + size
    → (entry_header s.kind s.moment count ++ s.head) ++ take size (drop (place * size) s.octets) ≡ entry_body (piece_entry s size place)
piece_body s size place count fits is =
    let piece = take size (drop (place * size) s.octets) in
    let long : length (s.head ++ piece) ≡ count =
    omega (arith, length-append s.head piece, length-chunk (place * size) size s.octets fits, is) in
    append_assoc (entry_header s.kind s.moment count) s.head piece
    ∙ ap (λ n. entry_header s.kind s.moment n ++ (s.head ++ piece)) (sym long)

-- entries behind others
pub record-append : (before : List ℕ) (xs ys : List Noted) → record_octets before (xs ++ ys) ≡ record_octets before xs ++ record_octets (last_digest before xs) ys
record-append before [] ys = refl
record-append before (x ∷ xs) ys =
    ap (λ z. entry_octets x before ++ z) (record-append (entry_digest x before) xs ys)
    ∙ sym (append_assoc (entry_octets x before) (record_octets (entry_digest x before) xs) (record_octets (last_digest (entry_digest x before) xs) ys))

pub digest-append : (before : List ℕ) (xs ys : List Noted) → last_digest before (xs ++ ys) ≡ last_digest (last_digest before xs) ys
digest-append before [] ys = refl
digest-append before (x ∷ xs) ys = digest-append (entry_digest x before) xs ys

-- a piece is there
pub piece_place : (size place count : ℕ) → place < 8 → 8 * size ≤ count → place * size + size ≤ count
piece_place size place count below fits = omega (arith, mul-le-mul_right {m = place + 1} {n = 8} size (omega (arith, below)), fits)

-- the length of a body
pub piece_length : (s : Shared) (size place : ℕ) → place * size + size ≤ length s.octets
    → length (entry_body (piece_entry s size place)) ≡ HEADER_LEN + length s.head + size
piece_length s size place fits =
    let piece = take size (drop (place * size) s.octets) in
    omega (arith, body_length (piece_entry s size place), length-append s.head piece, length-chunk (place * size) size s.octets fits)

-- an entry more
pub piece_entries-next : (s : Shared) (size count : ℕ) → piece_entries s size (count + 1) ≡ piece_entries s size count ++ (piece_entry s size count ∷ [])
piece_entries-next s size count = rw add-one refl
