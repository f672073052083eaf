-- Closed payloads carry a file, whose counts are the taker's.
use Rattle.std.proofs.Common.{◌≡◌, ℕ, ◌+◌, ◌≤◌, Bool, true, false, cond, List, [], ◌∷◌, ◌++◌, length, refl, sym, ap, ◌∙◌, subst, arith, append_assoc, All}
use Rattle.std.specs.List.{flat_map}
use Rattle.std.proofs.lemmas.Bool.{true≢false}
use Rattle.std.proofs.lemmas.List.{append-nil, length-append, same_from_push}
use Rattle.std.proofs.lemmas.List.Concat.{flat_map-append}
use Rattle.oftp_vfile.specs.declared.format.TheConstants.{BLOCK}
use Rattle.oftp_vfile.specs.declared.format.Format.{Format}
use Rattle.oftp_vfile.specs.declared.format.Format.TheVariants.{Fixed, Variable, Unstructured, Text}
use Rattle.oftp_vfile.specs.declared.taking.Stage.{Stage}
use Rattle.oftp_vfile.specs.declared.taking.Stage.TheVariants.{Open, Ended}
use Rattle.oftp_vfile.specs.VirtualFile.{is_stream, octets_in, units_in, records_in, closed, AreBlocks, AreRows}
use Rattle.oftp_vfile.specs.Subrecord.{Subrecord, octets_of}
use Rattle.oftp_vfile.specs.Carries.{Carries, Carried, InBlocks, pieces, onto, stage_of, is_open}
use Rattle.oftp_vfile.specs.Taking.{Taking, Took, counts_of}
use Rattle.oftp_vfile.proofs.CarriesLemmas.{carried-joined, octets_in-push}
use Rattle.oftp_vfile.proofs.LocalLemmas.{blocks_push, full_are_blocks}

-- the octets of a closed file
pub octets_in-closed : (rows : List (List ℕ)) (tail : List ℕ) → octets_in (closed rows tail) ≡ octets_in rows ++ tail
octets_in-closed rows [] = sym (append-nil (octets_in rows))
octets_in-closed rows (x ∷ xs) = octets_in-push rows (x ∷ xs)

-- the counts of a taker are those of the file so far
pub counts_file : (t : Taking) (kept gone payloads : List (List ℕ)) → Took t gone payloads → t.kept_rows ≡ length kept → t.kept_units ≡ units_in kept
    → counts_of t ≡ (records_in t.format (kept ++ (gone ++ t.rows)), units_in (closed (kept ++ (gone ++ t.rows)) t.tail))
counts_file t kept gone payloads k r u =
    let h = k.holds in
    let ss : List Subrecord = flat_map (λ (x : List Subrecord). x) k.subs in
    let rows : List (List ℕ) = gone ++ t.rows in
    let taken : t.units ≡ length (octets_in rows ++ t.tail) = h.units ∙ ap length (carried-joined t.format t.longest ss rows t.tail h.carried) in
    let all : units_in (closed (kept ++ rows) t.tail) ≡ units_in kept + length (octets_in rows ++ t.tail) =
    ap length (octets_in-closed (kept ++ rows) t.tail ∙ ap (λ (x : List ℕ). x ++ t.tail) (flat_map-append (λ (x : List ℕ). x) kept rows)
    ∙ append_assoc (octets_in kept) (octets_in rows) t.tail) ∙ length-append (octets_in kept) (octets_in rows ++ t.tail) in
    let units : t.kept_units + t.units ≡ units_in (closed (kept ++ rows) t.tail) = omega (arith, taken, all, u) in
    let count : t.kept_rows + t.away + length t.rows ≡ length (kept ++ rows) = omega (arith, r, h.away, length-append kept rows, length-append gone t.rows) in
    ap (λ (n : ℕ). (cond (is_stream t.format) 0 n, t.kept_units + t.units)) count ∙ ap (λ (n : ℕ). (records_in t.format (kept ++ rows), n)) units

-- after an end flag the open part is empty
last_ended : (s : Subrecord) (ss : List Subrecord) → is_open (stage_of (s ∷ ss)) ≡ false → (p : List ℕ) × (ps : List (List ℕ)) × (pieces (s ∷ ss) ≡ p ∷ (ps ++ [] ∷ []))
last_ended s [] o = by_flag s.ends o
  where
    by_flag : (b : Bool) → is_open (cond b Ended Open) ≡ false → (p : List ℕ) × (ps : List (List ℕ)) × (cond b (s.octets ∷ [] ∷ []) (onto s.octets ([] ∷ [])) ≡ p ∷ (ps ++ [] ∷ []))
    by_flag true q = (s.octets, [], refl)
    by_flag false q = absurd (true≢false q)
last_ended s (t ∷ ss) o =
    let r = last_ended t ss o in
    let P : Bool → Type 0 = λ b. (p : List ℕ) × (ps : List (List ℕ)) × (cond b (s.octets ∷ pieces (t ∷ ss)) (onto s.octets (pieces (t ∷ ss))) ≡ p ∷ (ps ++ [] ∷ [])) in
    let both : (b : Bool) → P b = λ b. elim b as P [ true ↦ (s.octets, r.0 ∷ r.1, ap (λ (x : List (List ℕ)). s.octets ∷ x) r.2) | false ↦ (s.octets ++ r.0, r.1, ap (onto s.octets) r.2) ] in
    both s.ends

pub ended_piece : (ss : List Subrecord) (rows : List (List ℕ)) (tail : List ℕ) → is_open (stage_of ss) ≡ false → pieces ss ≡ rows ++ tail ∷ [] → tail ≡ []
ended_piece [] rows tail o e = sym ((same_from_push [] rows [] tail e).1)
ended_piece (s ∷ ss) rows tail o e = let r = last_ended s ss o in sym ((same_from_push (r.0 ∷ r.1) rows [] tail (sym r.2 ∙ e)).1)

closed_records : (P : List ℕ → Type 0) (ss : List Subrecord) (rows : List (List ℕ)) (tail : List ℕ) → is_open (stage_of ss) ≡ false → pieces ss ≡ rows ++ tail ∷ [] → All P rows
    → All P (closed rows tail)
closed_records P ss rows tail o e a = subst (λ (x : List ℕ). All P (closed rows x)) (sym (ended_piece ss rows tail o e)) a

closed_blocks : (octets : List ℕ) (rows : List (List ℕ)) (tail : List ℕ) → InBlocks octets rows tail → AreBlocks BLOCK (closed rows tail)
closed_blocks octets rows [] b = full_are_blocks BLOCK rows (omega arith) b.full
closed_blocks octets rows (x ∷ xs) b = blocks_push BLOCK rows (x ∷ xs) b.full (omega arith) (omega (arith, b.rest))

closed_carried : (format : Format) (longest : ℕ) (ss : List Subrecord) (rows : List (List ℕ)) (tail : List ℕ) → Carried format longest ss rows tail → is_open (stage_of ss) ≡ false
    → AreRows format longest (closed rows tail)
closed_carried Fixed longest ss rows tail c o = closed_records (λ (r : List ℕ). length r ≡ longest) ss rows tail o c.0 c.1
closed_carried Variable longest ss rows tail c o = closed_records (λ (r : List ℕ). length r ≤ longest) ss rows tail o c.0 c.1
closed_carried Unstructured longest ss rows tail c o = closed_blocks (octets_of ss) rows tail c.1
closed_carried Text longest ss rows tail c o = closed_blocks (octets_of ss) rows tail c.1

-- if payloads are closed, the rows that they carry are those of a file
pub closed_file : (format : Format) (longest : ℕ) (payloads rows : List (List ℕ)) (tail : List ℕ) (stage : Stage) → Carries format longest payloads rows tail stage
    → is_open stage ≡ false → AreRows format longest (closed rows tail)
closed_file format longest payloads rows tail stage c o = closed_carried format longest (flat_map (λ (x : List Subrecord). x) c.subs) rows tail c.carried (ap is_open (sym c.last) ∙ o)
