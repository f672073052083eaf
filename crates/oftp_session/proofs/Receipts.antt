-- The facts of a receiving phase stay true as payloads arrive and rows are stored.
use Rattle.std.proofs.Common.{◌≡◌, ℕ, zero, suc, ◌+◌, ◌-◌, ◌≤◌, List, [], ◌∷◌, ◌++◌, length, drop, Some, Result, Ok, Err, is_ok, refl, ap, sym, ◌∙◌, subst, arith}
use Rattle.std.proofs.lemmas.List.{append-nil, length-append, length-drop, take-append-le}
use Rattle.std.proofs.lemmas.List.Elements.{All-drop}
use Rattle.std.specs.Result.{result_unwrap_or}
use Rattle.oftp_vfile.specs.declared.format.Format.{Format}
use Rattle.oftp_vfile.specs.declared.format.Format.TheVariants.{Fixed, Variable, Unstructured, Text}
use Rattle.oftp_vfile.specs.declared.fault.TakeFault.{TakeFault}
use Rattle.oftp_vfile.specs.declared.format.TheConstants.{BLOCK}
use Rattle.oftp_vfile.specs.VirtualFile.{units_in}
use Rattle.oftp_vfile.specs.Subrecord.{Subrecord, count_in}
use Rattle.oftp_vfile.specs.Carries.{Carried}
use Rattle.oftp_vfile.specs.Taking.{Taking, Took, added}
use Rattle.oftp_vfile.specs.Reading.{fault_before, subrecord_in, take_subrecords, taken, taken_all}
use Rattle.oftp_vfile.proofs.ReadingLemmas.{more_rows, taken_all_push, took_next, went_on}
use Rattle.oftp_register.specs.declared.change.Cause.{Cause}
use Rattle.oftp_register.specs.declared.change.Change.TheVariants.{Keep}
use Rattle.oftp_register.specs.declared.entry.IncomingState.{IncomingState}
use Rattle.oftp_register.specs.Register.{Register, Incoming}
use Rattle.oftp_register.specs.Changes.{apply, at_number, mapped, kept}
use Rattle.oftp_register.specs.Soundness.{AreFullRows, GoesOn, IsFit}
use Rattle.oftp_register.proofs.EntryLemmas.{keep_changes, keep_fit}
use Rattle.oftp_register.proofs.NumberLemmas.{mapped_ok}
use Rattle.oftp_session.specs.Phases.{Receipt, register_after}
use Rattle.oftp_session.specs.Receiving.{taker_of, carried_by, kept_of, keeping, rows_to_keep, with_payload, with_rows}
use Rattle.oftp_session.specs.Steps.{IsReceived}
use Rattle.oftp_session.specs.Inside.{IsAccepted}

-- one more payload
pub carried_next : (f : Receipt) (payload : List ℕ) (t : Taking) → taken (carried_by f) payload ≡ Ok t → carried_by (with_payload f payload) ≡ t
carried_next f payload t h = taken_all_push (taker_of f) f.payloads payload ∙ ap (λ (r : Result Taking TakeFault). result_unwrap_or r (carried_by f)) h

pub payload_holds : (r : Register) (f : Receipt) (t : Taking) (payload : List ℕ) → IsReceived r f → taken (carried_by f) payload ≡ Ok t → IsReceived r (with_payload f payload)
payload_holds r f t payload holds h =
    let is : carried_by (with_payload f payload) ≡ t = carried_next f payload t h in
    let more = more_rows (length payload) (carried_by f) payload t h in
    record {
      limit = holds.limit;
      entry = holds.entry;
      opened = holds.opened;
      kept = holds.kept;
      most = subst (λ (x : Taking). length f.file.rows ≤ f.from + length x.rows) (sym is) (omega (arith, holds.most, more));
      units = holds.units;
      took = subst (λ (x : Taking). Took x [] (f.payloads ++ payload ∷ [])) (sym is) (took_next (carried_by f) t [] f.payloads payload holds.took h);
    }

-- a change of the incoming files doesn't change the limits
pub files_limits : (r s : Register) (files : Result (List Incoming) Cause) → mapped (λ fs. record r { incoming = fs }) files ≡ Ok s → r.limits ≡ s.limits
files_limits r s files made =
    let part = mapped_ok (λ fs. record r { incoming = fs }) files s made in
    ap (λ (x : Register). x.limits) part.2

keep_limits : (r s : Register) (n : ℕ) (rows : List (List ℕ)) → apply r (Keep n rows) ≡ Ok s → r.limits ≡ s.limits
unfolding apply
keep_limits r s n rows made = files_limits r s (at_number (kept rows) n r.incoming) made

-- the rows are stored, and the facts of the phase stay true
pub keep_holds : (r : Register) (f : Receipt) → IsReceived r f
    → let rows = rows_to_keep f (carried_by f) in (s : Register) × (apply r (Keep f.number rows) ≡ Ok s) × IsReceived s (with_rows f rows)
keep_holds r f holds =
    let t = carried_by f in
    let rows = rows_to_keep f t in
    let with_state : IncomingState → Incoming = λ x. record f.file { rows = f.file.rows ++ rows; state = x } in
    let c = keep_changes r f.number f.file holds.entry holds.opened rows in (
      c.after,
      c.made,
      record {
        limit = holds.limit ∙ ap (λ limits. limits.octets) (keep_limits r c.after f.number rows c.made);
        entry = c.entry ∙ ap (λ x. Some (with_state x)) (sym holds.opened);
        opened = holds.opened;
        kept = omega (arith, holds.kept, length-append f.file.rows rows);
        most = omega (arith, holds.most, holds.kept, length-append f.file.rows rows, length-drop (length f.file.rows - f.from) t.rows);
        units = holds.units ∙ ap units_in (sym (take-append-le f.from f.file.rows rows holds.kept));
        took = holds.took;
      },
    )

-- so they do if there was no row to store
pub keep_after : (r : Register) (g : Receipt) → IsReceived r g
    → let rows = rows_to_keep g (carried_by g) in IsReceived (register_after r (keeping g.number rows)) (with_rows g rows)
keep_after r g holds = by (rows_to_keep g (carried_by g)) refl
  where
    Kept : List (List ℕ) → Type 0
    Kept rows = (s : Register) × (apply r (Keep g.number rows) ≡ Ok s) × IsReceived s (with_rows g rows)

    by : (rows : List (List ℕ)) → rows_to_keep g (carried_by g) ≡ rows → IsReceived (register_after r (keeping g.number rows)) (with_rows g rows)
    by [] e = subst (λ (x : List (List ℕ)). IsReceived r (record g { file = record g.file { rows = x } })) (sym (append-nil g.file.rows)) holds
    by (x ∷ xs) e =
        let kept : Kept (x ∷ xs) = subst Kept e (keep_holds r g holds) in
        subst (λ (z : Register). IsReceived z (with_rows g (x ∷ xs))) (sym (ap (λ q. result_unwrap_or q r) kept.1)) kept.2

-- what each subrecord preserves, payloads preserve
stays : (P : Taking → Type 0) → ((t : Taking) (s : Subrecord) → P t → P (added t s)) → (n : ℕ) (t : Taking) (payload : List ℕ) (after : Taking)
    → P t → take_subrecords n t payload ≡ Ok after → P after
unfolding take_subrecords
stays P one zero t payload after p h = let is : t ≡ after = cc in subst P is p
stays P one (suc n) t [] after p h = let is : t ≡ after = cc in subst P is p
stays P one (suc n) t (first ∷ rest) after p h =
    let s = subrecord_in first rest in
    let on = went_on (fault_before t first (length rest)) (added t s) (λ x. take_subrecords n x (drop (count_in first) rest)) after h in
    stays P one n (added t s) (drop (count_in first) rest) after (one t s p) on.1

pub stays_all : (P : Taking → Type 0) → ((t : Taking) (s : Subrecord) → P t → P (added t s)) → (t : Taking) (payloads : List (List ℕ)) → P t → P (taken_all t payloads)
stays_all P one t [] p = p
stays_all P one t (payload ∷ payloads) p = stays_all P one (result_unwrap_or (taken t payload) t) payloads (by (taken t payload) refl)
  where
    by : (r : Result Taking TakeFault) → taken t payload ≡ r → P (result_unwrap_or r t)
    by (Ok after) is = stays P one (length payload) t payload after p is
    by (Err fault) is = p

-- what was received is of the file, after the row from which it is received
pub carried_same : (f : Receipt) → let t = carried_by f in (t.format ≡ f.file.format) × (t.longest ≡ f.file.longest) × (t.kept_rows ≡ f.from) × (t.kept_units ≡ f.units)
carried_same f =
    let P : Taking → Type 0 = λ t. (t.format ≡ f.file.format) × (t.longest ≡ f.file.longest) × (t.kept_rows ≡ f.from) × (t.kept_units ≡ f.units) in
    stays_all P (λ t s p. p) (taker_of f) f.payloads (refl, refl, refl, refl)

-- rows that are carried are full ones
full_carried : (format : Format) (longest : ℕ) (ss : List Subrecord) (rows : List (List ℕ)) (tail : List ℕ)
    → Carried format longest ss rows tail → AreFullRows format longest rows
full_carried Fixed longest ss rows tail c = c.1
full_carried Variable longest ss rows tail c = c.1
full_carried Unstructured longest ss rows tail c = c.1.full
full_carried Text longest ss rows tail c = c.1.full

pub full_drop : (format : Format) (longest k : ℕ) (rows : List (List ℕ)) → AreFullRows format longest rows → AreFullRows format longest (drop k rows)
full_drop Fixed longest k rows h = All-drop (λ (r : List ℕ). length r ≡ longest) k rows h
full_drop Variable longest k rows h = All-drop (λ (r : List ℕ). length r ≤ longest) k rows h
full_drop Unstructured longest k rows h = All-drop (λ (r : List ℕ). length r ≡ BLOCK) k rows h
full_drop Text longest k rows h = All-drop (λ (r : List ℕ). length r ≡ BLOCK) k rows h

-- rows that were received may be stored
pub keep_fits : (r : Register) (f : Receipt) → IsReceived r f → IsFit r (Keep f.number (rows_to_keep f (carried_by f)))
keep_fits r f holds =
    let t = carried_by f in
    let rows = rows_to_keep f t in
    let same = carried_same f in
    let held = holds.took.holds in
    let full = full_carried t.format t.longest _ t.rows t.tail held.carried in
    let its = subst (λ (l : ℕ). AreFullRows f.file.format l t.rows) same.1 (subst (λ (x : Format). AreFullRows x t.longest t.rows) same.0 full) in
    let fits = full_drop f.file.format f.file.longest (kept_of f) t.rows its in
    let on : GoesOn rows f.file = record { few = omega (arith, held.few, same.2, holds.kept, holds.most, length-drop (kept_of f) t.rows); fits = fits } in
    keep_fit r f.number f.file holds.entry holds.opened rows on

-- the register accepts rows that were received
pub keep_accepted : (r : Register) (f : Receipt) → IsReceived r f → IsAccepted r (Keep f.number (rows_to_keep f (carried_by f)))
keep_accepted r f holds = ap is_ok (keep_holds r f holds).1

-- the rows that were received are at least those that are stored
pub kept_within : (r : Register) (f : Receipt) → IsReceived r f → kept_of f ≤ length (carried_by f).rows
kept_within r f holds = omega (arith, holds.most, holds.kept)

pub carried_limit : (f : Receipt) → (carried_by f).limit ≡ f.limit
carried_limit f = stays_all (λ (t : Taking). t.limit ≡ f.limit) (λ t s p. p) (taker_of f) f.payloads refl
