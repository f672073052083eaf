-- EFID: a file is closed, or its rows are deleted.
use Rattle.std.proofs.Common.{◌≡◌, ◌≢◌, ℕ, ◌+◌, ◌*◌, ◌≤◌, false, true, is_ok, List, [], ◌∷◌, length, take, drop, All, refl, sym, ap, ◌∙◌, subst, arith}
use Rattle.std.specs.List.{flat_map}
use Rattle.std.proofs.lemmas.List.{append-nil, drop-append-le, length-append, length-drop, length-take-le}
use Rattle.std.proofs.lemmas.List.Elements.{All-take}
use Rattle.oftp_wire.specs.declared.command.Efid.{Efid}
use Rattle.oftp_wire.specs.declared.reason.SessionReason.TheVariants.{ProtocolViolation}
use Rattle.oftp_vfile.specs.declared.format.Format.{Format}
use Rattle.oftp_vfile.specs.declared.format.Format.TheVariants.{Fixed, Variable, Unstructured, Text}
use Rattle.oftp_vfile.specs.declared.format.TheConstants.{BLOCK, MOST_ROWS}
use Rattle.oftp_vfile.specs.VirtualFile.{AreRows, closed, octets_in}
use Rattle.oftp_vfile.specs.Subrecord.{Subrecord, octets_of}
use Rattle.oftp_vfile.specs.Carries.{Carried, Carries, InBlocks, is_open, stage_of}
use Rattle.oftp_vfile.specs.Taking.{Taking, counts_of}
use Rattle.oftp_vfile.proofs.CarriesLemmas.{blocks_length}
use Rattle.oftp_vfile.proofs.ClosedLemmas.{closed_file, ended_piece}
use Rattle.oftp_vfile.proofs.LendLemmas.{rows_from}
use Rattle.oftp_vfile.proofs.ShedLemmas.{shed_counts}
use Rattle.oftp_register.specs.declared.change.Change.TheVariants.{Close, GiveUp}
use Rattle.oftp_register.specs.declared.fit.TheConstants.{MOST_OCTETS}
use Rattle.oftp_register.specs.declared.verdicts.EndVerdict.{EndVerdict}
use Rattle.oftp_register.specs.Register.{Register}
use Rattle.oftp_register.specs.Verdicts.{end_verdict}
use Rattle.oftp_register.specs.Soundness.{AreFullRows, Ends, IsFit, IsSound, IsSoundIncoming}
use Rattle.oftp_register.proofs.EntryLemmas.{all_at, close_changes, close_fit, give_up_changes}
use Rattle.oftp_register.proofs.IncomingLemmas.{open_rows}
use Rattle.oftp_session.specs.declared.receiving.IncomingTransfer.{IncomingTransfer}
use Rattle.oftp_session.specs.declared.state.Contact.{Contact}
use Rattle.oftp_session.specs.Phases.{Receipt, fails}
use Rattle.oftp_session.specs.Receiving.{carried_by, end_step, kept_of, on_end_verdict, rows_to_keep}
use Rattle.oftp_session.specs.Steps.{IsReceived}
use Rattle.oftp_session.specs.Standings.{Tracks}
use Rattle.oftp_session.specs.Inside.{IsAccepted}
use Rattle.oftp_session.proofs.Receipts.{carried_limit, carried_same, kept_within}

-- the steps
pub end_open : (contact : Contact) (r : Register) (f : Receipt) (efid : Efid) → is_open (carried_by f).stage ≡ true → end_step contact r f efid ≡ fails ProtocolViolation
unfolding end_step
end_open contact r f efid h = rw h refl

pub end_by : (contact : Contact) (r : Register) (f : Receipt) (efid : Efid) (verdict : EndVerdict) → is_open (carried_by f).stage ≡ false
    → end_verdict efid (counts_of (carried_by f)).0 (counts_of (carried_by f)).1 ≡ verdict
    → end_step contact r f efid ≡ on_end_verdict contact r f (carried_by f) verdict
unfolding end_step
end_by contact r f efid verdict h v = rw h (ap (on_end_verdict contact r f (carried_by f)) v)

-- the facts of the session's taker are those of the phase's
pub open_of : (contact : Contact) (f : Receipt) (s : IncomingTransfer) → Tracks contact f s → is_open s.taker.stage ≡ is_open (carried_by f).stage
open_of contact f s at = ap (λ (t : Taking). is_open t.stage) at.taker

pub counts_are : (r : Register) (contact : Contact) (f : Receipt) (s : IncomingTransfer) → IsReceived r f → Tracks contact f s → counts_of s.taker ≡ counts_of (carried_by f)
counts_are r contact f s holds at = ap counts_of at.taker ∙ shed_counts (kept_of f) (carried_by f) (kept_within r f holds)

pub last_of : (contact : Contact) (f : Receipt) (s : IncomingTransfer) → Tracks contact f s → closed s.taker.rows s.taker.tail ≡ closed (rows_to_keep f (carried_by f)) (carried_by f).tail
last_of contact f s at = ap (λ (t : Taking). closed t.rows t.tail) at.taker

-- the octets of full blocks
block_octets : (rows : List (List ℕ)) → All (λ (r : List ℕ). length r ≡ BLOCK) rows → length (octets_in rows) ≡ BLOCK * length rows
block_octets rows all =
    let n = blocks_length (octets_in rows) rows [] (record { joined = sym (append-nil (octets_in rows)); full = all; rest = omega arith }) in
    omega (arith, n)

-- the last rows without some of them
pub closed_drop : (n : ℕ) (rows : List (List ℕ)) (tail : List ℕ) → n ≤ length rows → closed (drop n rows) tail ≡ drop n (closed rows tail)
closed_drop n rows [] within = refl
closed_drop n rows (x ∷ xs) within = sym (drop-append-le n rows ((x ∷ xs) ∷ []) within)

closed_more : (rows : List (List ℕ)) (tail : List ℕ) → length rows ≤ length (closed rows tail)
closed_more rows [] = omega arith
closed_more rows (x ∷ xs) = omega (arith, length-append rows ((x ∷ xs) ∷ []))

-- a stream within its octets has no more rows than a file may have, its last block included
stream_few : (t : Taking) (ss : List Subrecord) (from : ℕ) (rows : List (List ℕ)) (tail : List ℕ) → InBlocks (octets_of ss) rows tail
    → t.units ≡ length (octets_of ss) → (ss ≢ [] → t.kept_units + t.units ≤ t.limit)
    → t.kept_units ≡ BLOCK * from → t.limit ≤ MOST_OCTETS → from + length rows ≤ MOST_ROWS → from + length (closed rows tail) ≤ MOST_ROWS
stream_few t ss from rows [] b u o k l few = few
stream_few t ss from rows (x ∷ xs) b u o k l few =
    let n = blocks_length (octets_of ss) rows (x ∷ xs) b in
    let some : ss ≢ [] = λ e. (let none : length (octets_of ss) ≡ 0 = ap (λ (q : List Subrecord). length (octets_of q)) e in omega (arith, n, none)) in
    let within = o some in
    omega (arith, within, n, u, k, l, length-append rows ((x ∷ xs) ∷ []))

-- a file that ends has no more rows than it may
pub end_few : (r : Register) (f : Receipt) → IsSound r → IsReceived r f → is_open (carried_by f).stage ≡ false → f.from + length (closed (carried_by f).rows (carried_by f).tail) ≤ MOST_ROWS
end_few r f sound holds shut = by t.format refl
  where
    t : Taking
    t = carried_by f

    ss : List Subrecord
    ss = flat_map (λ (x : List Subrecord). x) holds.took.subs

    few : f.from + length t.rows ≤ MOST_ROWS
    few = let same = carried_same f in let h = holds.took.holds.few in omega (arith, h, same.2)

    carried : (format : Format) → t.format ≡ format → Carried format t.longest ss t.rows t.tail
    carried format e = subst (λ (x : Format). Carried x t.longest ss t.rows t.tail) e holds.took.holds.carried

    shut' : is_open (stage_of ss) ≡ false
    shut' = ap is_open (sym holds.took.holds.last) ∙ shut

    records : t.tail ≡ [] → f.from + length (closed t.rows t.tail) ≤ MOST_ROWS
    records e = subst (λ (x : List ℕ). f.from + length (closed t.rows x) ≤ MOST_ROWS) (sym e) few

    blocks : (format : Format) → f.file.format ≡ format → AreFullRows format f.file.longest f.file.rows
    blocks format e =
        let entry = all_at IsSoundIncoming f.number r.incoming f.file sound.incoming holds.entry in
        subst (λ (x : Format). AreFullRows x f.file.longest f.file.rows) e (open_rows f.file entry holds.opened)

    stream : InBlocks (octets_of ss) t.rows t.tail → All (λ (r : List ℕ). length r ≡ BLOCK) f.file.rows → f.from + length (closed t.rows t.tail) ≤ MOST_ROWS
    stream b all =
        let same = carried_same f in
        let first = block_octets (take f.from f.file.rows) (All-take (λ (r : List ℕ). length r ≡ BLOCK) f.from f.file.rows all) in
        let count = length-take-le f.from f.file.rows holds.kept in
        let k : t.kept_units ≡ BLOCK * f.from = omega (arith, same.3, holds.units, first, count) in
        let l : t.limit ≤ MOST_OCTETS = omega (arith, carried_limit f, holds.limit, sound.small) in
        stream_few t ss f.from t.rows t.tail b holds.took.holds.units holds.took.holds.octets k l few

    by : (format : Format) → t.format ≡ format → f.from + length (closed t.rows t.tail) ≤ MOST_ROWS
    by Fixed e = records (ended_piece ss t.rows t.tail shut' (carried Fixed e).0)
    by Variable e = records (ended_piece ss t.rows t.tail shut' (carried Variable e).0)
    by Unstructured e = stream (carried Unstructured e).1 (blocks Unstructured (sym (carried_same f).0 ∙ e))
    by Text e = stream (carried Text e).1 (blocks Text (sym (carried_same f).0 ∙ e))

-- the last rows may close the file
pub close_fits : (r : Register) (f : Receipt) → IsSound r → IsReceived r f → is_open (carried_by f).stage ≡ false
    → IsFit r (Close f.number (closed (rows_to_keep f (carried_by f)) (carried_by f).tail))
close_fits r f sound holds shut =
    let t = carried_by f in
    let k = kept_of f in
    let took = holds.took in
    let same = carried_same f in
    let all = closed t.rows t.tail in
    let cut : closed (drop k t.rows) t.tail ≡ drop k all = closed_drop k t.rows t.tail (kept_within r f holds) in
    let rows = closed (drop k t.rows) t.tail in
    let carries : Carries t.format t.longest f.payloads t.rows t.tail t.stage =
    record { subs = took.subs; spelling = took.spelling; short = took.short; carried = took.holds.carried; last = took.holds.last } in
    let file = rows_from t.format t.longest k all (closed_file t.format t.longest f.payloads t.rows t.tail t.stage carries shut) in
    let its = subst (λ (l : ℕ). AreRows f.file.format l (drop k all)) same.1 (subst (λ (x : Format). AreRows x t.longest (drop k all)) same.0 file) in
    let fits = subst (λ (x : List (List ℕ)). AreRows f.file.format f.file.longest x) (sym cut) its in
    let few = end_few r f sound holds shut in
    let more = closed_more t.rows t.tail in
    let within = kept_within r f holds in
    let ends : Ends rows f.file = record { few = omega (arith, few, more, within, ap length cut, length-drop k all, holds.kept); fits = fits } in
    close_fit r f.number f.file holds.entry holds.opened rows ends

-- the register accepts the changes
pub close_accepted : (r : Register) (f : Receipt) (rows : List (List ℕ)) → IsReceived r f → IsAccepted r (Close f.number rows)
close_accepted r f rows holds = ap is_ok (close_changes r f.number f.file holds.entry holds.opened rows).made

pub give_up_accepted : (r : Register) (f : Receipt) → IsReceived r f → IsAccepted r (GiveUp f.number)
give_up_accepted r f holds = ap is_ok (give_up_changes r f.number f.file holds.entry holds.opened).made
