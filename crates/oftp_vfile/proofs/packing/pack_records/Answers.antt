use Rattle.std.proofs.Common.{ℕ, ◌≡◌, ◌+◌, ◌-◌, ◌<◌, ◌≤◌, List, [], ◌∷◌, Bool, cond, drop, length, get_or, ap, sym, subst, ◌∙◌, arith}
use Rattle.std.proofs.lemmas.Bool.{eq-eqb, ne_eqb}
use Rattle.std.proofs.lemmas.List.{get_or_default, length-drop, drop-drop}
use Rattle.oftp_vfile.specs.Filling.{from_offset}
use Rattle.oftp_vfile.specs.Fill.{next_length}
use Rattle.oftp_vfile.proofs.PackingLemmas.{get_or_same, goes_on, in_row, from_offset-zero, from_offset-drop}
use Rattle.oftp_vfile.proofs.packing.pack_records.Goals as goal

pub loop-place-preserved-then-ends : goal.loop-place-preserved-then-ends
loop-place-preserved-then-ends c =
    let l = c.loop-place in
    let rows = c.args.rows.now in
    let r = c.octets.result.now in
    let row = get_or_same rows l.place.row _ r (omega arith) c.index-rows-place.is c.octets.ensures in
    let on = goes_on (length l.out) (from_offset c.args.offset rows) rows l.place.row l.place.offset l.at c.min-count.result r _ _ l.out c.put.new.out (omega arith) row c.split_at.ensures.back
    c.split_at-in-loop-place.ensures.front c.split_at-in-loop-place.ensures.front_len l.invariant.packed (omega (arith, c.if-free-needed.false, c.needed.ensures))
    (omega (arith, c.min-count.ensures, c.min.ensures)) c.put.ensures l.invariant.room (omega arith) in
    let behind : List (List ℕ) = drop (l.place.row + 1) rows in
    let over = ap (λ (b : Bool). cond b behind (drop c.min-count.result (drop l.place.offset r) ∷ behind)) (eq-eqb c.min-count.result (length c.split_at.result.1.now) c.if-ends.true) in
    record { room = on.room; row = omega arith; offset = λ h. omega arith; packed = on.packed _ (over ∙ sym (from_offset-zero behind)) }

pub loop-place-preserved : goal.loop-place-preserved
loop-place-preserved c =
    let l = c.loop-place in
    let rows = c.args.rows.now in
    let r = c.octets.result.now in
    let row = get_or_same rows l.place.row _ r (omega arith) c.index-rows-place.is c.octets.ensures in
    let on = goes_on (length l.out) (from_offset c.args.offset rows) rows l.place.row l.place.offset l.at c.min-count.result r _ _ l.out c.put.new.out (omega arith) row c.split_at.ensures.back
    c.split_at-in-loop-place.ensures.front c.split_at-in-loop-place.ensures.front_len l.invariant.packed (omega (arith, c.if-free-needed.false, c.needed.ensures))
    (omega (arith, c.min-count.ensures, c.min.ensures)) c.put.ensures l.invariant.room (omega arith) in
    let count = c.min-count.result in
    let rest = c.split_at.result.1.now in
    let counted : count ≡ next_length rest (length l.out - l.at) = omega (arith, c.min-count.ensures, c.min.ensures) in
    let lt : l.place.row < length rows = omega arith in
    let same : r ≡ get_or rows l.place.row [] = row ∙ get_or_default rows l.place.row r [] lt in
    let within = in_row l.place.offset (length (get_or rows l.place.row [])) l.invariant.offset in
    let below : l.place.offset ≤ length r = subst (λ (x : List ℕ). l.place.offset ≤ length x) (sym same) within in
    let left : length rest ≡ length r - l.place.offset = ap length c.split_at.ensures.back ∙ length-drop l.place.offset r in
    let ne : count ≡ length rest → ⊥ = c.if-ends.false in
    let behind : List (List ℕ) = drop (l.place.row + 1) rows in
    let going = ap (λ (b : Bool). cond b behind (drop count (drop l.place.offset r) ∷ behind)) (ne_eqb count (length rest) ne)
    ∙ ap (λ (x : List ℕ). x ∷ behind) (drop-drop count l.place.offset r) ∙ sym (from_offset-drop rows l.place.row (l.place.offset + count) r lt row) in
    record {
      room = on.room;
      row = omega arith;
      offset = λ h. subst (λ (x : List ℕ). l.place.offset + count < length x) same (omega (arith, below, left, ne, counted));
      packed = on.packed _ going;
    }
