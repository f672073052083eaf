use Rattle.std.proofs.Common.{rules, ℕ, ◌≡◌, ◌+◌, ◌-◌, ◌<◌, ◌≤◌, List, [], ◌++◌, take, drop, length, get_or, ap, subst, sym, ◌∙◌, arith}
use Rattle.std.proofs.lemmas.List.{drop_all, get_or_default}
use Rattle.oftp_vfile.specs.VirtualFile.{octets_in}
use Rattle.oftp_vfile.proofs.PackingLemmas.{gather_step, get_or_same, in_row}
use Rattle.oftp_vfile.proofs.packing.gather.Goals as goal

pub loop-row-preserved-then-offset-octets : goal.loop-row-preserved-then-offset-octets
loop-row-preserved-then-offset-octets c =
    let l = c.loop-row in
    let i = l.invariant in
    let octets = c.octets-octets.result.now in
    let n = c.min-count.result in
    let row : octets ≡ get_or c.args.rows.now l.row octets = get_or_same c.args.rows.now l.row _ octets (omega arith) c.index-rows-row.is c.octets-octets.ensures in
    let part : c.copy_from_slice.new.self ≡ take n (drop l.offset octets) = c.copy_from_slice.ensures.after ∙ ap (λ m. take m (drop l.offset octets)) (omega arith) in
    let start = c.args.from in
    let all = drop start.offset (octets_in (drop start.row c.args.rows.now)) in
    let k = l.at + n - l.at in
    let s = gather_step c.args.rows.now l.row l.offset l.at n k l.out all _ octets (omega arith) row (omega arith) i.room i.octets i.rest part in
    record {
      octets = s.0;
      rest = sym (ap (λ (x : List ℕ). x ++ octets_in (drop (l.row + 1) c.args.rows.now)) (drop_all (l.offset + n) octets (omega arith))) ∙ s.1;
      within =
          s.3 i.within;
      room = search rules;
      row = omega arith;
      offset = λ h. omega arith;
    }

pub loop-row-preserved : goal.loop-row-preserved
loop-row-preserved c =
    let l = c.loop-row in
    let i = l.invariant in
    let octets = c.octets-octets.result.now in
    let n = c.min-count.result in
    let row : octets ≡ get_or c.args.rows.now l.row octets = get_or_same c.args.rows.now l.row _ octets (omega arith) c.index-rows-row.is c.octets-octets.ensures in
    let same : octets ≡ get_or c.args.rows.now l.row [] = row ∙ get_or_default c.args.rows.now l.row octets [] (omega arith) in
    let off : 0 < l.offset → l.offset < length (get_or c.args.rows.now l.row []) = i.offset in
    let len : length octets ≡ length (get_or c.args.rows.now l.row []) = ap length same in
    let le : l.offset ≤ length octets = subst (λ (x : List ℕ). l.offset ≤ length x) (sym same) (in_row l.offset (length (get_or c.args.rows.now l.row [])) off) in
    let within : l.offset + n ≤ length octets = omega arith in
    let ne : l.offset + n ≡ length octets → ⊥ = c.if-offset-octets.false in
    let part : c.copy_from_slice.new.self ≡ take n (drop l.offset octets) = c.copy_from_slice.ensures.after ∙ ap (λ m. take m (drop l.offset octets)) (omega arith) in
    let start = c.args.from in
    let all = drop start.offset (octets_in (drop start.row c.args.rows.now)) in
    let k = l.at + n - l.at in
    let s = gather_step c.args.rows.now l.row l.offset l.at n k l.out all _ octets (omega arith) row (omega arith) i.room i.octets i.rest part in
    record { octets = s.0; rest = s.2; within = s.3 i.within; room = search rules; row = omega arith; offset = λ h. subst (λ (x : List ℕ). l.offset + n < length x) same (omega (arith, within, ne)) }
