use Rattle.std.proofs.Common.{ℕ, ◌≡◌, ◌+◌, ◌-◌, ◌<◌, List, [], ◌++◌, Bool, true, false, min, take, drop, length, ap, sym, subst, ◌∙◌, arith, refl}
use Rattle.oftp_vfile.specs.Subrecord.{spelled}
use Rattle.oftp_vfile.specs.Packing.{rest_at, HasStreamed, HasEnded}
use Rattle.oftp_vfile.proofs.PackingLemmas.{streamed_more, streamed_end, streamed_done}
use Rattle.oftp_vfile.proofs.packing.pack_stream.Goals as goal

pub returns-then-written-clause-ended : goal.returns-then-written-clause-ended
returns-then-written-clause-ended c = λ _.
    let l = c.loop-out in
    let i = l.invariant in
    let w = c.in-Some.written in
    let e = c.in-Some.ensures in
    let cur = rest_at c.args.rows.now l.place.row l.place.offset in
    let start = rest_at c.args.rows.now 0 c.args.offset in
    let size = length l.out in
    let ended = e.ends c.if-written.true in
    let p : HasStreamed true size start (take l.at l.out) (size - l.at) cur = subst (λ (x : Bool). HasStreamed x size start (take l.at l.out) (size - l.at) cur) ended.0 i.packed in
    let z : drop w.count cur ≡ [] = sym e.next ∙ ended.1 in
    let counted : w.count ≡ min (min 63 (size - l.at - 1)) (length cur) = e.count in
    let done = streamed_end size start (take l.at l.out) (size - l.at) cur w.count p (omega arith) counted z in
    let written : take (l.at + (1 + w.count)) c.put_from.new.out ≡ take l.at l.out ++ spelled (record { ends = true; octets = take w.count cur }) =
    e.written ∙ ap (λ (x : Bool). take l.at l.out ++ spelled (record { ends = x; octets = take w.count cur })) c.if-written.true in
    let same : size ≡ length c.args.out.now = omega arith in
    (ended.0, subst (λ (x : ℕ). HasEnded x start (take (l.at + (1 + w.count)) c.put_from.new.out)) same (subst (λ (x : List ℕ). HasEnded size start x) (sym written) done), ended.2)

pub loop-out-preserved : goal.loop-out-preserved
loop-out-preserved c =
    let l = c.loop-out in
    let i = l.invariant in
    let w = c.in-Some.written in
    let e = c.in-Some.ensures in
    let cur = rest_at c.args.rows.now l.place.row l.place.offset in
    let start = rest_at c.args.rows.now 0 c.args.offset in
    let size = length l.out in
    let counted : w.count ≡ min (min 63 (size - l.at - 1)) (length cur) = e.count in
    let goes_on : c.args.last ≡ true → 0 < length (drop w.count cur) = λ h. subst (λ (x : List ℕ). 0 < length x) e.next (e.goes_on c.if-written.false h) in
    let more = streamed_more c.args.last size start (take l.at l.out) (size - l.at) cur w.count i.packed (omega arith) counted e.enough goes_on in
    let written : take (l.at + (1 + w.count)) c.put_from.new.out ≡ take l.at l.out ++ spelled (record { ends = false; octets = take w.count cur }) =
    e.written ∙ ap (λ (x : Bool). take l.at l.out ++ spelled (record { ends = x; octets = take w.count cur })) c.if-written.false in
    let new_size : length c.put_from.new.out ≡ size = omega arith in
    record {
      room = omega (arith, counted, new_size);
      row = e.row;
      offset = e.offset;
      more = λ h _. e.goes_on c.if-written.false h;
      packed = streamed_done c.args.last size (length c.put_from.new.out) l.at w.count (size - l.at) start _ _ _ _ new_size refl more written e.next;
    }
