use Rattle.std.proofs.Common.{◌≡◌, ◌-◌, ◌<◌, ◌≤◌, [], true, false, take, drop, length, ap, sym, subst, ◌∙◌, arith, refl}
use Rattle.std.proofs.lemmas.Bool.{false_from_ne_true, true≢false}
use Rattle.std.proofs.lemmas.List.{length-take-le}
use Rattle.oftp_vfile.specs.declared.format.Format.{Format}
use Rattle.oftp_vfile.specs.Filling.{advanced, Filling, from_offset, least, Moves, nothing_left}
use Rattle.oftp_vfile.specs.Packing.{PacksNext}
use Rattle.oftp_vfile.specs.Fill.{needs}
use Rattle.oftp_vfile.proofs.FillerLemmas.{coming_some, moves_to, records_next, next_enough, records_left, records_more, records_done, records_some, nothing_records, full_all, row_left, full_none, packed_from}
use Rattle.oftp_vfile.proofs.PackingLemmas.{needs_most}
use Rattle.oftp_vfile.proofs.filling.Filler.next_of_records.Goals as goal
use Rattle.oftp_vfile.proofs.filling.Filler.next_of_records.Goals.{else-place-rows-via-then-place-rows+then-not-last+else-out-at, else-place-rows-via-then-place-rows+else-not-last, else-place-rows-via-else-place-rows}

pub returns-then-out-at-clause-fills : goal.returns-then-out-at-clause-fills
returns-then-out-at-clause-fills c =
    let f = c.args.self.now in
    let rows = c.args.rows.now in
    let was = c.self.view_is in
    let p = packed_from _ _ f.offset rows _ _ _ (ap (λ x. x.offset) was) c.pack_records-at.ensures.packed in
    let long : length c.pack_records-at.new.out ≡ length c.args.out.now = omega arith in
    let free = length c.args.out.now - c.pack_records-at.result.0 in
    let need : needs (least f.format) ≤ free =
    subst (λ (x : Format). needs (least x) ≤ free) (ap (λ x. x.format) was) (omega (arith, c.least_need.ensures, c.if-out-at.true, long)) in
    record {
      coming = c.if-not-last.true;
      some = coming_some f rows c.args.last c.requires.records c.if-not-last.true;
      reaches = records_more _ f rows _ _ _ _ c.requires.records c.requires.place c.if-place-rows.true p need;
      same = refl;
    }

pub returns-then-at-eq0-clause-fills : goal.returns-then-at-eq0-clause-fills
returns-then-at-eq0-clause-fills c =
    let f = c.args.self.now in
    let rows = c.args.rows.now in
    let to = c.pack_records-at.ensures in
    let size = length c.args.out.now in
    let p = packed_from size _ f.offset rows _ _ _ (ap (λ x. x.offset) c.self.view_is) to.packed in
    let full = full_all rows _ _ _ to.row to.full in
    let long : length c.pack_records-at.new.out ≡ size = omega arith in
    let zero = c.if-at-eq0.true in
    let written = length-take-le c.pack_records-at.result.0 c.pack_records-at.new.out (omega arith) ∙ zero in
    let none = records_done size f.offset _ rows _ _ p written (omega arith) c.requires.room full in
    let last : c.args.last ≡ true = elim c.else-place-rows.branch [
      | else-place-rows-via-then-place-rows+then-not-last+else-out-at w ↦
          absurd (omega (arith, w.least_need.ensures, w.if-out-at.false, long, needs_most (least c.self.inside.format), c.requires.room, zero))
      | else-place-rows-via-then-place-rows+else-not-last w ↦ w.if-not-last.false
      | else-place-rows-via-else-place-rows w ↦
          absurd (row_left rows _ _ to.row w.if-place-rows.false (full_none _ _ (omega (arith, c.requires.room, zero)) full))
    ] in
    record {
      none = nothing_records f rows c.args.last c.requires.records none last;
      same = refl;
    }

pub returns : goal.returns
returns c =
    let f = c.args.self.now in
    let rows = c.args.rows.now in
    let size = length c.args.out.now in
    let last = c.args.last in
    let to = c.pack_records-at.ensures in
    let at = c.pack_records-at.result.0 in
    let place = c.pack_records-at.result.1 in
    let octets = take at c.pack_records-at.new.out in
    let was = c.self.view_is in
    let long : length c.pack_records-at.new.out ≡ size = omega arith in
    let written : length octets ≡ at = length-take-le at c.pack_records-at.new.out (omega arith) in
    let some : 0 < length octets = omega (arith, written, c.if-at-eq0.false) in
    let p = packed_from size _ f.offset rows octets (size - at) _ (ap (λ x. x.offset) was) to.packed in
    let full = full_all rows place.row place.offset (size - at) to.row to.full in
    let ends : from_offset place.offset (drop place.row rows) ≡ [] → last ≡ false → size - at < needs (least f.format) = λ e t. elim c.else-place-rows.branch [
      | else-place-rows-via-then-place-rows+then-not-last+else-out-at w ↦
          subst (λ (x : Format). size - at < needs (least x)) (ap (λ x. x.format) was) (omega (arith, w.least_need.ensures, w.if-out-at.false, long))
      | else-place-rows-via-then-place-rows+else-not-last w ↦ absurd (true≢false (sym w.if-not-last.false ∙ t))
      | else-place-rows-via-else-place-rows w ↦ absurd (row_left rows place.row place.offset to.row w.if-place-rows.false e)
    ] in
    let new : Filling = advanced f rows place.row place.offset in
    let next : PacksNext size f new rows last octets =
    records_next size f rows place.row place.offset (size - at) octets last c.requires.records c.requires.place to.offset p full ends some in
    let moves = moves_to f rows place.row place.offset last to.row to.offset (λ stream. absurd (true≢false (sym stream ∙ c.requires.records))) in
    record {
      buffer = (to.room, subst (λ (x : Filling). PacksNext size f x rows last octets) (sym c.advance.ensures) next);
      fills = record {
        moves = subst (λ (x : Filling). Moves f x rows last) (sym c.advance.ensures) moves;
        some = false_from_ne_true (nothing_left f rows last) (records_some size f new rows octets last c.requires.records next);
        full = next_enough size f new rows last octets next (records_left new (drop (new.row - f.row) rows) (least f.format) c.requires.records);
      };
    }
