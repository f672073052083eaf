use Rattle.std.proofs.Common.{length, ◌≡◌, sym, subst, ◌∙◌, false}
use Rattle.oftp_vfile.specs.contracts.taking.Taker.{the_view}
use Rattle.oftp_vfile.specs.Subrecord.{Subrecord}
use Rattle.oftp_vfile.specs.Taking.{Taking, is_too_big}
use Rattle.oftp_vfile.proofs.TakingLemmas.{bounded_added, grown_stream, grown_record}
use Rattle.oftp_vfile.proofs.taking.Taker.add.Goals as goal
use Rattle.oftp_vfile.proofs.taking.Taker.add.Goals.{then-is_stream+in_ok-add_to_stream, else-is_stream+in_ok-add_to_record}

pub invariant_of-self-2 : goal.invariant_of-self-2
invariant_of-self-2 c =
    let s : Subrecord = record { ends = c.args.ends; octets = c.args.part.now } in
    let i = c.self.invariant in
    let was = c.self.view_is in
    elim c.if-is_stream.branch [
      | then-is_stream+in_ok-add_to_stream w ↦
          let f = subst (λ (x : Taking). is_too_big x s.ends (length s.octets) ≡ false) (sym was) c.requires.allowed in
          let e = grown_stream (the_view c.self.inside) s w.add_to_stream.new.rows.items w.add_to_stream.new.tail.items (sym c.is_stream.ensures
          ∙ w.if-is_stream.true) w.in_ok-add_to_stream.ensures.rows w.in_ok-add_to_stream.ensures.tail in
          let b = bounded_added (the_view c.self.inside) s _ _ (record { short = i.0; fits = i.1; taken = i.2; few = i.3 }) c.requires.short f e in
          rw w.self-inside-is (b.short, b.fits, b.taken, b.few)
      | else-is_stream+in_ok-add_to_record w ↦
          let f = subst (λ (x : Taking). is_too_big x s.ends (length s.octets) ≡ false) (sym was) c.requires.allowed in
          let e = grown_record (the_view c.self.inside) s w.add_to_record.new.rows.items w.add_to_record.new.tail.items (sym c.is_stream.ensures
          ∙ w.if-is_stream.false) w.in_ok-add_to_record.ensures.rows w.in_ok-add_to_record.ensures.tail in
          let b = bounded_added (the_view c.self.inside) s _ _ (record { short = i.0; fits = i.1; taken = i.2; few = i.3 }) c.requires.short f e in
          rw w.self-inside-is (b.short, b.fits, b.taken, b.few)
    ]
