use Rattle.std.proofs.Common.{arith, ap, ◌∙◌, sym, take, drop, length, get_or, suc}
use Rattle.std.specs.List.{remove}
use Rattle.std.proofs.lemmas.List.{take_at, length-take-le}
use Rattle.oftp_vfile.proofs.GrowthLemmas.{rows_before, first_new}
use Rattle.oftp_vfile.proofs.growth.back_to.Goals as goal
use Rattle.oftp_vfile.proofs.growth.back_to.Goals.{then-row_count-len, else-row_count-len}

pub returns : goal.returns
returns c = λ old front g n m.
    elim c.if-row_count-len.branch [
      | then-row_count-len w ↦
          let f = first_new old front _ _ g (omega arith) in
          let gone = w.remove.ensures.items in
          let first = w.remove.ensures.value in
          let cut = w.truncate.ensures.items in
          let octets = w.into_octets.ensures in
          let kept = take_at (take (length old) c.args.rows.now.items) (drop (suc (length old)) c.args.rows.now.items) (length old) (length-take-le (length old) c.args.rows.now.items (omega arith)) in
          let r = w.rows-is in
          let t = w.tail-is in
          let last = c.truncate-2.ensures.items in (
            ap (λ v. v.items) r ∙ cut ∙ ap (take c.args.row_count) gone ∙ ap (λ n. take n (remove c.args.rows.now.items n)) (sym n) ∙ kept ∙ f.0,
            last ∙ ap (λ n. take n c.if-row_count-len.tail.items) (sym m) ∙ ap (λ v. take (length front) v.items) t
                ∙ ap (take (length front)) (octets ∙ first ∙ ap (λ n. get_or c.args.rows.now.items n w.remove.result) (sym n)) ∙ f.1 w.remove.result,
          )
      | else-row_count-len w ↦
          let f = rows_before old front _ _ g (omega arith) in
          let r = w.rows-is in
          let t = w.tail-is in
          let cut = c.truncate-2.ensures.items in
          (ap (λ v. v.items) r ∙ f.0, cut ∙ ap (λ n. take n c.if-row_count-len.tail.items) (sym m) ∙ ap (λ v. take (length front) v.items) t ∙ f.1)
    ]
