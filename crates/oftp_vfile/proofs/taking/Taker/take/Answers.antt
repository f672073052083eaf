use Rattle.std.proofs.Common.{inl, inr, ℕ, List, length, ◌<◌, sym, subst, arith, ap, ◌∙◌}
use Rattle.oftp_vfile.specs.declared.format.TheConstants.{BLOCK}
use Rattle.oftp_vfile.specs.VirtualFile.{is_stream}
use Rattle.oftp_vfile.proofs.TakingLemmas.{put_back}
use Rattle.oftp_vfile.proofs.CarriesLemmas.{took_walked, walked_same, no_first_fault}
use Rattle.oftp_vfile.proofs.ReadingLemmas.{walk_taken, fault_taken}
use Rattle.oftp_vfile.proofs.taking.Taker.take.Goals as goal

pub invariant_of-self : goal.invariant_of-self
invariant_of-self c =
    let e = c.in-Err.ensures.err in
    let now = c.back_to.new in
    let back = put_back _ _ _ _ _ _ now.rows.items now.tail.items c.len-row_count.result c.len-tail_len.result c.self.view_is c.self-2.view_is e.1 in
    let b = back c.self.invariant.0 c.back_to.ensures (omega arith) (omega arith) in
    let i = c.self.invariant in (
      λ e. subst (λ (x : List ℕ). length x < BLOCK) (sym b.2) (i.0 (ap is_stream (sym b.7) ∙ e)),
      omega (arith, b.3, b.5, i.1),
      omega (arith, b.3, i.2),
      omega (arith, b.4, b.6, i.3, ap length b.1),
    )

pub returns-in-Err-clause-err : goal.returns-in-Err-clause-err
returns-in-Err-clause-err c =
    let e = c.in-Err.ensures.err in
    let now = c.back_to.new in
    let back = put_back _ _ _ _ _ _ now.rows.items now.tail.items c.len-row_count.result c.len-tail_len.result c.self.view_is c.self-2.view_is e.1 in
    let b = back c.self.invariant.0 c.back_to.ensures (omega arith) (omega arith) in
    b.0

pub returns-in-Ok-clause-took : goal.returns-in-Ok-clause-took
returns-in-Ok-clause-took c = λ gone payloads k. took_walked _ _ gone payloads _ k c.in-Ok.ensures.ok

pub returns-in-Ok-clause-same_file : goal.returns-in-Ok-clause-same_file
returns-in-Ok-clause-same_file c = walked_same _ _ _ _ c.in-Ok.ensures.ok

pub returns-in-Err-clause-only : goal.returns-in-Err-clause-only
returns-in-Err-clause-only c = λ gone payloads k w.
    let e = c.in-Err.ensures.err in
    elim e.2 [
      | inl m ↦ m
      | inr f ↦ absurd (no_first_fault c.args.self.now gone payloads c.args.payload.now c.in-Err.fault k w
          (record { before = c.walk.new.self; rest = e.0; walked = e.1; faulty = f }))
    ]

pub returns-in-Err-clause-same_file : goal.returns-in-Err-clause-same_file
returns-in-Err-clause-same_file c =
    let w = walked_same _ _ _ _ c.in-Err.ensures.err.1 in
    let v = c.self-2.view_is in
    record {
      format = ap (λ x. x.format) v ∙ w.format;
      longest = ap (λ x. x.longest) v ∙ w.longest;
      limit = ap (λ x. x.limit) v ∙ w.limit;
      kept_rows = ap (λ x. x.kept_rows) v ∙ w.kept_rows;
      kept_units = ap (λ x. x.kept_units) v ∙ w.kept_units;
      away = ap (λ x. x.away) v ∙ w.away;
    }

pub returns-in-Ok-clause-value : goal.returns-in-Ok-clause-value
returns-in-Ok-clause-value c = walk_taken _ _ _ c.in-Ok.ensures.ok

pub returns-in-Err-clause-refused : goal.returns-in-Err-clause-refused
returns-in-Err-clause-refused c =
    let e = c.in-Err.ensures.err in
    elim e.2 [ inl m ↦ inl m | inr f ↦ inr (fault_taken c.args.self.now c.args.payload.now c.in-Err.fault (record { before = c.walk.new.self; rest = e.0; walked = e.1; faulty = f })) ]
