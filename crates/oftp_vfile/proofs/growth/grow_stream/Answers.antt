use Rattle.std.proofs.Common.{arith, ap, ◌∙◌, refl, ◌+◌, ◌++◌, ◌∷◌, [], length, ◌≡◌, ◌-◌}
use Rattle.oftp_vfile.specs.declared.format.TheConstants.{BLOCK}
use Rattle.oftp_vfile.proofs.GrowthLemmas.{at_error, goes_on_same, goes_on_closed, filled_block, rest_of_block}
use Rattle.oftp_vfile.proofs.growth.grow_stream.Goals as goal

pub returns-in_err-append-clause-err : goal.returns-in_err-append-clause-err
returns-in_err-append-clause-err c = at_error _ (goes_on_same _ _ _ _ refl c.in_err-append.ensures.err)

pub returns-in_err-append-2-clause-err : goal.returns-in_err-append-2-clause-err
returns-in_err-append-2-clause-err c = at_error _ (goes_on_same _ _ _ _ refl c.in_err-append-2.ensures.err)

pub returns-in_err-append-3-clause-err : goal.returns-in_err-append-3-clause-err
returns-in_err-append-3-clause-err c =
    at_error _ (goes_on_closed _ _ _ _ c.split_at.result.0.now (c.in_ok-close.ensures.rows ∙ ap (λ x. c.args.rows.now.items ++ x ∷ []) c.in_ok-append-2.ensures.ok))

pub returns-clause-filled : goal.returns-clause-filled
returns-clause-filled c = λ h.
    let tail = c.args.tail.now.items in
    let part = c.args.part.now in
    let room = BLOCK - length tail in
    let e : length tail + room ≡ BLOCK = omega arith in
    let e1 = filled_block tail part room e in
    let e2 = rest_of_block tail part room e in
    let same : BLOCK - c.len-room.result ≡ room = omega arith in
    let front = c.split_at.ensures.front in
    let back = c.split_at.ensures.back in
    let rows' = c.in_ok-close.ensures.rows in
    let tail' = c.in_ok-append-2.ensures.ok in
    let cleared = c.in_ok-close.ensures.tail in
    let after = c.in_ok-append-3.ensures.ok in
    (cc, after ∙ ap (λ x. x ++ c.split_at.result.1.now) cleared ∙ cc)
