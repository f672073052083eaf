use Rattle.std.proofs.Common.{◌+◌, ◌<◌, ◌≤◌, ◌∷◌, ◌++◌, cond, take, length, ap, sym, ◌∙◌, arith}
use Rattle.std.proofs.lemmas.List.{length-take-le}
use Rattle.std.proofs.lemmas.Bool.{true≢false}
use Rattle.oftp_vfile.specs.Packing.{rest_at}
use Rattle.oftp_vfile.proofs.PackingLemmas.{header_step, rest_some, false_row}
use Rattle.oftp_vfile.proofs.packing.put_from.Goals as goal
use Rattle.oftp_vfile.proofs.packing.put_from.Goals.{then-last, else-last}

pub returns-clause-written : goal.returns-clause-written
returns-clause-written c =
    let cur = rest_at c.args.rows.now c.args.from.row c.args.from.offset in
    let count = c.gather-count.result.0 in
    let le : count ≤ length cur = omega (arith, c.gather-count.ensures.count) in
    let room : c.args.at + 1 ≤ length c.args.out.now = omega arith in
    let new : count ≤ length c.gather-count.new.out = omega (arith, c.gather-count.ensures.count) in
    header_step c.args.out.now c.gather-count.new.out cur c.args.at count _ c.header_octet.result room new c.gather-count.ensures.octets
    ∙ ap (λ h. take c.args.at c.args.out.now ++ h ∷ take count cur) c.header_octet.ensures
    ∙ ap (λ n. take c.args.at c.args.out.now ++ cond c.if-last.ends (128 + n) n ∷ take count cur) (sym (length-take-le count cur le))

pub returns-clause-goes_on : goal.returns-clause-goes_on
returns-clause-goes_on c = λ e l.
    let row : c.gather-count.result.1.row < length c.args.rows.now =
    elim c.if-last.branch [ then-last w ↦ false_row _ _ (sym w.ends-is ∙ e) c.gather-count.ensures.row | else-last w ↦ absurd (true≢false (sym l ∙ w.if-last.false)) ] in
    rest_some c.args.rows.now c.gather-count.result.1.row c.gather-count.result.1.offset row c.requires.some c.gather-count.ensures.offset
