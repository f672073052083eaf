use Rattle.std.proofs.Common.{slice_set, sym, ap, ◌∙◌, arith}
use Rattle.std.proofs.lemmas.List.Edits.{map_over_more}
use Rattle.oftp_status.specs.Tallies.{counted}
use Rattle.oftp_status.proofs.tally.add_each.Goals as goal

pub loop-tally-preserved : goal.loop-tally-preserved
loop-tally-preserved c =
    let one = counted c.args.subject.now c.args.at in
    ap (λ t. slice_set c.loop-tally.tallies c.loop-tally.tally-index t) (c.add_if.ensures ∙ ap one (sym c.tally-item.is))
    ∙ map_over_more one _ _ _ c.tally-item.result (omega (arith, c.loop-tally-test.true)) c.loop-tally.invariant c.tally-item.is
