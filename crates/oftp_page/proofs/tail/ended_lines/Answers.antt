use Rattle.std.proofs.Common.{◌∙◌, arith, sym}
use Rattle.oftp_page.proofs.TailLemmas.{last_ends, last_is_cut}
use Rattle.oftp_page.proofs.tail.ended_lines.Goals as goal

pub returns-then-text-count-eq-LINE_FEED : goal.returns-then-text-count-eq-LINE_FEED
returns-then-text-count-eq-LINE_FEED c =
    sym (last_ends c.args.text.now c.loop-count.count c.loop-count-test.true c.loop-count.invariant.0 c.if-text-count-eq-LINE_FEED.true)
    ∙ c.loop-count.invariant.1

pub loop-count-preserved : goal.loop-count-preserved
loop-count-preserved c = (
  omega (arith, c.loop-count.invariant.0),
  sym (last_is_cut c.args.text.now c.loop-count.count c.loop-count-test.true c.loop-count.invariant.0 c.if-text-count-eq-LINE_FEED.false)
      ∙ c.loop-count.invariant.1,
)
