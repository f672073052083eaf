use Rattle.std.proofs.Common.{ℕ, ◌+◌, ◌-◌, List, refl, sym, subst, arith}
use Rattle.std.proofs.lemmas.List.{take_rest}
use Rattle.oftp_channel.proofs.LackingLemmas.{Walked, lacks, walked_more, walked_none, word_too_long}
use Rattle.oftp_channel.proofs.coming.lacking.Goals as goal

pub words-init : goal.words-init
words-init c =
    let e = c.begun_at-head.ensures in
    record {
      within = omega arith;
      walked = walked_none c.args.heard.now c.begun_at-head.result.behind.now c.begun_at-head.result.least c.begun_at-head.result.missing
          (record { padded = e.padded; least = e.least; ended = e.ended }) e.missing;
    }

pub returns-then-length-left-clause-refused : goal.returns-then-length-left-clause-refused
returns-then-length-left-clause-refused c =
    let e = c.begun_at-begun.ensures in (
      refl,
      word_too_long c.args.heard.now c.words.rest.now c.begun_at-begun.result.behind.now c.begun_at-head.result.least c.words.done c.words.left c.words.lacking
          c.begun_at-begun.result.least c.begun_at-begun.result.missing c.words.invariant.walked
          (record { padded = e.padded; least = e.least; ended = e.ended }) c.begun_at-head.ensures.small c.words-test.true c.if-length-left.true,
    )

pub overflow_add-lacking-in-words : goal.overflow_add-lacking-in-words
overflow_add-lacking-in-words c =
    let e = c.begun_at-begun.ensures in
    omega (arith, c.words.invariant.walked.few, c.words.invariant.within, e.missing, e.small, c.if-count-gt-MOST_WORDS.false, c.begun_at-head.ensures.small)

pub words-preserved : goal.words-preserved
words-preserved c =
    let e = c.begun_at-begun.ensures in
    let behind = c.begun_at-begun.result.behind.now in
    record {
      within = omega arith;
      walked = subst (λ (z : List ℕ). Walked c.args.heard.now z c.begun_at-head.result.least (c.words.done + 1) (c.words.left - c.begun_at-begun.result.least)
          (c.words.lacking + (c.begun_at-begun.result.missing + (c.begun_at-begun.result.least - c.min-came.result)))) (sym (take_rest behind c.min-came.result))
          (walked_more c.args.heard.now c.words.rest.now behind c.begun_at-head.result.least c.words.done c.words.left c.words.lacking c.begun_at-begun.result.least
          c.begun_at-begun.result.missing c.words.invariant.walked (record { padded = e.padded; least = e.least; ended = e.ended })
          c.begun_at-head.ensures.small c.words-test.true c.min-came.result c.min-came.ensures (omega (arith, c.if-length-left.false)) e.missing);
    }

pub returns-clause-lacks : goal.returns-clause-lacks
returns-clause-lacks c = lacks c.args.heard.now c.words.rest.now c.begun_at-head.result.least c.words.left c.words.lacking
    (subst (λ (k : ℕ). Walked c.args.heard.now c.words.rest.now c.begun_at-head.result.least k c.words.left c.words.lacking) (omega (arith, c.words.invariant.within, c.words-test.false))
    c.words.invariant.walked) (omega (arith, c.if-count-gt-MOST_WORDS.false))
