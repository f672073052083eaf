use Rattle.std.proofs.Common.{◌∙◌, ◌-◌, drop, length, refl, sym, take}
use Rattle.oftp_filters.specs.Patterns.{matches}
use Rattle.oftp_filters.proofs.EndingLemmas.{behind_shorter, ending_found, ending_missed, last_ending, matches-any}
use Rattle.oftp_filters.proofs.pattern.+matches.Goals as goal

pub loop-ending-init : goal.loop-ending-init
loop-ending-init t c = refl

pub returns-then-matches : goal.returns-then-matches
returns-then-matches t c =
    sym (matches-any c.args.pattern.now c.args.text.now c.in-len1-up.len_at_least c.if-sign-eq-ANY.true ∙ c.loop-ending.invariant
    ∙ ending_found (matches (take (length c.args.pattern.now - 1) (drop 1 c.args.pattern.now))) c.loop-ending.ending.now (sym c.matches.ensures ∙ c.if-matches.true))

pub loop-ending-smaller : goal.loop-ending-smaller
loop-ending-smaller t c = behind_shorter c.loop-ending.ending.now c.in-len1-up-ending.len_at_least

pub loop-ending-preserved : goal.loop-ending-preserved
loop-ending-preserved t c =
    let has = matches (take (length c.args.pattern.now - 1) (drop 1 c.args.pattern.now)) in
    c.loop-ending.invariant
    ∙ ending_missed has c.loop-ending.ending.now c.in-len1-up-ending.len_at_least (sym c.matches.ensures ∙ c.if-matches.false)

pub returns-then-sign-eq-ANY : goal.returns-then-sign-eq-ANY
returns-then-sign-eq-ANY t c =
    c.matches-then-sign-eq-ANY.ensures
    ∙ sym (matches-any c.args.pattern.now c.args.text.now c.in-len1-up.len_at_least c.if-sign-eq-ANY.true ∙ c.loop-ending.invariant
    ∙ last_ending (matches (take (length c.args.pattern.now - 1) (drop 1 c.args.pattern.now))) c.loop-ending.ending.now c.in_default-ending.len_below)
