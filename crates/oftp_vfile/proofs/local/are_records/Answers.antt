use Rattle.oftp_vfile.proofs.LocalLemmas.{goes_on, goes_end, goes_wrong, some_left, none_left}
use Rattle.oftp_vfile.proofs.local.are_records.Goals as goal

pub returns-in_default-clause-no : goal.returns-in_default-clause-no
returns-in_default-clause-no c =
    λ rows i. absurd (goes_wrong c.args.longest c.args.content.now c.loop-rest.rest.now c.loop-rest.invariant (some_left _ _ c.is_empty.ensures c.loop-rest-test.true) c.in_default.ensures.none rows i)

pub loop-rest-preserved : goal.loop-rest-preserved
loop-rest-preserved c = goes_on c.args.longest c.args.content.now c.loop-rest.rest.now c.in-Some.field-0-0.now c.in-Some.behind.now c.requires c.loop-rest.invariant c.in-Some.ensures.found

pub returns-clause-yes : goal.returns-clause-yes
returns-clause-yes c = λ _. goes_end c.args.longest c.args.content.now c.loop-rest.rest.now c.loop-rest.invariant (none_left _ _ c.is_empty.ensures c.loop-rest-test.false)
