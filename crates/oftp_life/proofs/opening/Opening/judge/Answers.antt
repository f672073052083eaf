use Rattle.std.proofs.Common.{◌∙◌, ap, refl, ◌++◌}
use Rattle.oftp_engine.specs.declared.serving.Admission.TheVariants.{Undecided}
use Rattle.oftp_life.specs.Openings.{OpeningData}
use Rattle.oftp_life.proofs.Openings.{opening_as, opening_at, opening_judged, opening_verdict}
use Rattle.oftp_life.proofs.opening.Opening.judge.Goals as goal

pub invariant_of-self-2 : goal.invariant_of-self-2
invariant_of-self-2 c =
    let i = c.self.inside in
    let book = i.book.now in
    let more = c.args.octets.now in
    let went = c.judge-self-inside in
    let is = ap (λ (t : OpeningData). t.stage) c.self.view_is ∙ c.requires in
    opening_as book (i.heard.octets ++ more) c.take.new.heard.octets went.new.writer went.new.self went.result went.result c.in_ok-take.ensures.noted refl
    (opening_judged book i.heard.octets more i.out went.new.writer i.conversation c.take.new.conversation went.new.self went.result
    (opening_at book i.heard.octets i.out i.conversation i.stage Undecided is c.self.invariant) c.in_ok-take.ensures.more went.ensures.judges)

pub returns-clause-verdict : goal.returns-clause-verdict
returns-clause-verdict c =
    let went = c.judge-self-inside in
    opening_verdict c.self.inside.book.now c.take.new.heard.octets went.new.writer went.new.self went.result (invariant_of-self-2 c)
