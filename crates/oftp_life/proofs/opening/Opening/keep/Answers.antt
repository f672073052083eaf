use Rattle.std.proofs.Common.{◌∙◌, ap, ◌++◌, Ok}
use Rattle.oftp_engine.specs.declared.serving.Admission.TheVariants.{LetIn}
use Rattle.oftp_life.specs.Openings.{OpeningData}
use Rattle.oftp_life.proofs.Openings.{opening_as, opening_at, opening_kept}
use Rattle.oftp_life.proofs.opening.Opening.keep.Goals as goal

pub invariant_of-self-2 : goal.invariant_of-self-2
invariant_of-self-2 c =
    let i = c.self.inside in
    let book = i.book.now in
    let more = c.args.octets.now in
    let all = i.heard.octets ++ more in
    let is = ap (λ (t : OpeningData). t.stage) c.self.view_is ∙ c.requires in
    opening_as book all c.take.new.heard.octets i.out c.take.new.conversation (Ok LetIn) i.stage c.in_ok-take.ensures.noted is
    (opening_kept book i.heard.octets more i.out i.conversation c.take.new.conversation
    (opening_at book i.heard.octets i.out i.conversation i.stage LetIn is c.self.invariant) c.in_ok-take.ensures.more)

pub returns-clause-verdict : goal.returns-clause-verdict
returns-clause-verdict c =
    let i = c.self.inside in
    let is = ap (λ (t : OpeningData). t.stage) c.self.view_is ∙ c.requires in
    (opening_at i.book.now c.take.new.heard.octets i.out c.take.new.conversation i.stage LetIn is (invariant_of-self-2 c)).judged.verdict
