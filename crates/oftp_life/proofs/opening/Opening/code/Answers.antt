use Rattle.std.proofs.Common.{◌≡◌, ◌∙◌, Ok, Some, subst}
use Rattle.std.specs.Option.{option_map}
use Rattle.oftp_engine.specs.Openings.{IsAccepted}
use Rattle.oftp_engine.specs.declared.serving.Admission.TheVariants.{LetIn}
use Rattle.oftp_life.specs.Openings.{OpeningData}
use Rattle.oftp_life.proofs.Openings.{code_accepted, opening_at}
use Rattle.oftp_life.proofs.opening.Opening.code.Goals as goal

pub returns-clause-let_in : goal.returns-clause-let_in
returns-clause-let_in c =
    let i = c.self.inside in
    subst (λ (t : OpeningData). t.stage ≡ Ok LetIn → (a : IsAccepted t.book t.heard) → option_map (λ name. name.now) c.code.result ≡ Some a.agreement.partner.code) c.self.view_is
    (λ is a. c.code.ensures
    ∙ code_accepted i.book.now i.heard.octets i.out i.conversation (opening_at i.book.now i.heard.octets i.out i.conversation i.stage LetIn is c.self.invariant) a)
