use Rattle.std.proofs.Common.{refl}
use Rattle.oftp_register.specs.Register.{Incoming}
use Rattle.oftp_register.specs.Soundness.{GoesOn, IfOpen}
use Rattle.oftp_register.proofs.FitLemmas.{fit_at, fit_nowhere}
use Rattle.oftp_register.proofs.plain.lists.Lists.may_keep.Goals as goal

pub returns-in-Some : goal.returns-in-Some
returns-in-Some c =
    let at = fit_at c.args.self.now (λ (f : Incoming). IfOpen f.state (GoesOn c.args.rows.now f)) c.args.no c.in-Some.place _ _ c.len.ensures c.in-Some.ensures c.index.ensures in
    (λ yes. at.1 (c.takes.ensures.0 yes), λ asked. c.takes.ensures.1 (at.0 asked))

pub returns-in-None : goal.returns-in-None
returns-in-None c = (λ _. fit_nowhere c.args.self.now (λ (f : Incoming). IfOpen f.state (GoesOn c.args.rows.now f)) c.args.no _ c.len.ensures c.in-None.ensures, λ _. refl)
