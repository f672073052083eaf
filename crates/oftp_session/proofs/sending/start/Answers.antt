use Rattle.std.proofs.Common.{◌≤◌, refl, ap, ℕ, subst}
use Rattle.oftp_session.specs.declared.sending.OutgoingOffer.{OutgoingOffer}
use Rattle.oftp_session.proofs.Replying.{start_ok}
use Rattle.oftp_session.proofs.sending.start.Goals as goal

pub returns-clause-takes : goal.returns-clause-takes
returns-clause-takes g c = λ clean stands offer holds is.
    let within : c.args.from ≤ offer.from = subst (λ (n : ℕ). c.args.from ≤ n) (ap (λ (x : OutgoingOffer). x.from) is) c.if-from-offered.false in
    start_ok c.args.contact offer c.args.from c.accepted-outgoing.result _ _ _ within c.clear.ensures
    (c.in_ok-reopen.ensures.does clean stands offer holds is) (c.accepted-outgoing.ensures c.args.contact offer refl is)
