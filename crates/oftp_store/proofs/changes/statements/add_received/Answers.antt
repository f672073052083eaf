use Rattle.oftp_tables.proofs.PerformLemmas.{performs_as, performs_then, performs_whatever}
use Rattle.oftp_store.proofs.ReceivedEditLemmas.{makes_end, makes_negative}
use Rattle.oftp_store.proofs.changes.statements.add_received.Goals as goal

pub returns-in-EndResponse-clause-performs : goal.returns-in-EndResponse-clause-performs
returns-in-EndResponse-clause-performs g c =
    performs_whatever g.S.Store _ _ _ _ tt
    (performs_as g.S.Store _ _ _ _ _ (λ x y. makes_end c.args.no c.args.response c.in-EndResponse.is x y) c.in_ok-add_noteless.ensures.performs)

pub returns-in-NegativeEndResponse-clause-performs : goal.returns-in-NegativeEndResponse-clause-performs
returns-in-NegativeEndResponse-clause-performs g c =
    performs_then g.S.Store _ _ _ _ _ _ _ _ (λ x y z. makes_negative c.args.no c.args.response c.in-NegativeEndResponse.is x y z)
    c.in_ok-add_noteless.ensures.performs c.add_note.ensures.performs
