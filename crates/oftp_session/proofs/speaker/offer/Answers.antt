use Rattle.oftp_session.proofs.Speaking.{offer_ok}
use Rattle.oftp_session.proofs.speaker.offer.Goals as goal

pub returns-clause-takes : goal.returns-clause-takes
returns-clause-takes g c = λ clean stands done file is entry.
    let found = c.in_ok-units.ensures.finds clean stands in
    offer_ok c.args.contact done c.args.entry.now file c.in_ok-units.units c.offered_from-from.result c.sfid.result c.outgoing_offer.result _ _ _ is entry
    found.0 found.1 c.offered_from-from.ensures (c.sfid.ensures.value file) c.set_command.ensures c.outgoing_offer.ensures
