use Rattle.oftp_session.proofs.Offers.{begin_starts, change_is, start_made}
use Rattle.oftp_session.proofs.listener.AnyListenerPart.begin.Goals as goal

pub returns-clause-starts : goal.returns-clause-starts
returns-clause-starts g c = λ clean stands may.
    let view = g.O.Office.view in
    let before = c.find_incoming.ensures.clean clean in
    let sfid = c.args.sfid.now in
    let change = change_is sfid c.args.count c.identity_of.result c.format_of.result c.longest_of.result c.again.result
    c.identity_of.ensures c.format_of.ensures c.longest_of.ensures.value c.again.ensures in
    let made = start_made sfid c.args.count _ (view c.args.self.now) (view c.make.new.office) change may (c.in_ok-make.ensures.does before stands) in
    begin_starts c.args.link.now sfid c.args.count c.identity_of-2.result (view c.args.self.now) (view c.make.new.office) (view c.find_incoming.new.office)
    c.find_incoming.result c.identity_of-2.ensures may made (c.find_incoming.ensures.finds clean made.stands) c.find_incoming.ensures.err
