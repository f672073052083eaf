use Rattle.oftp_session.specs.Settings.{setting_of}
use Rattle.oftp_session.specs.Speaker.{speaks}
use Rattle.oftp_session.proofs.Recalling.{so_after, speaks_stays}
use Rattle.oftp_session.proofs.Speaking.{speaks_takes}
use Rattle.oftp_session.proofs.speaker.speak.Goals as goal

pub returns-clause-takes : goal.returns-clause-takes
returns-clause-takes g c = λ clean stands so.
    let view = g.O.Office.view in
    let found = c.in_ok-item.ensures.finds (c.on_item.ensures.clean clean) stands so in
    speaks_takes (setting_of c.args.setting) c.args.contact c.args.done c.in_ok-item.item (view c.args.office.now) (view c.next.new.self) (view c.on_item.new.office) c.on_item.new.frame
    c.on_item.result found.0 found.1 (c.on_item.ensures.takes clean found.1.stands)

pub returns-clause-recalls : goal.returns-clause-recalls
returns-clause-recalls g c = λ clean stands so.
    let view = g.O.Office.view in
    let setting = setting_of c.args.setting in
    let old = view c.args.office.now in
    let before = c.on_item.ensures.clean clean in
    let found = c.in_ok-item.ensures.finds before stands so in
    so_after (speaks setting c.args.contact c.args.done old.register) c.args.contact c.next.new.response_due old (view c.on_item.new.office) c.on_item.new.frame c.on_item.result
    (speaks_stays setting c.args.contact c.args.done old.register) (c.in_ok-item.ensures.recalls before stands so)
    (speaks_takes setting c.args.contact c.args.done c.in_ok-item.item old (view c.next.new.self) (view c.on_item.new.office) c.on_item.new.frame
    c.on_item.result found.0 found.1 (c.on_item.ensures.takes clean found.1.stands))
