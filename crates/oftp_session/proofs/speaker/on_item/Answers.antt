use Rattle.std.proofs.Common.{◌≡◌, ◌∙◌, Option, Some, subst, sym}
use Rattle.oftp_register.specs.declared.entries.Item.{Item}
use Rattle.oftp_register.specs.declared.entries.Item.TheVariants as item
use Rattle.oftp_session.specs.Settings.{setting_of}
use Rattle.oftp_session.specs.Speaker.{on_item}
use Rattle.oftp_session.specs.Inside.{Takes}
use Rattle.oftp_session.proofs.Speaking.{file_takes}
use Rattle.oftp_session.proofs.speaker.on_item.Goals as goal

pub returns-in-Some-File-clause-takes : goal.returns-in-Some-File-clause-takes
returns-in-Some-File-clause-takes g c = λ clean stands next.
    let old = g.O.Office.view c.args.office.now in
    let new = g.O.Office.view c.offer.new.office in
    let contact = c.args.contact in
    let is : c.args.item ≡ Some (item.File c.in-Some-File.entry) = cc (c.in-Some-File.is, c.in-Some-File.field-0-is) in
    let sound = g.met.O.Office.sound c.args.office.now (c.offer.ensures.clean clean) stands in
    let takes = rw c.in-Some-File.entry-is at (c.offer.ensures.takes clean stands) in
    subst (λ (found : Option Item). Takes (on_item (setting_of c.args.setting) contact c.args.done old.register found) old new c.offer.new.frame c.offer.result) (sym is)
    (file_takes (setting_of c.args.setting) contact c.args.done c.in-Some-File.entry old new c.offer.new.frame c.offer.result sound (sym is ∙ next) takes)
