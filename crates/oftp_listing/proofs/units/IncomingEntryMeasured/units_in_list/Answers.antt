use Rattle.oftp_listing.proofs.ListedUnits.{incoming_listed, looks_weaker}
use Rattle.oftp_listing.proofs.units.IncomingEntryMeasured.units_in_list.Goals as goal

pub returns : goal.returns
returns g c = record {
  looks = looks_weaker _ _ _ c.units_of_file.ensures.looks (g.met.O.Office.sound c.args.office.now) (λ r units sound told among. told (incoming_listed r c.args.self.now among));
}
