use Rattle.std.proofs.Common.{◌^◌, ◌*◌, ◌-◌, ◌∙◌, ap, min}
use Rattle.oftp_listing.proofs.ListedUnits.{looks_at_nothing, looks_weaker, records_listed, stream_listed}
use Rattle.oftp_listing.proofs.units.units_of_file.Goals as goal

pub returns-in-Fixed : goal.returns-in-Fixed
returns-in-Fixed g c = record {
  looks = looks_at_nothing (g.O.Office.view c.args.office.now) _ (g.met.O.Office.alone c.args.office.now) (λ k s listed.
      records_listed _ c.args.side c.args.no c.args.longest c.args.rows _ (g.met.O.Office.sound c.args.office.now k s) (rw c.in-Fixed.is at listed)
      (c.saturating_mul.ensures ∙ ap (λ m. min (c.args.rows * m) (2 ^ 64 - 1)) c.from.ensures));
}

pub returns-in-Unstructured : goal.returns-in-Unstructured
returns-in-Unstructured g c = record {
  looks = looks_weaker _ _ _ c.units_in_blocks.ensures.looks (g.met.O.Office.sound c.args.office.now) (λ r units sound told listed.
      stream_listed r c.args.side c.args.no c.args.longest c.args.rows units c.args.format c.in-Unstructured.is sound listed told);
}
