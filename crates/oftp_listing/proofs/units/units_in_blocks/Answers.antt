use Rattle.oftp_register.specs.LookUps.{file_rows}
use Rattle.oftp_listing.proofs.ListedUnits.{blocks_listed, looks_further}
use Rattle.oftp_listing.proofs.units.units_in_blocks.Goals as goal

pub returns : goal.returns
returns g c = record {
  looks = looks_further _ _ c.in_ok-last.last _ c.in_ok-last.ensures.looks (g.met.O.Office.sound c.args.office.now) (λ r sound told counted few.
      blocks_listed (file_rows r c.args.side c.args.no) c.args.rows _ _ _ _ _ c.saturating_sub-full.ensures told c.octets_of.ensures c.saturating_mul.ensures c.saturating_add.ensures counted few);
}
