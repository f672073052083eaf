use Rattle.std.proofs.Common.{arith}
use Rattle.oftp_listing.proofs.ListedUnits.{asked_all, asked_on, is_among, take_next}
use Rattle.oftp_listing.proofs.units.units_of_each.Goals as goal

pub loop-file-preserved : goal.loop-file-preserved
loop-file-preserved g c =
    let e = c.file-item.result in
    rw (take_next _ c.loop-file.file-index e c.loop-file-test.true c.file-item.is)
    (asked_on g.F.Measured.kind.entries g.F.Measured.kind.related _ _ _ _ _ _ c.push.new.self.items e c.in_ok-units.units c.loop-file.invariant
    (is_among _ c.loop-file.file-index e c.loop-file-test.true c.file-item.is) c.in_ok-units.ensures.looks c.in_ok-push.ensures.items)

pub returns : goal.returns
returns g c = record {
  asks = c.loop-file.invariant.asks;
  answer = λ k s whole. asked_all _ _ _ _ _ c.loop-file.file-index _ c.loop-file.invariant (omega arith) k s whole;
  counts = c.loop-file.invariant.untold;
}
