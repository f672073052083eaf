use Rattle.oftp_io.proofs.Sending.{sent_on, sent_fits}
use Rattle.oftp_io.proofs.port.Port.send.Goals as goal

pub loop-at-preserved : goal.loop-at-preserved
loop-at-preserved g c = record {
  within = sent_fits c.args.octets.now c.loop-at.at c.in-Some.n c.loop-at.invariant.within c.in-Some.ensures.fits;
  so_far = sent_on _ _ _ _ _ _ _ c.loop-at.invariant.so_far c.in-Some.ensures c.loop-at.invariant.within;
}
