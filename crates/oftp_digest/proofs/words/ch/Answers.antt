use Rattle.oftp_digest.proofs.BitLemmas.{ch_short}
use Rattle.oftp_digest.proofs.LaneLemmas.{lane_fits}
use Rattle.oftp_digest.proofs.words.ch.Goals as goal

pub returns : goal.returns
returns c j h =
    rw (c.xor-2.ensures j h, c.and.ensures j h, c.xor.ensures j h)
    (ch_short _ _ _ (lane_fits c.args.x j h c.fits-x) (lane_fits c.args.y j h c.fits-y) (lane_fits c.args.z j h c.fits-z))
