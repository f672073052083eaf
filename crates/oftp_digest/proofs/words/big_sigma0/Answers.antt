use Rattle.std.proofs.Common.{slice_index, arith}
use Rattle.oftp_digest.proofs.LaneLemmas.{lane_fits}
use Rattle.oftp_digest.proofs.RotationLemmas.{nested_three}
use Rattle.oftp_digest.proofs.words.big_sigma0.Goals as goal

pub returns : goal.returns
returns c j h =
    rw (c.rotated-3.ensures j h, c.xor-2.ensures j h, c.rotated-2.ensures j h, c.xor.ensures j h, c.rotated.ensures j h)
    (nested_three (slice_index c.args.x j) 2 11 9 (lane_fits c.args.x j h c.fits-x) (omega arith) (omega arith) (omega arith) (omega arith))
