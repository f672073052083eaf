use Rattle.std.proofs.Common.{◌/◌, ◌^◌, slice_index, bit_xor, ap, arith}
use Rattle.oftp_digest.proofs.LaneLemmas.{lane_fits}
use Rattle.oftp_digest.proofs.RotationLemmas.{nested_two}
use Rattle.oftp_digest.proofs.words.small_sigma1.Goals as goal

pub returns : goal.returns
returns c j h =
    let x = slice_index c.args.x j in
    rw (c.xor-2.ensures j h, c.shift_right.ensures j h, c.rotated-2.ensures j h, c.xor.ensures j h, c.rotated.ensures j h)
    (ap (λ y. bit_xor y (x / 2 ^ 10)) (nested_two x 17 2 (lane_fits c.args.x j h c.fits-x) (omega arith) (omega arith) (omega arith)))
