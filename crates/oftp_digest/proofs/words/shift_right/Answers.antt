use Rattle.std.proofs.Common.{◌/◌, ◌^◌}
use Rattle.oftp_digest.proofs.LaneLemmas.{lane_by_number}
use Rattle.oftp_digest.proofs.words.shift_right.Goals as goal

pub returns : goal.returns
returns c j h = lane_by_number (λ x n. x / 2 ^ n) c.args.x c.args.count j c.fits-x.0 h
