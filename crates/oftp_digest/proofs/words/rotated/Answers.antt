use Rattle.std.proofs.Common.{◌≡◌, ◌-◌, ◌%◌, arith, refl}
use Rattle.oftp_digest.proofs.words.rotated.Goals as goal

pub returns : goal.returns
returns c j h =
    let right : c.args.count % 32 ≡ c.args.count = omega arith in
    let left : (32 - c.args.count) % 32 ≡ 32 - c.args.count = omega arith in
    rw (c.or.ensures j h, c.shift_right.ensures j h, c.shift_left.ensures j h, right, left) refl
