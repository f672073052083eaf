use Rattle.std.proofs.Common.{◌+◌, ◌*◌, arith}
use Rattle.sha2.proofs.Schedule256.{IsRoundsAt_at}
use Rattle.oftp_digest.specs.Lanes.{lane, ring}
use Rattle.oftp_digest.proofs.rounds.four_steps.Goals as goal

pub returns : goal.returns
returns c j b h low held =
    let turn = 16 * c.args.turn in
    let at = c.args.place in
    let s1 = c.step-v.ensures j b h low held in
    let s2 = c.step-v-2.ensures j b h low s1 in
    let w2 = ring c.step-v-2.new.w j in
    let s3 = c.step-v-3.ensures j b h low (IsRoundsAt_at b h w2 (lane c.step-v-2.result j) (turn + (at + 1 + 1)) (turn + (at + 2)) (omega arith) s2) in
    let w3 = ring c.step-v-3.new.w j in
    let s4 = c.step.ensures j b h low (IsRoundsAt_at b h w3 (lane c.step-v-3.result j) (turn + (at + 2 + 1)) (turn + (at + 3)) (omega arith) s3) in
    IsRoundsAt_at b h (ring c.step.new.w j) (lane c.step.result j) (turn + (at + 3 + 1)) (turn + (at + 4)) (omega arith) s4
