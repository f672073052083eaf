use Rattle.std.proofs.Common.{◌≡◌, ℕ, ◌+◌, ◌*◌, ◌<◌, refl, sym, ap, slice_index, ◌∙◌, arith}
use Rattle.sha2.specs.Sha256.{add_state, compress, rounds, word_at}
use Rattle.sha2.proofs.Schedule256.{IsRoundsAt_at, IsWindow_first}
use Rattle.oftp_digest.specs.Lanes.{lane, part, ring}
use Rattle.oftp_digest.proofs.LaneLemmas.{slice_index-ring, word_at-part}
use Rattle.oftp_digest.proofs.rounds.compress.Goals as goal

pub schedule-init : goal.schedule-init
unfolding rounds
schedule-init c j low =
    let b = part c.args.octets.now (j * c.args.stride + c.args.at) 64 in
    let h = lane c.args.state.now j in
    let words : (k : ℕ) → k < 16 → slice_index (ring c.load.w j) k ≡ word_at b (4 * k) = λ k below.
    slice_index-ring c.load.w j k below ∙ c.load.invariant.1 j k low (omega arith)
    ∙ ap (word_at c.args.octets.now) (omega arith)
    ∙ sym (word_at-part c.args.octets.now (j * c.args.stride + c.args.at) (4 * k) (omega arith)) in
    let window = IsWindow_first b (ring c.load.w j) refl words in
    let s1 = c.first_four_steps-v.ensures j b h low window refl in
    let s2 = c.first_four_steps-v-2.ensures j b h low window s1 in
    let s3 = c.first_four_steps-v-3.ensures j b h low window s2 in
    (window, c.first_four_steps-v-4.ensures j b h low window s3)

pub schedule-preserved : goal.schedule-preserved
schedule-preserved c j low =
    let b = part c.args.octets.now (j * c.args.stride + c.args.at) 64 in
    let h = lane c.args.state.now j in
    let turn = 16 * c.schedule.turn in
    let held = c.schedule.invariant j low in
    let s1 = c.four_steps-v.ensures j b h low (IsRoundsAt_at b h (ring c.schedule.w j) (lane c.schedule.v j) turn (turn + 0) (omega arith) held) in
    let s2 = c.four_steps-v-in-schedule.ensures j b h low s1 in
    let s3 = c.four_steps-v-in-schedule-2.ensures j b h low s2 in
    let s4 = c.four_steps-v-in-schedule-3.ensures j b h low s3 in
    IsRoundsAt_at b h (ring c.four_steps-v-in-schedule-3.new.w j) (lane c.four_steps-v-in-schedule-3.result j) (turn + 16) _ (omega arith) s4

pub returns : goal.returns
unfolding compress
returns c j low =
    let done : 16 * c.schedule.turn ≡ 64 = omega (arith, c.schedule.auto.turn-end (omega arith)) in
    c.sum.ensures j low ∙ ap (add_state (lane c.args.state.now j)) (rw done at (c.schedule.invariant j low).1)
