use Rattle.std.proofs.Common.{◌≡◌, ℕ, ◌+◌, ◌*◌, ◌<◌, length}
use Rattle.sha2.specs.Sha256.{IsRoundsAt, word_at}
use Rattle.oftp_digest.specs.Lanes.{lane, lane_at, part, ring}
use Rattle.oftp_digest.proofs.rounds.compress.Given as goal

abbrev pub invariant-load : goal.invariant-load
invariant-load l = (length l.w ≡ 16) × ((j k : ℕ) → j < 4 → k < l.i → lane_at l.w k j ≡ word_at l.octets (j * l.stride + (l.at + 4 * k)))

abbrev pub invariant-schedule : goal.invariant-schedule
invariant-schedule l = (j : ℕ) → j < 4
    → IsRoundsAt (part l.octets (j * l.stride + l.at) 64) (lane l.state j) (ring l.w j) (lane l.v j) (16 * l.turn)
