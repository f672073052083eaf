use Rattle.std.proofs.Common.{◌≡◌, ℕ, ◌*◌, ◌<◌}
use Rattle.sha2.specs.Sha256.{hash_after, initial_hash_256}
use Rattle.oftp_digest.specs.Lanes.{lane, part}
use Rattle.oftp_digest.proofs.digests.digests_of_four.Given as goal

abbrev pub invariant-absorb : goal.invariant-absorb
invariant-absorb l = (j : ℕ) → j < 4 → lane l.state j ≡ hash_after initial_hash_256 (part l.octets (j * l.stride) l.count) l.i
