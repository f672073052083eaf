-- The number that digits stand for fits into 64 bits.
use Rattle.std.proofs.Common.{ℕ, ◌+◌, ◌*◌, ◌^◌, ◌<◌, ◌≤◌, arith}
use Rattle.std.proofs.Math.Nat.{pow-le-pow_right}

-- a further digit has room in 64 bits
pub room : (n i : ℕ) → n < 10 ^ i → i ≤ 18 → n * 10 + 9 < 2 ^ 64
room n i h le = let p : 10 ^ i ≤ 10 ^ 18 = pow-le-pow_right (omega arith) le in omega arith
