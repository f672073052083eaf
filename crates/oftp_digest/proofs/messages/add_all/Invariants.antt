use Rattle.std.proofs.Common.{ℕ, List, ◌++◌, take}
use Rattle.std.specs.List.{flat_map}
use Rattle.sha2.specs.Hashers.{Holds256}
use Rattle.oftp_digest.proofs.messages.add_all.Given as goal

-- the digests so far were added
abbrev pub invariant-each : goal.invariant-each
invariant-each l = (held : List ℕ) → Holds256 l.fn.hasher held → Holds256 l.hasher (held ++ flat_map (λ digest. digest) (take l.digest-index l.digests))
