use Rattle.std.proofs.Common.{◌≡◌, take}
use Rattle.std.specs.List.{fold}
use Rattle.oftp_conformance.specs.Walks.{anew, walked}
use Rattle.oftp_conformance.proofs.walk.walk_over.Given as goal

-- the octets so far are walked over
abbrev pub invariant-loop-octet : goal.invariant-loop-octet
invariant-loop-octet l = l.walk ≡ fold walked (anew l.fn.before) (take l.octet-index l.payload)
