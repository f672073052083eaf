use Rattle.std.proofs.Common.{length}
use Rattle.oftp_conformance.proofs.hearing.+place_named.Given as goal

-- fewer fields are left
abbrev pub decreases-place_named : goal.decreases-place_named
decreases-place_named l = length l.fields.now
