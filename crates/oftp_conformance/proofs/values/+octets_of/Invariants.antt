use Rattle.std.proofs.Common.{length}
use Rattle.oftp_conformance.proofs.values.+octets_of.Given as goal

-- fewer fields are left
abbrev pub decreases-octets_of : goal.decreases-octets_of
decreases-octets_of l = length l.fields.now
