use Rattle.std.proofs.Common.{length}
use Rattle.oftp_conformance.proofs.findings.+add_fields.Given as goal

-- fewer fields are left
abbrev pub decreases-add_fields : goal.decreases-add_fields
decreases-add_fields l = length l.fields.now
