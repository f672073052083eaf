use Rattle.std.proofs.Common.{length}
use Rattle.oftp_evidence.proofs.facts.+add_facts.Given as goal

-- fewer facts are left
abbrev pub decreases-add_facts : goal.decreases-add_facts
decreases-add_facts l = length l.facts.now
