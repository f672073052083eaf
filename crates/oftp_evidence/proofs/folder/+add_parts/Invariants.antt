use Rattle.std.proofs.Common.{length}
use Rattle.oftp_evidence.proofs.folder.+add_parts.Given as goal

-- fewer parts are left
abbrev pub decreases-add_parts : goal.decreases-add_parts
decreases-add_parts l = length l.parts.now
