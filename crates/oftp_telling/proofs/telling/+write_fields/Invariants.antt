use Rattle.std.proofs.Common.{length}
use Rattle.oftp_telling.proofs.telling.+write_fields.Given as goal

-- fewer fields are left
abbrev pub decreases-write_fields : goal.decreases-write_fields
decreases-write_fields g l = length l.fields.now
