use Rattle.std.proofs.Common.{length}
use Rattle.oftp_filters.proofs.rows.+is_before.Given as goal

-- proposed from what the function passes where it calls itself
abbrev pub decreases-is_before : goal.decreases-is_before
decreases-is_before l = length l.text.now
