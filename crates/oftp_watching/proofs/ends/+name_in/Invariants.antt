use Rattle.std.proofs.Common.{length}
use Rattle.oftp_watching.proofs.ends.+name_in.Given as goal

-- proposed from what the function passes where it calls itself
abbrev pub decreases-name_in : goal.decreases-name_in
decreases-name_in l = length l.path.now
