use Rattle.std.proofs.Common.{length}
use Rattle.oftp_evidence.proofs.folder.+add_each_session.Given as goal

-- fewer sessions are left
abbrev pub decreases-add_each_session : goal.decreases-add_each_session
decreases-add_each_session l = length l.sessions.now
