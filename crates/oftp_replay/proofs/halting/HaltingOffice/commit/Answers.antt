use Rattle.std.proofs.Common.{subst}
use Rattle.oftp_register.specs.Offices.{Counts}
use Rattle.oftp_replay.proofs.HaltingLemmas.{commits_behind}
use Rattle.oftp_replay.proofs.halting.HaltingOffice.commit.Goals as goal

pub returns : goal.returns
returns g c =
    let made = c.commit-made.result in
    record {
      commits = commits_behind _ _ _ _ _ _ made c.in-Ok.ensures.asks c.in-Ok.ensures.untold c.commit-made.ensures.commits
          (subst (λ n. Counts n c.count.new.faults made) c.in-Ok.ensures.faults c.count.ensures);
    }
