use Rattle.oftp_store.proofs.OfficeLemmas.{commits, settled_alone}
use Rattle.oftp_store.proofs.office.law.SqlOfficeOffice.commit.Goals as goal

pub returns-clause-commits : goal.returns-clause-commits
returns-clause-commits g c =
    rw c.counted.ensures.same
    (commits _ _ _ _ _ _ c.commit_change-made.result (settled_alone g.S.Store g.met.S.Store.settled _ c.args.self.now.conn) c.commit_change-made.ensures.commits c.counted.ensures.counts)

pub returns-clause-told : goal.returns-clause-told
returns-clause-told g c = rw c.counted.ensures.same c.commit_change-made.ensures.told
