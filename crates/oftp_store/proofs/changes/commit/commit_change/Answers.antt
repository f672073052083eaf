use Rattle.oftp_store.proofs.changes.commit.commit_change.Goals as goal

pub returns-in-Submit : goal.returns-in-Submit
returns-in-Submit g c = rw c.in-Submit.is (rw c.header.ensures at c.submit.ensures)

pub returns-in-Start : goal.returns-in-Start
returns-in-Start g c = rw c.in-Start.is (rw c.header-in-Start.ensures at c.start.ensures)

pub returns-in-File : goal.returns-in-File
returns-in-File g c = rw c.in-File.is (rw c.received.ensures at c.file.ensures)

pub returns-in-Issue : goal.returns-in-Issue
returns-in-Issue g c = rw c.in-Issue.is (rw c.issued.ensures at c.issue.ensures)
