use Rattle.oftp_store.proofs.changes.transaction.perform.Goals as goal

pub returns-in-AddFile-clause-performs : goal.returns-in-AddFile-clause-performs
returns-in-AddFile-clause-performs g c = rw c.in-AddFile.is c.add_file.ensures.performs

pub returns-in-SetHeader-clause-performs : goal.returns-in-SetHeader-clause-performs
returns-in-SetHeader-clause-performs g c = rw c.in-SetHeader.is c.set_header.ensures.performs

pub returns-in-AddIssued-clause-performs : goal.returns-in-AddIssued-clause-performs
returns-in-AddIssued-clause-performs g c = rw c.in-AddIssued.is c.add_issued.ensures.performs

pub returns-in-AddReceived-clause-performs : goal.returns-in-AddReceived-clause-performs
returns-in-AddReceived-clause-performs g c = rw c.in-AddReceived.is c.add_received.ensures.performs
