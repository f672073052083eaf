use Rattle.oftp_store.proofs.office.SqlOffice.open.Goals as goal

pub returns-in-Ok-clause-opened : goal.returns-in-Ok-clause-opened
returns-in-Ok-clause-opened g c = (c.over.ensures.limits, c.over.ensures.faults, rw c.over.ensures.conn (c.in-Ok.ensures.opened c.args.limits))
