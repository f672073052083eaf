use Rattle.oftp_record.proofs.PassedLemmas.{stored_next}
use Rattle.oftp_record.proofs.ahead.ReadAhead.next.Goals as goal

pub returns-in-Some-stored_at-clause-next : goal.returns-in-Some-stored_at-clause-next
returns-in-Some-stored_at-clause-next c held =
    let told = c.in-Some-stored_at in
    stored_next c.args.before.now.0 c.args.octets.now c.in-Some.passed told.stored told.ensures (c.in-Some.ensures held).0
