use Rattle.oftp_record.proofs.StoredLemmas.{broken}
use Rattle.oftp_record.proofs.next.entry_behind.Goals as goal

pub returns-then-octets-length-clause-next : goal.returns-then-octets-length-clause-next
returns-then-octets-length-clause-next c =
    let h = c.args.header in
    broken c.args.before.now.0 c.args.octets.now h.kind h.moment h.count c.requires.headed c.requires.count c.if-octets-length.true
