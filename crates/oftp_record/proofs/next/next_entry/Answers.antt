use Rattle.std.proofs.Common.{refl}
use Rattle.oftp_record.proofs.HeaderLemmas.{no_header}
use Rattle.oftp_record.proofs.next.next_entry.Goals as goal

pub returns-in-None-clause-next : goal.returns-in-None-clause-next
returns-in-None-clause-next c = no_header c.args.octets.now c.if-octets-lt-HEADER_LEN.false (c.in-None.ensures.none refl)
