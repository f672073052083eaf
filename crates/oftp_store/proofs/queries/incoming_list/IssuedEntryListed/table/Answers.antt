use Rattle.std.proofs.Common.{sym}
use Rattle.oftp_register.specs.LookUps.{issued_entry}
use Rattle.oftp_store.proofs.ListLemmas.{length-numbered}
use Rattle.oftp_store.proofs.queries.incoming_list.IssuedEntryListed.table.Goals as goal

pub returns-clause-count : goal.returns-clause-count
returns-clause-count c r = sym (length-numbered issued_entry 1 r.incoming)
