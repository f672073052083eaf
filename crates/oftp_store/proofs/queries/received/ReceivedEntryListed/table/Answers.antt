use Rattle.std.proofs.Common.{Some, sym}
use Rattle.oftp_register.specs.LookUps.{received_entry}
use Rattle.oftp_store.proofs.ListLemmas.{length-numbered, listed_all}
use Rattle.oftp_store.proofs.queries.received.ReceivedEntryListed.table.Goals as goal

pub returns-clause-count : goal.returns-clause-count
returns-clause-count c r = sym (length-numbered (λ n x. Some (received_entry n x)) 1 r.received)

pub returns-clause-entries : goal.returns-clause-entries
returns-clause-entries c r = listed_all received_entry 1 r.received
