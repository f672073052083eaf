use Rattle.std.proofs.Common.{Some, sym}
use Rattle.oftp_register.specs.LookUps.{outgoing_entry}
use Rattle.oftp_store.proofs.ListLemmas.{length-numbered, listed_all}
use Rattle.oftp_store.proofs.queries.outgoing_list.OutgoingEntryListed.table.Goals as goal

pub returns-clause-count : goal.returns-clause-count
returns-clause-count c r = sym (length-numbered (λ n x. Some (outgoing_entry n x)) 1 r.outgoing)

pub returns-clause-entries : goal.returns-clause-entries
returns-clause-entries c r = listed_all outgoing_entry 1 r.outgoing
