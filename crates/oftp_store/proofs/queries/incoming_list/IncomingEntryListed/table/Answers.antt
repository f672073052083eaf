use Rattle.std.proofs.Common.{Some, sym}
use Rattle.oftp_register.specs.LookUps.{incoming_entry}
use Rattle.oftp_store.proofs.ListLemmas.{length-numbered, listed_all}
use Rattle.oftp_store.proofs.queries.incoming_list.IncomingEntryListed.table.Goals as goal

pub returns-clause-count : goal.returns-clause-count
returns-clause-count c r = sym (length-numbered (λ n x. Some (incoming_entry n x)) 1 r.incoming)

pub returns-clause-entries : goal.returns-clause-entries
returns-clause-entries c r = listed_all incoming_entry 1 r.incoming
