use Rattle.std.proofs.Common.{Some, sym}
use Rattle.oftp_register.specs.LookUps.{answered_entry}
use Rattle.oftp_store.proofs.ListLemmas.{length-numbered, listed_all}
use Rattle.oftp_store.proofs.queries.answered.AnsweredEntryListed.table.Goals as goal

pub returns-clause-count : goal.returns-clause-count
returns-clause-count c r = sym (length-numbered (λ n x. Some (answered_entry r n x)) 1 r.received)

pub returns-clause-entries : goal.returns-clause-entries
returns-clause-entries c r = listed_all (answered_entry r) 1 r.received
