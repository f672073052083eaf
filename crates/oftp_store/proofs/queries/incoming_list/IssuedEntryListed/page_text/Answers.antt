use Rattle.oftp_register.specs.LookUps.{issued_entry}
use Rattle.oftp_store.proofs.IncomingPageLemmas.{finds_issued, numbers_incoming}
use Rattle.oftp_store.proofs.queries.incoming_list.IssuedEntryListed.page_text.Goals as goal

pub returns-clause-finds : goal.returns-clause-finds
returns-clause-finds c = rw c.in_page_text.ensures finds_issued

pub returns-clause-numbers : goal.returns-clause-numbers
returns-clause-numbers c = rw c.in_page_text.ensures (numbers_incoming issued_entry)
