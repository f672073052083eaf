use Rattle.std.proofs.Common.{Some}
use Rattle.oftp_register.specs.LookUps.{incoming_entry}
use Rattle.oftp_store.proofs.IncomingPageLemmas.{finds_incoming, numbers_incoming}
use Rattle.oftp_store.proofs.queries.incoming_list.IncomingEntryListed.page_text.Goals as goal

pub returns-clause-finds : goal.returns-clause-finds
returns-clause-finds c = rw c.in_page_text.ensures finds_incoming

pub returns-clause-numbers : goal.returns-clause-numbers
returns-clause-numbers c = rw c.in_page_text.ensures (numbers_incoming (λ n f. Some (incoming_entry n f)))
