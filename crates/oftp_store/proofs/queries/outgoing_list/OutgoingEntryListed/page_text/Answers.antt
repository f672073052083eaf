use Rattle.oftp_store.proofs.OutgoingPageLemmas.{finds_outgoing, numbers_outgoing}
use Rattle.oftp_store.proofs.queries.outgoing_list.OutgoingEntryListed.page_text.Goals as goal

pub returns-clause-finds : goal.returns-clause-finds
returns-clause-finds c = finds_outgoing

pub returns-clause-numbers : goal.returns-clause-numbers
returns-clause-numbers c = numbers_outgoing
