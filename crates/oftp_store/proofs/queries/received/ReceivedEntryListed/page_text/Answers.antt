use Rattle.oftp_store.proofs.ReceivedLemmas.{finds_received, numbers_received}
use Rattle.oftp_store.proofs.queries.received.ReceivedEntryListed.page_text.Goals as goal

pub returns-clause-finds : goal.returns-clause-finds
returns-clause-finds c = finds_received

pub returns-clause-numbers : goal.returns-clause-numbers
returns-clause-numbers c = numbers_received
