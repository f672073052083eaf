use Rattle.oftp_store.proofs.AnsweredLemmas.{finds_answered, numbers_answered}
use Rattle.oftp_store.proofs.queries.answered.AnsweredEntryListed.page_text.Goals as goal

pub returns-clause-finds : goal.returns-clause-finds
returns-clause-finds c = finds_answered

pub returns-clause-numbers : goal.returns-clause-numbers
returns-clause-numbers c = numbers_answered
