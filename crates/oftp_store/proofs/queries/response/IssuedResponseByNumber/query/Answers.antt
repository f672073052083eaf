use Rattle.oftp_store.proofs.HeaderLemmas.{finds_response}
use Rattle.oftp_store.proofs.queries.response.IssuedResponseByNumber.query.Goals as goal

pub returns-clause-finds : goal.returns-clause-finds
returns-clause-finds c = finds_response
