use Rattle.oftp_store.proofs.HeaderLemmas.{finds_in_header}
use Rattle.oftp_store.proofs.queries.header.IncomingHeaderByNumber.query.Goals as goal

pub returns-clause-finds : goal.returns-clause-finds
returns-clause-finds c = finds_in_header
