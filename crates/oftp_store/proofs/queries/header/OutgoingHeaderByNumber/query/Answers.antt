use Rattle.oftp_store.proofs.HeaderLemmas.{finds_out_header}
use Rattle.oftp_store.proofs.queries.header.OutgoingHeaderByNumber.query.Goals as goal

pub returns-clause-finds : goal.returns-clause-finds
returns-clause-finds c = finds_out_header
