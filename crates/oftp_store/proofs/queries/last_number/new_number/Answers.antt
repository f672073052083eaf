use Rattle.oftp_store.proofs.CauseLemmas.{number_told}
use Rattle.oftp_store.proofs.queries.last_number.new_number.Goals as goal

pub returns-clause-told : goal.returns-clause-told
returns-clause-told g c =
    number_told g.S.Store c.args.table c.args.conn.now c.last_number.new.conn c.in_ok-last.last c.number_after.result c.in_ok-last.ensures.answer
    c.number_after.ensures.made
