use Rattle.oftp_store.proofs.ChangeLemmas.{close_is}
use Rattle.oftp_store.proofs.MakingLemmas.{made_by_edits, made_unopened}
use Rattle.oftp_store.proofs.changes.incoming.close.Goals as goal

pub returns-in_err-file : goal.returns-in_err-file
returns-in_err-file g c = made_unopened (close_is c.args.no c.args.rows) c.in_err-file.ensures.ends c.from_residual.ensures.1

pub returns : goal.returns
returns g c = made_by_edits (close_is c.args.no c.args.rows) c.in_ok-file.ensures.found c.in_ok-file.ensures.open (rw c.more.ensures at c.make_edits.ensures)
