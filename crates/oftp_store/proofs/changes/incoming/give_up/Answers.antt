use Rattle.oftp_store.proofs.ChangeLemmas.{give_up_is}
use Rattle.oftp_store.proofs.MakingLemmas.{made_by_edits, made_unopened}
use Rattle.oftp_store.proofs.changes.incoming.give_up.Goals as goal

pub returns-in_err-open_file : goal.returns-in_err-open_file
returns-in_err-open_file g c = made_unopened (give_up_is c.args.no) c.in_err-open_file.ensures.ends c.from_residual.ensures.1

pub returns : goal.returns
returns g c = made_by_edits (give_up_is c.args.no) c.in_ok-open_file.ensures.found c.in_ok-open_file.ensures.open c.make_edits.ensures
