use Rattle.std.proofs.Common.{◌∙◌, sym}
use Rattle.oftp_store.proofs.ChangeLemmas.{issue_is}
use Rattle.oftp_store.proofs.MakingLemmas.{made_by_edits, made_unfit, made_unfound}
use Rattle.oftp_store.proofs.changes.responses.issue.Goals as goal

pub returns-in_err-file : goal.returns-in_err-file
returns-in_err-file g c = made_unfound (issue_is c.args.no c.args.response) c.in_err-file.ensures.ends c.from_residual.ensures.1

pub returns-then-not-is_answerable : goal.returns-then-not-is_answerable
returns-then-not-is_answerable g c = made_unfit (issue_is c.args.no c.args.response) c.in_ok-file.ensures.found (sym c.is_answerable.ensures ∙ c.if-not-is_answerable.true)

pub returns : goal.returns
returns g c = made_by_edits (issue_is c.args.no c.args.response) c.in_ok-file.ensures.found (sym c.is_answerable.ensures ∙ c.if-not-is_answerable.false) c.make_edits.ensures
