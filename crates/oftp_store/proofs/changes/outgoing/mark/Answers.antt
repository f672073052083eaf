use Rattle.std.proofs.Common.{◌∙◌, sym}
use Rattle.oftp_store.proofs.ChangeLemmas.{mark_is}
use Rattle.oftp_store.proofs.MakingLemmas.{made_by_edits, made_unfit, made_unfound}
use Rattle.oftp_store.proofs.changes.outgoing.mark.Goals as goal

pub returns-in_err-file : goal.returns-in_err-file
returns-in_err-file g c = made_unfound (mark_is c.args.no c.args.rows) c.in_err-file.ensures.ends c.from_residual.ensures.1

pub returns-then-not-may_be_covered : goal.returns-then-not-may_be_covered
returns-then-not-may_be_covered g c = made_unfit (mark_is c.args.no c.args.rows) c.in_ok-file.ensures.found (sym c.may_be_covered.ensures ∙ c.if-not-may_be_covered.true)

pub returns : goal.returns
returns g c =
    made_by_edits (mark_is c.args.no c.args.rows) c.in_ok-file.ensures.found (sym c.may_be_covered.ensures ∙ c.if-not-may_be_covered.false)
    (rw c.outgoing_edit-edit.ensures at c.make_edits.ensures)
