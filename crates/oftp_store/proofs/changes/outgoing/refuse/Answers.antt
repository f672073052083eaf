use Rattle.std.proofs.Common.{◌∙◌, sym}
use Rattle.oftp_store.proofs.ChangeLemmas.{refuse_is}
use Rattle.oftp_store.proofs.MakingLemmas.{made_by_edits, made_unfit, made_unfound}
use Rattle.oftp_store.proofs.changes.outgoing.refuse.Goals as goal

pub returns-in_err-file : goal.returns-in_err-file
returns-in_err-file g c = made_unfound (refuse_is c.args.no c.args.reason) c.in_err-file.ensures.ends c.from_residual.ensures.1

pub returns-then-not-is_on_its_way : goal.returns-then-not-is_on_its_way
returns-then-not-is_on_its_way g c = made_unfit (refuse_is c.args.no c.args.reason) c.in_ok-file.ensures.found (sym c.is_on_its_way.ensures ∙ c.if-not-is_on_its_way.true)

pub returns : goal.returns
returns g c =
    made_by_edits (refuse_is c.args.no c.args.reason) c.in_ok-file.ensures.found (sym c.is_on_its_way.ensures ∙ c.if-not-is_on_its_way.false)
    (rw c.outgoing_edit-edit.ensures at c.make_edits.ensures)
