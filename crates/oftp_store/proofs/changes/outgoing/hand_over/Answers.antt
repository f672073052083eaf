use Rattle.std.proofs.Common.{◌∙◌, sym}
use Rattle.oftp_store.proofs.ChangeLemmas.{hand_over_is}
use Rattle.oftp_store.proofs.MakingLemmas.{made_by_edits, made_unfit, made_unfound}
use Rattle.oftp_store.proofs.changes.outgoing.hand_over.Goals as goal

pub returns-in_err-file : goal.returns-in_err-file
returns-in_err-file g c = made_unfound (hand_over_is c.args.no) c.in_err-file.ensures.ends c.from_residual.ensures.1

pub returns-then-not-is_closing : goal.returns-then-not-is_closing
returns-then-not-is_closing g c = made_unfit (hand_over_is c.args.no) c.in_ok-file.ensures.found (sym c.is_closing.ensures ∙ c.if-not-is_closing.true)

pub returns : goal.returns
returns g c =
    made_by_edits (hand_over_is c.args.no) c.in_ok-file.ensures.found (sym c.is_closing.ensures ∙ c.if-not-is_closing.false)
    (rw c.outgoing_edit-edit.ensures at c.make_edits.ensures)
