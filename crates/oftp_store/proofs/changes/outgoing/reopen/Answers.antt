use Rattle.std.proofs.Common.{◌∙◌, sym}
use Rattle.oftp_store.proofs.ChangeLemmas.{reopen_is}
use Rattle.oftp_store.proofs.MakingLemmas.{made_by_edits, made_unfit, made_unfound}
use Rattle.oftp_store.proofs.changes.outgoing.reopen.Goals as goal

pub returns-in_err-state : goal.returns-in_err-state
returns-in_err-state g c = made_unfound (reopen_is c.args.no) c.in_err-state.ensures.ends c.from_residual.ensures.1

pub returns-then-not-is_closing : goal.returns-then-not-is_closing
returns-then-not-is_closing g c = made_unfit (reopen_is c.args.no) c.in_ok-state.ensures.found (sym c.is_closing.ensures ∙ c.if-not-is_closing.true)

pub returns : goal.returns
returns g c =
    made_by_edits (reopen_is c.args.no) c.in_ok-state.ensures.found (sym c.is_closing.ensures ∙ c.if-not-is_closing.false)
    (rw c.outgoing_edit-edit.ensures at c.make_edits.ensures)
