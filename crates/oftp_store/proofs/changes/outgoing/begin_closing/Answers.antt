use Rattle.std.proofs.Common.{◌∙◌, sym}
use Rattle.oftp_store.proofs.ChangeLemmas.{begin_closing_is}
use Rattle.oftp_store.proofs.MakingLemmas.{made_by_edits, made_unfit, made_unfound}
use Rattle.oftp_store.proofs.changes.outgoing.begin_closing.Goals as goal

pub returns-in_err-file : goal.returns-in_err-file
returns-in_err-file g c = made_unfound (begin_closing_is c.args.no) c.in_err-file.ensures.ends c.from_residual.ensures.1

pub returns-then-not-is_waiting : goal.returns-then-not-is_waiting
returns-then-not-is_waiting g c = made_unfit (begin_closing_is c.args.no) c.in_ok-file.ensures.found (sym c.is_waiting.ensures ∙ c.if-not-is_waiting.true)

pub returns : goal.returns
returns g c =
    made_by_edits (begin_closing_is c.args.no) c.in_ok-file.ensures.found (sym c.is_waiting.ensures ∙ c.if-not-is_waiting.false)
    (rw c.outgoing_edit-edit.ensures at c.make_edits.ensures)
