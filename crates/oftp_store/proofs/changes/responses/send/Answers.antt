use Rattle.std.proofs.Common.{◌∙◌, sym}
use Rattle.oftp_store.proofs.ChangeLemmas.{send_is}
use Rattle.oftp_store.proofs.MakingLemmas.{made_by_edits, made_unfit, made_unfound}
use Rattle.oftp_store.proofs.changes.responses.send.Goals as goal

pub returns-in_err-file : goal.returns-in_err-file
returns-in_err-file g c = made_unfound (send_is c.args.no) c.in_err-file.ensures.ends c.from_residual.ensures.1

pub returns-then-not-is_sendable : goal.returns-then-not-is_sendable
returns-then-not-is_sendable g c = made_unfit (send_is c.args.no) c.in_ok-file.ensures.found (sym c.is_sendable.ensures ∙ c.if-not-is_sendable.true)

pub returns : goal.returns
returns g c = made_by_edits (send_is c.args.no) c.in_ok-file.ensures.found (sym c.is_sendable.ensures ∙ c.if-not-is_sendable.false) c.make_edits.ensures
