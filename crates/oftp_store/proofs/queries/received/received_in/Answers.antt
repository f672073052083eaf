use Rattle.std.proofs.Common.{◌∙◌, Some, ap}
use Rattle.oftp_store.proofs.ReceivedLemmas.{received_told}
use Rattle.std.proofs.Common.{sym, subst}
use Rattle.oftp_store.specs.Causes.{HasTexts}
use Rattle.oftp_store.specs.declared.queries.received.ReceivedHeader.{ReceivedHeader}
use Rattle.oftp_store.proofs.CommitLemmas.{err_passed}
use Rattle.oftp_store.proofs.MisreadLemmas.{received_kind}
use Rattle.oftp_store.proofs.queries.received.received_in.Goals as goal

pub returns-clause-told : goal.returns-clause-told
returns-clause-told c no_is =
    ap Some (c.entry_of.ensures
    ∙ received_told c.args.row.now c.args.no c.in_ok-header.header c.in_ok-note.note c.in_ok-header.ensures.told c.in_ok-note.ensures.told no_is)

pub returns-in_err-header-clause-unfit : goal.returns-in_err-header-clause-unfit
returns-in_err-header-clause-unfit c =
    err_passed _ c.in_err-header.field-0.0 _ c.from_residual.ensures.1 (λ is fits. c.in_err-header.ensures.unfit fits.0 fits.1)

pub returns-in_err-note-clause-unfit : goal.returns-in_err-note-clause-unfit
returns-in_err-note-clause-unfit c =
    err_passed _ c.in_err-note.field-0.0 _ c.from_residual-in_err-note.ensures.1 (λ is fits.
    let kind = received_kind c.args.row.now _ fits.0 (ap (λ (h : ReceivedHeader). h.kind) c.in_ok-header.ensures.told) fits.1 in
    c.in_err-note.ensures.unfit is (subst (λ k. HasTexts k c.args.row.now) (sym kind) fits.2))
