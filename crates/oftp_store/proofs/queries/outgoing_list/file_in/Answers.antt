use Rattle.std.proofs.Common.{◌∙◌, Some, ap}
use Rattle.oftp_store.specs.Reads.{outgoing_entry_of, outgoing_header_in}
use Rattle.std.proofs.Common.{◌<◌, subst}
use Rattle.oftp_store.specs.declared.queries.header.OutgoingHeader.{OutgoingHeader}
use Rattle.oftp_store.proofs.CommitLemmas.{err_passed}
use Rattle.oftp_store.proofs.queries.outgoing_list.file_in.Goals as goal

pub returns-clause-told : goal.returns-clause-told
returns-clause-told c no_is =
    ap Some (c.in_ok-entry.ensures.made ∙ ap (λ h. outgoing_entry_of c.args.no h c.args.rows) c.in_ok-header.ensures.told
    ∙ ap (λ n. outgoing_entry_of n (outgoing_header_in c.args.row.now) c.args.rows) no_is)

pub returns-in_err-header-clause-unfit : goal.returns-in_err-header-clause-unfit
returns-in_err-header-clause-unfit c =
    err_passed _ c.in_err-header.field-0.0 _ c.from_residual.ensures.1 (λ is fits. absurd (c.in_err-header.ensures.unfit is fits))

pub returns-in_err-entry-clause-unfit : goal.returns-in_err-entry-clause-unfit
returns-in_err-entry-clause-unfit c =
    err_passed _ c.in_err-entry.field-0.0 _ c.from_residual-in_err-entry.ensures.1
    (λ is fits. subst (λ (h : OutgoingHeader). c.args.rows < h.mark) c.in_ok-header.ensures.told c.in_err-entry.ensures.beyond)
