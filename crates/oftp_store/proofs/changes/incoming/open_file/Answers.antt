use Rattle.std.proofs.Common.{◌∙◌, sym}
use Rattle.oftp_store.specs.FileProgress.{incoming_told, is_open_file}
use Rattle.oftp_store.proofs.CommitLemmas.{err_passed}
use Rattle.oftp_store.proofs.MakingLemmas.{ends_unfit, ends_unfound}
use Rattle.oftp_store.proofs.changes.incoming.open_file.Goals as goal

pub returns-in_err-file-clause-ends : goal.returns-in_err-file-clause-ends
returns-in_err-file-clause-ends g c =
    err_passed _ c.in_err-file.field-0.0 _ c.from_residual.ensures.1 (ends_unfound g.S.Store _ incoming_told is_open_file _ _ _ _ c.in_err-file.ensures.ends)

pub returns-then-not-is_open-clause-ends : goal.returns-then-not-is_open-clause-ends
returns-then-not-is_open-clause-ends g c =
    ends_unfit g.S.Store _ incoming_told is_open_file _ c.args.conn.now c.known.new.conn c.in_ok-file.file c.in_ok-file.ensures.found (sym c.is_open.ensures ∙ c.if-not-is_open.true)
