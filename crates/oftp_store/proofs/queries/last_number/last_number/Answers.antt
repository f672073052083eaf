use Rattle.std.proofs.Common.{◌∙◌, [], refl}
use Rattle.oftp_store.proofs.LastNumberLemmas.{finds_last_no, last_read}
use Rattle.oftp_store.specs.Causes.{LastNumber}
use Rattle.oftp_store.proofs.CommitLemmas.{err_passed}
use Rattle.oftp_store.proofs.CauseLemmas.{asked}
use Rattle.oftp_store.proofs.queries.last_number.last_number.Goals as goal

pub first_number-requires : goal.first_number-requires
first_number-requires g c = rw c.last_text.ensures (last_read c.args.table).plain

pub returns-clause-answer : goal.returns-clause-answer
returns-clause-answer g c clean has r kept =
    let last = rw c.last_text.ensures at (c.in_ok-last.ensures.shown clean) in
    c.unwrap_or.ensures ∙ finds_last_no c.args.table _ _ last.0 _ has last.1 last.2 r kept

pub returns-in_err-last-clause-told : goal.returns-in_err-last-clause-told
returns-in_err-last-clause-told g c =
    err_passed _ c.in_err-last.field-0.0 _ c.from_residual.ensures.1
    (asked g.S.Store (LastNumber c.args.table) [] _ _ _ refl (rw c.last_text.ensures at c.in_err-last.ensures.told))
