use Rattle.std.proofs.lemmas.Result.{IfOk-weaker}
use Rattle.oftp_store.proofs.IdentityLemmas.{finds_no, file_number_read}
use Rattle.std.proofs.Common.{refl}
use Rattle.oftp_store.specs.Causes.{FileNumber}
use Rattle.oftp_tables.specs.Tables.{identity_values}
use Rattle.oftp_store.proofs.CauseLemmas.{asked_by}
use Rattle.oftp_store.proofs.queries.identity.file_number.Goals as goal

pub first_number-requires : goal.first_number-requires
first_number-requires g c = rw c.file_number_text.ensures (file_number_read c.args.side).plain

pub returns-clause-answer : goal.returns-clause-answer
returns-clause-answer g c clean has =
    IfOk-weaker c.first_number.result _ _ (λ no told r kept. finds_no c.args.side _ _ c.args.identity.now told.0 no has told.1 told.2 r kept)
    (rw (c.file_number_text.ensures, c.identity_values.ensures) at (c.first_number.ensures.shown clean))

pub returns-clause-told : goal.returns-clause-told
returns-clause-told g c =
    asked_by g.S.Store (FileNumber c.args.side) (identity_values c.args.identity.now) _ _ c.first_number.result refl
    (rw (c.file_number_text.ensures, c.identity_values.ensures) at c.first_number.ensures.told)
