use Rattle.std.proofs.Common.{◌≡◌, ◌∙◌, sym}
use Rattle.oftp_register.specs.declared.office.OfficeFault.TheVariants.{Store}
use Rattle.oftp_store.specs.Causes.{HasBody, Misfits}
use Rattle.oftp_store.proofs.CommitLemmas.{err_passed}
use Rattle.oftp_store.proofs.ReadLemmas.{got_at}
use Rattle.oftp_store.proofs.queries.rows.bodies_told.Goals as goal

pub returns-in_err-body-clause-unfit : goal.returns-in_err-body-clause-unfit
returns-in_err-body-clause-unfit c =
    err_passed (λ fault. fault ≡ Store → Misfits HasBody c.args.rows.now) c.in_err-body.field-0.0 _ c.from_residual.ensures.1
    (λ is. (
      c.rows.row-index,
      c.row-item.result,
      got_at c.args.rows.now c.rows.row-index c.row-item.result c.rows-test.true c.row-item.is,
      λ has. let no_such = sym is ∙ c.in_err-body.ensures.found has.0 has.1 in cc,
    ))
