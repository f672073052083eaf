use Rattle.std.proofs.Common.{◌∙◌, sym}
use Rattle.oftp_tables.proofs.AboutLemmas.{about_same, about_failed, about_leaves, about_told_by}
use Rattle.oftp_tables.proofs.ConnectionLemmas.{on_err}
use Rattle.oftp_tables.proofs.about.about_tells.Goals as goal

pub returns-clause-same : goal.returns-clause-same
returns-clause-same g c clean = about_same _ _ c.requires.has _ (c.in_ok-rows.ensures.ok clean)

pub returns-clause-left : goal.returns-clause-left
returns-clause-left g c clean = about_leaves _ _ c.requires.has c.query_all.ensures.survives clean

pub returns-clause-answer : goal.returns-clause-answer
returns-clause-answer g c clean =
    let told = about_told_by _ _ c.requires.has c.args.schema _ (c.in_ok-rows.ensures.ok clean) in
    (λ h. told.there (sym c.as_slice.ensures.value ∙ c.tells.ensures.0 h), λ e. c.tells.ensures.1 (c.as_slice.ensures.value ∙ told.back e))

pub returns-in_err-rows-clause-failed : goal.returns-in_err-rows-clause-failed
returns-in_err-rows-clause-failed g c clean = on_err c.from_residual.result _ (about_failed _ _ c.requires.has _ (c.in_err-rows.ensures.err clean))

pub returns-in_err-rows-clause-left : goal.returns-in_err-rows-clause-left
returns-in_err-rows-clause-left g c clean = about_leaves _ _ c.requires.has c.query_all.ensures.survives clean
