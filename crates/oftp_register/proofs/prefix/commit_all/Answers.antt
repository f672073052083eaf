use Rattle.std.proofs.Common.{Err, sym, ap, ◌∙◌, subst}
use Rattle.std.proofs.lemmas.Result.{err_from_is_err_and}
use Rattle.oftp_register.specs.Offices.{CommitsAll}
use Rattle.oftp_register.specs.declared.office.OfficeFault.{OfficeFault}
use Rattle.oftp_register.proofs.PrefixLemmas.{ended, going_on}
use Rattle.oftp_register.proofs.prefix.commit_all.Goals as goal

pub loop-change-preserved : goal.loop-change-preserved
loop-change-preserved g c =
    let view = g.O.Office.view in
    going_on c.args.changes.items (view c.args.office.now) (view c.loop-change.office) (view c.commit.new.self) c.loop-change.yielded _ _ c.in-Some.change
    c.in-Some.ensures.steps.0 c.loop-change.invariant _ c.in_ok-commit.ensures.commits

pub returns-in_err-commit : goal.returns-in_err-commit
returns-in_err-commit g c =
    let view = g.O.Office.view in
    let changes = c.args.changes.items in
    let old = view c.args.office.now in
    let new = view c.commit.new.self in
    let fault = c.in_err-commit.field-0.0 in
    let told = err_from_is_err_and c.from_residual.result c.from_residual.ensures.1 in
    subst (λ answer. CommitsAll changes old new answer) (sym (told.1 ∙ ap (λ (x : OfficeFault). Err x) told.2))
    (ended changes old (view c.loop-change.office) new c.loop-change.yielded _ _ c.in-Some.change c.in-Some.ensures.steps.0 c.loop-change.invariant fault c.in_err-commit.ensures.commits)
