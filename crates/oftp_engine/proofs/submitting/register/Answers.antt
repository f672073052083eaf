use Rattle.std.proofs.Common.{◌≡◌, codes, sym, subst, Result}
use Rattle.oftp_engine.specs.declared.operating.Told.{Told}
use Rattle.oftp_engine.specs.declared.serving.RunFault.{RunFault}
use Rattle.oftp_engine.specs.Operating.{Deed, registered}
use Rattle.oftp_engine.specs.InsideOperating.{Attempts}
use Rattle.oftp_engine.proofs.Offers.{is_registered, not_registered}
use Rattle.oftp_engine.proofs.submitting.register.Goals as goal

pub returns-in-Ok-clause-does : goal.returns-in-Ok-clause-does
returns-in-Ok-clause-does g c = λ clean stood told file.
    let old = g.O.Office.view c.args.office.now in
    let mid = g.O.Office.view c.commit.new.self in
    let new = g.O.Office.view c.look_out-found.new.self in
    let s = c.args.submission.now in
    subst (λ (r : Result Told RunFault). Attempts (codes "done: submit ") (λ (deed : Deed). deed ≡ registered c.args.identity.now s c.args.rows old.register) old new r)
    (sym c.new_file_result.ensures)
    (is_registered c.args.identity.now _ s c.args.description c.args.rows c.again.ensures told old mid _ new c.look_out-found.result c.in-Ok.ensures.commits
    c.look_out-found.ensures.looks clean stood file)

pub returns-in-Err-clause-does : goal.returns-in-Err-clause-does
returns-in-Err-clause-does g c = λ clean stood told file.
    let old = g.O.Office.view c.args.office.now in
    let mid = g.O.Office.view c.commit.new.self in
    let s = c.args.submission.now in
    subst (λ (r : Result Told RunFault). Attempts (codes "done: submit ") (λ (deed : Deed). deed ≡ registered c.args.identity.now s c.args.rows old.register) old mid r)
    (sym c.call_result.ensures)
    (not_registered c.args.identity.now _ s c.args.description c.args.rows c.again.ensures told old mid c.in-Err.fault c.in-Err.ensures.commits clean stood file)
