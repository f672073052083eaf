use Rattle.std.proofs.Common.{◌≡◌, sym, subst, Result}
use Rattle.oftp_engine.specs.declared.operating.Told.{Told}
use Rattle.oftp_engine.specs.declared.serving.RunFault.{RunFault}
use Rattle.oftp_engine.specs.Operating.{Deed, makes}
use Rattle.oftp_engine.specs.InsideOperating.{Attempts}
use Rattle.oftp_engine.proofs.Deciding.{decides}
use Rattle.oftp_engine.proofs.operating.decide.Goals as goal

pub returns-clause-does : goal.returns-clause-does
returns-clause-does g c = λ clean stood fit verb.
    let old = g.O.Office.view c.args.office.now in
    let new = g.O.Office.view c.commit-made.new.self in
    subst (λ (r : Result Told RunFault). Attempts verb (λ (deed : Deed). deed ≡ makes verb c.args.no c.args.change old.register) old new r)
    (sym c.call_result.ensures) (decides verb c.args.no c.args.change old new c.commit-made.result c.commit-made.ensures.commits clean stood fit)
