use Rattle.oftp_engine.proofs.Deciding.{releases}
use Rattle.oftp_engine.proofs.operating.release.Goals as goal

pub returns-clause-does : goal.returns-clause-does
returns-clause-does g c = λ clean stood.
    releases (g.O.Office.view c.args.office.now) (g.O.Office.view c.decide.new.office) c.args.no _ _ c.decide.result
    c.new-2.ensures c.in-Some.ensures.value.0 (c.decide.ensures.does clean stood)
