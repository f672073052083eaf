use Rattle.std.proofs.Common.{arith}
use Rattle.oftp_engine.proofs.Deciding.{refuses_so}
use Rattle.oftp_engine.proofs.operating.refuse.Goals as goal

pub returns-clause-does : goal.returns-clause-does
returns-clause-does g c = λ clean stood.
    refuses_so (g.O.Office.view c.args.office.now) (g.O.Office.view c.decide.new.office) c.args.no _ _ c.decide.result c.args.reason c.args.text.now
    c.new-2.ensures c.in-Some.ensures.value.0 (omega (arith, c.if-reason-gt-HIGHEST_REASON.false)) c.in-Some.ensures.value.1 (c.decide.ensures.does clean stood)
