use Rattle.oftp_engine.proofs.Openings.{accepted_let_in, let_in_accepted, let_in_live, opened_heard}
use Rattle.oftp_engine.proofs.laws.callers_need_no_office.Goals as goal

pub returns-clause-only : goal.returns-clause-only
returns-clause-only g c = λ book octets is. let_in_accepted book octets is

pub returns-clause-each : goal.returns-clause-each
returns-clause-each g c = λ book octets is. accepted_let_in book octets is

pub returns-clause-any : goal.returns-clause-any
returns-clause-any g c = λ book octets talk before now office clean stood opened is.
    opened_heard g.W.Write.contents book octets talk before now (g.O.Office.view office) (g.met.O.Office.sound office clean stood) stood opened (let_in_live book octets is)
