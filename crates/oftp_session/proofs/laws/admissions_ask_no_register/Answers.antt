use Rattle.std.proofs.Common.{refl}
use Rattle.oftp_session.specs.Steps.{came, turned}
use Rattle.oftp_session.proofs.laws.admissions_ask_no_register.Goals as goal

pub returns-clause-greets : goal.returns-clause-greets
unfolding turned
returns-clause-greets c setting r s = refl

pub returns-clause-answers : goal.returns-clause-answers
unfolding came
returns-clause-answers c setting r s command = refl
