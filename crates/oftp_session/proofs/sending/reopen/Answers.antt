use Rattle.oftp_session.proofs.Replying.{reopens}
use Rattle.oftp_session.proofs.sending.reopen.Goals as goal

pub returns-then-offered-clause-does : goal.returns-then-offered-clause-does
returns-then-offered-clause-does g c = λ clean stands offer holds is.
    reopens c.args.offered.now offer _ _ c.make.result holds is c.if-offered.true (c.make.ensures.does clean stands)
