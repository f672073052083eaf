use Rattle.oftp_register.specs.Register.{Register}
use Rattle.oftp_register.specs.declared.entries.Side.TheVariants as side
use Rattle.oftp_register.specs.LookUps.{rows_of}
use Rattle.oftp_session.specs.InsidePayloads.{next_row}
use Rattle.oftp_session.proofs.Passing.{look_failed}
use Rattle.oftp_session.proofs.payloads.look_up.Goals as goal

pub returns-in_err-rows-clause-finds : goal.returns-in_err-rows-clause-finds
returns-in_err-rows-clause-finds g c = λ clean stands contact t holds at.
    let s = c.args.outgoing.now in
    look_failed _ (λ (r : Register). rows_of r side.Outgoing s.number (next_row s) c.args.most) _ _ c.in_err-rows.field-0.0 _ c.in_err-rows.ensures.looks c.from_residual.ensures.1 clean stands
