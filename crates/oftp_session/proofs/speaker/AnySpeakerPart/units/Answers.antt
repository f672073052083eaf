use Rattle.oftp_register.specs.Register.{Register}
use Rattle.oftp_register.specs.declared.entries.Side.TheVariants as side
use Rattle.oftp_register.specs.LookUps.{units_of}
use Rattle.oftp_session.proofs.Passing.{look_failed}
use Rattle.oftp_session.proofs.speaker.AnySpeakerPart.units.Goals as goal

pub returns-in_err-units_of-clause-finds : goal.returns-in_err-units_of-clause-finds
returns-in_err-units_of-clause-finds g c =
    look_failed _ (λ (r : Register). units_of r side.Outgoing c.args.no) _ _ c.in_err-units_of.field-0.0 _ c.in_err-units_of.ensures.looks c.from_residual.ensures.1
