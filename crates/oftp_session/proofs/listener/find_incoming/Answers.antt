use Rattle.std.proofs.Common.{◌∙◌}
use Rattle.oftp_session.proofs.Offers.{begun_finds}
use Rattle.oftp_register.specs.Register.{Register}
use Rattle.oftp_session.specs.InsideListener.{incoming_of}
use Rattle.oftp_session.proofs.Passing.{second_failed}
use Rattle.oftp_session.proofs.listener.find_incoming.Goals as goal

pub returns-clause-finds : goal.returns-clause-finds
returns-clause-finds g c = λ clean stands number file found.
    let view = g.O.Office.view in
    let first = rw c.in-Ok-Some.field-0-is at c.in-Ok-Some.ensures.looks in
    let got = begun_finds c.args.link.now c.args.identity.now number file (view c.args.office.now) (view c.look_in.new.self) (view c.units_of.new.self)
    c.in-Ok-Some.entry c.in_ok-units.units c.limits.result first c.in_ok-units.ensures.looks c.limits.ensures.answer clean stands found in
    (c.incoming_transfer.ensures ∙ got.0, got.1)

pub returns-in_err-units-clause-finds : goal.returns-in_err-units-clause-finds
returns-in_err-units-clause-finds g c = λ clean stands number file found.
    let first = rw c.in-Ok-Some.field-0-is at c.in-Ok-Some.ensures.looks in
    second_failed _ _ (λ (r : Register). incoming_of c.args.link.now number file r.limits.octets) _ _ _ _ c.in_err-units.field-0.0 _
    first c.in_err-units.ensures.looks c.from_residual.ensures.1 clean stands
