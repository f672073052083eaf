use Rattle.std.proofs.Common.{◌∙◌}
use Rattle.oftp_session.specs.Settings.{setting_of}
use Rattle.oftp_session.proofs.Offers.{verdict_finds}
use Rattle.oftp_register.specs.Register.{Register}
use Rattle.oftp_session.specs.Listener.{verdict_on}
use Rattle.oftp_session.proofs.Passing.{look_failed, second_failed}
use Rattle.oftp_session.proofs.listener.AnyListenerPart.verdict_on.Goals as goal

pub returns-clause-finds : goal.returns-clause-finds
returns-clause-finds g c = λ clean stands.
    let view = g.O.Office.view in
    let got = verdict_finds (setting_of c.args.setting.now) c.args.contact.now c.args.sfid.now c.identity_of.result (view c.args.self.now) (view c.look_in.new.self)
    (view c.files_full.new.self) c.in_ok-found.found c.in_ok-is_full.is_full c.limits.result c.in_ok-found.ensures.looks c.in_ok-is_full.ensures.looks
    c.limits.ensures.answer c.identity_of.ensures clean stands in
    let verdict = rw (c.as_ref.ensures.value, c.terms_of-terms.ensures) at c.start_verdict.ensures in
    (verdict ∙ got.0, got.1)

pub returns-in_err-found-clause-finds : goal.returns-in_err-found-clause-finds
returns-in_err-found-clause-finds g c =
    look_failed _ (λ (r : Register). verdict_on (setting_of c.args.setting.now) c.args.contact.now r c.args.sfid.now) _ _ c.in_err-found.field-0.0 _
    c.in_err-found.ensures.looks c.from_residual.ensures.1

pub returns-in_err-is_full-clause-finds : goal.returns-in_err-is_full-clause-finds
returns-in_err-is_full-clause-finds g c =
    second_failed _ _ (λ (r : Register). verdict_on (setting_of c.args.setting.now) c.args.contact.now r c.args.sfid.now) _ _ _ c.in_ok-found.found
    c.in_err-is_full.field-0.0 _ c.in_ok-found.ensures.looks c.in_err-is_full.ensures.looks c.from_residual-in_err-is_full.ensures.1
