use Rattle.std.proofs.Common.{ℕ, sym, ap, ◌∙◌}
use Rattle.oftp_register.specs.declared.verdicts.StartVerdict.TheVariants as start
use Rattle.oftp_session.specs.Settings.{setting_of}
use Rattle.oftp_session.specs.Phases.{frame_of}
use Rattle.oftp_session.specs.Listener.{sfpa_of}
use Rattle.oftp_session.proofs.Offers.{accept_err, accept_ok}
use Rattle.oftp_session.proofs.Saying.{passed_on}
use Rattle.oftp_session.proofs.listener.take_offer.Goals as goal

pub returns-in_ok-incoming-in-Accept-clause-takes : goal.returns-in_ok-incoming-in-Accept-clause-takes
returns-in_ok-incoming-in-Accept-clause-takes g c = λ clean stands.
    let view = g.O.Office.view in
    let before = c.begin.ensures.clean clean in
    let found = c.in_ok-reason.ensures.finds before stands in
    let sound = g.met.O.Office.sound c.verdict_on.new.self before found.1.stands in
    let verdict = sym found.0 ∙ c.in-Accept.is ∙ ap (λ (k : ℕ). start.Accept k) (sym c.get.ensures.value) in
    let said = c.set_command-in-Accept.ensures ∙ ap frame_of (c.sfpa.ensures ∙ ap sfpa_of (sym c.get.ensures.value)) in
    accept_ok (setting_of c.args.setting) c.args.contact c.args.sfid.now c.get.result c.in_ok-incoming-in-Accept.incoming (view c.args.office.now) (view c.verdict_on.new.self)
    (view c.begin.new.self) c.set_command-in-Accept.new.self sound verdict found.1 said (c.in_ok-incoming-in-Accept.ensures.starts clean found.1.stands)

pub returns-in_err-incoming-in-Accept-clause-takes : goal.returns-in_err-incoming-in-Accept-clause-takes
returns-in_err-incoming-in-Accept-clause-takes g c = λ clean stands.
    let view = g.O.Office.view in
    let before = c.begin.ensures.clean clean in
    let found = c.in_ok-reason.ensures.finds before stands in
    let sound = g.met.O.Office.sound c.verdict_on.new.self before found.1.stands in
    let verdict = sym found.0 ∙ c.in-Accept.is ∙ ap (λ (k : ℕ). start.Accept k) (sym c.get.ensures.value) in
    passed_on _ _ _ _ c.in_err-incoming-in-Accept.field-0.0 _ c.from_residual-in_err-incoming-in-Accept.ensures.1
    (accept_err (setting_of c.args.setting) c.args.contact c.args.sfid.now c.get.result _ (view c.args.office.now) (view c.verdict_on.new.self) (view c.begin.new.self)
    sound verdict found.1 (c.in_err-incoming-in-Accept.ensures.starts clean found.1.stands))
