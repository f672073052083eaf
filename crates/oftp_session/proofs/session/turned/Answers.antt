use Rattle.std.proofs.Common.{Ok, ap, refl, subst, sym}
use Rattle.oftp_session.specs.declared.link.WhenDone.TheVariants.{ChangeDirection}
use Rattle.oftp_session.specs.declared.state.State.{State}
use Rattle.oftp_session.specs.declared.state.State.TheVariants as state
use Rattle.oftp_session.specs.Settings.{setting_of}
use Rattle.oftp_session.specs.Phases.{AwaitingSsid, Phase, SpeakerIdle}
use Rattle.oftp_session.specs.Speaker.{nothing_next}
use Rattle.oftp_session.specs.Sending.{turned_sending}
use Rattle.oftp_session.specs.Steps.{Holds, turned}
use Rattle.oftp_session.specs.Standings.{At, StandsIn, standing_of}
use Rattle.oftp_session.specs.Recalling.{recalled_of}
use Rattle.oftp_session.proofs.Coming.{turned_at}
use Rattle.oftp_session.proofs.Recalling.{nothing_next_stays, nowhere_recalled, sending_stays, so_after, so_of}
use Rattle.oftp_session.proofs.Saying.{same_takes}
use Rattle.oftp_session.proofs.Speaking.{idle_takes, none_left}
use Rattle.oftp_session.proofs.Standings.{phase_sent}
use Rattle.oftp_session.proofs.session.turned.Goals as goal

pub returns-in-ResponderOpening-clause-recalls : goal.returns-in-ResponderOpening-clause-recalls
returns-in-ResponderOpening-clause-recalls g c = λ clean stands p holds at so.
    nowhere_recalled c.args.response_due.now (At AwaitingSsid) (g.O.Office.view c.args.office.now).register refl

pub returns-in-SpeakerIdle-clause-takes : goal.returns-in-SpeakerIdle-clause-takes
unfolding turned
returns-in-SpeakerIdle-clause-takes g c = λ clean stands p holds at so.
    let old = g.O.Office.view c.args.office.now in
    let contact = c.in-SpeakerIdle.contact in
    let known = ap (λ (s : State). recalled_of (standing_of s)) c.in-SpeakerIdle.is in
    turned_at (setting_of c.args.setting) p (SpeakerIdle contact c.in-SpeakerIdle.done) c.args.state old (g.O.Office.view c.speak.new.office) c.speak.new.frame c.speak.result
    (ap standing_of c.in-SpeakerIdle.is) at (c.speak.ensures.takes clean stands (so_of c.args.response_due.now (standing_of c.args.state) contact old.register known so))

pub returns-in-SpeakerIdle-clause-recalls : goal.returns-in-SpeakerIdle-clause-recalls
returns-in-SpeakerIdle-clause-recalls g c = λ clean stands p holds at so.
    let known = ap (λ (s : State). recalled_of (standing_of s)) c.in-SpeakerIdle.is in
    c.speak.ensures.recalls clean stands
    (so_of c.args.response_due.now (standing_of c.args.state) c.in-SpeakerIdle.contact (g.O.Office.view c.args.office.now).register known so)

pub returns-in-GivingWay-clause-recalls : goal.returns-in-GivingWay-clause-recalls
returns-in-GivingWay-clause-recalls g c = λ clean stands p holds at so.
    let now = g.O.Office.view c.args.office.now in
    let contact = c.in-GivingWay.contact in
    let known = ap (λ (s : State). recalled_of (standing_of s)) c.in-GivingWay.is in
    let step = nothing_next contact ChangeDirection in
    so_after step contact c.args.response_due.now now now c.give_way.new.frame (Ok c.give_way.result) (nothing_next_stays contact ChangeDirection now.register)
    (so_of c.args.response_due.now (standing_of c.args.state) contact now.register known so) (same_takes step now c.give_way.result c.give_way.new.frame stands c.give_way.ensures)

pub returns-then-outgoing-gt0-clause-recalls : goal.returns-then-outgoing-gt0-clause-recalls
returns-then-outgoing-gt0-clause-recalls g c = λ clean stands p holds at so.
    let old = g.O.Office.view c.args.office.now in
    let contact = c.in-Sending.contact in
    let known = ap (λ (s : State). recalled_of (standing_of s)) c.in-Sending.is in
    let i = phase_sent p contact c.in-Sending.outgoing (subst (StandsIn p) (ap standing_of c.in-Sending.is) at) in
    let its = subst (λ (x : Phase). Holds x old.register) (sym i.1) holds in
    so_after (turned_sending contact i.0) contact c.args.response_due.now old (g.O.Office.view c.send_next.new.office) c.send_next.new.frame c.send_next.result
    (sending_stays contact old.register i.0) (so_of c.args.response_due.now (standing_of c.args.state) contact old.register known so)
    (c.send_next.ensures.takes clean stands i.0 its i.2)

pub returns-else-outgoing-gt0-clause-takes : goal.returns-else-outgoing-gt0-clause-takes
returns-else-outgoing-gt0-clause-takes g c = λ clean stands p holds at so.
    let s : State = state.Sending c.in-Sending.contact c.in-Sending.outgoing in
    idle_takes (setting_of c.args.setting) p s (g.O.Office.view c.args.office.now) c.clear.new.self stands
    (subst (λ (x : State). StandsIn p (standing_of x)) c.in-Sending.is at) (none_left c.in-Sending.outgoing.credit c.if-outgoing-gt0.false) c.clear.ensures
