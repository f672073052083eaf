use Rattle.std.proofs.Common.{ap, subst, sym}
use Rattle.oftp_session.specs.declared.state.State.{State}
use Rattle.oftp_session.specs.Settings.{setting_of}
use Rattle.oftp_session.specs.Phases.{Phase}
use Rattle.oftp_session.specs.Steps.{Holds}
use Rattle.oftp_session.specs.Standings.{StandsIn, standing_of}
use Rattle.oftp_session.specs.Recalling.{recalled_of}
use Rattle.oftp_session.proofs.Coming.{came_received}
use Rattle.oftp_session.proofs.Recalling.{ended_stays, forgotten_next, forgotten_result, listener_stays, offered_stays, receiving_stays, sent_stays, so_after, so_recalled, unexpected_recalls}
use Rattle.oftp_session.proofs.Standings.{phase_awaits, phase_offered, phase_received, phase_sent}
use Rattle.oftp_session.proofs.session.came.Goals as goal

pub returns-in-ListenerIdle-clause-recalls : goal.returns-in-ListenerIdle-clause-recalls
returns-in-ListenerIdle-clause-recalls g c = λ clean stands p holds at so.
    let old = g.O.Office.view c.args.office.now in
    let contact = c.in-ListenerIdle.contact in
    let known = ap (λ (s : State). recalled_of (standing_of s)) c.in-ListenerIdle.is in
    so_after _ contact c.recalled.result old (g.O.Office.view c.in_listener_idle.new.office) c.in_listener_idle.new.frame c.in_listener_idle.result
    (listener_stays (setting_of c.args.setting) contact old.register c.args.command.now)
    (so_recalled c.args.response_due.now c.recalled.result (standing_of c.args.state) contact old.register known c.recalled.ensures so) (c.in_listener_idle.ensures.takes clean stands)

pub returns-in-Receiving-clause-takes : goal.returns-in-Receiving-clause-takes
returns-in-Receiving-clause-takes g c = λ clean stands p holds at so.
    let old = g.O.Office.view c.args.office.now in
    let contact = c.in-Receiving.contact in
    let known = ap (λ (s : State). recalled_of (standing_of s)) c.in-Receiving.is in
    let kept = so_recalled c.args.response_due.now c.recalled.result (standing_of c.args.state) contact old.register known c.recalled.ensures so in
    came_received (setting_of c.args.setting) p c.args.state contact c.in-Receiving.incoming c.args.command.now old (g.O.Office.view c.in_receiving.new.office) c.in_receiving.new.frame
    c.in_receiving.result c.in-Receiving.is at holds (λ f its tracks. c.in_receiving.ensures.takes kept clean stands f its tracks)

pub returns-in-Receiving-clause-recalls : goal.returns-in-Receiving-clause-recalls
returns-in-Receiving-clause-recalls g c = λ clean stands p holds at so.
    let old = g.O.Office.view c.args.office.now in
    let contact = c.in-Receiving.contact in
    let known = ap (λ (s : State). recalled_of (standing_of s)) c.in-Receiving.is in
    let kept = so_recalled c.args.response_due.now c.recalled.result (standing_of c.args.state) contact old.register known c.recalled.ensures so in
    let i = phase_received p contact c.in-Receiving.incoming (subst (StandsIn p) (ap standing_of c.in-Receiving.is) at) in
    let its = subst (λ (x : Phase). Holds x old.register) (sym i.1) holds in
    so_after _ contact c.in_receiving.new.response_due old (g.O.Office.view c.in_receiving.new.office) c.in_receiving.new.frame c.in_receiving.result
    (receiving_stays contact old.register i.0 c.args.command.now) (c.in_receiving.ensures.recalls clean stands kept) (c.in_receiving.ensures.takes kept clean stands i.0 its i.2)

-- where the station speaks
pub returns-in-AwaitingStart-clause-recalls : goal.returns-in-AwaitingStart-clause-recalls
returns-in-AwaitingStart-clause-recalls g c = λ clean stands p holds at so.
    let old = g.O.Office.view c.args.office.now in
    let contact = c.in-AwaitingStart.contact in
    let known = ap (λ (s : State). recalled_of (standing_of s)) c.in-AwaitingStart.is in
    let i = phase_offered p contact c.in-AwaitingStart.offered (subst (StandsIn p) (ap standing_of c.in-AwaitingStart.is) at) in
    let its = subst (λ (x : Phase). Holds x old.register) (sym i.1) holds in
    so_after _ contact c.recalled.result old (g.O.Office.view c.in_awaiting_start.new.office) c.in_awaiting_start.new.frame c.in_awaiting_start.result
    (offered_stays contact old.register i.0 c.args.command.now)
    (so_recalled c.args.response_due.now c.recalled.result (standing_of c.args.state) contact old.register known c.recalled.ensures so)
    (c.in_awaiting_start.ensures.takes clean stands i.0 its i.2)

pub returns-in-Sending-clause-recalls : goal.returns-in-Sending-clause-recalls
returns-in-Sending-clause-recalls g c = λ clean stands p holds at so.
    let old = g.O.Office.view c.args.office.now in
    let contact = c.in-Sending.contact in
    let known = ap (λ (s : State). recalled_of (standing_of s)) c.in-Sending.is in
    let i = phase_sent p contact c.in-Sending.outgoing (subst (StandsIn p) (ap standing_of c.in-Sending.is) at) in
    let its = subst (λ (x : Phase). Holds x old.register) (sym i.1) holds in
    so_after _ contact c.recalled.result old (g.O.Office.view c.in_sending.new.office) c.in_sending.new.frame c.in_sending.result
    (sent_stays contact old.register i.0 c.args.command.now)
    (so_recalled c.args.response_due.now c.recalled.result (standing_of c.args.state) contact old.register known c.recalled.ensures so)
    (c.in_sending.ensures.takes clean stands i.0 its i.2)

pub returns-in-AwaitingEnd-clause-recalls : goal.returns-in-AwaitingEnd-clause-recalls
returns-in-AwaitingEnd-clause-recalls g c = λ clean stands p holds at so.
    let old = g.O.Office.view c.args.office.now in
    let contact = c.in-AwaitingEnd.contact in
    let known = ap (λ (s : State). recalled_of (standing_of s)) c.in-AwaitingEnd.is in
    let i = phase_awaits p contact c.in-AwaitingEnd.number (subst (StandsIn p) (ap standing_of c.in-AwaitingEnd.is) at) in
    let its = subst (λ (x : Phase). Holds x old.register) (sym i.1) holds in
    so_after _ contact c.recalled.result old (g.O.Office.view c.in_awaiting_end.new.office) c.in_awaiting_end.new.frame c.in_awaiting_end.result
    (ended_stays contact old.register i.0 c.args.command.now)
    (so_recalled c.args.response_due.now c.recalled.result (standing_of c.args.state) contact old.register known c.recalled.ensures so)
    (c.in_awaiting_end.ensures.takes clean stands i.0 its i.2)

-- where every command ends the session
pub returns-in-ResponderOpening-clause-recalls : goal.returns-in-ResponderOpening-clause-recalls
returns-in-ResponderOpening-clause-recalls g c = λ clean stands p holds at so.
    unexpected_recalls c.args.command.now c.recalled.result c.unexpected.result c.unexpected.new.frame (g.O.Office.view c.args.office.now).register c.unexpected.ensures

-- before the session is open, and while RTR is missing
pub returns-in-InitiatorOpening-clause-recalls : goal.returns-in-InitiatorOpening-clause-recalls
returns-in-InitiatorOpening-clause-recalls g c = λ clean stands p holds at so.
    forgotten_next c.args.response_due.now c.recalled.result (standing_of c.args.state) (g.O.Office.view c.args.office.now).register
    (ap (λ (s : State). recalled_of (standing_of s)) c.in-InitiatorOpening.is) c.recalled.ensures (standing_of c.in_initiator_opening.result)

pub returns-in-AwaitingSsid-clause-recalls : goal.returns-in-AwaitingSsid-clause-recalls
returns-in-AwaitingSsid-clause-recalls g c = λ clean stands p holds at so.
    forgotten_next c.args.response_due.now c.recalled.result (standing_of c.args.state) (g.O.Office.view c.args.office.now).register
    (ap (λ (s : State). recalled_of (standing_of s)) c.in-AwaitingSsid.is) c.recalled.ensures (standing_of c.in_awaiting_ssid.result)

pub returns-in-AwaitingRtr-clause-recalls : goal.returns-in-AwaitingRtr-clause-recalls
returns-in-AwaitingRtr-clause-recalls g c = λ clean stands p holds at so.
    forgotten_result c.args.response_due.now c.recalled.result (standing_of c.args.state) (g.O.Office.view c.in_awaiting_rtr.new.office).register
    (ap (λ (s : State). recalled_of (standing_of s)) c.in-AwaitingRtr.is) c.recalled.ensures c.in_awaiting_rtr.result
