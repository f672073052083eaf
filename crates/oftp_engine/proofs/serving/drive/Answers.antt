use Rattle.std.proofs.Common.{refl, sym, subst, ◌∙◌}
use Rattle.oftp_wire.specs.declared.reason.SessionReason.TheVariants.{ProtocolViolation}
use Rattle.oftp_session.specs.Phases.{EndedHere}
use Rattle.oftp_engine.specs.Conversation.{IsOwn}
use Rattle.oftp_engine.specs.InsideServing.{Behaves}
use Rattle.oftp_engine.specs.Serving.{scene}
use Rattle.oftp_engine.proofs.Progress.{went_none}
use Rattle.oftp_engine.proofs.Driving.{has_ended, left_some, made_all, handle_fails, handled, paused, refuse_fails, refused_bad, shorter, turn_fails, waits}
use Rattle.oftp_engine.proofs.Behaving.{fails_after, goes_after}
use Rattle.oftp_engine.proofs.Openings.{stands_unbroken}
use Rattle.oftp_engine.proofs.Telling.{handed_on, told_on}
use Rattle.oftp_io.proofs.Puts.{puts_none, puts_on}
use Rattle.oftp_engine.proofs.Stepping.{stepped_refuse}
use Rattle.oftp_engine.proofs.serving.drive.Goals as goal

pub frames-init : goal.frames-init
frames-init g c = record {
  out = puts_none g.W.Write.contents c.args.writer.now;
  faults = refl;
  unbroken = c.requires;
  clean = λ h. h;
  goes = λ clean stood k lim told at.
      let first = scene g.W.Write.contents (g.O.Office.view c.args.office.now) c.args.writer.now in
      record { come = record { at = k; went = went_none k c.args.stream.now.rest first; now = at }; limit = lim; told = told };
}

pub frames-smaller : goal.frames-smaller
frames-smaller g c = shorter c.frames.stream _ c.in-Ok-Some.field-0 c.in-Ok-Some.octets c.in-Ok-Some.ensures.value c.in-Ok-Some.field-0-is c.next.follows.holds-at-none

pub frames-preserved : goal.frames-preserved
frames-preserved g c =
    let contents = g.W.Write.contents in
    let turned = puts_on contents c.args.writer.now c.frames.writer c.write_due.new.writer c.frames.invariant.out c.write_due.ensures.behaves.out in
    record {
      out = puts_on contents c.args.writer.now c.write_due.new.writer c.parse_and_handle.new.writer turned c.parse_and_handle.ensures.behaves.out;
      faults = c.in_ok-parse_and_handle-in-Ok-Some.ensures.behaves.told ∙ c.in_ok-count.ensures.behaves.told ∙ c.frames.invariant.faults;
      unbroken = c.in_ok-parse_and_handle-in-Ok-Some.ensures.behaves.unbroken;
      clean = λ h. c.frames.invariant.clean (c.write_due.ensures.behaves.clean (c.parse_and_handle.ensures.behaves.clean h));
      goes = λ clean stood k lim told at.
          let before = c.parse_and_handle.ensures.behaves.clean clean in
          handled _ _ _ _ _ _ (c.frames.invariant.goes (c.write_due.ensures.behaves.clean before) stood k lim told at) stood
          _ _ (made_all _ (c.in_ok-count.ensures.steps before) _ c.in-Made.is) _ c.ended.ensures.phase c.in_default.is _ c.next.follows.holds-at-none
          _ c.in-Ok-Some.octets c.in-Ok-Some.ensures.value c.in-Ok-Some.field-0-is _ _ (c.in_ok-parse_and_handle-in-Ok-Some.ensures.steps clean);
    }

pub returns-in_err-count-clause-steps : goal.returns-in_err-count-clause-steps
returns-in_err-count-clause-steps g c = λ clean stood k lim told at.
    turn_fails _ _ _ _ _ _ (c.frames.invariant.goes (c.write_due.ensures.behaves.clean clean) stood k lim told at) stood
    _ _ _ _ _ (c.in_err-count.ensures.steps clean) (handed_on _ _ c.from_residual.ensures.1)

pub returns-in-Left-clause-steps : goal.returns-in-Left-clause-steps
returns-in-Left-clause-steps g c = λ clean stood k lim told at.
    paused _ _ _ _ _ _ (c.frames.invariant.goes (c.write_due.ensures.behaves.clean clean) stood k lim told at) stood
    _ _ (left_some _ (c.in_ok-count.ensures.steps clean) c.in-Left.is)

pub returns-in-Some-clause-steps : goal.returns-in-Some-clause-steps
returns-in-Some-clause-steps g c = λ clean stood k lim told at.
    has_ended _ _ _ _ _ _ (c.frames.invariant.goes (c.write_due.ensures.behaves.clean clean) stood k lim told at) stood
    _ _ (made_all _ (c.in_ok-count.ensures.steps clean) _ c.in-Made.is) _ c.ended.ensures.phase _ c.in-Some.is

pub returns-in_err-parse_and_handle-in-Ok-Some-clause-steps : goal.returns-in_err-parse_and_handle-in-Ok-Some-clause-steps
returns-in_err-parse_and_handle-in-Ok-Some-clause-steps g c = λ clean stood k lim told at.
    let before = c.parse_and_handle.ensures.behaves.clean clean in
    handle_fails _ _ _ _ _ _ (c.frames.invariant.goes (c.write_due.ensures.behaves.clean before) stood k lim told at) stood
    _ _ (made_all _ (c.in_ok-count.ensures.steps before) _ c.in-Made.is) _ c.ended.ensures.phase c.in_default.is _ c.next.follows.holds-at-none
    _ c.in-Ok-Some.octets c.in-Ok-Some.ensures.value c.in-Ok-Some.field-0-is _ _ _ _ (c.in_err-parse_and_handle-in-Ok-Some.ensures.steps clean)
    (handed_on _ _ c.from_residual-in_err-parse_and_handle-in-Ok-Some.ensures.1)

pub returns-in-Ok-None-clause-steps : goal.returns-in-Ok-None-clause-steps
returns-in-Ok-None-clause-steps g c = λ clean stood k lim told at.
    waits _ _ _ _ _ _ (c.frames.invariant.goes (c.write_due.ensures.behaves.clean clean) stood k lim told at) stood
    _ _ (made_all _ (c.in_ok-count.ensures.steps clean) _ c.in-Made.is) _ c.ended.ensures.phase c.in_default.is _ c.next.follows.holds-at-none
    _ c.in-Ok-None.ensures.value c.in-Ok-None.field-0-is

pub returns-in-Err-clause-steps : goal.returns-in-Err-clause-steps
returns-in-Err-clause-steps g c = λ clean stood k lim told at.
    refused_bad _ _ _ _ _ _ (c.frames.invariant.goes (c.write_due.ensures.behaves.clean clean) stood k lim told at) stood
    _ _ (made_all _ (c.in_ok-count.ensures.steps clean) _ c.in-Made.is) _ c.ended.ensures.phase c.in_default.is _ c.next.follows.holds-at-none
    _ c.in-Err.ensures.value _ _ _
    (stepped_refuse _ _ _ _ _ _ _ _ c.end_with.ensures.setting c.end_with.ensures.over c.end_with.ensures.sent c.end_with.ensures.writes.err)
    _ c.in_ok-end_with-in-Err.was

pub returns-in_err-end_with-in-Err-clause-steps : goal.returns-in_err-end_with-in-Err-clause-steps
returns-in_err-end_with-in-Err-clause-steps g c = λ clean stood k lim told at.
    refuse_fails _ _ _ _ _ _ (c.frames.invariant.goes (c.write_due.ensures.behaves.clean clean) stood k lim told at) stood
    _ _ (made_all _ (c.in_ok-count.ensures.steps clean) _ c.in-Made.is) _ c.ended.ensures.phase c.in_default.is _ c.next.follows.holds-at-none
    _ c.in-Err.ensures.value _ _ _
    (stepped_refuse _ _ _ _ _ _ _ _ c.end_with.ensures.setting c.end_with.ensures.over c.end_with.ensures.sent c.end_with.ensures.writes.err)
    _ _ c.in_err-end_with-in-Err.was (handed_on _ _ c.from_residual-in_err-end_with-in-Err.ensures.1)

pub returns-in_err-count-clause-behaves : goal.returns-in_err-count-clause-behaves
returns-in_err-count-clause-behaves g c =
    let i = c.frames.invariant in
    fails_after i.out i.faults i.clean c.in_err-count.ensures.behaves (handed_on _ _ c.from_residual.ensures.1)

pub returns-in-Left-clause-behaves : goal.returns-in-Left-clause-behaves
returns-in-Left-clause-behaves g c = let i = c.frames.invariant in goes_after i.out i.faults i.clean c.in_ok-count.ensures.behaves

pub returns-in-Some-clause-behaves : goal.returns-in-Some-clause-behaves
returns-in-Some-clause-behaves g c = let i = c.frames.invariant in goes_after i.out i.faults i.clean c.in_ok-count.ensures.behaves

pub returns-in-Ok-None-clause-behaves : goal.returns-in-Ok-None-clause-behaves
returns-in-Ok-None-clause-behaves g c = let i = c.frames.invariant in goes_after i.out i.faults i.clean c.in_ok-count.ensures.behaves

pub returns-in_err-parse_and_handle-in-Ok-Some-clause-behaves : goal.returns-in_err-parse_and_handle-in-Ok-Some-clause-behaves
returns-in_err-parse_and_handle-in-Ok-Some-clause-behaves g c =
    let i = c.frames.invariant in
    let turned = c.in_ok-count.ensures.behaves in
    fails_after (puts_on _ _ _ _ i.out turned.out) (turned.told ∙ i.faults) (λ h. i.clean (turned.clean h)) c.in_err-parse_and_handle-in-Ok-Some.ensures.behaves
    (handed_on _ _ c.from_residual-in_err-parse_and_handle-in-Ok-Some.ensures.1)

pub returns-in_err-end_with-in-Err-clause-behaves : goal.returns-in_err-end_with-in-Err-clause-behaves
returns-in_err-end_with-in-Err-clause-behaves g c =
    let i = c.frames.invariant in
    let turned = c.in_ok-count.ensures.behaves in
    let ended = c.in_err-end_with-in-Err.ensures in
    subst (Behaves g.W.Write.contents (g.O.Office.view c.args.office.now) (g.O.Office.view c.write_due.new.office) c.args.writer.now c.end_with.new.port c.end_with.new.session)
    (sym (handed_on _ _ c.from_residual-in_err-end_with-in-Err.ensures.1)) (record {
      clean = λ h. i.clean (turned.clean h);
      own = subst IsOwn (sym ended.writes.err) tt;
      unbroken = tt;
      out = puts_on _ _ _ _ (puts_on _ _ _ _ i.out turned.out) c.end_with.ensures.writes.out;
      told = told_on c.args.writer.now c.write_due.new.writer c.end_with.new.port _ (turned.told ∙ i.faults) ended.writes.told;
    })

pub returns-in-Err-clause-behaves : goal.returns-in-Err-clause-behaves
returns-in-Err-clause-behaves g c =
    let i = c.frames.invariant in
    let turned = c.in_ok-count.ensures.behaves in
    let ended = c.in_ok-end_with-in-Err.ensures in
    record {
      clean = λ h. i.clean (turned.clean h);
      own = tt;
      unbroken = stands_unbroken (EndedHere ProtocolViolation) c.end_with.new.session.standing ended.over;
      out = puts_on _ _ _ _ (puts_on _ _ _ _ i.out turned.out) c.end_with.ensures.writes.out;
      told = ended.writes.told ∙ turned.told ∙ i.faults;
    }
