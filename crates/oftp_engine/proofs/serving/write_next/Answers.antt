use Rattle.std.proofs.Common.{◌≢◌, Result, subst, sym}
use Rattle.std.specs.Result.{OnOk}
use Rattle.oftp_session.specs.declared.session.Out.{Out}
use Rattle.oftp_session.specs.declared.session.SessionFault.{SessionFault}
use Rattle.oftp_session.specs.Steps.{turned, Holds}
use Rattle.oftp_session.proofs.Phases.{turn_live}
use Rattle.oftp_session.proofs.Proceeding.{turned_proceeds}
use Rattle.oftp_session.specs.Calls.{Stands}
use Rattle.oftp_session.specs.Recalling.{Recalls}
use Rattle.oftp_session.specs.Standings.{Broken}
use Rattle.oftp_engine.specs.declared.serving.RunFault.{RunFault}
use Rattle.oftp_engine.specs.Conversation.{IsOwn}
use Rattle.oftp_engine.specs.Serving.{scene}
use Rattle.oftp_engine.specs.InsideServing.{StepFails}
use Rattle.oftp_engine.proofs.Behaving.{if_ok, written_own}
use Rattle.oftp_engine.proofs.Stepping.{called_ok, called_err, run_fault_own}
use Rattle.oftp_engine.proofs.serving.write_next.Goals as goal

pub returns-in-Ok-clause-steps : goal.returns-in-Ok-clause-steps
returns-in-Ok-clause-steps g c = λ clean stood k turn at.
    let r = (g.O.Office.view c.args.office.now).register in
    let held = subst (Holds k.phase) (sym at.register) at.suits.holds in
    let so = subst (Recalls c.args.session.now) (sym at.register) at.recalls in
    let live = turn_live k.phase turn in
    let after = (g.O.Office.view c.turn.new.office).register in
    let done = c.turn.follows.holds-at-none in
    let stands = subst (λ (x : Result Out SessionFault). OnOk x (Stands (turned c.args.session.now.setting k.phase r).phase c.turn.follows.lender-at-none)) c.in-Ok.is
    (done.made.phase clean stood k.phase held live at.stands so) in
    let recalls = subst (λ (x : Result Out SessionFault). OnOk x (Recalls c.turn.follows.lender-at-none after)) c.in-Ok.is
    (done.recalls clean stood k.phase held live at.stands so) in
    called_ok g.W.Write.contents c.args.writer.now c.write_out.new.port _ _ k c.args.session.now (λ setting r. turned setting k.phase r) at _ c.in-Ok.out c.write_out.result
    done.made.setting (c.in-Ok.ensures.does clean stood k.phase held live at.stands so) (turned_proceeds k.setting k.phase k.register at.suits).suits stands recalls c.write_out.ensures.sent
    c.write_out.ensures.writes.err

pub returns-in-Err-clause-steps : goal.returns-in-Err-clause-steps
returns-in-Err-clause-steps g c = λ clean stood k turn at.
    let old = scene g.W.Write.contents (g.O.Office.view c.args.office.now) c.args.writer.now in
    let new = scene g.W.Write.contents (g.O.Office.view c.turn.new.office) c.break_off.new.port in
    let held = subst (Holds k.phase) (sym at.register) at.suits.holds in
    let so = subst (Recalls c.args.session.now) (sym at.register) at.recalls in
    let live = turn_live k.phase turn in
    subst (λ (x : RunFault). StepFails k (turned k.setting k.phase k.register) old new x) (sym c.break_off.ensures.fault)
    (called_err g.W.Write.contents c.args.writer.now c.break_off.new.port _ _ k c.args.session.now (λ setting r. turned setting k.phase r) at c.in-Err.fault
    (c.in-Err.ensures.does clean stood k.phase held live at.stands so) c.break_off.ensures.broke)

pub returns-in-Ok-clause-behaves : goal.returns-in-Ok-clause-behaves
returns-in-Ok-clause-behaves g c =
    let unbroken : c.turn.follows.lender-at-none.standing ≢ Broken =
    subst (λ (x : Result Out SessionFault). OnOk x (c.turn.follows.lender-at-none.standing ≢ Broken)) c.in-Ok.is c.turn.follows.holds-at-none.made.whole in
    record {
      clean = c.turn.ensures.clean;
      own = written_own c.write_out.result c.write_out.ensures.writes.err;
      unbroken = if_ok c.write_out.result unbroken;
      out = c.write_out.ensures.writes.out;
      told = c.write_out.ensures.writes.told;
    }

pub returns-in-Err-clause-behaves : goal.returns-in-Err-clause-behaves
returns-in-Err-clause-behaves g c = record {
  clean = c.turn.ensures.clean;
  own = subst IsOwn (sym c.break_off.ensures.fault) (run_fault_own c.in-Err.fault);
  unbroken = tt;
  out = c.break_off.ensures.out;
  told = c.break_off.ensures.told;
}
