use Rattle.std.proofs.Common.{[]}
use Rattle.oftp_session.specs.Standings.{turns_left}
use Rattle.oftp_engine.specs.Runs.{Course}
use Rattle.oftp_engine.specs.Serving.{scene}
use Rattle.oftp_engine.specs.Progress.{IsAt, Comes}
use Rattle.oftp_engine.proofs.Underway.{IsUnderway}
use Rattle.oftp_engine.proofs.serving.write_due.Given as goal

abbrev pub invariant-turns : goal.invariant-turns
invariant-turns g l =
    let old = g.O.Office.view l.fn.office in
    let new = g.O.Office.view l.office in
    let first = scene g.W.Write.contents old l.fn.writer in
    IsUnderway g.W.Write.contents old new l.fn.writer l.writer l.session
    (new.clean → old.stands → (c : Course) → IsAt c l.fn.session first → Comes c [] [] l.session first (scene g.W.Write.contents new l.writer))

abbrev pub decreases-turns : goal.decreases-turns
decreases-turns g l = turns_left l.session.standing
