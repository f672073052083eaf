use Rattle.oftp_engine.specs.Served.{setting_of}
use Rattle.std.proofs.Common.{◌-◌}
use Rattle.oftp_engine.specs.Serving.{scene}
use Rattle.oftp_engine.proofs.Listening.{IsReading}
use Rattle.oftp_engine.proofs.Underway.{IsUnderway}
use Rattle.oftp_engine.proofs.serving.serve.Given as goal

abbrev pub invariant-pieces : goal.invariant-pieces
invariant-pieces g l =
    let old = g.O.Office.view l.fn.office in
    let new = g.O.Office.view l.office in
    IsUnderway g.W.Write.contents old new l.fn.writer l.writer l.conversation.seen
    (IsReading g.R.Read.remaining l.fn.reader l.reader new.clean old.stands (setting_of l.fn.book l.fn.role) l.conversation
    (scene g.W.Write.contents old l.fn.writer) (scene g.W.Write.contents new l.writer))

abbrev pub decreases-pieces : goal.decreases-pieces
decreases-pieces g l = l.reader.most - l.reader.moved
