use Rattle.std.proofs.Common.{◌≡◌, None, length}
use Rattle.oftp_codec.specs.declared.limits.TheConstants.{LONGEST_FRAME}
use Rattle.oftp_engine.specs.Runs.{Course}
use Rattle.oftp_engine.specs.Serving.{scene}
use Rattle.oftp_engine.specs.Progress.{IsAt}
use Rattle.oftp_engine.proofs.Driving.{IsDriving}
use Rattle.oftp_engine.proofs.Underway.{IsUnderway}
use Rattle.oftp_engine.proofs.serving.drive.Given as goal

abbrev pub invariant-frames : goal.invariant-frames
invariant-frames g l =
    let old = g.O.Office.view l.fn.office in
    let new = g.O.Office.view l.office in
    let first = scene g.W.Write.contents old l.fn.writer in
    IsUnderway g.W.Write.contents old new l.fn.writer l.writer l.session
    (new.clean → old.stands → (c : Course) → l.fn.stream.limit ≡ LONGEST_FRAME → l.fn.stream.told ≡ None → IsAt c l.fn.session first
    → IsDriving c l.fn.stream.rest l.stream l.session first (scene g.W.Write.contents new l.writer))

abbrev pub decreases-frames : goal.decreases-frames
decreases-frames g l = length l.stream.rest
