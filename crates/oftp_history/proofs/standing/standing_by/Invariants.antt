use Rattle.std.proofs.Common.{◌≡◌, fold, take, None}
use Rattle.oftp_history.specs.Proofs.{standing_after}
use Rattle.oftp_history.proofs.standing.standing_by.Given as goal

-- how it stands after the events so far
abbrev pub invariant-loop-event : goal.invariant-loop-event
invariant-loop-event l = l.standing ≡ fold (standing_after l.way) None (take l.event-index l.events)
