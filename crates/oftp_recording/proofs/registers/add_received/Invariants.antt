use Rattle.oftp_recording.proofs.RegisterLemmas.{HasAsked}
use Rattle.oftp_recording.proofs.registers.add_received.Given as goal

-- what was looked up so far found no error
abbrev pub invariant-loop-entry : goal.invariant-loop-entry
invariant-loop-entry g l = HasAsked (g.O.Office.view l.fn.office) (g.O.Office.view l.office)
