use Rattle.oftp_recording.proofs.RegisterLemmas.{HasAsked}
use Rattle.oftp_recording.proofs.registers.add_outgoing.Given as goal

-- what was looked up so far found no error
abbrev pub invariant-loop-place : goal.invariant-loop-place
invariant-loop-place g l = HasAsked (g.O.Office.view l.fn.office) (g.O.Office.view l.office)
