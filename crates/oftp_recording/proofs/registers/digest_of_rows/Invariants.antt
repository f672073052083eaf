use Rattle.oftp_recording.proofs.RegisterLemmas.{HasAsked}
use Rattle.oftp_recording.proofs.registers.digest_of_rows.Given as goal

-- what was looked up so far found no error
abbrev pub invariant-loop : goal.invariant-loop
invariant-loop g l = HasAsked (g.O.Office.view l.fn.office) (g.O.Office.view l.office)
