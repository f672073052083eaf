use Rattle.oftp_recording.proofs.RegisterLemmas.{HasAsked}
use Rattle.oftp_recording.proofs.registers.register_digest.Given as goal

-- what was looked up so far found no error
abbrev pub invariant-loop-kind : goal.invariant-loop-kind
invariant-loop-kind g l = HasAsked (g.O.Office.view l.fn.office) (g.O.Office.view l.office)
