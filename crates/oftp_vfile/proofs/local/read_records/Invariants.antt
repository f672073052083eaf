use Rattle.std.proofs.Common.{◌≡◌, ◌≤◌, ◌++◌, ℕ, List, All, length}
use Rattle.oftp_vfile.specs.declared.format.Format.TheVariants.{Variable}
use Rattle.oftp_vfile.specs.LocalForm.{local_of}
use Rattle.oftp_vfile.proofs.LocalLemmas.{GoesTo}
use Rattle.oftp_vfile.proofs.local.read_records.Given as goal

abbrev pub invariant-loop-rest : goal.invariant-loop-rest
invariant-loop-rest l = record {
  goes : GoesTo l.longest l.content l.rest;
  short : All (λ (r : List ℕ). length r ≤ l.longest) l.rows.items;
  joined : l.content ≡ local_of Variable l.rows.items ++ l.rest;
}

abbrev pub decreases-loop-rest : goal.decreases-loop-rest
decreases-loop-rest l = length l.rest
