use Rattle.oftp_store.proofs.OpenLemmas.{opened_is_kept, told_of_path}
use Rattle.oftp_store.proofs.file.connect_at.Goals as goal

pub returns-in-Ok-clause-unkept : goal.returns-in-Ok-clause-unkept
returns-in-Ok-clause-unkept g c = (λ is. absurd (opened_is_kept _ _ is), λ unkept. absurd (opened_is_kept _ _ (c.in-Ok.ensures.unkept.1 unkept)))

pub returns-in-Err-clause-unkept : goal.returns-in-Err-clause-unkept
returns-in-Err-clause-unkept g c = told_of_path _ c.in-Err.ensures.unkept
