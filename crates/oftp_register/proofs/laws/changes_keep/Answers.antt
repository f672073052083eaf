use Rattle.oftp_register.proofs.KeepLemmas.{apply_keeps}
use Rattle.oftp_register.proofs.laws.changes_keep.Goals as goal

pub returns : goal.returns
returns c = apply_keeps
