use Rattle.oftp_tables.proofs.ShapeLemmas.{alike_then, same_then, nothing_else}
use Rattle.oftp_tables.proofs.shape.is_table.Goals as goal

pub returns : goal.returns
returns c = (λ h. alike_then _ _ (nothing_else c.args.wanted.now) (c.is_alike.ensures.0 h), λ e. c.is_alike.ensures.1 (same_then _ _ (nothing_else c.args.wanted.now) e))
