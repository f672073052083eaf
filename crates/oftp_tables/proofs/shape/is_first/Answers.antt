use Rattle.std.specs.Fmt.{digits}
use Rattle.oftp_tables.proofs.shape.is_first.Goals as goal

pub returns : goal.returns
unfolding digits
returns c = c.is_shape.ensures
