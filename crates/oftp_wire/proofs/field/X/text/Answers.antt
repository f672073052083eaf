use Rattle.oftp_wire.proofs.Scans.{is_text, name_utf8}
use Rattle.oftp_wire.proofs.field.X.text.Goals as goal

pub unwrap-requires : goal.unwrap-requires
unwrap-requires g c = is_text _ _ c.from_utf8.result c.from_utf8.ensures.cases (name_utf8 _ _ c.self.invariant)
