use Rattle.std.proofs.Common.{sym, subst}
use Rattle.std.specs.Str.{IsUtf8}
use Rattle.oftp_wire.proofs.Scans.{is_text, digits_utf8}
use Rattle.oftp_evidence.proofs.names.digit_text.Goals as goal

pub unwrap-requires : goal.unwrap-requires
unwrap-requires g c = is_text _ _ c.from_utf8.result c.from_utf8.ensures.cases (subst IsUtf8 (sym c.octets.ensures.value) (digits_utf8 _ _ c.octets.ensures.digits))
