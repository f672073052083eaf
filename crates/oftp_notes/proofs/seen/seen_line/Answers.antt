use Rattle.std.proofs.Common.{string_bytes}
use Rattle.oftp_notes.proofs.Lines.{one_line_all}
use Rattle.oftp_notes.proofs.seen.seen_line.Goals as goal

pub returns-clause-alone : goal.returns-clause-alone
returns-clause-alone c = one_line_all string_bytes c.line_of.result _ c.line_of.ensures
