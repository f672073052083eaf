use Rattle.std.proofs.Common.{sym, arith}
use Rattle.oftp_contents.proofs.DayLemmas.{no_date}
use Rattle.oftp_contents.proofs.days.day_at.Goals as goal

pub returns-in_default : goal.returns-in_default
returns-in_default c = sym (no_date c.args.time.now (omega (arith, c.in_default.len_below)))
