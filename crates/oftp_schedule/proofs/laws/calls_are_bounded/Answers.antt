use Rattle.std.proofs.Common.{subst}
use Rattle.oftp_schedule.specs.Machine.{start, run}
use Rattle.oftp_schedule.specs.History.{history}
use Rattle.oftp_schedule.specs.Calls.{call_of_number, hang_ups}
use Rattle.oftp_schedule.proofs.Fitting.{run_distinct}
use Rattle.oftp_schedule.proofs.Calls.{keeps_calls, Left, always_left, left_most, has_one_each}
use Rattle.oftp_schedule.proofs.laws.calls_are_bounded.Goals as goal

pub returns-clause-one_each : goal.returns-clause-one_each
returns-clause-one_each c = has_one_each

pub returns-clause-keeps : goal.returns-clause-keeps
returns-clause-keeps c l before during = keeps_calls (run (start l) before) during (run_distinct (start l) before tt)

pub returns-clause-left : goal.returns-clause-left
returns-clause-left c l ms id call e = subst (Left l.times (hang_ups id (history (start l) ms))) e (always_left l ms id)

pub returns-clause-most : goal.returns-clause-most
returns-clause-most c l ms id = left_most l.times (hang_ups id (history (start l) ms)) (call_of_number id (run (start l) ms)) (always_left l ms id)
