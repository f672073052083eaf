use Rattle.oftp_schedule.specs.Machine.{start, run}
use Rattle.oftp_schedule.proofs.Fitting.{run_distinct}
use Rattle.oftp_schedule.proofs.Within.{is_within, sessions_end}
use Rattle.oftp_schedule.proofs.Lengths.{keeps_ends, is_hastened}
use Rattle.oftp_schedule.proofs.Yielding.{yields_in_time}
use Rattle.oftp_schedule.proofs.Timely.{choice_timely, choice_less}
use Rattle.oftp_schedule.proofs.Deadlines.{knows_deadlines, knows_clock, knows_rests, knows_room, knows_quiet, knows_way, unmoved_by, unmoved, is_kept, on_time, gives_way, is_to_come}
use Rattle.oftp_schedule.proofs.laws.gone_in_time.Goals as goal

pub returns : goal.returns
returns c = record {
  within = is_within;
  ends = sessions_end;
  keeps = λ l ms m. keeps_ends (run (start l) ms) m (run_distinct (start l) ms tt);
  least = λ l ms. knows_deadlines (run (start l) ms);
  clock = λ l ms. knows_clock (run (start l) ms);
  rests = λ l ms. knows_rests (run (start l) ms);
  room = λ l ms. knows_room (run (start l) ms);
  quiet = λ l ms. knows_quiet (run (start l) ms);
  way = λ l ms. knows_way (run (start l) ms);
  told = λ l ms e. unmoved_by (run (start l) ms) e (run_distinct (start l) ms tt);
  asked = λ l ms. unmoved (run (start l) ms);
  kept = is_kept;
  gone = λ l ms. on_time (run (start l) ms);
  gives_way = λ l ms. gives_way (run (start l) ms);
  yields = λ l ms. yields_in_time (run (start l) ms);
  early = λ l ms. choice_timely (run (start l) ms) (run_distinct (start l) ms tt);
  fewer = λ l ms. choice_less (run (start l) ms) (run_distinct (start l) ms tt);
  hastens = λ l ms m. is_hastened (run (start l) ms) m (run_distinct (start l) ms tt);
  to_come = is_to_come;
}
