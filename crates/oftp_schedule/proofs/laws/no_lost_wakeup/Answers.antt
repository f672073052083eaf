use Rattle.oftp_schedule.specs.Machine.{start, run}
use Rattle.oftp_schedule.proofs.Fitting.{run_distinct}
use Rattle.oftp_schedule.proofs.Wakeups.{guests_are_awake, updates_are_awake, ups_are_awake, clock_is_awake, queries_are_awake, session_is_awake, calls_are_awake, commands_are_awake, doors_are_awake, end_is_awake, end_comes}
use Rattle.oftp_schedule.proofs.laws.no_lost_wakeup.Goals as goal

pub returns : goal.returns
returns c = record {
  guests = λ l ms. guests_are_awake (run (start l) ms) (run_distinct (start l) ms tt);
  updates = λ l ms. updates_are_awake (run (start l) ms) (run_distinct (start l) ms tt);
  ups = λ l ms. ups_are_awake (run (start l) ms) (run_distinct (start l) ms tt);
  clock = λ l ms. clock_is_awake (run (start l) ms) (run_distinct (start l) ms tt);
  queries = λ l ms. queries_are_awake (run (start l) ms) (run_distinct (start l) ms tt);
  session = λ l ms. session_is_awake (run (start l) ms);
  calls = λ l ms. calls_are_awake (run (start l) ms) (run_distinct (start l) ms tt);
  commands = λ l ms. commands_are_awake (run (start l) ms);
  doors = λ l ms. doors_are_awake (run (start l) ms);
  end = λ l ms. end_is_awake (run (start l) ms);
  end_comes = end_comes;
}
