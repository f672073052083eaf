use Rattle.oftp_schedule.specs.Machine.{start, run}
use Rattle.oftp_schedule.proofs.Ending.{step_ending, choice_anew, choice_departs, choice_over}
use Rattle.oftp_schedule.proofs.laws.ends_in_order.Goals as goal

pub returns : goal.returns
returns c = record {
  stays = step_ending;
  nothing_new = λ l ms. choice_anew (run (start l) ms);
  departs = λ l ms. choice_departs (run (start l) ms);
  over = λ l ms. choice_over (run (start l) ms);
}
