use Rattle.oftp_schedule.specs.Machine.{start, run}
use Rattle.oftp_schedule.proofs.Firsts.{choice_first}
use Rattle.oftp_schedule.proofs.Turns.{choice_turn, is_round}
use Rattle.oftp_schedule.proofs.laws.in_order.Goals as goal

pub returns : goal.returns
returns c = record {
  first = λ l ms. choice_first (run (start l) ms);
  turn = λ l ms. choice_turn (run (start l) ms);
  round = λ l before during. is_round (run (start l) before) during;
}
