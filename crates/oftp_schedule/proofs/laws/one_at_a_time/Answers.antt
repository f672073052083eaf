use Rattle.oftp_schedule.specs.Machine.{start, run}
use Rattle.oftp_schedule.proofs.Alone.{always_apart, choice_apart}
use Rattle.oftp_schedule.proofs.Pacing.{choice_paced}
use Rattle.oftp_schedule.proofs.Fitting.{run_distinct}
use Rattle.oftp_schedule.proofs.Resting.{is_dated, is_brief, is_rested}
use Rattle.oftp_schedule.proofs.laws.one_at_a_time.Goals as goal

pub returns : goal.returns
returns c = record {
  apart = always_apart;
  chosen = λ l ms. choice_apart (run (start l) ms);
  paced = λ l ms. choice_paced (run (start l) ms);
  dated = λ l before during. is_dated (run (start l) before) during (run_distinct (start l) before tt);
  brief = λ l ms m. is_brief (run (start l) ms) m (run_distinct (start l) ms tt);
  rested = λ l before during after. is_rested (run (start l) before) during after (run_distinct (start l) before tt);
}
