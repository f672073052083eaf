use Rattle.oftp_schedule.proofs.Lives.{every_life, never_broken}
use Rattle.oftp_schedule.proofs.Tallies.{once, asked_before, handed_before}
use Rattle.oftp_schedule.proofs.Keeping.{kept_until}
use Rattle.oftp_schedule.proofs.laws.at_most_once.Goals as goal

pub returns : goal.returns
returns c = record {
  life = λ l ms id. every_life l ms id;
  unbroken = λ l ms id. never_broken l ms id;
  handed = λ l ms id. (once l ms id).0;
  answered = λ l ms id. (once l ms id).1.0;
  printed = λ l ms id. (once l ms id).1.1;
  asked = λ l ms id r before after e. asked_before l ms id r before after e;
  answer = λ l ms id before after e. handed_before l ms id before after e;
  kept = λ l ms id r why before between after e w. kept_until l ms id r why before between after e w;
}
