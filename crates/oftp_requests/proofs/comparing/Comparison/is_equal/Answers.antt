use Rattle.oftp_requests.proofs.ComparisonLemmas.{never_whole, still_expected, whole_at_end}
use Rattle.oftp_requests.proofs.comparing.Comparison.is_equal.Goals as goal

pub returns-in-Some : goal.returns-in-Some
returns-in-Some c = λ content written knows. whole_at_end content written c.in-Some.rest.now c.is_empty.result c.is_empty.ensures
    (still_expected content written c.args.self.now c.in-Some.rest c.in-Some.is knows)

pub returns-in-None : goal.returns-in-None
returns-in-None c = λ content written knows. never_whole content written c.args.self.now c.in-None.is knows
