use Rattle.std.proofs.lemmas.Slice.Eq.{strip_prefix_is}
use Rattle.std.specs.Cmp.{unsigned_Decides}
use Rattle.oftp_requests.proofs.ComparisonLemmas.{compared_on, still_expected}
use Rattle.oftp_requests.proofs.comparing.Comparison.take.Goals as goal

pub returns-in-Some : goal.returns-in-Some
returns-in-Some c = λ content written knows. compared_on content written c.in-Some.rest.now c.args.octets.now c.strip_prefix-self.result
    (still_expected content written c.args.self.now c.in-Some.rest c.in-Some.is knows)
    (strip_prefix_is unsigned_Decides c.in-Some.rest.now c.args.octets.now c.strip_prefix-self.result c.strip_prefix-self.ensures.cases)
