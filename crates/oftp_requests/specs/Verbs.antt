-- What a call of an operator does with its file.
use Rattle.oftp_engine.specs.declared.operating.Operator.{Operator}
use Rattle.oftp_engine.specs.declared.operating.Operator.TheVariants as operator
use Rattle.oftp_outcomes.specs.declared.outcome.Verb.{Verb}
use Rattle.oftp_outcomes.specs.declared.outcome.Verb.TheVariants as verb

abbrev pub verb_of : Operator → Verb
verb_of (operator.Submit submission) = verb.Submit
verb_of (operator.Release n) = verb.Release
verb_of (operator.Refuse n reason text) = verb.Refuse
