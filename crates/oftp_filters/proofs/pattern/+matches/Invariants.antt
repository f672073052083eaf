use Rattle.std.proofs.Common.{length, ◌≡◌}
use Rattle.oftp_filters.specs.Patterns.{an_ending, matches}
use Rattle.oftp_filters.proofs.pattern.+matches.Given as goal

abbrev pub decreases-matches : goal.decreases-matches
decreases-matches l = length l.pattern.now

-- some ending of the text matches if one of what is left does
abbrev pub invariant-loop-ending : goal.invariant-loop-ending
invariant-loop-ending l = an_ending (matches l.rest) l.text ≡ an_ending (matches l.rest) l.ending

abbrev pub decreases-loop-ending : goal.decreases-loop-ending
decreases-loop-ending l = length l.ending
