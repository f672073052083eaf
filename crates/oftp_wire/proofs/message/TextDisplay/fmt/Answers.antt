use Rattle.std.proofs.Common.{encode_utf8, rules, ◌∙◌}
use Rattle.std.proofs.Output.{has_written_append, has_written_of_eq}
use Rattle.oftp_wire.proofs.Printed.{taken_more, printed_more, printed_all}
use Rattle.oftp_wire.proofs.message.TextDisplay.fmt.Goals as goal

pub loop-c-init : goal.loop-c-init
loop-c-init g c = record { read = rw c.into_iter-c-iterator.ensures.into_iter_gives (c.chars-c-items.ensures.rest ∙ c.text.ensures.value); written = search rules }

pub loop-c-preserved : goal.loop-c-preserved
loop-c-preserved g c = record {
  read = taken_more c.loop-c.yielded c.in-Some.c _ _ _ c.in-Some.ensures.steps.0 c.loop-c.invariant.read;
  written = λ plain.
      has_written_of_eq _ _ _ _ _ (printed_more c.loop-c.yielded c.in-Some.c c.printable.result c.printable.ensures)
      (has_written_append _ _ _ _ (encode_utf8 c.printable.result) _ (c.loop-c.invariant.written plain) (search rules));
}

pub returns-clause-writes : goal.returns-clause-writes
returns-clause-writes g c = λ plain done.
    has_written_of_eq _ _ _ _ _ (printed_all c.loop-c.yielded _ c.args.self.now c.text.ensures.utf8 c.in-None.ensures.steps.0.0 c.loop-c.invariant.read) (c.loop-c.invariant.written plain)
