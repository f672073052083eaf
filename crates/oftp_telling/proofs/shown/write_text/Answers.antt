use Rattle.std.proofs.Common.{rules}
use Rattle.std.proofs.Output.{has_written_append, has_written_of_eq}
use Rattle.oftp_telling.specs.Shown.{shown_char}
use Rattle.oftp_telling.proofs.Written.{taken_more, shown_more, shown_all}
use Rattle.oftp_telling.proofs.shown.write_text.Goals as goal

pub loop-c-init : goal.loop-c-init
loop-c-init g c = record { read = rw c.into_iter-c-iterator.ensures.into_iter_gives c.chars-c-items.ensures.rest; written = search rules }

pub loop-c-preserved : goal.loop-c-preserved
loop-c-preserved g c = record {
  read = taken_more c.loop-c.yielded c.in-Some.c _ _ _ c.in-Some.ensures.steps.0 c.loop-c.invariant.read;
  written = λ plain.
      has_written_of_eq _ _ _ _ _ (shown_more c.loop-c.yielded c.in-Some.c)
      (has_written_append _ _ _ _ (shown_char c.in-Some.c) _ (c.loop-c.invariant.written plain) (search rules));
}

pub returns : goal.returns
returns g c = λ plain done.
    has_written_of_eq _ _ _ _ _ (shown_all c.loop-c.yielded _ c.args.text.now c.utf8.text c.in-None.ensures.steps.0.0 c.loop-c.invariant.read) (c.loop-c.invariant.written plain)
