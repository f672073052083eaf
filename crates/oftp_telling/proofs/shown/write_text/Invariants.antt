use Rattle.std.proofs.Common.{◌≡◌, ◌++◌, encode_utf8_all}
use Rattle.std.specs.Fmt.{HasWritten, IsPlainFormatter}
use Rattle.oftp_telling.specs.Shown.{shown_chars}
use Rattle.oftp_telling.proofs.shown.write_text.Given as goal

abbrev pub invariant-loop-c : goal.invariant-loop-c
invariant-loop-c g l = record {
  read : encode_utf8_all l.yielded ++ l.c-iterator.rest.now ≡ l.fn.text;
  written : IsPlainFormatter l.initial.f → HasWritten g.W.Write.write_str_gives l.initial.f (shown_chars l.yielded) l.f;
}
