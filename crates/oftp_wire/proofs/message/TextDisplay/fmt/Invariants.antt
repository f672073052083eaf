use Rattle.std.proofs.Common.{◌≡◌, ◌++◌, encode_utf8_all}
use Rattle.std.specs.Fmt.{HasWritten, IsPlainFormatter}
use Rattle.oftp_wire.proofs.Printed.{printed}
use Rattle.oftp_wire.proofs.message.TextDisplay.fmt.Given as goal

abbrev pub invariant-loop-c : goal.invariant-loop-c
invariant-loop-c g l = record {
  read : encode_utf8_all l.yielded ++ l.c-iterator.rest.now ≡ l.fn.self;
  written : IsPlainFormatter l.initial.f → HasWritten g.W.Write.write_str_gives l.initial.f (printed l.yielded) l.f;
}
