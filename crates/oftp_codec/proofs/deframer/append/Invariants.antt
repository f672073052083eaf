use Rattle.std.proofs.Common.{◌≡◌, ◌++◌, take}
use Rattle.std.specs.Vec.{vec_capacity}
use Rattle.oftp_codec.proofs.deframer.append.Given as goal

abbrev pub invariant-loop-octet : goal.invariant-loop-octet
invariant-loop-octet l = record {
  items : l.buffer.items ≡ l.initial.buffer.items ++ take l.octet-index l.piece;
  capacity : vec_capacity l.buffer ≡ vec_capacity l.initial.buffer;
}
