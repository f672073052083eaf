use Rattle.std.proofs.Common.{◌≡◌, ◌++◌, take, None}
use Rattle.std.specs.List.{flat_map, AllByRecursion}
use Rattle.oftp_codec.specs.Header.{frame, IsCommand}
use Rattle.oftp_codec.specs.Stream.{IsRest, copied, joined}
use Rattle.oftp_codec.proofs.cutting.cut.Given as goal

abbrev pub invariant-loop-piece : goal.invariant-loop-piece
invariant-loop-piece l = record {
  told : l.deframer.told ≡ None;
  limit : l.deframer.limit ≡ l.fn.limit;
  whole : joined (take l.piece-index l.pieces) ≡ flat_map frame (copied l.commands.items) ++ l.deframer.rest;
  each : AllByRecursion (IsCommand l.fn.limit) (copied l.commands.items);
  rest : IsRest l.fn.limit l.deframer.rest None;
}
