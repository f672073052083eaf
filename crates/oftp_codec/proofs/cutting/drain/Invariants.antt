use Rattle.std.proofs.Common.{◌≡◌, ◌++◌, length, None}
use Rattle.std.specs.List.{flat_map, AllByRecursion}
use Rattle.oftp_codec.specs.Header.{frame, IsCommand}
use Rattle.oftp_codec.specs.Stream.{copied}
use Rattle.oftp_codec.proofs.cutting.drain.Given as goal

abbrev pub invariant-loop-command : goal.invariant-loop-command
invariant-loop-command l = record {
  told : l.deframer.told ≡ None;
  limit : l.deframer.limit ≡ l.initial.deframer.limit;
  whole : flat_map frame (copied l.initial.commands.items) ++ l.initial.deframer.rest ≡ flat_map frame (copied l.commands.items) ++ l.deframer.rest;
  each : AllByRecursion (IsCommand l.initial.deframer.limit) (copied l.initial.commands.items) → AllByRecursion (IsCommand l.initial.deframer.limit) (copied l.commands.items);
}

abbrev pub decreases-loop-command : goal.decreases-loop-command
decreases-loop-command l = length l.deframer.rest
