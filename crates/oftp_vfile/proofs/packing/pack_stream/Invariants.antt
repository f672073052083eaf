use Rattle.std.proofs.Common.{◌≡◌, ◌-◌, ◌<◌, ◌≤◌, [], length, take, get_or, true}
use Rattle.oftp_vfile.specs.Packing.{rest_at, HasStreamed}
use Rattle.oftp_vfile.proofs.packing.pack_stream.Given as goal

abbrev pub invariant-loop-out : goal.invariant-loop-out
invariant-loop-out l =
    record {
      room : l.at ≤ length l.out;
      row : l.place.row ≤ length l.rows;
      offset : 0 < l.place.offset → l.place.offset < length (get_or l.rows l.place.row []);
      more : l.last ≡ true → 0 < l.at → 0 < length (rest_at l.rows l.place.row l.place.offset);
      packed : HasStreamed l.last (length l.out) (rest_at l.rows 0 l.fn.offset) (take l.at l.out) (length l.out - l.at) (rest_at l.rows l.place.row l.place.offset);
    }

abbrev pub decreases-loop-out : goal.decreases-loop-out
decreases-loop-out l = length l.out - l.at
