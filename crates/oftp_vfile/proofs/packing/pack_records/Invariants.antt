use Rattle.std.proofs.Common.{◌+◌, ◌-◌, ◌<◌, ◌≤◌, [], length, take, drop, get_or}
use Rattle.oftp_vfile.specs.Filling.{from_offset}
use Rattle.oftp_vfile.specs.Packing.{HasPacked}
use Rattle.oftp_vfile.proofs.packing.pack_records.Given as goal

abbrev pub invariant-loop-place : goal.invariant-loop-place
invariant-loop-place l =
    record {
      room : l.at ≤ length l.out;
      row : l.place.row ≤ length l.rows;
      offset : 0 < l.place.offset → l.place.offset < length (get_or l.rows l.place.row []);
      packed : HasPacked (length l.out) (from_offset l.fn.offset l.rows) (take l.at l.out) (length l.out - l.at) (from_offset l.place.offset (drop l.place.row l.rows));
    }

abbrev pub decreases-loop-place : goal.decreases-loop-place
decreases-loop-place l = (length l.out - l.at) + (length l.rows - l.place.row)
