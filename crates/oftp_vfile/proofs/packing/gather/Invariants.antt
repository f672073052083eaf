use Rattle.std.proofs.Common.{◌≡◌, ◌+◌, ◌-◌, ◌<◌, ◌≤◌, [], length, take, drop, get_or}
use Rattle.oftp_vfile.specs.VirtualFile.{octets_in}
use Rattle.oftp_vfile.proofs.packing.gather.Given as goal

abbrev pub invariant-loop-row : goal.invariant-loop-row
invariant-loop-row l =
    let all = drop l.fn.from.offset (octets_in (drop l.fn.from.row l.rows)) in
    record {
      octets : take l.at l.out ≡ take l.at all;
      rest : drop l.offset (octets_in (drop l.row l.rows)) ≡ drop l.at all;
      within : l.at ≤ length all;
      room : l.at ≤ length l.out;
      row : l.row ≤ length l.rows;
      offset : 0 < l.offset → l.offset < length (get_or l.rows l.row []);
    }

abbrev pub decreases-loop-row : goal.decreases-loop-row
decreases-loop-row l = (length l.out - l.at) + (length l.rows - l.row)
