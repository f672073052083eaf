use Rattle.std.proofs.Common.{◌≡◌, map, take}
use Rattle.oftp_register.specs.LookUps.{incoming_entry, numbered}
use Rattle.oftp_register.specs.Lists.{incoming_of}
use Rattle.oftp_register.proofs.plain.lists.Lists.list_in.Given as goal

-- the entries so far
abbrev pub invariant-loop-place : goal.invariant-loop-place
invariant-loop-place l = l.entries.items ≡ numbered incoming_entry 1 (map incoming_of (take l.place l.self.incoming.items))
