use Rattle.std.proofs.Common.{◌≡◌, map, take}
use Rattle.oftp_register.specs.LookUps.{outgoing_entry, numbered}
use Rattle.oftp_register.specs.Lists.{outgoing_of}
use Rattle.oftp_register.proofs.plain.lists.Lists.list_out.Given as goal

-- the entries so far
abbrev pub invariant-loop-place : goal.invariant-loop-place
invariant-loop-place l = l.entries.items ≡ numbered outgoing_entry 1 (map outgoing_of (take l.place l.self.outgoing.items))
