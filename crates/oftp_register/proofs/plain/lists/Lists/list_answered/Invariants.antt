use Rattle.std.proofs.Common.{◌≡◌, map, take}
use Rattle.oftp_register.specs.LookUps.{answered_entry, numbered}
use Rattle.oftp_register.specs.Lists.{received_of, register_in}
use Rattle.oftp_register.proofs.plain.lists.Lists.list_answered.Given as goal

-- the entries so far
abbrev pub invariant-loop-place : goal.invariant-loop-place
invariant-loop-place l = l.entries.items ≡ numbered (answered_entry (register_in l.self)) 1 (map received_of (take l.place l.self.received.items))
