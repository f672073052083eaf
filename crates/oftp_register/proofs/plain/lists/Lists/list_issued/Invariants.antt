use Rattle.std.proofs.Common.{◌≡◌, map, take}
use Rattle.std.specs.List.{filter_map}
use Rattle.oftp_register.specs.LookUps.{issued_entry, numbered}
use Rattle.oftp_register.specs.Lists.{incoming_of}
use Rattle.oftp_register.proofs.plain.lists.Lists.list_issued.Given as goal

-- the responses so far
abbrev pub invariant-loop-place : goal.invariant-loop-place
invariant-loop-place l = l.entries.items ≡ filter_map (λ entry. entry) (numbered issued_entry 1 (map incoming_of (take l.place l.self.incoming.items)))
