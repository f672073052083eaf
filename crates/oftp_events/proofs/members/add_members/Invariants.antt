use Rattle.std.proofs.Common.{◌≡◌, fold, take}
use Rattle.oftp_events.specs.InsideMembers.{with_member}
use Rattle.oftp_events.proofs.members.add_members.Given as goal

-- the members so far are appended
abbrev pub invariant-loop-key : goal.invariant-loop-key
invariant-loop-key l = l.line.items ≡ fold with_member l.initial.line.items (take l.key-index l.members)
