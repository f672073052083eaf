use Rattle.std.proofs.Common.{◌≡◌, ◌++◌, take}
use Rattle.std.specs.List.{flat_map}
use Rattle.oftp_digest.proofs.messages.join.Given as goal

-- the messages so far were appended
abbrev pub invariant-each : goal.invariant-each
invariant-each l = l.joined.items ≡ l.fn.joined.items ++ flat_map (λ message. message.now) (take l.message-index l.messages)
