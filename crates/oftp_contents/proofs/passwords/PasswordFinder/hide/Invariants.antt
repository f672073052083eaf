use Rattle.std.proofs.Common.{◌≡◌, take}
use Rattle.oftp_contents.specs.Passwords.{followed, hidden_octet}
use Rattle.oftp_contents.proofs.passwords.PasswordFinder.hide.Given as goal

-- the octets so far were followed and appended
abbrev pub invariant-loop-octet : goal.invariant-loop-octet
invariant-loop-octet l = followed hidden_octet l.password l.initial.self l.initial.to.items (take l.octet-index l.octets) ≡ record { finder = l.self; octets = l.to.items }
