use Rattle.std.proofs.Common.{◌≡◌, take}
use Rattle.oftp_contents.specs.Passwords.{followed, shown_octet}
use Rattle.oftp_contents.proofs.passwords.PasswordFinder.show.Given as goal

-- the octets so far were followed and appended
abbrev pub invariant-loop-octet : goal.invariant-loop-octet
invariant-loop-octet l = followed shown_octet l.password l.initial.self l.initial.to.items (take l.octet-index l.octets) ≡ record { finder = l.self; octets = l.to.items }
