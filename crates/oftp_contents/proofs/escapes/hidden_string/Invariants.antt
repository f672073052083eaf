use Rattle.std.proofs.Common.{◌≡◌, fold, take}
use Rattle.oftp_contents.specs.Escapes.{next_hidden, none_hidden}
use Rattle.oftp_contents.proofs.escapes.hidden_string.Given as goal

-- the octets so far were read
abbrev pub invariant-loop-octet : goal.invariant-loop-octet
invariant-loop-octet l = l.string ≡ fold next_hidden none_hidden (take l.octet-index l.octets)
