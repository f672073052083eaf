use Rattle.std.proofs.Common.{◌≡◌, take}
use Rattle.oftp_contents.specs.Escapes.{hidden_all}
use Rattle.oftp_contents.proofs.escapes.hide_all.Given as goal

-- what is for the octets so far was appended
abbrev pub invariant-loop-octet : goal.invariant-loop-octet
invariant-loop-octet l = l.to.items ≡ hidden_all l.initial.to.items (take l.octet-index l.octets)
