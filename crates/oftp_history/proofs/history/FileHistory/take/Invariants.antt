use Rattle.std.proofs.Common.{◌≡◌, fold, take}
use Rattle.oftp_history.specs.Histories.{with_octet}
use Rattle.oftp_history.proofs.history.FileHistory.take.Given as goal

-- the octets so far are taken
abbrev pub invariant-loop-octet : goal.invariant-loop-octet
invariant-loop-octet l = l.self ≡ fold with_octet l.initial.self (take l.octet-index l.piece)
