use Rattle.std.proofs.Common.{◌≡◌, fold, take}
use Rattle.oftp_evidence.specs.Sides.{after_octet}
use Rattle.oftp_evidence.proofs.session_parts.SessionParts.hear.Given as goal

-- the octets so far were heard
abbrev pub invariant-loop-octet : goal.invariant-loop-octet
invariant-loop-octet l = l.self ≡ fold after_octet l.initial.self (take l.octet-index l.piece)
