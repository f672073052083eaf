use Rattle.std.proofs.Common.{◌≡◌, fold, take}
use Rattle.oftp_status.specs.Health.{with_partner}
use Rattle.oftp_status.proofs.health.Found.weigh_partners.Given as goal

-- those so far are weighed
abbrev pub invariant-loop-partner : goal.invariant-loop-partner
invariant-loop-partner l = l.self ≡ fold (with_partner l.terms l.picture) l.initial.self (take l.partner-index l.picture.partners.now)
