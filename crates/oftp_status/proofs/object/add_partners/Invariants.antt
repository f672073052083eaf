use Rattle.std.proofs.Common.{◌≡◌, fold, take}
use Rattle.oftp_status.specs.Objects.{with_later_partner}
use Rattle.oftp_status.proofs.object.add_partners.Given as goal

-- the partners so far are appended
abbrev pub invariant-loop-partner : goal.invariant-loop-partner
invariant-loop-partner l = l.text.items ≡ fold with_later_partner l.initial.text.items (take l.partner-index l.others)
