use Rattle.std.proofs.Common.{◌≡◌, fold, take}
use Rattle.oftp_status.specs.PlainLines.{with_partner_lines}
use Rattle.oftp_status.proofs.lines.add_partners.Given as goal

-- the lines so far are appended
abbrev pub invariant-loop-partner : goal.invariant-loop-partner
invariant-loop-partner l = l.text.items ≡ fold (with_partner_lines l.picture) l.initial.text.items (take l.partner-index l.picture.partners.now)
