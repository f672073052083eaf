-- For whom something waits.
use Rattle.std.specs.Prelude.{ℕ, Bool, false, true, List, Option, None, Some, is_some}
use Rattle.oftp_wire.specs.declared.command.Mode.{Mode}
use Rattle.oftp_wire.specs.declared.command.Mode.TheVariants.{Both, Receive, Send}
use Rattle.oftp_partners.specs.Book.{BookData, partner_at}
use Rattle.oftp_partners.specs.declared.partner.Partner.{Partner}
use Rattle.oftp_register.specs.LookUps.{next_item}
use Rattle.oftp_register.specs.Register.{Register}

-- something is to be sent to the partner with this code: a response that is due, or a file that isn't handed over
abbrev pub has_item : Register → List ℕ → Bool
has_item r code = is_some (next_item r code (record { response = 0; file = 0 }) true)

-- with this mode something waits for a partner with this code
abbrev pub waits_in : Mode → Register → List ℕ → Bool
waits_in Receive r code = false
waits_in Send r code = has_item r code
waits_in Both r code = has_item r code

abbrev pub is_due_to : Register → Partner → Bool
is_due_to r partner = waits_in partner.mode r partner.code

-- something waits for the partner with this code
abbrev pub is_due_found : Option Partner → Register → Bool
is_due_found None r = false
is_due_found (Some partner) r = is_due_to r partner

abbrev pub is_due : BookData → Register → List ℕ → Bool
is_due book r code = is_due_found (partner_at code book.partners) r
