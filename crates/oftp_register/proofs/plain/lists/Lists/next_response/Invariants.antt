use Rattle.std.proofs.Common.{◌≡◌}
use Rattle.oftp_register.specs.LookUps.{is_next_response, issued_entry, next_response}
use Rattle.oftp_register.specs.Lists.{incoming_of, register_in}
use Rattle.oftp_register.proofs.LookUpLemmas.{issued_from}
use Rattle.oftp_register.proofs.plain.lists.Lists.next_response.Given as goal

-- what is left decides
abbrev pub invariant-loop-place : goal.invariant-loop-place
invariant-loop-place l = next_response (register_in l.self) l.partner l.tried ≡ issued_from incoming_of issued_entry (is_next_response l.partner l.tried) l.place l.self.incoming.items
