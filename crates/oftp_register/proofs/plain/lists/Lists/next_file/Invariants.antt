use Rattle.std.proofs.Common.{◌≡◌}
use Rattle.oftp_register.specs.LookUps.{is_next_file, next_file, outgoing_entry}
use Rattle.oftp_register.specs.Lists.{outgoing_of, register_in}
use Rattle.oftp_register.proofs.LookUpLemmas.{found_from}
use Rattle.oftp_register.proofs.plain.lists.Lists.next_file.Given as goal

-- what is left decides
abbrev pub invariant-loop-place : goal.invariant-loop-place
invariant-loop-place l = next_file (register_in l.self) l.partner l.tried ≡ found_from outgoing_of outgoing_entry (is_next_file l.partner l.tried) l.place l.self.outgoing.items
