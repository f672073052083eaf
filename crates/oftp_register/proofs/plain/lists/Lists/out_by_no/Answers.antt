use Rattle.std.proofs.Common.{refl, sym}
use Rattle.oftp_register.specs.LookUps.{outgoing_entry}
use Rattle.oftp_register.specs.declared.entries.OutgoingEntry.{OutgoingEntry}
use Rattle.oftp_register.specs.Lists.{outgoing_of}
use Rattle.oftp_register.proofs.LookUpLemmas.{found_at_place, found_nowhere}
use Rattle.oftp_register.proofs.plain.lists.Lists.out_by_no.Goals as goal

pub returns-in-Some-clause-value : goal.returns-in-Some-clause-value
returns-in-Some-clause-value c =
    let number = λ (e : OutgoingEntry). e.no in
    let found = found_at_place outgoing_of outgoing_entry number (λ n x. refl) c.args.self.now.outgoing c.args.no c.in-Some.place _ c.len.ensures c.in-Some.ensures in
    rw found c.outgoing_at.ensures.value

pub returns-in-None-clause-value : goal.returns-in-None-clause-value
returns-in-None-clause-value c = sym (found_nowhere outgoing_of outgoing_entry (λ (e : OutgoingEntry). e.no) (λ n x. refl) c.args.self.now.outgoing c.args.no _ c.len.ensures c.in-None.ensures)
