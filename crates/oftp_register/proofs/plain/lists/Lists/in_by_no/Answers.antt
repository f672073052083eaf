use Rattle.std.proofs.Common.{refl, sym}
use Rattle.oftp_register.specs.LookUps.{incoming_entry}
use Rattle.oftp_register.specs.declared.entries.IncomingEntry.{IncomingEntry}
use Rattle.oftp_register.specs.Lists.{incoming_of}
use Rattle.oftp_register.proofs.LookUpLemmas.{found_at_place, found_nowhere}
use Rattle.oftp_register.proofs.plain.lists.Lists.in_by_no.Goals as goal

pub returns-in-Some-clause-value : goal.returns-in-Some-clause-value
returns-in-Some-clause-value c =
    let number = λ (e : IncomingEntry). e.no in
    let found = found_at_place incoming_of incoming_entry number (λ n x. refl) c.args.self.now.incoming c.args.no c.in-Some.place _ c.len.ensures c.in-Some.ensures in
    rw found c.incoming_at.ensures.value

pub returns-in-None-clause-value : goal.returns-in-None-clause-value
returns-in-None-clause-value c = sym (found_nowhere incoming_of incoming_entry (λ (e : IncomingEntry). e.no) (λ n x. refl) c.args.self.now.incoming c.args.no _ c.len.ensures c.in-None.ensures)
