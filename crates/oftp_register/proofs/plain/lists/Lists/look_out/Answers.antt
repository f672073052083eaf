use Rattle.std.proofs.Common.{refl, sym}
use Rattle.oftp_register.specs.LookUps.{outgoing_entry}
use Rattle.oftp_register.specs.declared.entries.OutgoingEntry.{OutgoingEntry}
use Rattle.oftp_register.specs.declared.plain.outgoing.OutgoingFile.{OutgoingFile}
use Rattle.oftp_register.specs.Lists.{outgoing_of}
use Rattle.oftp_register.proofs.LookUpLemmas.{looked_at, looked_nowhere}
use Rattle.oftp_register.proofs.plain.lists.Lists.look_out.Goals as goal

pub returns-in-Some-clause-value : goal.returns-in-Some-clause-value
returns-in-Some-clause-value c =
    rw (looked_at outgoing_of outgoing_entry (λ (e : OutgoingEntry). e.identity) (λ (f : OutgoingFile). f.identity) (λ n x. refl) c.args.identity.now
    _ _ _ c.in-Some.place c.deref.ensures.value c.place_out.ensures c.in-Some.is) c.outgoing_at.ensures.value

pub returns-in-None-clause-value : goal.returns-in-None-clause-value
returns-in-None-clause-value c =
    sym (looked_nowhere outgoing_of outgoing_entry (λ (e : OutgoingEntry). e.identity) (λ (f : OutgoingFile). f.identity) (λ n x. refl) c.args.identity.now
    _ _ _ c.deref.ensures.value c.place_out.ensures c.in-None.is)
