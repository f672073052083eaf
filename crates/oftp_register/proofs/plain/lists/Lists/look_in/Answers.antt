use Rattle.std.proofs.Common.{refl, sym}
use Rattle.oftp_register.specs.LookUps.{incoming_entry}
use Rattle.oftp_register.specs.declared.entries.IncomingEntry.{IncomingEntry}
use Rattle.oftp_register.specs.declared.plain.incoming.IncomingFile.{IncomingFile}
use Rattle.oftp_register.specs.Lists.{incoming_of}
use Rattle.oftp_register.proofs.LookUpLemmas.{looked_at, looked_nowhere}
use Rattle.oftp_register.proofs.plain.lists.Lists.look_in.Goals as goal

pub returns-in-Some-clause-value : goal.returns-in-Some-clause-value
returns-in-Some-clause-value c =
    rw (looked_at incoming_of incoming_entry (λ (e : IncomingEntry). e.identity) (λ (f : IncomingFile). f.identity) (λ n x. refl) c.args.identity.now
    _ _ _ c.in-Some.place c.deref.ensures.value c.place_in.ensures c.in-Some.is) c.incoming_at.ensures.value

pub returns-in-None-clause-value : goal.returns-in-None-clause-value
returns-in-None-clause-value c =
    sym (looked_nowhere incoming_of incoming_entry (λ (e : IncomingEntry). e.identity) (λ (f : IncomingFile). f.identity) (λ n x. refl) c.args.identity.now
    _ _ _ c.deref.ensures.value c.place_in.ensures c.in-None.is)
