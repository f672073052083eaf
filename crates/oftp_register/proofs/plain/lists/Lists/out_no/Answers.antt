use Rattle.std.proofs.Common.{refl, sym, ap}
use Rattle.std.specs.Option.{option_map}
use Rattle.oftp_register.specs.LookUps.{outgoing_entry}
use Rattle.oftp_register.specs.declared.entries.OutgoingEntry.{OutgoingEntry}
use Rattle.oftp_register.specs.declared.plain.outgoing.OutgoingFile.{OutgoingFile}
use Rattle.oftp_register.specs.Lists.{outgoing_of}
use Rattle.oftp_register.proofs.LookUpLemmas.{looked_nowhere, looked_number}
use Rattle.oftp_register.proofs.plain.lists.Lists.out_no.Goals as goal

pub returns-in-Some : goal.returns-in-Some
returns-in-Some c =
    looked_number outgoing_of outgoing_entry (λ (e : OutgoingEntry). e.identity) (λ (f : OutgoingFile). f.identity) (λ n x. refl) (λ (e : OutgoingEntry). e.no) (λ n x. refl)
    c.args.identity.now _ _ _ c.in-Some.place c.deref.ensures.value c.place_out.ensures c.in-Some.is

pub returns-in-None : goal.returns-in-None
returns-in-None c =
    sym (ap (option_map (λ (e : OutgoingEntry). e.no))
    (looked_nowhere outgoing_of outgoing_entry (λ (e : OutgoingEntry). e.identity) (λ (f : OutgoingFile). f.identity) (λ n x. refl) c.args.identity.now
    _ _ _ c.deref.ensures.value c.place_out.ensures c.in-None.is))
