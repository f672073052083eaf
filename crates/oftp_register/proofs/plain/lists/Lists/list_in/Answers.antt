use Rattle.oftp_register.specs.Soundness.{IsSoundIncoming}
use Rattle.oftp_register.specs.LookUps.{incoming_entry}
use Rattle.oftp_register.specs.Lists.{incoming_of}
use Rattle.oftp_register.proofs.LookUpLemmas.{fact_lent, listed_lent}
use Rattle.oftp_register.proofs.plain.lists.Lists.list_in.Goals as goal

pub entry-requires : goal.entry-requires
entry-requires c =
    fact_lent incoming_of IsSoundIncoming _ _ c.loop-place.place c.file-item.result c.requires.incoming c.deref-file-items.ensures.value c.loop-place-test.true c.file-item.is

pub loop-place-preserved : goal.loop-place-preserved
loop-place-preserved c =
    listed_lent incoming_of incoming_entry _ _ c.loop-place.place c.file-item.result _ _ _ c.deref-file-items.ensures.value c.loop-place-test.true c.file-item.is
    c.loop-place.invariant c.in_ok-entry.ensures.value c.in_ok-push.ensures.items
