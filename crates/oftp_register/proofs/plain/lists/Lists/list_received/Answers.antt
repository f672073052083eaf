use Rattle.std.proofs.Common.{◌+◌, ap}
use Rattle.oftp_register.specs.declared.entries.ReceivedEntry.{ReceivedEntry}
use Rattle.oftp_register.specs.declared.entries.ReceivedResponse.{ReceivedResponse}
use Rattle.oftp_register.specs.LookUps.{received_entry}
use Rattle.oftp_register.specs.Lists.{received_of}
use Rattle.oftp_register.proofs.LookUpLemmas.{lent_place, listed_more}
use Rattle.oftp_register.proofs.plain.lists.Lists.list_received.Goals as goal

pub loop-place-preserved : goal.loop-place-preserved
loop-place-preserved c =
    let responses = c.args.self.now.received.items in
    let at = lent_place c.deref-response-items.result.now responses c.loop-place.place c.response-item.result c.deref-response-items.ensures.value c.loop-place-test.true c.response-item.is in
    let entry : ReceivedResponse → ReceivedEntry = λ r. record { no = c.loop-place.place + 1; response = r } in
    listed_more received_of received_entry responses c.loop-place.place c.response-item.result _ _ _ at.0 at.1 c.loop-place.invariant (ap entry c.in_ok-again.ensures) c.in_ok-push.ensures.items
