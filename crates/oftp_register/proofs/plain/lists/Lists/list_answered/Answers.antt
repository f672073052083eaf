use Rattle.std.proofs.Common.{◌+◌, ℕ, Option, ap}
use Rattle.oftp_register.specs.declared.entries.AnsweredEntry.{AnsweredEntry}
use Rattle.oftp_register.specs.LookUps.{answered_entry}
use Rattle.oftp_register.specs.Lists.{received_of, register_in}
use Rattle.oftp_register.proofs.LookUpLemmas.{listed_lent}
use Rattle.oftp_register.proofs.plain.lists.Lists.list_answered.Goals as goal

pub loop-place-preserved : goal.loop-place-preserved
loop-place-preserved c =
    let entry : Option ℕ → AnsweredEntry = λ file. record { no = c.loop-place.place + 1; file = file } in
    listed_lent received_of (answered_entry (register_in c.args.self.now)) _ _ c.loop-place.place c.response-item.result _ _ _ c.deref-response-items.ensures.value c.loop-place-test.true
    c.response-item.is c.loop-place.invariant (ap entry c.out_no.ensures) c.in_ok-push.ensures.items
