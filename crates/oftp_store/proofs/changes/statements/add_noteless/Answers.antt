use Rattle.oftp_tables.proofs.BindLemmas.{number_bound}
use Rattle.oftp_tables.proofs.PerformLemmas.{performs}
use Rattle.oftp_store.specs.Edits.{MakesNoteless}
use Rattle.oftp_store.specs.Texts.{add_received_text}
use Rattle.oftp_store.proofs.ReceivedEditLemmas.{received_added, received_params}
use Rattle.oftp_store.proofs.changes.statements.add_noteless.Goals as goal

pub returns-clause-performs : goal.returns-clause-performs
returns-clause-performs g c =
    let back = number_bound c.args.no c.number.result c.number.ensures c.requires in
    let reason = c.args.reason in
    let params = received_params c.args.no c.args.kind c.args.identity.now reason in
    rw c.done.ensures (performs g.S.Store _ _ (MakesNoteless c.args.no c.args.kind c.args.identity.now reason) add_received_text params _ c.execute.ensures.ended
    (simp (
      c.octets.ensures.value,
      c.octets-2.ensures.value,
      c.octets-3.ensures.value,
      c.octets-4.ensures.value,
      c.octets-5.ensures.value,
      c.as_bytes.ensures.value,
      c.kind_text.ensures,
      back,
      c.as_slice.ensures.value,
      c.reason_text-digits.ensures.text,
    ) at c.execute.ensures.runs) c.execute.ensures.survives
    (λ count has h. received_added _ _ c.args.no c.args.kind c.args.identity.now reason count c.reason_text-digits.ensures.small has h))
