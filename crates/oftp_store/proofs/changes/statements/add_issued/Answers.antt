use Rattle.oftp_tables.proofs.BindLemmas.{number_bound}
use Rattle.oftp_tables.proofs.PerformLemmas.{performs}
use Rattle.oftp_store.specs.Edits.{Makes}
use Rattle.oftp_store.specs.Texts.{add_issued_text}
use Rattle.oftp_store.specs.declared.changes.edit.EditKind.TheVariants.{AddIssued}
use Rattle.oftp_store.proofs.EditLemmas.{issued_added, issued_params}
use Rattle.oftp_store.proofs.changes.statements.add_issued.Goals as goal

pub returns-clause-performs : goal.returns-clause-performs
returns-clause-performs g c =
    let back = number_bound c.args.no c.number.result c.number.ensures c.requires in
    let response = c.args.response in
    rw c.done.ensures (performs g.S.Store _ _ (Makes c.args.no (AddIssued response)) add_issued_text (issued_params c.args.no response.now) _ c.execute.ensures.ended
    (simp (
      c.as_bytes.ensures.value,
      c.kind_text.ensures,
      back,
      c.as_slice.ensures.value,
      c.reason_text-digits.ensures.text,
      c.as_bytes-2.ensures.value,
      c.text.ensures.value,
    ) at c.execute.ensures.runs) c.execute.ensures.survives
    (λ count has h. issued_added _ _ c.args.no response count c.reason_text-digits.ensures.small has h))
