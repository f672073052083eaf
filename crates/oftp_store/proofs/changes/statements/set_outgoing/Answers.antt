use Rattle.std.proofs.Common.{[], ◌∷◌}
use Rattle.sqlite.specs.declared.types.Value.TheVariants.{Text}
use Rattle.oftp_tables.specs.Tables.{number_value, out_state_text, refusal_text}
use Rattle.oftp_tables.proofs.BindLemmas.{count_bound, number_bound}
use Rattle.oftp_tables.proofs.PerformLemmas.{performs}
use Rattle.oftp_store.specs.Edits.{Makes}
use Rattle.oftp_store.specs.Texts.{set_outgoing_text}
use Rattle.oftp_store.specs.declared.changes.edit.EditKind.TheVariants.{SetOutgoing}
use Rattle.oftp_store.proofs.EditLemmas.{outgoing_set}
use Rattle.oftp_store.proofs.changes.statements.set_outgoing.Goals as goal

pub returns-clause-performs : goal.returns-clause-performs
returns-clause-performs g c =
    let back = number_bound c.args.no c.number.result c.number.ensures c.requires in
    let back_mark = count_bound c.args.mark c.ranges.mark.fits in
    let to = c.args.progress in
    let params = number_value c.args.no ∷ number_value c.args.mark ∷ Text (out_state_text to) ∷ Text (refusal_text to) ∷ [] in
    rw c.done.ensures (performs g.S.Store _ _ (Makes c.args.no (SetOutgoing c.args.mark to)) set_outgoing_text params _ c.execute.ensures.ended
    (simp (
      back,
      c.from.ensures,
      back_mark,
      c.as_bytes.ensures.value,
      c.state_text.ensures,
      c.as_slice.ensures.value,
      c.refusal_text-reason.ensures.text,
    ) at c.execute.ensures.runs) c.execute.ensures.survives
    (λ count has h. outgoing_set _ _ c.args.no c.args.mark to count c.refusal_text-reason.ensures.small has h))
