use Rattle.std.proofs.Common.{[], ◌∷◌}
use Rattle.sqlite.specs.declared.types.Value.TheVariants.{Text}
use Rattle.oftp_tables.specs.Tables.{number_value}
use Rattle.oftp_tables.proofs.BindLemmas.{number_bound}
use Rattle.oftp_tables.proofs.PerformLemmas.{performs}
use Rattle.oftp_store.specs.Edits.{MakesNote}
use Rattle.oftp_store.specs.Texts.{add_note_text}
use Rattle.oftp_store.proofs.ReceivedEditLemmas.{note_added}
use Rattle.oftp_store.proofs.changes.statements.add_note.Goals as goal

pub returns-clause-performs : goal.returns-clause-performs
returns-clause-performs g c =
    let back = number_bound c.args.no c.number.result c.number.ensures c.requires in
    let params = number_value c.args.no ∷ Text c.args.creator.now ∷ Text c.args.text.now ∷ [] in
    rw c.done.ensures (performs g.S.Store _ _ (MakesNote c.args.no c.args.creator.now c.args.text.now) add_note_text params _ c.execute.ensures.ended
    (simp (c.octets.ensures.value, back, c.as_bytes.ensures.value, c.text.ensures.value) at c.execute.ensures.runs) c.execute.ensures.survives
    (λ count has h. note_added _ _ c.args.no c.args.creator.now c.args.text.now count has h))
