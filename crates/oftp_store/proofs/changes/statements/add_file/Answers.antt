use Rattle.oftp_tables.proofs.PerformLemmas.{performs}
use Rattle.oftp_store.specs.Edits.{Makes, header_params}
use Rattle.oftp_store.specs.Texts.{add_file_text}
use Rattle.oftp_store.specs.declared.changes.edit.EditKind.TheVariants.{AddFile}
use Rattle.oftp_store.proofs.EditLemmas.{file_added}
use Rattle.oftp_store.proofs.changes.statements.add_file.Goals as goal

pub returns-clause-performs : goal.returns-clause-performs
returns-clause-performs g c =
    let a = c.args in
    rw c.done.ensures (performs g.S.Store _ _ (Makes a.no (AddFile a.side a.header)) (add_file_text a.side) (header_params a.no a.header.now) _ c.execute.ensures.ended
    (rw (c.add_file_text.ensures, c.header_values.ensures) at c.execute.ensures.runs) c.execute.ensures.survives
    (λ count has h. file_added a.side _ _ a.no c.requires a.header count has h))
