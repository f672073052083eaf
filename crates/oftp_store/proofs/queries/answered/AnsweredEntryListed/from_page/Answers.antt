use Rattle.std.proofs.Common.{inl, refl}
use Rattle.std.proofs.lemmas.Result.{IfOk-weaker}
use Rattle.oftp_store.specs.Causes.{PageAnswered}
use Rattle.oftp_store.proofs.CauseLemmas.{err_weaker, row_unfit}
use Rattle.oftp_store.proofs.queries.answered.AnsweredEntryListed.from_page.Goals as goal

pub returns-clause-looks : goal.returns-clause-looks
returns-clause-looks g c = inl (refl, c.answered_in.ensures.fails)

pub returns-clause-answer : goal.returns-clause-answer
returns-clause-answer g c clean has = IfOk-weaker c.answered_in.result _ _ (λ found told r kept sound. told) c.answered_in.ensures.told

pub returns-clause-told : goal.returns-clause-told
returns-clause-told g c no_is =
    row_unfit g.S.Store PageAnswered _ c.args.row.now c.args._conn.now c.answered_in.result
    (err_weaker c.answered_in.result (λ fault no is. no) c.answered_in.ensures.unfit)
