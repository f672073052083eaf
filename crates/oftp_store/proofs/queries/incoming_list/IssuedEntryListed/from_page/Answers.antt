use Rattle.std.proofs.Common.{inl, refl}
use Rattle.std.proofs.lemmas.Result.{IfOk-weaker}
use Rattle.oftp_store.specs.Causes.{PageIn}
use Rattle.oftp_store.proofs.CauseLemmas.{row_unfit}
use Rattle.oftp_store.proofs.queries.incoming_list.IssuedEntryListed.from_page.Goals as goal

pub returns-clause-looks : goal.returns-clause-looks
returns-clause-looks g c = inl (refl, c.issued_in.ensures.fails)

pub returns-clause-answer : goal.returns-clause-answer
returns-clause-answer g c clean has = IfOk-weaker c.issued_in.result _ _ (λ found told r kept sound. told) c.issued_in.ensures.told

pub returns-clause-told : goal.returns-clause-told
returns-clause-told g c no_is = row_unfit g.S.Store PageIn _ c.args.row.now c.args._conn.now c.issued_in.result c.issued_in.ensures.unfit
