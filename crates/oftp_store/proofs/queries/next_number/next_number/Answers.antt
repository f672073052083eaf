use Rattle.std.proofs.lemmas.Result.{IfOk-weaker}
use Rattle.oftp_store.proofs.NextNumberLemmas.{finds_next, next_given, next_read}
use Rattle.std.proofs.Common.{refl}
use Rattle.oftp_store.specs.Causes.{NextNumber}
use Rattle.oftp_store.proofs.CauseLemmas.{asked_by}
use Rattle.oftp_store.proofs.queries.next_number.next_number.Goals as goal

pub first_number-requires : goal.first_number-requires
first_number-requires g c = rw c.next_text.ensures (next_read c.args.what).plain

pub returns-clause-answer : goal.returns-clause-answer
returns-clause-answer g c clean has =
    IfOk-weaker c.first_number.result _ _ (λ no told r kept.
    finds_next c.args.what _ _ _ _ told.0 no has (next_given _ _ _ _ c.requires c.number.ensures c.octets.ensures.value told.1) told.2 r kept)
    (rw c.next_text.ensures at (c.first_number.ensures.shown clean))

pub returns-clause-told : goal.returns-clause-told
returns-clause-told g c =
    asked_by g.S.Store (NextNumber c.args.what) _ _ _ c.first_number.result refl (rw c.next_text.ensures at c.first_number.ensures.told)
