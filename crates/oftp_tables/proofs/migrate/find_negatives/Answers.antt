use Rattle.std.proofs.Common.{[], Vec}
use Rattle.std.specs.declared.alloc.Global.{Global}
use Rattle.std.proofs.lemmas.Result.{IfOk-weaker}
use Rattle.sqlite.specs.Order.{Row}
use Rattle.oftp_tables.proofs.ConnectionLemmas.{query_leaves, unchanged_query}
use Rattle.oftp_tables.proofs.NegativeLemmas.{finds_negatives, negatives_text, on_shown, plain_at}
use Rattle.oftp_tables.proofs.migrate.find_negatives.Goals as goal

pub returns-clause-same : goal.returns-clause-same
returns-clause-same g c clean has = on_shown _ _ _ (c.query_all.ensures.ok clean) (λ (rows : Vec Row Global). unchanged_query negatives_text [] _ _ rows.items (plain_at _ has))

pub returns-clause-left : goal.returns-clause-left
returns-clause-left g c clean has = query_leaves negatives_text [] _ _ (plain_at _ has) c.query_all.ensures.survives clean

pub returns-clause-answer : goal.returns-clause-answer
returns-clause-answer g c clean has = IfOk-weaker _ _ _ (λ (rows : Vec Row Global). finds_negatives _ _ rows.items has) (c.query_all.ensures.ok clean)
