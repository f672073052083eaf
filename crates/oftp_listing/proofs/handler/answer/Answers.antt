use Rattle.oftp_listing.proofs.QueryLemmas.{answered_at}
use Rattle.oftp_listing.proofs.UnaskedLemmas.{answered_same}
use Rattle.oftp_listing.proofs.handler.answer.Goals as goal

pub returns-clause-texts : goal.returns-clause-texts
returns-clause-texts g c = answered_at _ _ _ _ _ _ c.reply_at.ensures.replies

pub returns-clause-any : goal.returns-clause-any
returns-clause-any g c heard hears = answered_same heard _ _ _ (answered_at _ _ _ _ _ _ c.reply_at.ensures.replies heard hears)
