use Rattle.std.proofs.Common.{refl}
use Rattle.oftp_listing.proofs.QueryLemmas.{replied_at, unreplied_at}
use Rattle.oftp_listing.proofs.handler.reply_at.Goals as goal

pub returns-in-Some-clause-replies : goal.returns-in-Some-clause-replies
returns-in-Some-clause-replies g c =
    replied_at c.args.site c.args.page.now c.args.address c.args.request.now _ _ c.in-Some.query _ (rw c.in-Some.is at c.in_ok-read_query.ensures.read) c.reply.ensures.replies

pub returns-in-None-clause-replies : goal.returns-in-None-clause-replies
returns-in-None-clause-replies g c =
    unreplied_at c.args.site c.args.page.now c.args.address c.args.request.now _ _ (rw c.in-None.is at c.in_ok-read_query.ensures.read) refl
